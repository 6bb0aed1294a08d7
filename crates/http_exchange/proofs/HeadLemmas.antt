-- The end of a head, as its bytes come one after the other.
use Rattle.std.proofs.Common.{◌≡◌, ◌∙◌, sym, refl, ap, arith, ℕ, ◌≤◌, ◌<◌, true, false, List, [], ◌∷◌, ◌++◌, length, take, drop, map, Option, Some, None, length-append}
use Rattle.std.specs.List.{find}
use Rattle.std.specs.Option.{option_or}
use Rattle.std.proofs.lemmas.List.{map-append, take-append-le, take_all, take-append-drop}
use Rattle.std.proofs.lemmas.List.Folds.{find-append}
use Rattle.http_exchange.specs.Heads.{fronts, ends_head, head_of}
use Rattle.http_exchange.specs.Reading.{HasNoEnd}

-- the fronts of the first part are the first fronts of the whole
fronts-append : (xs ys : List ℕ) → (more : List (List ℕ)) × (fronts (xs ++ ys) ≡ fronts xs ++ more)
fronts-append [] [] = ([], refl)
fronts-append [] (y ∷ ys) = (map (λ front. y ∷ front) (fronts ys), refl)
fronts-append (x ∷ xs) ys =
    let (more, e) = fronts-append xs ys in
    let longer : List ℕ → List ℕ = λ front. x ∷ front in
    (map longer more, ap (λ (l : List (List ℕ)). [] ∷ l) (ap (map longer) e ∙ map-append longer (fronts xs) more))

-- one byte more has one front more, which is all
fronts-snoc : (xs : List ℕ) (b : ℕ) → fronts (xs ++ b ∷ []) ≡ fronts xs ++ (xs ++ b ∷ []) ∷ []
fronts-snoc [] b = refl
fronts-snoc (x ∷ xs) b =
    let longer : List ℕ → List ℕ = λ front. x ∷ front in
    ap (λ (l : List (List ℕ)). [] ∷ l) (ap (map longer) (fronts-snoc xs b) ∙ map-append longer (fronts xs) ((xs ++ b ∷ []) ∷ []))

-- a head that is found stays found, whatever follows
pub head_of-more : (xs ys head : List ℕ) → head_of xs ≡ Some head → head_of (xs ++ ys) ≡ Some head
unfolding head_of
head_of-more xs ys head found =
    let (more, e) = fronts-append xs ys in
    ap (find ends_head) e ∙ find-append ends_head (fronts xs) more ∙ ap (λ (o : Option (List ℕ)). option_or o (find ends_head more)) found

-- where the whole has no head, no front has one
none-first : (a b : Option (List ℕ)) → option_or a b ≡ None → a ≡ None
none-first None b e = refl
none-first (Some x) b e = absurd (cc e)

pub head_of-front : (xs ys : List ℕ) → head_of (xs ++ ys) ≡ None → head_of xs ≡ None
unfolding head_of
head_of-front xs ys none =
    let (more, e) = fronts-append xs ys in
    none-first (find ends_head (fronts xs)) (find ends_head more) (sym (find-append ends_head (fronts xs) more) ∙ sym (ap (find ends_head) e) ∙ none)

-- one byte more, of which the last ones end a head
pub head_of-ends : (xs : List ℕ) (b : ℕ) → head_of xs ≡ None → ends_head (xs ++ b ∷ []) ≡ true → head_of (xs ++ b ∷ []) ≡ Some (xs ++ b ∷ [])
unfolding head_of
head_of-ends xs b none ends =
    let whole = xs ++ b ∷ [] in
    let one : find ends_head (whole ∷ []) ≡ Some whole = rw ends refl in
    ap (find ends_head) (fronts-snoc xs b) ∙ find-append ends_head (fronts xs) (whole ∷ [])
    ∙ ap (λ (o : Option (List ℕ)). option_or o (find ends_head (whole ∷ []))) none ∙ one

-- and of which they do not
pub head_of-goes_on : (xs : List ℕ) (b : ℕ) → head_of xs ≡ None → ends_head (xs ++ b ∷ []) ≡ false → head_of (xs ++ b ∷ []) ≡ None
unfolding head_of
head_of-goes_on xs b none goes =
    let whole = xs ++ b ∷ [] in
    let one : find ends_head (whole ∷ []) ≡ None = rw goes refl in
    ap (find ends_head) (fronts-snoc xs b) ∙ find-append ends_head (fronts xs) (whole ∷ [])
    ∙ ap (λ (o : Option (List ℕ)). option_or o (find ends_head (whole ∷ []))) none ∙ one

pub head_of-nil : head_of [] ≡ None
unfolding head_of
head_of-nil = refl

-- no front of the bytes has an end
pub no_end-whole : (xs : List ℕ) → HasNoEnd xs → head_of xs ≡ None
no_end-whole xs no_end = ap head_of (sym (take_all (length xs) xs (omega arith))) ∙ no_end (length xs) (omega arith)

pub no_end-by : (xs : List ℕ) → head_of xs ≡ None → HasNoEnd xs
no_end-by xs none = λ n within. head_of-front (take n xs) (drop n xs) (ap head_of (take-append-drop n xs) ∙ none)

-- the fronts that are shorter than one byte more
pub shorter : (xs : List ℕ) (b : ℕ) → head_of xs ≡ None → (n : ℕ) → n < length (xs ++ b ∷ []) → head_of (take n (xs ++ b ∷ [])) ≡ None
shorter xs b none n within =
    let fits : n ≤ length xs = omega (arith, within, length-append xs (b ∷ [])) in
    ap head_of (take-append-le n xs (b ∷ []) fits) ∙ no_end-by xs none n fits
