-- Lists of rows, and faults that no place has.
use Rattle.std.proofs.Common.{◌≡◌, ℕ, zero, suc, ◌+◌, Bool, true, false, cond, List, [], ◌∷◌, ◌++◌, length, get_or, take, map, filter, zip, flat_map, All, refl, sym, ◌∙◌, ap, arith, append_assoc, add-zero}
use Rattle.std.specs.List.{range_with_len}
use Rattle.std.proofs.Math.Seq.{take-append_seam, get_or-append_seam}
use Rattle.std.proofs.lemmas.List.{length_push}
use Rattle.std.proofs.lemmas.List.Elements.{All-tail, filter-append}
use Rattle.partition.specs.Classes.{points_below}

-- what is put into another form and back
pub map_back : {A B : Type 0} (f : A → B) (g : B → A) (xs : List A) → All (λ x. g (f x) ≡ x) xs → map g (map f xs) ≡ xs
map_back f g [] back = refl
map_back f g (x ∷ xs) back =
    ap (λ y. y ∷ map g (map f xs)) (back 0 x (omega arith)) ∙ ap (λ ys. x ∷ ys) (map_back f g xs (All-tail (λ y. g (f y) ≡ y) x xs back))

-- two forms that come to the same third one
pub map_same : {A B C : Type 0} (f : A → B) (g : B → C) (h : A → C) → ((x : A) → g (f x) ≡ h x) → (xs : List A) → map g (map f xs) ≡ map h xs
map_same f g h same [] = refl
map_same f g h same (x ∷ xs) = ap (λ y. y ∷ map g (map f xs)) (same x) ∙ ap (λ ys. h x ∷ ys) (map_same f g h same xs)

module _ {A B : Type 0} (t : B → Bool) (f : A → B) where
  pub filter_all : ((x : A) → t (f x) ≡ true) → (xs : List A) → filter t (map f xs) ≡ map f xs
  filter_all passes [] = refl
  filter_all passes (x ∷ xs) = ap (λ b. cond b (f x ∷ filter t (map f xs)) (filter t (map f xs))) (passes x) ∙ ap (λ ys. f x ∷ ys) (filter_all passes xs)

  pub filter_none : ((x : A) → t (f x) ≡ false) → (xs : List A) → filter t (map f xs) ≡ []
  filter_none fails [] = refl
  filter_none fails (x ∷ xs) = ap (λ b. cond b (f x ∷ filter t (map f xs)) (filter t (map f xs))) (fails x) ∙ filter_none fails xs

-- the pairs of two lists of one length
pub zip_first : {A B : Type 0} (xs : List A) (ys : List B) → length xs ≡ length ys → map (λ (z : A × B). z.0) (zip xs ys) ≡ xs
zip_first [] ys same = refl
zip_first (x ∷ xs) [] same = absurd (omega arith)
zip_first (x ∷ xs) (y ∷ ys) same = ap (λ zs. x ∷ zs) (zip_first xs ys (omega arith))

pub zip_second : {A B : Type 0} (xs : List A) (ys : List B) → length xs ≡ length ys → map (λ (z : A × B). z.1) (zip xs ys) ≡ ys
zip_second [] [] same = refl
zip_second [] (y ∷ ys) same = absurd (omega arith)
zip_second (x ∷ xs) [] same = absurd (omega arith)
zip_second (x ∷ xs) (y ∷ ys) same = ap (λ zs. y ∷ zs) (zip_second xs ys (omega arith))

-- seven lists in a row, each by itself
pub filter_seven : {X : Type 0} (t : X → Bool) (a b c d e f g : List X)
    → filter t (a ++ (b ++ (c ++ (d ++ (e ++ (f ++ g)))))) ≡ filter t a ++ (filter t b ++ (filter t c ++ (filter t d ++ (filter t e ++ (filter t f ++ filter t g)))))
filter_seven t a b c d e f g = simp (filter-append)

-- a test that fails at each number of a range
pub filter_range_none : (t : ℕ → Bool) (a n : ℕ) → ((i : ℕ) → t (a + i) ≡ false) → filter t (range_with_len a n) ≡ []
filter_range_none t a zero fails = refl
filter_range_none t a (suc n) fails =
    let here : t a ≡ false = ap t (sym (add-zero a)) ∙ fails 0 in
    let later = filter_range_none t (a + 1) n (λ i. let e : (a + 1) + i ≡ a + suc i = omega arith in ap t e ∙ fails (suc i)) in
    ap (λ b. cond b (a ∷ filter t (range_with_len (a + 1) n)) (filter t (range_with_len (a + 1) n))) here ∙ later

-- faults that each place has below those before it: none, where no split of the list has one
module _ {X Y : Type 0} (g : ℕ → List X → X → List Y) (d : X) where
  abbrev at : List X → ℕ → List Y
  at xs i = g i (take i xs) (get_or xs i d)

  none_from : (before rest : List X) → ((b a : List X) (x : X) (n : ℕ) → before ++ rest ≡ b ++ x ∷ a → g n b x ≡ []) →
      flat_map (at (before ++ rest)) (range_with_len (length before) (length rest)) ≡ []
  none_from before [] none = refl
  none_from before (x ∷ rest) none =
      let n = length before in
      let whole : (before ++ x ∷ []) ++ rest ≡ before ++ x ∷ rest = append_assoc before (x ∷ []) rest in
      let later = none_from (before ++ x ∷ []) rest (λ b a y k e. none b a y k (sym whole ∙ e)) in
      let here : at (before ++ x ∷ rest) n ≡ [] =
      ap (λ b. g n b (get_or (before ++ x ∷ rest) n d)) (take-append_seam before (x ∷ rest)) ∙ ap (g n before) (get_or-append_seam before x rest d) ∙ none before rest x n refl in
      ap (λ ys. ys ++ flat_map (at (before ++ x ∷ rest)) (range_with_len (n + 1) (length rest))) here
      ∙ ap (λ xs. flat_map (at xs) (range_with_len (n + 1) (length rest))) (sym whole)
      ∙ ap (λ k. flat_map (at ((before ++ x ∷ []) ++ rest)) (range_with_len k (length rest))) (sym (length_push before x))
      ∙ later

  pub none_of_splits : (xs : List X) → ((b a : List X) (x : X) (n : ℕ) → xs ≡ b ++ x ∷ a → g n b x ≡ []) → flat_map (at xs) (points_below (length xs)) ≡ []
  none_of_splits xs none = none_from [] xs none

-- what stands at the places of the items that pass
module _ {X Y : Type 0} (t : X → Bool) (f : X → Y) (d : X) where
  abbrev test : List X → ℕ → Bool
  test xs i = t (get_or xs i d)

  abbrev value : List X → ℕ → Y
  value xs i = f (get_or xs i d)

  one_more : (v : ℕ → Y) (b c : Bool) (n : ℕ) (x : X) (ns : List ℕ) (xs : List X) → b ≡ c → v n ≡ f x → map v ns ≡ map f xs →
      map v (cond b (n ∷ ns) ns) ≡ map f (cond c (x ∷ xs) xs)
  one_more v true true n x ns xs e h later = ap (λ y. y ∷ map v ns) h ∙ ap (λ ys. f x ∷ ys) later
  one_more v false false n x ns xs e h later = later
  one_more v true false n x ns xs e h later = cc
  one_more v false true n x ns xs e h later = cc

  places_from : (before rest : List X) →
      map (value (before ++ rest)) (filter (test (before ++ rest)) (range_with_len (length before) (length rest))) ≡ map f (filter t rest)
  places_from before [] = refl
  places_from before (x ∷ rest) =
      let n = length before in
      let whole : (before ++ x ∷ []) ++ rest ≡ before ++ x ∷ rest = append_assoc before (x ∷ []) rest in
      let here : get_or (before ++ x ∷ rest) n d ≡ x = get_or-append_seam before x rest d in
      let later : map (value (before ++ x ∷ rest)) (filter (test (before ++ x ∷ rest)) (range_with_len (n + 1) (length rest))) ≡ map f (filter t rest) =
      ap (λ xs. map (value xs) (filter (test xs) (range_with_len (n + 1) (length rest)))) (sym whole)
      ∙ ap (λ k. map (value ((before ++ x ∷ []) ++ rest)) (filter (test ((before ++ x ∷ []) ++ rest)) (range_with_len k (length rest)))) (sym (length_push before x))
      ∙ places_from (before ++ x ∷ []) rest in
      one_more (value (before ++ x ∷ rest)) (test (before ++ x ∷ rest) n) (t x) n x (filter (test (before ++ x ∷ rest)) (range_with_len (n + 1) (length rest))) (filter t rest)
      (ap t here) (ap f here) later

  pub places : (xs : List X) → map (value xs) (filter (test xs) (points_below (length xs))) ≡ map f (filter t xs)
  places xs = places_from [] xs
