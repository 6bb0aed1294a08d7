-- The fields with one name, first over where they are and then over what they are.
use Rattle.std.proofs.Common.{◌≡◌, ◌∙◌, refl, ap, arith, ◌≤◌, ◌<◌, Bool, true, false, cond, List, [], ◌∷◌, length, map, Some, None}
use Rattle.std.specs.List.{filter, find, count_by}
use Rattle.std.proofs.lemmas.List.Sums.{length-filter}

-- the chosen of the images are the images of the chosen
pub map-filter : {A B C : Type 0} (k : A → B) (q : B → Bool) (g : B → C) (xs : List A) → map (λ x. g (k x)) (filter (λ x. q (k x)) xs) ≡ map g (filter q (map k xs))
map-filter k q g [] = refl
map-filter {A} {B} {C} k q g (x ∷ xs) = by (q (k x)) (map-filter k q g xs)
  where
    by : (v : Bool) → map (λ y. g (k y)) (filter (λ y. q (k y)) xs) ≡ map g (filter q (map k xs))
        → map (λ y. g (k y)) (cond v (x ∷ filter (λ y. q (k y)) xs) (filter (λ y. q (k y)) xs)) ≡ map g (cond v (k x ∷ filter q (map k xs)) (filter q (map k xs)))
    by true e = ap (λ l. g (k x) ∷ l) e
    by false e = e

pub filter-none : {A : Type 0} (p : A → Bool) (xs : List A) → find p xs ≡ None → filter p xs ≡ []
filter-none p [] e = refl
filter-none {A} p (x ∷ xs) e = by (p x) e (filter-none p xs)
  where
    by : (v : Bool) → cond v (Some x) (find p xs) ≡ None → (find p xs ≡ None → filter p xs ≡ []) → cond v (x ∷ filter p xs) (filter p xs) ≡ []
    by true none rest = absurd (cc none)
    by false none rest = rest none

pub filter-first : {A : Type 0} (p : A → Bool) (xs : List A) (x : A) → find p xs ≡ Some x → (more : List A) × (filter p xs ≡ x ∷ more)
filter-first p [] x e = absurd (cc e)
filter-first {A} p (y ∷ xs) x e = by (p y) e (filter-first p xs x)
  where
    by : (v : Bool) → cond v (Some y) (find p xs) ≡ Some x → (find p xs ≡ Some x → (more : List A) × (filter p xs ≡ x ∷ more)) → (more : List A) × (cond v (y ∷ filter p xs) (filter p xs) ≡ x ∷ more)
    by true first rest = (filter p xs, let same : y ≡ x = cc in ap (λ z. z ∷ filter p xs) same)
    by false first rest = rest first

one-more : {A : Type 0} (x : A) (more : List A) → length (x ∷ more) ≤ 1 → x ∷ more ≡ x ∷ []
one-more x [] short = refl
one-more x (y ∷ more) short = absurd (omega (arith, short))

two-more : {A : Type 0} (x : A) (more : List A) → 1 < length (x ∷ more) → (y : A) × (rest : List A) × (more ≡ y ∷ rest)
two-more x [] long = absurd (omega (arith, long))
two-more x (y ∷ rest) long = (y, rest, refl)

pub filter-one : {A : Type 0} (p : A → Bool) (xs : List A) (x : A) → find p xs ≡ Some x → count_by p xs ≤ 1 → filter p xs ≡ x ∷ []
filter-one p xs x e few =
    let (more, first) = filter-first p xs x e in
    let short : length (x ∷ more) ≤ 1 = omega (arith, few, length-filter p xs, ap length first) in
    first ∙ one-more x more short

pub filter-two : {A : Type 0} (p : A → Bool) (xs : List A) (x : A) → find p xs ≡ Some x → 1 < count_by p xs → (y : A) × (rest : List A) × (filter p xs ≡ x ∷ y ∷ rest)
filter-two p xs x e many =
    let (more, first) = filter-first p xs x e in
    let long : 1 < length (x ∷ more) = omega (arith, many, length-filter p xs, ap length first) in
    let (y, rest, second) = two-more x more long in
    (y, rest, first ∙ ap (λ l. x ∷ l) second)
