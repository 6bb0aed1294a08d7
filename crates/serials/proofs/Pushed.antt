-- A list with one more item at its end.
use Rattle.std.proofs.Common.{◌≡◌, ℕ, ◌+◌, ◌<◌, ◌≤◌, Bool, true, false, ◌||◌, if◌then◌else◌, List, [], ◌∷◌, ◌++◌, length, slice_get, filter_map, Option, None, Some, IfSome, refl, ap, ◌∙◌, arith}
use Rattle.std.specs.List.{last_or, list_any}
use Rattle.std.specs.Option.{option_or}
use Rattle.std.proofs.lemmas.List.{append-nil}
use Rattle.std.proofs.lemmas.List.Elements.{filter_map-append}
use Rattle.std.proofs.lemmas.List.Folds.{list_any-append}
use Rattle.serials.specs.Scan.{numbers_from, numbers_of, first_number, last_number, last_of}

-- each number lies from low to below high
abbrev pub AreWithin : ℕ → ℕ → List ℕ → Type 0
AreWithin low high [] = Unit {0}
AreWithin low high (k ∷ ks) = (low ≤ k) × (k < high) × AreWithin low high ks

first_within : (low high : ℕ) (ks : List ℕ) (k : ℕ) → AreWithin low high ks → slice_get ks 0 ≡ Some k → (low ≤ k) × (k < high)
first_within low high [] k all is = absurd cc
first_within low high (j ∷ ks) k all is = let same : j ≡ k = cc in (omega (arith, all.0), omega (arith, all.1))

last_within : (low high : ℕ) (o : Option ℕ) (ks : List ℕ) (k : ℕ) → AreWithin low high ks → IfSome o (λ j. (low ≤ j) × (j < high)) → last_or o ks ≡ Some k → (low ≤ k) × (k < high)
last_within low high None [] k all here is = absurd cc
last_within low high (Some j) [] k all here is = let same : j ≡ k = cc in (omega (arith, here.0), omega (arith, here.1))
last_within low high o (j ∷ ks) k all here is = last_within low high (Some j) ks k all.2 (all.0, all.1) is

-- the first of some numbers and perhaps one more
first_more : (ks : List ℕ) (n : ℕ) (b : Bool) → slice_get (ks ++ (if b then n ∷ [] else [])) 0 ≡ option_or (slice_get ks 0) (if b then Some n else None)
first_more [] n true = refl
first_more [] n false = refl
first_more (k ∷ ks) n b = refl

last_or-push : {A : Type 0} (o : Option A) (xs : List A) (y : A) → last_or o (xs ++ y ∷ []) ≡ Some y
last_or-push o [] y = refl
last_or-push o (x ∷ xs) y = last_or-push (Some x) xs y

last_more : (ks : List ℕ) (n : ℕ) (b : Bool) → last_or None (ks ++ (if b then n ∷ [] else [])) ≡ (if b then Some n else last_or None ks)
last_more ks n true = last_or-push None ks n
last_more ks n false = ap (last_or None) (append-nil ks)

module _ {A : Type 0} (p : A → Bool) where
  numbers_one : (n : ℕ) (x : A) (b : Bool) → p x ≡ b → numbers_from p n (x ∷ []) ≡ (if b then n ∷ [] else [])
  numbers_one n x true e = rw e refl
  numbers_one n x false e = rw e refl

  numbers_step : (n k : ℕ) (xs : List A) (y : A) (b : Bool) → numbers_from p (n + 1) (xs ++ y ∷ []) ≡ numbers_from p (n + 1) xs ++ (if p y then k ∷ [] else [])
      → (if b then n ∷ numbers_from p (n + 1) (xs ++ y ∷ []) else numbers_from p (n + 1) (xs ++ y ∷ []))
      ≡ (if b then n ∷ numbers_from p (n + 1) xs else numbers_from p (n + 1) xs) ++ (if p y then k ∷ [] else [])
  numbers_step n k xs y true e = ap (λ (ns : List ℕ). n ∷ ns) e
  numbers_step n k xs y false e = e

  -- the numbers with one item more
  numbers_from-push : (n k : ℕ) (xs : List A) (y : A) → k ≡ n + length xs → numbers_from p n (xs ++ y ∷ []) ≡ numbers_from p n xs ++ (if p y then k ∷ [] else [])
  numbers_from-push n k [] y is = let same : n ≡ k = omega arith in numbers_one n y (p y) refl ∙ ap (λ (j : ℕ). if p y then j ∷ [] else []) same
  numbers_from-push n k (x ∷ xs) y is = numbers_step n k xs y (p x) (numbers_from-push (n + 1) k xs y (omega arith))

  within_step : (low high n : ℕ) (xs : List A) (b : Bool) → low ≤ n → n < high → AreWithin low high (numbers_from p (n + 1) xs)
      → AreWithin low high (if b then n ∷ numbers_from p (n + 1) xs else numbers_from p (n + 1) xs)
  within_step low high n xs true le lt rest = (le, lt, rest)
  within_step low high n xs false le lt rest = rest

  numbers_from-within : (low high n : ℕ) (xs : List A) → low ≤ n → n + length xs ≤ high → AreWithin low high (numbers_from p n xs)
  numbers_from-within low high n [] le few = tt
  numbers_from-within low high n (x ∷ xs) le few = within_step low high n xs (p x) le (omega arith) (numbers_from-within low high (n + 1) xs (omega arith) (omega arith))

  pub first_number-push : (xs : List A) (y : A) → first_number p (xs ++ y ∷ []) ≡ option_or (first_number p xs) (if p y then Some (length xs + 1) else None)
  first_number-push xs y =
      ap (λ (ks : List ℕ). slice_get ks 0) (numbers_from-push 1 (length xs + 1) xs y (omega arith)) ∙ first_more (numbers_of p xs) (length xs + 1) (p y)

  pub last_number-push : (xs : List A) (y : A) → last_number p (xs ++ y ∷ []) ≡ (if p y then Some (length xs + 1) else last_number p xs)
  last_number-push xs y =
      ap (λ (ks : List ℕ). last_or None ks) (numbers_from-push 1 (length xs + 1) xs y (omega arith)) ∙ last_more (numbers_of p xs) (length xs + 1) (p y)

  -- a number is one of the list's
  pub first_number-within : (xs : List A) (k : ℕ) → first_number p xs ≡ Some k → (1 ≤ k) × (k ≤ length xs)
  first_number-within xs k is =
      let w = first_within 1 (1 + length xs) (numbers_of p xs) k (numbers_from-within 1 (1 + length xs) 1 xs (omega arith) (omega arith)) is in
      (w.0, omega (arith, w.1))

  pub last_number-within : (xs : List A) (k : ℕ) → last_number p xs ≡ Some k → (1 ≤ k) × (k ≤ length xs)
  last_number-within xs k is =
      let w = last_within 1 (1 + length xs) None (numbers_of p xs) k (numbers_from-within 1 (1 + length xs) 1 xs (omega arith) (omega arith)) tt is in
      (w.0, omega (arith, w.1))

  pub list_any-push : (xs : List A) (y : A) → list_any p (xs ++ y ∷ []) ≡ (list_any p xs || p y)
  list_any-push xs y = list_any-append p xs (y ∷ []) ∙ ap (λ (b : Bool). list_any p xs || b) (or_false (p y))
    where
      or_false : (b : Bool) → (b || false) ≡ b
      or_false true = refl
      or_false false = refl

pub last_of_option : {B : Type 0} (ys : List B) (o : Option B) → last_or None (ys ++ filter_map (λ (z : Option B). z) (o ∷ [])) ≡ option_or o (last_or None ys)
last_of_option ys None = ap (last_or None) (append-nil ys)
last_of_option ys (Some y) = last_or-push None ys y

-- what a function gives of the items and of one more
pub filter_map-push : {A B : Type 0} (f : A → Option B) (xs : List A) (y : A) → filter_map f (xs ++ y ∷ []) ≡ filter_map f xs ++ filter_map (λ (z : Option B). z) (f y ∷ [])
filter_map-push f xs y = filter_map-append f xs (y ∷ [])

pub last_of-push : {A B : Type 0} (f : A → Option B) (xs : List A) (y : A) → last_of f (xs ++ y ∷ []) ≡ option_or (f y) (last_of f xs)
last_of-push {A} {B} f xs y = ap (λ (zs : List B). last_or None zs) (filter_map-push f xs y) ∙ last_of_option (filter_map f xs) (f y)
