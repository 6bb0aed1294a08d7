-- Fields by their place, and records without the empty fields at their end.
use Rattle.std.proofs.Common.{◌≡◌, ℕ, zero, suc, ◌+◌, ◌<◌, Bool, true, List, [], ◌∷◌, ◌++◌, length, take, get_or, Option, Some, None, option_map, slice_get, unwrap_or, Bor, refl, arith, ◌∙◌, sym, ap, false, ◌==◌, ◌&&◌, if◌then◌else◌}
use Rattle.std.proofs.lemmas.Bool.{ne_eqb}
use Rattle.std.proofs.lemmas.List.{length-append}
use Rattle.std.proofs.lemmas.Option.{unwrap_or-slice_get}
use Rattle.std.proofs.Math.Seq.{take-suc}
use Rattle.csv.specs.Records.{field_at}
use Rattle.wirelist_rows.specs.Filled.{filled}

pub field_at_is_slice_get : (fields : List (List ℕ)) (place : ℕ) → field_at fields place ≡ slice_get fields place
unfolding field_at
field_at_is_slice_get [] place = refl
field_at_is_slice_get (f ∷ fs) zero = refl
field_at_is_slice_get (f ∷ fs) (suc place) = field_at_is_slice_get fs place

-- a field that is there, or nothing
pub field_there : (fields : List (List ℕ)) (place : ℕ) (field : Bor (List ℕ)) → option_map {T = Bor (List ℕ)} {U = List ℕ} (λ f. f.now) (Some field) ≡ field_at fields place
    → field.now ≡ get_or fields place []
field_there fields place field e = ap (λ (o : Option (List ℕ)). unwrap_or o []) (e ∙ field_at_is_slice_get fields place) ∙ unwrap_or-slice_get fields place []

pub field_missing : (fields : List (List ℕ)) (place : ℕ) → option_map {T = Bor (List ℕ)} {U = List ℕ} (λ f. f.now) None ≡ field_at fields place → [] ≡ get_or fields place []
field_missing fields place e = ap (λ (o : Option (List ℕ)). unwrap_or o []) (e ∙ field_at_is_slice_get fields place) ∙ unwrap_or-slice_get fields place []

-- an empty field behind some fields is dropped
filled_with_empty : (fields : List (List ℕ)) (field : List ℕ) → length field ≡ 0 → filled (fields ++ field ∷ []) ≡ filled fields
filled_with_empty [] field e = rw e refl
filled_with_empty (f ∷ fs) field e = rw (filled_with_empty fs field e) refl

-- one that is not empty keeps those before it
pick : (b : Bool) (f : List ℕ) (fs : List (List ℕ)) → b ≡ false → (if b then [] else f ∷ fs) ≡ f ∷ fs
pick b f fs e = rw e refl

and_right : (a : Bool) → (a && false) ≡ false
and_right true = refl
and_right false = refl

and_false : (a b : Bool) → b ≡ false → (a && b) ≡ false
and_false a b e = rw e (and_right a)

filled_with_more : (fields : List (List ℕ)) (field : List ℕ) → 0 < length field → filled (fields ++ field ∷ []) ≡ fields ++ field ∷ []
filled_with_more [] field lt = rw (ne_eqb (length field) 0 (λ z. omega arith)) refl
filled_with_more (f ∷ fs) field lt =
    let more = filled_with_more fs field lt in
    let some : (length (filled (fs ++ field ∷ [])) == 0) ≡ false = rw (more, length-append fs (field ∷ [])) (ne_eqb (length fs + 1) 0 (λ z. omega arith)) in
    pick _ f (filled (fs ++ field ∷ [])) (and_false (length f == 0) _ some) ∙ ap (λ (l : List (List ℕ)). f ∷ l) more

take_next : (fields : List (List ℕ)) (place : ℕ) → place < length fields → take (place + 1) fields ≡ take place fields ++ get_or fields place [] ∷ []
take_next fields place lt = let e : place + 1 ≡ suc place = omega arith in rw e (take-suc fields place [] lt)

-- what is left of one field more
pub filled_step_empty : (fields : List (List ℕ)) (place : ℕ) → place < length fields → length (get_or fields place []) ≡ 0 → filled (take (place + 1) fields) ≡ filled (take place fields)
filled_step_empty fields place lt e = ap filled (take_next fields place lt) ∙ filled_with_empty (take place fields) (get_or fields place []) e

pub filled_step_more : (fields : List (List ℕ)) (place : ℕ) → place < length fields → 0 < length (get_or fields place []) → filled (take (place + 1) fields) ≡ take (place + 1) fields
filled_step_more fields place lt some = ap filled (take_next fields place lt) ∙ filled_with_more (take place fields) (get_or fields place []) some ∙ sym (take_next fields place lt)
