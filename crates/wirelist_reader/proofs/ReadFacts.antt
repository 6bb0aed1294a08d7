-- The faults of a whole file, one list after another.
use Rattle.std.proofs.Common.{◌≡◌, ◌⊎◌, ℕ, ◌≤◌, Bool, true, false, cond, List, [], ◌∷◌, ◌++◌, None, Some, Result, slice_get, refl, sym, ◌∙◌, ap, inl, inr, subst, map, length, arith}
use Rattle.std.specs.Prelude.{◌||◌, filter, nat_lt}
use Rattle.std.specs.List.{list_any}
use Rattle.std.proofs.lemmas.Option.{get_or_from_slice_get}
use Rattle.partition.specs.NetTable.{NetTable}
use Rattle.partition.specs.NetFaults.{all_faults, first_fault}
use Rattle.partition.specs.declared.nets.NetsRefusal.{NetsRefusal}
use Rattle.partition.specs.declared.nets.NetsRefusal.TheVariants as nets
use Rattle.wirelist.specs.declared.refusal.WireRefusal.{WireRefusal}
use Rattle.wirelist.specs.declared.refusal.WireRefusal.TheVariants as wire
use Rattle.wirelist_reader.specs.Reading.{told}
use Rattle.wirelist_reader.specs.Refusals.{FindsOrMemory, cluster_faults, head_faults, most_bytes, net_faults, part_faults, refusals, rows_refusals}
use Rattle.wirelist_reader.specs.Rows.{ends_of, first_of, is_kind, rows_of_kind, points_in, listed_nets, listed_ignored, program_of}
use Rattle.wirelist_reader.specs.declared.parts.PartEnds.{PartEnds}
use Rattle.wirelist_reader.specs.declared.kind.Kind.{Kind}
use Rattle.wirelist_reader.specs.declared.kind.Kind.TheVariants.{Part, Points}
use Rattle.wirelist_rows.specs.Filled.{rows_in}
use Rattle.std.proofs.lemmas.Bool.{ltb-true}
use Rattle.wirelist_reader.proofs.Numbers.{not_true}
use Rattle.wirelist_reader.proofs.Firsts.{first_in_left, first_in_right}

-- a fault of the first of two lists
pub found_in_left : (faults more : List WireRefusal) (e : WireRefusal) → (e ≡ wire.Memory) ⊎ (slice_get faults 0 ≡ Some e) → (e ≡ wire.Memory) ⊎ (slice_get (faults ++ more) 0 ≡ Some e)
found_in_left faults more e (inl memory) = inl memory
found_in_left faults more e (inr first) = inr (first_in_left faults more e first)

-- the faults of the second, where the first has none
pub finds_in_right : {A : Type 0} (faults more : List WireRefusal) (result : Result A WireRefusal) → faults ≡ [] → FindsOrMemory more result → FindsOrMemory (faults ++ more) result
finds_in_right {A = A} faults more result none finds = subst (λ (f : List WireRefusal). FindsOrMemory {A = A} (f ++ more) result) (sym none) finds

pub found_in_right : (faults more : List WireRefusal) (e : WireRefusal) → faults ≡ [] → (e ≡ wire.Memory) ⊎ (slice_get more 0 ≡ Some e) → (e ≡ wire.Memory) ⊎ (slice_get (faults ++ more) 0 ≡ Some e)
found_in_right faults more e none (inl memory) = inl memory
found_in_right faults more e none (inr first) = inr (first_in_right faults more e none first)

-- whether a row of a kind is there
pub has_first : {X : Type 0} (p : X → Bool) (xs : List X) (x : X) → Some x ≡ slice_get (filter p xs) 0 → list_any p xs ≡ true
has_first p [] x e = cc
has_first p (y ∷ ys) x e = go (p y) refl e (has_first p ys x)
  where
    go : (b : Bool) → p y ≡ b → Some x ≡ slice_get (cond b (y ∷ filter p ys) (filter p ys)) 0 → (Some x ≡ slice_get (filter p ys) 0 → list_any p ys ≡ true) → (b || list_any p ys) ≡ true
    go true t f later = refl
    go false t f later = later f

pub has_none : {X : Type 0} (p : X → Bool) (xs : List X) → None ≡ slice_get (filter p xs) 0 → list_any p xs ≡ false
has_none p [] e = refl
has_none p (y ∷ ys) e = go (p y) refl e (has_none p ys)
  where
    go : (b : Bool) → p y ≡ b → None ≡ slice_get (cond b (y ∷ filter p ys) (filter p ys)) 0 → (None ≡ slice_get (filter p ys) 0 → list_any p ys ≡ false) → (b || list_any p ys) ≡ false
    go true t f later = cc
    go false t f later = later f

-- a part and a number of points are named, or are not
pub heads_there : (rows : List (List (List ℕ))) → list_any (is_kind Part) rows ≡ true → list_any (is_kind Points) rows ≡ true → head_faults rows ≡ []
heads_there rows part points = rw (part, points) refl

pub heads_missing : (rows : List (List (List ℕ))) → (list_any (is_kind Part) rows ≡ false) ⊎ (list_any (is_kind Points) rows ≡ false) → slice_get (head_faults rows) 0 ≡ Some wire.NoPart
heads_missing rows (inl part) = rw part refl
heads_missing rows (inr points) = go (list_any (is_kind Part) rows) refl
  where
    go : (b : Bool) → list_any (is_kind Part) rows ≡ b → slice_get (head_faults rows) 0 ≡ Some wire.NoPart
    go true part = rw (part, points) refl
    go false part = rw part refl

-- nets without a fault, and with one
first_of_map : (faults : List NetsRefusal) (e : NetsRefusal) → slice_get faults 0 ≡ Some e → slice_get (map wire.Nets faults) 0 ≡ Some (wire.Nets e)
first_of_map [] e is = cc
first_of_map (x ∷ xs) e is = let same : x ≡ e = cc in ap (λ (f : NetsRefusal). Some (wire.Nets f)) same

none_of_map : (faults : List NetsRefusal) → slice_get faults 0 ≡ None → map wire.Nets faults ≡ []
none_of_map [] is = refl
none_of_map (x ∷ xs) is = cc

told_first : (faults : List NetsRefusal) (e : NetsRefusal) → (e ≡ nets.Memory) ⊎ (slice_get faults 0 ≡ Some e) → (told e ≡ wire.Memory) ⊎ (slice_get (map wire.Nets faults) 0 ≡ Some (told e))
told_first faults e (inl memory) = inl (rw memory refl)
told_first faults nets.Memory (inr first) = inl refl
told_first faults (nets.OutOfRange p) (inr first) = inr (first_of_map faults (nets.OutOfRange p) first)
told_first faults (nets.Twice p) (inr first) = inr (first_of_map faults (nets.Twice p) first)
told_first faults (nets.EmptyNet i) (inr first) = inr (first_of_map faults (nets.EmptyNet i) first)
told_first faults nets.NoneJudged (inr first) = inr (first_of_map faults nets.NoneJudged first)

module _ (rows : List (List (List ℕ))) (n : ℕ) (lists : List (List ℕ)) (ignored : List ℕ) (points_are : n ≡ points_in rows) (lists_are : lists ≡ listed_nets rows) (ignored_are : ignored ≡ listed_ignored rows) where
  the_same : all_faults n lists ignored ≡ all_faults (points_in rows) (listed_nets rows) (listed_ignored rows)
  the_same =
      ap (λ (m : ℕ). all_faults m lists ignored) points_are
      ∙ ap (λ (ls : List (List ℕ)). all_faults (points_in rows) ls ignored) lists_are
      ∙ ap (all_faults (points_in rows) (listed_nets rows)) ignored_are

  pub nets_faultless : first_fault n lists ignored ≡ None → net_faults rows ≡ []
  nets_faultless none =
      none_of_map (all_faults (points_in rows) (listed_nets rows) (listed_ignored rows)) (ap (λ (faults : List NetsRefusal). slice_get faults 0) (sym the_same) ∙ none)

  pub nets_refused : (e : NetsRefusal) (answer : WireRefusal) → answer ≡ told e → (e ≡ nets.Memory) ⊎ (first_fault n lists ignored ≡ Some e)
      → (answer ≡ wire.Memory) ⊎ (slice_get (net_faults rows) 0 ≡ Some answer)
  nets_refused e answer is which =
      rw is (told_first (all_faults (points_in rows) (listed_nets rows) (listed_ignored rows)) e
      (subst (λ (faults : List NetsRefusal). (e ≡ nets.Memory) ⊎ (slice_get faults 0 ≡ Some e)) the_same which))

-- the first row of a kind
pub first_row_is : (kind : Kind) (rows : List (List (List ℕ))) (row : List (List ℕ)) → Some row ≡ slice_get (rows_of_kind kind rows) 0 → row ≡ first_of kind rows
first_row_is kind rows row is = sym (get_or_from_slice_get (rows_of_kind kind rows) 0 row [] (sym is))

-- components with a fault, and without one
pub parts_refused : (rows : List (List (List ℕ))) (t : NetTable) (ends : List PartEnds) (e : WireRefusal) → t ≡ (program_of rows).nets → ends ≡ ends_of rows → slice_get (part_faults t ends) 0 ≡ Some e
    → (e ≡ wire.Memory) ⊎ (slice_get (part_faults (program_of rows).nets (ends_of rows) ++ cluster_faults (program_of rows)) 0 ≡ Some e)
parts_refused rows t ends e nets_are ends_are first =
    inr (first_in_left (part_faults (program_of rows).nets (ends_of rows)) (cluster_faults (program_of rows)) e
    (ap (λ (u : NetTable). slice_get (part_faults u (ends_of rows)) 0) (sym nets_are) ∙ ap (λ (parts : List PartEnds). slice_get (part_faults t parts) 0) (sym ends_are) ∙ first))

pub parts_faultless : (rows : List (List (List ℕ))) (t : NetTable) (ends : List PartEnds) → t ≡ (program_of rows).nets → ends ≡ ends_of rows → part_faults t ends ≡ [] → part_faults (program_of rows).nets (ends_of rows) ≡ []
parts_faultless rows t ends nets_are ends_are none =
    ap (λ (u : NetTable). part_faults u (ends_of rows)) (sym nets_are) ∙ ap (part_faults t) (sym ends_are) ∙ none

-- a file that is not too long is refused for its rows alone
pub short_file : (bytes : List ℕ) → length bytes ≤ most_bytes → refusals bytes ≡ rows_refusals (rows_in bytes)
short_file bytes short = rw (not_below most_bytes (length bytes) short) refl
  where
    not_below : (a b : ℕ) → b ≤ a → nat_lt a b ≡ false
    not_below a b le = not_true (nat_lt a b) (λ lt. let below = ltb-true a b lt in omega arith)
