-- The components' ends, one after another.
use Rattle.std.proofs.Common.{◌≡◌, ℕ, ◌+◌, ◌<◌, ◌≤◌, Bool, true, false, cond, inl, inr, ◌⊎◌, List, [], ◌∷◌, ◌++◌, Some, length, get_or, take, map, filter, refl, sym, ◌∙◌, ap, subst, arith, add-one, append_assoc}
use Rattle.std.specs.Prelude.{◌||◌, All, IsTrue, slice_get}
use Rattle.std.specs.List.{flat_map}
use Rattle.std.proofs.lemmas.List.{append-nil, get_or_default, map-append}
use Rattle.partition.specs.Classes.{points_below}
use Rattle.partition.specs.NetTable.{NetTable}
use Rattle.partition.proofs.tables.ClaimLemmas.{first_below, none_more}
use Rattle.partition.proofs.classes.HeadLemmas.{points_below-suc}
use Rattle.wirelist.specs.declared.refusal.WireRefusal.{WireRefusal}
use Rattle.std.proofs.lemmas.List.Elements.{All-more, filter-append}
use Rattle.wirelist_reader.specs.Kinds.{is_number}
use Rattle.wirelist_reader.specs.Reading.{IsFit, LiesInside}
use Rattle.wirelist_reader.specs.Refusals.{component_faults, no_ends, part_faults}
use Rattle.wirelist_reader.specs.Rows.{ends_in, field_at, is_component, is_kind, row_at}
use Rattle.wirelist_reader.specs.declared.kind.Kind.{Kind}
use Rattle.wirelist_reader.specs.declared.kind.Kind.TheVariants.{Resistor, Diode}
use Rattle.wirelist_reader.specs.declared.parts.PartEnds.{PartEnds}
use Rattle.wirelist_reader.proofs.faultless.BuildFacts.{resistor_point, diode_point}

-- either side of a disjunction
or_cases : (a b : Bool) → (a || b) ≡ true → (a ≡ true) ⊎ (b ≡ true)
or_cases true b e = inl refl
or_cases false b e = inr e

-- a component's ends are points, as words
pub component_point : (row : List (List ℕ)) → IsFit row → IsTrue (is_component row) →
    (is_number 0 65535 (field_at row 2) ≡ true) × (is_number 0 65535 (field_at row 3) ≡ true)
component_point row fit is =
    elim (or_cases (is_kind Resistor row) (is_kind Diode row) is) [ inl e ↦ resistor_point row fit e | inr e ↦ diode_point row fit e ]

pub component_of : (kind : Kind) (row : List (List ℕ)) → (kind ≡ Resistor) ⊎ (kind ≡ Diode) → is_kind kind row ≡ true → IsTrue (is_component row)
component_of kind row (inl e) is = let r : is_kind Resistor row ≡ true = subst (λ (k : Kind). is_kind k row ≡ true) e is in rw r refl
component_of kind row (inr e) is = either (is_kind Resistor row) (is_kind Diode row) (subst (λ (k : Kind). is_kind k row ≡ true) e is)
  where
    either : (a b : Bool) → b ≡ true → (a || b) ≡ true
    either true b h = refl
    either false b h = h

-- the ends of the components of a kind among the first i rows
abbrev pub ends_upto : Kind → List (List (List ℕ)) → ℕ → List PartEnds
ends_upto kind rows i = map (λ k. ends_in (k + 1) (row_at rows k)) (filter (λ k. is_kind kind (row_at rows k)) (points_below i))

module _ {X : Type 0} (p : ℕ → Bool) (f : ℕ → X) where
  one_kept : (i : ℕ) (b : Bool) → p i ≡ b → filter p (points_below (i + 1)) ≡ filter p (points_below i) ++ cond b (i ∷ []) []
  one_kept i b e =
      ap (λ (k : ℕ). filter p (points_below k)) (add-one i)
      ∙ ap (filter p) (points_below-suc i)
      ∙ filter-append p (points_below i) (i ∷ [])
      ∙ ap (λ (l : List ℕ). filter p (points_below i) ++ l) (one b e)
    where
      one : (b : Bool) → p i ≡ b → filter p (i ∷ []) ≡ cond b (i ∷ []) []
      one b e = rw e refl

  pub kept_next : (i : ℕ) → p i ≡ true → map f (filter p (points_below (i + 1))) ≡ map f (filter p (points_below i)) ++ f i ∷ []
  kept_next i e = ap (map f) (one_kept i true e) ∙ map-append f (filter p (points_below i)) (i ∷ [])

  pub left_out : (i : ℕ) → p i ≡ false → map f (filter p (points_below (i + 1))) ≡ map f (filter p (points_below i))
  left_out i e = ap (map f) (one_kept i false e) ∙ map-append f (filter p (points_below i)) [] ∙ append-nil (map f (filter p (points_below i)))

-- ---- the ends of the components of a kind

module _ (kind : Kind) (rows : List (List (List ℕ))) (i : ℕ) (row : List (List ℕ)) (old ends : List PartEnds) (inside : i < length rows) (is : row ≡ get_or rows i row) where
  here : row_at rows i ≡ row
  here = get_or_default rows i [] row inside ∙ sym is

  pub ends_more : is_kind kind row ≡ true → ends ≡ old ++ ends_upto kind rows i → ends ++ ends_in (i + 1) row ∷ [] ≡ old ++ ends_upto kind rows (i + 1)
  ends_more kept so_far =
      let next : ends_upto kind rows (i + 1) ≡ ends_upto kind rows i ++ ends_in (i + 1) (row_at rows i) ∷ [] =
      kept_next (λ k. is_kind kind (row_at rows k)) (λ k. ends_in (k + 1) (row_at rows k)) i (ap (is_kind kind) here ∙ kept) in
      ap (λ (l : List PartEnds). l ++ ends_in (i + 1) row ∷ []) so_far
      ∙ append_assoc old (ends_upto kind rows i) (ends_in (i + 1) row ∷ [])
      ∙ ap (λ (r : List (List ℕ)). old ++ (ends_upto kind rows i ++ ends_in (i + 1) r ∷ [])) (sym here)
      ∙ ap (λ (l : List PartEnds). old ++ l) (sym next)

  pub ends_same : is_kind kind row ≡ false → ends ≡ old ++ ends_upto kind rows i → ends ≡ old ++ ends_upto kind rows (i + 1)
  ends_same out so_far =
      so_far
      ∙ ap (λ (l : List PartEnds). old ++ l)
      (sym (left_out (λ k. is_kind kind (row_at rows k)) (λ k. ends_in (k + 1) (row_at rows k)) i (ap (is_kind kind) here ∙ out)))

-- ---- the faults of components

-- the faults of component c
abbrev pub faults_at : NetTable → List PartEnds → ℕ → List WireRefusal
faults_at t parts c = component_faults t (take c parts) (get_or parts c no_ends)

module _ (t : NetTable) (parts : List PartEnds) (c : ℕ) (part : PartEnds) (inside : c < length parts) (is : part ≡ get_or parts c part) where
  at_part : faults_at t parts c ≡ component_faults t (take c parts) part
  at_part = ap (component_faults t (take c parts)) (get_or_default parts c no_ends part inside ∙ sym is)

  pub no_fault_more : flat_map (faults_at t parts) (points_below c) ≡ [] → component_faults t (take c parts) part ≡ [] → flat_map (faults_at t parts) (points_below (c + 1)) ≡ []
  no_fault_more none good = none_more (faults_at t parts) c none (at_part ∙ good)

  pub inside_more : All (LiesInside t) (take c parts) → LiesInside t part → All (LiesInside t) (take (c + 1) parts)
  inside_more before good = All-more (LiesInside t) parts c part inside before (subst (LiesInside t) is good)

  pub first_part_fault : (e : WireRefusal) → flat_map (faults_at t parts) (points_below c) ≡ [] → slice_get (component_faults t (take c parts) part) 0 ≡ Some e → slice_get (part_faults t parts) 0 ≡ Some e
  first_part_fault e none found = from (component_faults t (take c parts) part) refl found
    where
      from : (faults : List WireRefusal) → component_faults t (take c parts) part ≡ faults → slice_get faults 0 ≡ Some e → slice_get (part_faults t parts) 0 ≡ Some e
      from [] at got = cc
      from (x ∷ xs) at got = first_below (faults_at t parts) c (length parts) x xs none inside (at_part ∙ at) ∙ got

pub no_part_fault : (t : NetTable) (parts : List PartEnds) (c : ℕ) → flat_map (faults_at t parts) (points_below c) ≡ [] → length parts ≤ c → c ≤ length parts → part_faults t parts ≡ []
no_part_fault t parts c none past upto =
    let all : length parts ≡ c = omega arith in
    ap (λ (k : ℕ). flat_map (faults_at t parts) (points_below k)) all ∙ none
