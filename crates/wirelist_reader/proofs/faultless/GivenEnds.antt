-- The ends of the components, where no component has a fault.
use Rattle.std.proofs.Common.{◌≡◌, ℕ, ◌+◌, ◌<◌, ◌&&◌, Bool, true, false, cond, List, [], ◌∷◌, ◌++◌, length, get_or, refl, take, filter, All}
use Rattle.std.specs.List.{list_any}
use Rattle.std.proofs.lemmas.Bool.{and_parts, eqb-false}
use Rattle.std.proofs.lemmas.List.Elements.{All-from_get_or, All-map}
use Rattle.partition.specs.Classes.{points_below, has}
use Rattle.partition.specs.NetTable.{NetTable, judged_points, net_at}
use Rattle.partition.proofs.Members.{In, In-append_left, In-append_right, In-map, In-filter}
use Rattle.partition.proofs.tables.NetLaws.{All-In}
use Rattle.partition.proofs.tables.KeptLemmas.{points_below-In}
use Rattle.wirelist.specs.Clusters.{IsJudged, ComponentsInside}
use Rattle.wirelist.specs.declared.parts.Resistor.{Resistor as Res}
use Rattle.wirelist.specs.declared.parts.Diode.{Diode as Dio}
use Rattle.wirelist_reader.specs.Rows.{row_at, is_kind, number_at, rows_of_kind, ends_in, ends_of_kind, ends_of, resistor_of, diode_of, program_of}
use Rattle.wirelist_reader.specs.Refusals.{joins_same, component_faults, part_faults, no_ends}
use Rattle.wirelist_reader.specs.Reading.{LiesInside}
use Rattle.wirelist_reader.specs.declared.parts.PartEnds.{PartEnds}
use Rattle.wirelist_reader.specs.declared.kind.Kind.{Kind}
use Rattle.wirelist_reader.specs.declared.kind.Kind.TheVariants.{Resistor, Diode}
use Rattle.wirelist_reader.proofs.faultless.GivenLists.{append_none, flat_none, All-kept}
use Rattle.wirelist_reader.proofs.faultless.GivenRows.{no_fault}

-- ---- one component

guarded : {A : Type 0} (b : Bool) (xs ys : List A) (z : A) → cond b (xs ++ ys) (z ∷ []) ≡ [] → (b ≡ true) × (xs ≡ []) × (ys ≡ [])
guarded true xs ys z h = let parts = append_none xs ys h in (refl, parts.0, parts.1)
guarded false xs ys z h = cc

-- what a component has, below those before it, where it has no fault
pub record IsSound (t : NetTable) (before : List PartEnds) (part : PartEnds) : Type 0 where
  pub inside : LiesInside t part
  pub across : net_at t part.a ≡ net_at t part.b → ⊥
  pub alone : list_any (joins_same t part) before ≡ false

pub sound : (t : NetTable) (before : List PartEnds) (part : PartEnds) → component_faults t before part ≡ [] → IsSound t before part
sound t before part none =
    let parts = guarded (has (judged_points t) part.a && has (judged_points t) part.b) _ _ _ none in
    record {
      inside = and_parts (has (judged_points t) part.a) (has (judged_points t) part.b) parts.0;
      across = eqb-false (net_at t part.a) (net_at t part.b) (no_fault _ _ parts.1);
      alone = no_fault _ _ parts.2;
    }

-- ---- all components

module _ (t : NetTable) (parts : List PartEnds) (none : part_faults t parts ≡ []) where
  pub sound_at : (c : ℕ) → c < length parts → IsSound t (take c parts) (get_or parts c no_ends)
  sound_at c l =
      sound t (take c parts) (get_or parts c no_ends)
      (flat_none (λ c. component_faults t (take c parts) (get_or parts c no_ends)) (length parts) c none l)

  pub all_inside : All (LiesInside t) parts
  all_inside = All-from_get_or (LiesInside t) parts no_ends (λ c l. let s = sound_at c l in s.inside)

-- a component's ends are in the list
pub in_ends : (kind : Kind) (rows : List (List (List ℕ))) (i : ℕ) → i < length rows → is_kind kind (row_at rows i) ≡ true → In (ends_in (i + 1) (row_at rows i)) (ends_of_kind kind rows)
in_ends kind rows i l is =
    let ends : ℕ → PartEnds = λ k. ends_in (k + 1) (row_at rows k) in
    let test : ℕ → Bool = λ k. is_kind kind (row_at rows k) in
    In-map ends i (filter test (points_below (length rows))) (In-filter test i (points_below (length rows)) (points_below-In (length rows) i l) is)

-- the ends of the component of a row are judged points
abbrev RowInside : NetTable → List (List ℕ) → Type 0
RowInside t row = IsJudged t (number_at row 2) × IsJudged t (number_at row 3)

module _ (t : NetTable) (rows : List (List (List ℕ))) (none : part_faults t (ends_of rows) ≡ []) where
  resistors_inside : All (RowInside t) (rows_of_kind Resistor rows)
  resistors_inside =
      All-kept (is_kind Resistor) (RowInside t) rows []
      (λ i l is. All-In (LiesInside t) (ends_in (i + 1) (row_at rows i)) (ends_of rows) (all_inside t (ends_of rows) none)
      (In-append_left _ (ends_of_kind Resistor rows) (ends_of_kind Diode rows) (in_ends Resistor rows i l is)))

  diodes_inside : All (RowInside t) (rows_of_kind Diode rows)
  diodes_inside =
      All-kept (is_kind Diode) (RowInside t) rows []
      (λ i l is. All-In (LiesInside t) (ends_in (i + 1) (row_at rows i)) (ends_of rows) (all_inside t (ends_of rows) none)
      (In-append_right _ (ends_of_kind Resistor rows) (ends_of_kind Diode rows) (in_ends Diode rows i l is)))

-- the components of the program lie between judged points
pub inside_of_faultless : (rows : List (List (List ℕ))) → part_faults (program_of rows).nets (ends_of rows) ≡ [] → ComponentsInside (program_of rows)
inside_of_faultless rows none =
    let t = (program_of rows).nets in
    record {
      resistors_in = All-map (λ (r : Res). IsJudged t r.a × IsJudged t r.b) resistor_of (rows_of_kind Resistor rows) (resistors_inside t rows none);
      diodes_in = All-map (λ (d : Dio). IsJudged t d.from × IsJudged t d.to) diode_of (rows_of_kind Diode rows) (diodes_inside t rows none);
    }
