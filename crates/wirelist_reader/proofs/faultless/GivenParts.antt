-- The components of the program, where neither a row nor a component has a fault.
use Rattle.std.proofs.Common.{◌≡◌, inl, inr, ℕ, ◌+◌, ◌<◌, ◌≤◌, true, List, [], length, refl, subst, arith, take, map, filter, All, AllPairs}
use Rattle.std.specs.Prelude.{◌≢◌}
use Rattle.std.proofs.lemmas.Bool.{or_cases, leb-false, ltb-false}
use Rattle.std.proofs.lemmas.List.{length-map}
use Rattle.std.proofs.lemmas.List.Elements.{All-map}
use Rattle.wirelist.specs.Programs.{IsResistor, IsDiode, AreComponents, SameLink}
use Rattle.wirelist.specs.Ranges.{most_parts}
use Rattle.wirelist_reader.specs.Rows.{row_at, field_at, is_kind, is_component, number_at, rows_of_kind, ends_of, resistor_of, diode_of, program_of}
use Rattle.wirelist_reader.specs.Refusals.{all_row_faults, part_faults}
use Rattle.wirelist_reader.specs.declared.kind.Kind.{Kind}
use Rattle.wirelist_reader.specs.declared.kind.Kind.TheVariants.{Resistor, Diode}
use Rattle.wirelist_reader.proofs.KindFacts.{component_of_kind}
use Rattle.wirelist_reader.proofs.faultless.BuildFacts.{resistor_name, resistor_window, diode_name, diode_window}
use Rattle.wirelist_reader.proofs.faultless.GivenLists.{conjunct}
use Rattle.wirelist_reader.proofs.faultless.GivenPairs.{few_pass, length-filter_or}
use Rattle.wirelist_reader.proofs.faultless.GivenRows.{IsClean, clean_row, rows_clean, within}
use Rattle.wirelist_reader.proofs.faultless.GivenNames.{only_kind}
use Rattle.wirelist_reader.proofs.faultless.GivenEnds.{inside_of_faultless}
use Rattle.wirelist_reader.proofs.faultless.GivenLinks.{links_are, links_across, links_apart}

-- a component is of one of two kinds
component_kinds : (row : List (List ℕ)) → is_component row ≡ true → (kind : Kind) × (is_kind kind row ≡ true)
component_kinds row part = elim (or_cases (is_kind Resistor row) (is_kind Diode row) part) [ inl r ↦ (Resistor, r) | inr d ↦ (Diode, d) ]

-- the least value of a window is not above the greatest
window_of : (kind : Kind) (before : List (List (List ℕ))) (row : List (List ℕ)) → is_component row ≡ true → IsClean kind before row → number_at row 4 ≤ number_at row 5
window_of kind before row part known = ltb-false (number_at row 5) (number_at row 4) (conjunct (is_component row) _ known.window part)

module _ (rows : List (List (List ℕ))) (none : all_row_faults rows ≡ []) where
  all_resistors : All (λ (row : List (List ℕ)). IsResistor (resistor_of row)) (rows_of_kind Resistor rows)
  all_resistors =
      rows_clean rows none Resistor (λ (row : List (List ℕ)). IsResistor (resistor_of row))
      (λ before row fit is known.
      let numbers = resistor_window row fit is in
      record {
        name = resistor_name row fit is;
        low = (within 10001 1000000000000 (field_at row 4) numbers.0).0;
        window = window_of Resistor before row (component_of_kind row Resistor is) known;
        high = (within 10001 1000000000000 (field_at row 5) numbers.1).1;
      })

  all_diodes : All (λ (row : List (List ℕ)). IsDiode (diode_of row)) (rows_of_kind Diode rows)
  all_diodes =
      rows_clean rows none Diode (λ (row : List (List ℕ)). IsDiode (diode_of row))
      (λ before row fit is known.
      let numbers = diode_window row fit is in
      record {
        name = diode_name row fit is;
        low = (within 1 5000 (field_at row 4) numbers.0).0;
        window = window_of Diode before row (component_of_kind row Diode is) known;
        high = (within 1 5000 (field_at row 5) numbers.1).1;
      })

  -- a component has fewer than the greatest number before it
  room : (i : ℕ) → i < length rows → is_component (row_at rows i) ≡ true → length (filter is_component (take i rows)) < most_parts
  room i l part =
      let kind = component_kinds (row_at rows i) part in
      let known = clean_row rows none kind.0 i l kind.1 in
      leb-false most_parts (length (filter is_component (take i rows))) (conjunct (is_component (row_at rows i)) _ known.count part)

  few_components : length (map resistor_of (rows_of_kind Resistor rows)) + length (map diode_of (rows_of_kind Diode rows)) ≤ most_parts
  few_components =
      omega (
        arith,
        length-map (rows_of_kind Resistor rows) resistor_of,
        length-map (rows_of_kind Diode rows) diode_of,
        length-filter_or (is_kind Resistor) (is_kind Diode) (λ row is. only_kind Resistor Diode row refl is) rows,
        few_pass is_component most_parts [] rows room,
      )

  pub components_of_faultless : part_faults (program_of rows).nets (ends_of rows) ≡ [] → AreComponents (program_of rows)
  components_of_faultless sound =
      let t = (program_of rows).nets in
      record {
        resistors = All-map IsResistor resistor_of (rows_of_kind Resistor rows) all_resistors;
        diodes = All-map IsDiode diode_of (rows_of_kind Diode rows) all_diodes;
        few = few_components;
        inside = inside_of_faultless rows sound;
        across = subst (All (λ (link : ℕ × ℕ). link.0 ≢ link.1)) (links_are rows) (links_across t (ends_of rows) sound);
        apart = subst (AllPairs (λ (x y : ℕ × ℕ). SameLink x y → ⊥)) (links_are rows) (links_apart t (ends_of rows) sound);
      }
