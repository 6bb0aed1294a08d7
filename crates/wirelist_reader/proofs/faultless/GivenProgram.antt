-- Rows without a fault, whose nets are a table, give a program.
use Rattle.std.proofs.Common.{◌≡◌, ◌%◌, eqb, ℕ, ◌<◌, ◌≤◌, ◌&&◌, Bool, true, false, List, [], ◌∷◌, length, get_or, Option, None, Some, sym, ◌∙◌, ap, arith, map, filter, All}
use Rattle.std.specs.Prelude.{slice_get, option_map, is_some, IfSome, nat_lt}
use Rattle.std.specs.List.{list_any}
use Rattle.std.proofs.lemmas.Bool.{and_parts, not-false, ltb-false, eqb-true}
use Rattle.std.proofs.lemmas.List.{length-map}
use Rattle.std.proofs.lemmas.List.Elements.{All-map}
use Rattle.std.proofs.lemmas.List.Folds.{Any-from_list_any}
use Rattle.partition.specs.Names.{IsName}
use Rattle.partition.specs.NetFaults.{ascending_net}
use Rattle.partition.specs.NetTable.{IsNetTable}
use Rattle.partition.proofs.Members.{In-filter}
use Rattle.partition.proofs.tables.NetLaws.{In-index}
use Rattle.wirelist.specs.Clusters.{cluster_count}
use Rattle.wirelist.specs.Numbers.{IsWithin}
use Rattle.wirelist.specs.Programs.{IsInsulation, IsWithstand, IsProgram}
use Rattle.wirelist.specs.Ranges.{most_clusters}
use Rattle.wirelist_reader.specs.Kinds.{is_number}
use Rattle.wirelist_reader.specs.Rows.{field_at, is_kind, number_at, first_of, rows_of_kind, points_in, listed_nets, ends_of, insulation_of, withstand_of, attempts_of, program_of}
use Rattle.wirelist_reader.specs.Refusals.{all_row_faults, head_faults, part_faults, cluster_faults}
use Rattle.wirelist_reader.specs.declared.kind.Kind.TheVariants.{Part, Points, Net, Insulation, Withstand, Attempts}
use Rattle.wirelist_reader.proofs.faultless.GivenPairs.{index-In}
use Rattle.wirelist_reader.proofs.Numbers.{and_right}
use Rattle.wirelist_reader.proofs.faultless.BuildFacts.{part_name, part_revision, points_number, net_name, insulation_volts, insulation_numbers, withstand_volts, withstand_numbers, attempts_number}
use Rattle.wirelist_reader.proofs.faultless.GivenRows.{no_fault, rows_clean, within}
use Rattle.wirelist_reader.proofs.faultless.GivenNames.{names_distinct}
use Rattle.wirelist_reader.proofs.faultless.GivenParts.{components_of_faultless}

-- ---- the first that a filter keeps

some_kept : {X : Type 0} (t : X → Bool) (xs : List X) → list_any t xs ≡ true → 0 < length (filter t xs)
some_kept t xs e =
    let any = Any-from_list_any t xs e in
    let k = any.0 in
    let x = any.1 in
    let place = In-index (get_or xs k x) (filter t xs) (In-filter t (get_or xs k x) xs (index-In k x xs any.2) (ap t any.3 ∙ any.4)) in
    let inside = place.1 in
    omega arith

first_if_some : {A B : Type 0} (f : A → B) (P : B → Type 0) (xs : List A) → All (λ x. P (f x)) xs → IfSome (option_map f (slice_get xs 0)) P
first_if_some f P [] h = tt
first_if_some f P (x ∷ xs) h = h 0 x (omega arith)

attempts_within : (rows : List (List (List ℕ))) → All (λ row. IsWithin 1 9 (number_at row 1)) rows → IsWithin 1 9 (attempts_of (slice_get rows 0))
attempts_within [] h = (omega arith, omega arith)
attempts_within (row ∷ rows) h = h 0 row (omega arith)

if_some_and : {A : Type 0} (o : Option A) (b : Bool) (P : Type 0) → (is_some o && b) ≡ false → (b ≡ false → P) → IfSome o (λ _. P)
if_some_and None b P h f = tt
if_some_and (Some x) b P h f = f h

-- ---- the rows of the kinds

module _ (rows : List (List (List ℕ))) (none : all_row_faults rows ≡ []) (heads : head_faults rows ≡ []) where
  both_heads : (list_any (is_kind Part) rows ≡ true) × (list_any (is_kind Points) rows ≡ true)
  both_heads = and_parts _ _ (not-false _ (no_fault _ _ heads))

  part_is : IsName (field_at (first_of Part rows) 1) × IsWithin 1 999999 (number_at (first_of Part rows) 2)
  part_is =
      rows_clean rows none Part (λ row. IsName (field_at row 1) × IsWithin 1 999999 (number_at row 2)) (λ before row fit is known. (part_name row fit is, within 1 999999 (field_at row 2) (part_revision row fit is)))
      0 [] (some_kept (is_kind Part) rows both_heads.0)

  points_are : IsWithin 1 4096 (points_in rows)
  points_are =
      rows_clean rows none Points (λ row. IsWithin 1 4096 (number_at row 1)) (λ before row fit is known. within 1 4096 (field_at row 1) (points_number row fit is))
      0 [] (some_kept (is_kind Points) rows both_heads.1)

  nets_named : All (λ row. IsName (field_at row 1)) (rows_of_kind Net rows)
  nets_named = rows_clean rows none Net (λ row. IsName (field_at row 1)) (λ before row fit is known. net_name row fit is)

  one_for_each : length (map (λ row. field_at row 1) (rows_of_kind Net rows)) ≡ length (map (ascending_net (points_in rows)) (listed_nets rows))
  one_for_each =
      length-map (rows_of_kind Net rows) (λ (row : List (List ℕ)). field_at row 1)
      ∙ sym (length-map (listed_nets rows) (ascending_net (points_in rows)) ∙ length-map (rows_of_kind Net rows) _)

  insulation_rows : All (λ row. IsInsulation (insulation_of row)) (rows_of_kind Insulation rows)
  insulation_rows =
      rows_clean rows none Insulation (λ row. IsInsulation (insulation_of row))
      (λ before row fit is known.
      let numbers = insulation_numbers row fit is in
      record {
        volts = within 50 1000 (field_at row 1) numbers.0;
        steps = eqb-true (number_at row 1 % 50) 0 (and_right (is_number 50 1000 (field_at row 1)) (eqb (number_at row 1 % 50) 0) (insulation_volts row fit is));
        ticks = within 1 1200 (field_at row 2) numbers.1;
        megohms = within 1 100000 (field_at row 3) numbers.2;
      })

  withstand_rows : All (λ row. IsWithstand (withstand_of row)) (rows_of_kind Withstand rows)
  withstand_rows =
      rows_clean rows none Withstand (λ row. IsWithstand (withstand_of row))
      (λ before row fit is known.
      let numbers = withstand_numbers row fit is in
      record {
        volts = within 50 2000 (field_at row 1) numbers.0;
        steps = eqb-true (number_at row 1 % 50) 0 (and_right (is_number 50 2000 (field_at row 1)) (eqb (number_at row 1 % 50) 0) (withstand_volts row fit is));
        ticks = within 1 600 (field_at row 2) numbers.1;
        nanoamps = within 1 10000000 (field_at row 3) numbers.2;
      })

  attempts_rows : All (λ row. IsWithin 1 9 (number_at row 1)) (rows_of_kind Attempts rows)
  attempts_rows = rows_clean rows none Attempts (λ row. IsWithin 1 9 (number_at row 1)) (λ before row fit is known. within 1 9 (field_at row 1) (attempts_number row fit is))

  pub program_of_faultless : IsNetTable (program_of rows).nets → part_faults (program_of rows).nets (ends_of rows) ≡ [] → cluster_faults (program_of rows) ≡ [] → IsProgram (program_of rows)
  program_of_faultless nets parts clusters =
      let p = program_of rows in
      record {
        part = part_is.0;
        revision = part_is.1;
        points = points_are.1;
        nets = nets;
        names = All-map IsName (λ row. field_at row 1) (rows_of_kind Net rows) nets_named;
        one_each = one_for_each;
        distinct = names_distinct rows none;
        components = components_of_faultless rows none parts;
        insulation = first_if_some insulation_of IsInsulation (rows_of_kind Insulation rows) insulation_rows;
        withstand = first_if_some withstand_of IsWithstand (rows_of_kind Withstand rows) withstand_rows;
        clusters =
            if_some_and p.insulation (nat_lt most_clusters (cluster_count p)) (cluster_count p ≤ most_clusters) (no_fault _ _ clusters)
            (λ few. ltb-false most_clusters (cluster_count p) few);
        attempts = attempts_within (rows_of_kind Attempts rows) attempts_rows;
      }
