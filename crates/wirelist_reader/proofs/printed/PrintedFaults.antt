-- The rows of a program's text have no fault.
use Rattle.std.proofs.Common.{◌≡◌, ◌≢◌, ℕ, ◌≤◌, true, false, List, [], ◌∷◌, ◌++◌, length, map, filter, AllPairs, IfSome, Option, None, Some, refl, sym, ◌∙◌, ap, subst, arith, is_some}
use Rattle.std.specs.Prelude.{◌&&◌, nat_lt}
use Rattle.std.proofs.lemmas.Bool.{le-ltb}
use Rattle.std.proofs.lemmas.List.{map-append}
use Rattle.partition.specs.NetFaults.{all_faults}
use Rattle.wirelist.specs.Canonical.{rows_of, net_row, ignore_rows, resistor_row, diode_row, insulation_rows, withstand_rows}
use Rattle.wirelist.specs.Clusters.{cluster_count}
use Rattle.wirelist.specs.Programs.{IsProgram, all_names}
use Rattle.wirelist.specs.declared.program.Program.{Program}
use Rattle.wirelist.specs.declared.program.Insulation as insulation
use Rattle.wirelist.specs.declared.program.Withstand as withstand
use Rattle.wirelist.specs.declared.parts.Resistor as resistor
use Rattle.wirelist.specs.declared.parts.Diode as diode
use Rattle.wirelist.specs.declared.refusal.WireRefusal.TheVariants as wire
use Rattle.wirelist_reader.specs.Rows.{field_at, is_kind, listed_nets, listed_ignored, ends_of, program_of}
use Rattle.wirelist_reader.specs.Refusals.{rows_refusals, all_row_faults, head_faults, net_faults, part_faults, cluster_faults, is_single, names_in}
use Rattle.wirelist_reader.specs.declared.kind.Kind.{Kind}
use Rattle.wirelist_reader.specs.declared.kind.Kind.TheVariants.{Part, Points, Net, Ignore, Resistor, Diode, Insulation, Withstand, Attempts}
use Rattle.wirelist_reader.proofs.Firsts.{none_in_both}
use Rattle.wirelist_reader.proofs.printed.PrintedLists.{map_same, zip_first}
use Rattle.wirelist_reader.proofs.printed.PrintedNets.{nets_none}
use Rattle.wirelist_reader.proofs.printed.PrintedKinds.{named_nets, named_rows, part_rows, points_rows, ignore_rows_are, insulation_rows_are, withstand_rows_are, attempts_rows, component_count}
use Rattle.wirelist_reader.proofs.printed.PrintedProgram.{rows_printed, printed_gives_back, points_are, listed_are, ignored_are}
use Rattle.wirelist_reader.proofs.printed.PrintedWhole.{IsWhole, rows_none, fault_none}
use Rattle.wirelist_reader.proofs.printed.PrintedParts.{parts_none}

ignored_few : (ps : List ℕ) → length (ignore_rows ps) ≤ 1
ignored_few [] = omega arith
ignored_few (p ∷ ps) = omega arith

insulation_few : (o : Option insulation.Insulation) → length (insulation_rows o) ≤ 1
insulation_few None = omega arith
insulation_few (Some i) = omega arith

withstand_few : (o : Option withstand.Withstand) → length (withstand_rows o) ≤ 1
withstand_few None = omega arith
withstand_few (Some w) = omega arith

module _ (p : Program) where
  single_once : (kind : Kind) → is_single kind ≡ true → length (filter (is_kind kind) (rows_of p)) ≤ 1
  single_once Part h = omega (arith, ap length (part_rows p))
  single_once Points h = omega (arith, ap length (points_rows p))
  single_once Net h = absurd (let e : false ≡ true = h in cc)
  single_once Ignore h = omega (arith, ap length (ignore_rows_are p), ignored_few p.nets.ignored)
  single_once Resistor h = absurd (let e : false ≡ true = h in cc)
  single_once Diode h = absurd (let e : false ≡ true = h in cc)
  single_once Insulation h = omega (arith, ap length (insulation_rows_are p), insulation_few p.insulation)
  single_once Withstand h = omega (arith, ap length (withstand_rows_are p), withstand_few p.withstand)
  single_once Attempts h = omega (arith, ap length (attempts_rows p))

  names_are : length p.names ≡ length p.nets.named → names_in (rows_of p) ≡ all_names p
  names_are one =
      let name : List (List ℕ) → List ℕ = λ row. field_at row 1 in
      let nets = map net_row (named_nets p) in
      let resistors = map resistor_row p.resistors in
      let diodes = map diode_row p.diodes in
      ap (map name) (named_rows p)
      ∙ map-append name nets (resistors ++ diodes)
      ∙ ap (λ rest. map name nets ++ rest) (map-append name resistors diodes)
      ∙ ap (λ front. front ++ (map name resistors ++ map name diodes)) (map_same net_row name (λ z. z.0) (λ z. refl) (named_nets p) ∙ zip_first p.names p.nets.named one)
      ∙ ap (λ middle. p.names ++ (middle ++ map name diodes)) (map_same resistor_row name (λ (r : resistor.Resistor). r.name) (λ r. refl) p.resistors)
      ∙ ap (λ last. p.names ++ (map (λ (r : resistor.Resistor). r.name) p.resistors ++ last)) (map_same diode_row name (λ (d : diode.Diode). d.name) (λ d. refl) p.diodes)

few_clusters : {A : Type 0} (o : Option A) (n : ℕ) → IfSome o (λ x. n ≤ 256) → (is_some o && nat_lt 256 n) ≡ false
few_clusters None n h = refl
few_clusters (Some x) n h = le-ltb 256 n h

module _ (p : Program) (ok : IsProgram p) where
  whole : IsWhole (rows_of p)
  whole =
      let few = ok.components.few in
      record {
        names = subst (AllPairs ◌≢◌) (sym (names_are p ok.one_each)) ok.distinct;
        single = single_once p;
        few = omega (arith, component_count p);
      }

  nets_are_none : net_faults (rows_of p) ≡ []
  nets_are_none =
      ap (map wire.Nets) (
      ap (λ n. all_faults n (listed_nets (rows_of p)) (listed_ignored (rows_of p))) (points_are p ok)
      ∙ ap (λ nets. all_faults p.nets.points nets (listed_ignored (rows_of p))) (listed_are p ok)
      ∙ ap (all_faults p.nets.points p.nets.named) (ignored_are p ok)
      ∙ nets_none p.nets ok.nets
      )

  parts_are_none : part_faults (program_of (rows_of p)).nets (ends_of (rows_of p)) ≡ []
  parts_are_none = ap (λ (q : Program). part_faults q.nets (ends_of (rows_of p))) (printed_gives_back p ok) ∙ parts_none p ok

  clusters_are_none : cluster_faults (program_of (rows_of p)) ≡ []
  clusters_are_none =
      ap cluster_faults (printed_gives_back p ok)
      ∙ fault_none (is_some p.insulation && nat_lt 256 (cluster_count p)) (wire.TooManyClusters (cluster_count p)) (few_clusters p.insulation (cluster_count p) ok.clusters)

  -- the rows are refused for nothing
  pub printed_has_no_fault : rows_refusals (rows_of p) ≡ []
  printed_has_no_fault =
      let rows = rows_of p in
      let parts = part_faults (program_of rows).nets (ends_of rows) in
      let clusters = cluster_faults (program_of rows) in
      none_in_both (all_row_faults rows) (head_faults rows ++ (net_faults rows ++ (parts ++ clusters))) (rows_none rows whole (rows_printed p ok))
      (none_in_both (head_faults rows) (net_faults rows ++ (parts ++ clusters)) refl
      (none_in_both (net_faults rows) (parts ++ clusters) nets_are_none (none_in_both parts clusters parts_are_none clusters_are_none)))
