-- The components of a program's text have no fault.
use Rattle.std.proofs.Common.{◌≡◌, ◌≢◌, inl, inr, ℕ, ◌+◌, ◌<◌, true, false, cond, List, [], ◌∷◌, ◌++◌, length, get_or, map, filter, All, AllPairs, refl, sym, ◌∙◌, ap, subst, arith, ne_eqb}
use Rattle.std.specs.Prelude.{◌==◌}
use Rattle.std.specs.List.{list_any}
use Rattle.std.specs.Fmt.{decimal}
use Rattle.std.proofs.lemmas.Bool.Decides.{Decides-and, Decides-or, Decides-eqb}
use Rattle.std.proofs.lemmas.List.{length-map, get_or-map}
use Rattle.std.proofs.lemmas.List.Elements.{All-cons, All-append, All-map, All-nil, All-tail}
use Rattle.std.proofs.lemmas.List.Folds.{list_any_none}
use Rattle.partition.specs.Classes.{points_below}
use Rattle.partition.specs.NetTable.{NetTable, net_at}
use Rattle.wirelist.specs.Canonical.{rows_of, resistor_row, diode_row}
use Rattle.wirelist.specs.Clusters.{IsJudged, component_links}
use Rattle.wirelist.specs.Programs.{IsProgram, SameLink}
use Rattle.wirelist.specs.declared.program.Program.{Program}
use Rattle.wirelist.specs.declared.refusal.WireRefusal.TheVariants as wire
use Rattle.wirelist_reader.specs.Kinds.{number}
use Rattle.wirelist_reader.specs.Reading.{LiesInside}
use Rattle.wirelist_reader.specs.Rows.{row_at, is_kind, number_at, rows_of_kind, ends_in, ends_of_kind, ends_of}
use Rattle.wirelist_reader.specs.Refusals.{fault_if, joins_same, component_faults, part_faults, no_ends}
use Rattle.wirelist_reader.specs.declared.parts.PartEnds.{PartEnds}
use Rattle.wirelist_reader.specs.declared.kind.Kind.{Kind}
use Rattle.wirelist_reader.specs.declared.kind.Kind.TheVariants.{Resistor, Diode}
use Rattle.wirelist_reader.proofs.Numbers.{and_both, not_true, number_decimal}
use Rattle.wirelist_reader.proofs.faultless.GivenLinks.{link_of, links_are}
use Rattle.wirelist_reader.proofs.printed.PrintedLists.{map_same, none_of_splits, places}
use Rattle.wirelist_reader.proofs.printed.PrintedNets.{All-split}
use Rattle.wirelist_reader.proofs.printed.PrintedKinds.{resistor_rows, diode_rows}
use Rattle.wirelist_reader.proofs.printed.PrintedProgram.{resistors_small, diodes_small, printed_gives_back}
use Rattle.wirelist_reader.proofs.printed.PrintedWhole.{pairs_before, fault_none}

-- ---- components of which none has a fault

module _ (t : NetTable) where
  joins_link : (x y : PartEnds) → joins_same t x y ≡ true → SameLink (link_of t x) (link_of t y)
  joins_link x y h =
      (Decides-or _ _
      (Decides-and _ _ (Decides-eqb (net_at t x.a) (net_at t y.a)) (Decides-eqb (net_at t x.b) (net_at t y.b)))
      (Decides-and _ _ (Decides-eqb (net_at t x.a) (net_at t y.b)) (Decides-eqb (net_at t x.b) (net_at t y.a)))).0 h

  turned : (x y : ℕ × ℕ) → SameLink x y → SameLink y x
  turned x y (inl e) = inl (sym e.0, sym e.1)
  turned x y (inr e) = inr (sym e.1, sym e.0)

  component_none : (before : List PartEnds) (part : PartEnds) → LiesInside t part → net_at t part.a ≢ net_at t part.b → list_any (joins_same t part) before ≡ false →
      component_faults t before part ≡ []
  component_none before part inside across apart =
      let own = fault_if (net_at t part.a == net_at t part.b) (wire.PartInsideNet part.record_number) in
      let other = fault_if (list_any (joins_same t part) before) (wire.SecondPart part.record_number) in
      ap (λ b. cond b (own ++ other) (wire.PartPoint part.record_number ∷ [])) (and_both _ _ inside.0 inside.1)
      ∙ ap (λ faults. faults ++ other) (fault_none (net_at t part.a == net_at t part.b) (wire.PartInsideNet part.record_number) (ne_eqb (net_at t part.a) (net_at t part.b) across))
      ∙ fault_none (list_any (joins_same t part) before) (wire.SecondPart part.record_number) apart

  components_none : (parts : List PartEnds) → All (LiesInside t) parts → All (λ (part : PartEnds). net_at t part.a ≢ net_at t part.b) parts →
      AllPairs (λ (x y : PartEnds). SameLink (link_of t x) (link_of t y) → ⊥) parts → part_faults t parts ≡ []
  components_none parts inside across apart =
      none_of_splits (λ (c : ℕ) (before : List PartEnds) (part : PartEnds). component_faults t before part) no_ends parts (λ before after part c e.
      let others = pairs_before (λ (x y : PartEnds). SameLink (link_of t x) (link_of t y) → ⊥) before after part (subst (AllPairs (λ (x y : PartEnds). SameLink (link_of t x) (link_of t y) → ⊥)) e apart) in
      component_none before part (All-split (LiesInside t) parts before after part e inside)
      (All-split (λ (x : PartEnds). net_at t x.a ≢ net_at t x.b) parts before after part e across)
      (list_any_none (joins_same t part) before (λ k d l.
      not_true (joins_same t part (get_or before k d)) (λ h. others k d l (turned (link_of t part) (link_of t (get_or before k d)) (joins_link part (get_or before k d) h))))))

-- ---- lists in another form

all_from_map : {X Y : Type 0} (P : Y → Type 0) (f : X → Y) (xs : List X) → All P (map f xs) → All (λ x. P (f x)) xs
all_from_map P f [] h = All-nil (λ x. P (f x))
all_from_map P f (x ∷ xs) h = All-cons (λ y. P (f y)) x xs (h 0 (f x) (omega arith)) (all_from_map P f xs (All-tail P (f x) (map f xs) h))

pairs_from_map : {X Y : Type 0} (R : Y → Y → Type 0) (f : X → Y) (xs : List X) → AllPairs R (map f xs) → AllPairs (λ x y. R (f x) (f y)) xs
pairs_from_map R f xs h i j d before l =
    subst (λ u. R u (f (get_or xs j d))) (get_or-map f xs i d (f d) (omega arith))
    (subst (λ u. R (get_or (map f xs) i (f d)) u) (get_or-map f xs j d (f d) l) (h i j (f d) before (omega (arith, length-map xs f))))

-- ---- the components of a program

-- the points at the ends
abbrev points_of : PartEnds → ℕ × ℕ
points_of part = (part.a, part.b)

abbrev row_points : List (List ℕ) → ℕ × ℕ
row_points row = (number_at row 2, number_at row 3)

kind_points : (kind : Kind) (rows : List (List (List ℕ))) → map points_of (ends_of_kind kind rows) ≡ map row_points (rows_of_kind kind rows)
kind_points kind rows =
    let there : List ℕ = filter (λ i. is_kind kind (row_at rows i)) (points_below (length rows)) in
    map_same (λ (i : ℕ). ends_in (i + 1) (row_at rows i)) points_of (λ i. row_points (row_at rows i)) (λ i. refl) there ∙ places (is_kind kind) row_points [] rows

abbrev BothJudged : NetTable → ℕ × ℕ → Type 0
BothJudged t z = IsJudged t z.0 × IsJudged t z.1

both_judged : (t : NetTable) (a b : ℕ) → a < 65536 → b < 65536 → IsJudged t a → IsJudged t b → BothJudged t (number (decimal a), number (decimal b))
both_judged t a b small_a small_b judged_a judged_b =
    (subst (IsJudged t) (sym (number_decimal a (omega arith))) judged_a, subst (IsJudged t) (sym (number_decimal b (omega arith))) judged_b)

module _ (p : Program) (ok : IsProgram p) where
  resistors_inside : All (λ part. BothJudged p.nets (points_of part)) (ends_of_kind Resistor (rows_of p))
  resistors_inside =
      all_from_map (BothJudged p.nets) points_of (ends_of_kind Resistor (rows_of p))
      (subst (All (BothJudged p.nets)) (sym (kind_points Resistor (rows_of p) ∙ ap (map row_points) (resistor_rows p)))
      (All-map (BothJudged p.nets) row_points (map resistor_row p.resistors)
      (All-map (λ row. BothJudged p.nets (row_points row)) resistor_row p.resistors (λ k d l.
      let small = resistors_small p ok k d l in
      let inside = ok.components.inside.resistors_in k d l in
      both_judged p.nets (get_or p.resistors k d).a (get_or p.resistors k d).b small.1.0 small.1.1 inside.0 inside.1))))

  diodes_inside : All (λ part. BothJudged p.nets (points_of part)) (ends_of_kind Diode (rows_of p))
  diodes_inside =
      all_from_map (BothJudged p.nets) points_of (ends_of_kind Diode (rows_of p))
      (subst (All (BothJudged p.nets)) (sym (kind_points Diode (rows_of p) ∙ ap (map row_points) (diode_rows p)))
      (All-map (BothJudged p.nets) row_points (map diode_row p.diodes)
      (All-map (λ row. BothJudged p.nets (row_points row)) diode_row p.diodes (λ k d l.
      let small = diodes_small p ok k d l in
      let inside = ok.components.inside.diodes_in k d l in
      both_judged p.nets (get_or p.diodes k d).from (get_or p.diodes k d).to small.1.0 small.1.1 inside.0 inside.1))))

  ends_inside : All (LiesInside p.nets) (ends_of (rows_of p))
  ends_inside = All-append (LiesInside p.nets) (ends_of_kind Resistor (rows_of p)) (ends_of_kind Diode (rows_of p)) resistors_inside diodes_inside

  links : map (link_of p.nets) (ends_of (rows_of p)) ≡ component_links p
  links = subst (λ (q : Program). map (link_of q.nets) (ends_of (rows_of p)) ≡ component_links q) (printed_gives_back p ok) (links_are (rows_of p))

  pub parts_none : part_faults p.nets (ends_of (rows_of p)) ≡ []
  parts_none =
      components_none p.nets (ends_of (rows_of p)) ends_inside
      (all_from_map (λ (link : ℕ × ℕ). link.0 ≢ link.1) (link_of p.nets) (ends_of (rows_of p)) (subst (All (λ (link : ℕ × ℕ). link.0 ≢ link.1)) (sym links) ok.components.across))
      (pairs_from_map (λ (x y : ℕ × ℕ). SameLink x y → ⊥) (link_of p.nets) (ends_of (rows_of p)) (subst (AllPairs (λ (x y : ℕ × ℕ). SameLink x y → ⊥)) (sym links) ok.components.apart))
