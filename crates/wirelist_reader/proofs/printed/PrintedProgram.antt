-- The rows of a program's text give the program back, and none has empty fields at its end.
use Rattle.std.proofs.Common.{◌≡◌, ℕ, ◌<◌, ◌≤◌, List, [], ◌∷◌, ◌++◌, length, get_or, map, drop, zip, All, Option, None, Some, option_map, slice_get, IfSome, refl, sym, ◌∙◌, ap, arith}
use Rattle.std.specs.Fmt.{decimal}
use Rattle.std.proofs.lemmas.List.Elements.{All-cons, All-append, All-map, All-nil, All-tail}
use Rattle.std.proofs.lemmas.List.Folds.{map_fixed}
use Rattle.partition.specs.Names.{IsName}
use Rattle.partition.specs.NetTable.{NetTable, IsNetTable, judged_points}
use Rattle.partition.specs.NetFaults.{table_of}
use Rattle.partition.proofs.Members.{In-has}
use Rattle.partition.proofs.tables.NetLaws.{Contains-In, index-In, judged-below}
use Rattle.wirelist.specs.Canonical.{rows_of, part_row, points_row, net_row, ignore_row, ignore_rows, resistor_row, diode_row, insulation_row, withstand_row, attempts_row, insulation_rows, withstand_rows}
use Rattle.wirelist.specs.Programs.{IsProgram, IsResistor, IsDiode, IsInsulation, IsWithstand}
use Rattle.wirelist.specs.declared.program.Program.{Program}
use Rattle.wirelist.specs.declared.program.Insulation as insulation
use Rattle.wirelist.specs.declared.program.Withstand as withstand
use Rattle.wirelist.specs.declared.parts.Resistor as resistor
use Rattle.wirelist.specs.declared.parts.Diode as diode
use Rattle.wirelist_rows.specs.Filled.{filled}
use Rattle.wirelist_reader.specs.Kinds.{number}
use Rattle.wirelist_reader.specs.Rows.{field_at, row_at, rows_of_kind, listed_nets, listed_ignored, points_in, program_of, resistor_of, diode_of, insulation_of, withstand_of, attempts_of}
use Rattle.wirelist_reader.specs.declared.kind.Kind.{Kind}
use Rattle.wirelist_reader.specs.declared.kind.Kind.TheVariants.{Part, Points, Net, Ignore, Resistor, Diode, Insulation, Withstand, Attempts}
use Rattle.wirelist_reader.proofs.Numbers.{number_decimal}
use Rattle.wirelist_reader.proofs.printed.PrintedLists.{map_back, map_same, zip_first, zip_second}
use Rattle.wirelist_reader.proofs.printed.PrintedRows.{IsPrinted, filled_plain, part_printed, points_printed, net_printed, ignore_printed, resistor_printed, diode_printed, insulation_printed, withstand_printed, attempts_printed}
use Rattle.wirelist_reader.proofs.printed.PrintedNets.{table_back}
use Rattle.wirelist_reader.proofs.printed.PrintedKinds.{named_nets, later_rows, net_rows, ignore_rows_are, resistor_rows, diode_rows, insulation_rows_are, withstand_rows_are, attempts_rows}

-- ---- the parts of a program, printed and read

resistor_back : (r : resistor.Resistor) → IsResistor r → r.a < 65536 → r.b < 65536 → resistor_of (resistor_row r) ≡ r
resistor_back r h a b =
    let window = h.window in
    let high = h.high in
    let make : ℕ → ℕ → ℕ → ℕ → resistor.Resistor = λ w x y z. record { name = r.name; a = w; b = x; min = y; max = z } in
    ap (λ n. make n (number (decimal r.b)) (number (decimal r.min)) (number (decimal r.max))) (number_decimal r.a (omega arith))
    ∙ ap (λ n. make r.a n (number (decimal r.min)) (number (decimal r.max))) (number_decimal r.b (omega arith))
    ∙ ap (λ n. make r.a r.b n (number (decimal r.max))) (number_decimal r.min (omega arith))
    ∙ ap (λ n. make r.a r.b r.min n) (number_decimal r.max (omega arith))

diode_back : (d : diode.Diode) → IsDiode d → d.from < 65536 → d.to < 65536 → diode_of (diode_row d) ≡ d
diode_back d h a b =
    let window = h.window in
    let high = h.high in
    let make : ℕ → ℕ → ℕ → ℕ → diode.Diode = λ w x y z. record { name = d.name; from = w; to = x; min = y; max = z } in
    ap (λ n. make n (number (decimal d.to)) (number (decimal d.min)) (number (decimal d.max))) (number_decimal d.from (omega arith))
    ∙ ap (λ n. make d.from n (number (decimal d.min)) (number (decimal d.max))) (number_decimal d.to (omega arith))
    ∙ ap (λ n. make d.from d.to n (number (decimal d.max))) (number_decimal d.min (omega arith))
    ∙ ap (λ n. make d.from d.to d.min n) (number_decimal d.max (omega arith))

insulation_back : (o : Option insulation.Insulation) → IfSome o IsInsulation → option_map insulation_of (slice_get (insulation_rows o) 0) ≡ o
insulation_back None h = refl
insulation_back (Some i) h =
    let volts = h.volts.1 in
    let ticks = h.ticks.1 in
    let megohms = h.megohms.1 in
    let make : ℕ → ℕ → ℕ → insulation.Insulation = λ x y z. record { volts = x; ticks = y; megohms = z } in
    ap Some (
    ap (λ n. make n (number (decimal i.ticks)) (number (decimal i.megohms))) (number_decimal i.volts (omega arith))
    ∙ ap (λ n. make i.volts n (number (decimal i.megohms))) (number_decimal i.ticks (omega arith))
    ∙ ap (λ n. make i.volts i.ticks n) (number_decimal i.megohms (omega arith))
    )

withstand_back : (o : Option withstand.Withstand) → IfSome o IsWithstand → option_map withstand_of (slice_get (withstand_rows o) 0) ≡ o
withstand_back None h = refl
withstand_back (Some w) h =
    let volts = h.volts.1 in
    let ticks = h.ticks.1 in
    let nanoamps = h.nanoamps.1 in
    let make : ℕ → ℕ → ℕ → withstand.Withstand = λ x y z. record { volts = x; ticks = y; nanoamps = z } in
    ap Some (
    ap (λ n. make n (number (decimal w.ticks)) (number (decimal w.nanoamps))) (number_decimal w.volts (omega arith))
    ∙ ap (λ n. make w.volts n (number (decimal w.nanoamps))) (number_decimal w.ticks (omega arith))
    ∙ ap (λ n. make w.volts w.ticks n) (number_decimal w.nanoamps (omega arith))
    )

points_back : (ps : List ℕ) → All (λ q. q < 65536) ps → map number (map decimal ps) ≡ ps
points_back ps small = map_back decimal number ps (λ k d l. let s = small k d l in number_decimal (get_or ps k d) (omega arith))

nets_back : (names nets : List (List ℕ)) → length names ≡ length nets → All (λ net. All (λ q. q < 65536) net) nets →
    map (λ row. map number (drop 2 row)) (map net_row (zip names nets)) ≡ nets
nets_back names nets one small =
    map_same net_row (λ row. map number (drop 2 row)) (λ z. map number (map decimal z.1)) (λ z. refl) (zip names nets)
    ∙ sym (map_same (λ (z : List ℕ × List ℕ). z.1) (λ net. map number (map decimal net)) (λ z. map number (map decimal z.1)) (λ z. refl) (zip names nets))
    ∙ ap (map (λ net. map number (map decimal net))) (zip_second names nets one)
    ∙ map_fixed (λ net. map number (map decimal net)) nets (λ k d l. points_back (get_or nets k d) (small k d l))

-- the ignored points, printed and read
ignored_back : (ps : List ℕ) → All (λ q. q < 65536) ps → map number (drop 1 (row_at (ignore_rows ps) 0)) ≡ ps
ignored_back [] small = refl
ignored_back (p ∷ ps) small = points_back (p ∷ ps) small

-- ---- the program

program_same : (make : List ℕ → ℕ → NetTable → List (List ℕ) → List resistor.Resistor → List diode.Diode → Option insulation.Insulation → Option withstand.Withstand → ℕ → Program)
    (a k : List ℕ) (b l : ℕ) (c m : NetTable) (d n : List (List ℕ)) (e o : List resistor.Resistor) (f q : List diode.Diode) (g r : Option insulation.Insulation) (h s : Option withstand.Withstand) (i t : ℕ) →
    a ≡ k → b ≡ l → c ≡ m → d ≡ n → e ≡ o → f ≡ q → g ≡ r → h ≡ s → i ≡ t → make a b c d e f g h i ≡ make k l m n o q r s t
program_same make a k b l c m d n e o f q g r h s i t ha hb hc hd he hf hg hh hi = cc

module _ (p : Program) (ok : IsProgram p) where
  few : p.nets.points ≤ 4096
  few = ok.points

  pub small_nets : All (λ net. All (λ q. q < 65536) net) p.nets.named
  small_nets k d l j e m =
      let inside = judged-below p.nets _ (In-has _ (judged_points p.nets) (Contains-In _ (judged_points p.nets) (ok.nets.in_range k d l j e m))) in
      let size = few in
      omega arith

  pub small_ignored : All (λ q. q < 65536) p.nets.ignored
  small_ignored k d l = let inside = ok.nets.ignored_in_range k d l in let size = few in omega arith

  pub listed_are : listed_nets (rows_of p) ≡ p.nets.named
  listed_are = ap (map (λ row. map number (drop 2 row))) (net_rows p) ∙ nets_back p.names p.nets.named ok.one_each small_nets

  pub points_are : points_in (rows_of p) ≡ p.nets.points
  points_are = let size = few in number_decimal p.nets.points (omega arith)

  pub ignored_are : listed_ignored (rows_of p) ≡ p.nets.ignored
  ignored_are = ap (λ rows. map number (drop 1 (row_at rows 0))) (ignore_rows_are p) ∙ ignored_back p.nets.ignored small_ignored

  nets_are : table_of (points_in (rows_of p)) (listed_nets (rows_of p)) (listed_ignored (rows_of p)) ≡ p.nets
  nets_are =
      ap (λ n. table_of n (listed_nets (rows_of p)) (listed_ignored (rows_of p))) points_are
      ∙ ap (λ nets. table_of p.nets.points nets (listed_ignored (rows_of p))) listed_are
      ∙ ap (table_of p.nets.points p.nets.named) ignored_are
      ∙ table_back p.nets ok.nets

  names_are : map (λ row. field_at row 1) (rows_of_kind Net (rows_of p)) ≡ p.names
  names_are =
      ap (map (λ row. field_at row 1)) (net_rows p)
      ∙ map_same net_row (λ row. field_at row 1) (λ z. z.0) (λ z. refl) (named_nets p)
      ∙ zip_first p.names p.nets.named ok.one_each

  pub resistors_small : All (λ (r : resistor.Resistor). IsResistor r × ((r.a < 65536) × (r.b < 65536))) p.resistors
  resistors_small k d l =
      let inside = ok.components.inside.resistors_in k d l in
      let a = judged-below p.nets (get_or p.resistors k d).a inside.0 in
      let b = judged-below p.nets (get_or p.resistors k d).b inside.1 in
      let size = few in
      (ok.components.resistors k d l, (omega arith, omega arith))

  pub diodes_small : All (λ (x : diode.Diode). IsDiode x × ((x.from < 65536) × (x.to < 65536))) p.diodes
  diodes_small k d l =
      let inside = ok.components.inside.diodes_in k d l in
      let a = judged-below p.nets (get_or p.diodes k d).from inside.0 in
      let b = judged-below p.nets (get_or p.diodes k d).to inside.1 in
      let size = few in
      (ok.components.diodes k d l, (omega arith, omega arith))

  resistors_are : map resistor_of (rows_of_kind Resistor (rows_of p)) ≡ p.resistors
  resistors_are =
      ap (map resistor_of) (resistor_rows p)
      ∙ map_back resistor_row resistor_of p.resistors (λ k d l. let h = resistors_small k d l in resistor_back (get_or p.resistors k d) h.0 h.1.0 h.1.1)

  diodes_are : map diode_of (rows_of_kind Diode (rows_of p)) ≡ p.diodes
  diodes_are =
      ap (map diode_of) (diode_rows p)
      ∙ map_back diode_row diode_of p.diodes (λ k d l. let h = diodes_small k d l in diode_back (get_or p.diodes k d) h.0 h.1.0 h.1.1)

  revision_is : number (decimal p.revision) ≡ p.revision
  revision_is = let high = ok.revision.1 in number_decimal p.revision (omega arith)

  attempts_are : attempts_of (slice_get (rows_of_kind Attempts (rows_of p)) 0) ≡ p.attempts
  attempts_are = let high = ok.attempts.1 in ap (λ rows. attempts_of (slice_get rows 0)) (attempts_rows p) ∙ number_decimal p.attempts (omega arith)

  -- what the rows say is the program
  pub printed_gives_back : program_of (rows_of p) ≡ p
  printed_gives_back =
      program_same (λ a b c d e f g h i. record { part = a; revision = b; nets = c; names = d; resistors = e; diodes = f; insulation = g; withstand = h; attempts = i })
      p.part p.part (number (decimal p.revision)) p.revision
      (table_of (points_in (rows_of p)) (listed_nets (rows_of p)) (listed_ignored (rows_of p))) p.nets
      (map (λ row. field_at row 1) (rows_of_kind Net (rows_of p))) p.names
      (map resistor_of (rows_of_kind Resistor (rows_of p))) p.resistors
      (map diode_of (rows_of_kind Diode (rows_of p))) p.diodes
      (option_map insulation_of (slice_get (rows_of_kind Insulation (rows_of p)) 0)) p.insulation
      (option_map withstand_of (slice_get (rows_of_kind Withstand (rows_of p)) 0)) p.withstand
      (attempts_of (slice_get (rows_of_kind Attempts (rows_of p)) 0)) p.attempts
      refl revision_is nets_are names_are resistors_are diodes_are
      (ap (λ rows. option_map insulation_of (slice_get rows 0)) (insulation_rows_are p) ∙ insulation_back p.insulation ok.insulation)
      (ap (λ rows. option_map withstand_of (slice_get rows 0)) (withstand_rows_are p) ∙ withstand_back p.withstand ok.withstand)
      attempts_are

-- ---- each row by itself

zip_all : {A B : Type 0} (P : A → Type 0) (Q : B → Type 0) (xs : List A) (ys : List B) → All P xs → All Q ys → All (λ (z : A × B). P z.0 × Q z.1) (zip xs ys)
zip_all P Q [] ys h k = All-nil (λ z. P z.0 × Q z.1)
zip_all P Q (x ∷ xs) [] h k = All-nil (λ z. P z.0 × Q z.1)
zip_all P Q (x ∷ xs) (y ∷ ys) h k =
    All-cons (λ z. P z.0 × Q z.1) (x, y) (zip xs ys) (h 0 x (omega arith), k 0 y (omega arith)) (zip_all P Q xs ys (All-tail P x xs h) (All-tail Q y ys k))

seven_all : {X : Type 0} (P : X → Type 0) (a b c d e f g : List X) → All P a → All P b → All P c → All P d → All P e → All P f → All P g → All P (a ++ (b ++ (c ++ (d ++ (e ++ (f ++ g))))))
seven_all P a b c d e f g ha hb hc hd he hf hg =
    All-append P a (b ++ (c ++ (d ++ (e ++ (f ++ g))))) ha
    (All-append P b (c ++ (d ++ (e ++ (f ++ g)))) hb
    (All-append P c (d ++ (e ++ (f ++ g))) hc (All-append P d (e ++ (f ++ g)) hd (All-append P e (f ++ g) he (All-append P f g hf hg)))))

-- a row of some kind
abbrev pub IsOfSomeKind : List (List ℕ) → Type 0
IsOfSomeKind row = (kind : Kind) × IsPrinted kind row

ignored_all : (ps : List ℕ) → All (λ q. q < 65536) ps → All IsOfSomeKind (ignore_rows ps)
ignored_all [] small = All-nil IsOfSomeKind
ignored_all (p ∷ ps) small = All-cons IsOfSomeKind (ignore_row (p ∷ ps)) [] (Ignore, ignore_printed p ps small) (All-nil IsOfSomeKind)

insulation_all : (o : Option insulation.Insulation) → IfSome o IsInsulation → All IsOfSomeKind (insulation_rows o)
insulation_all None h = All-nil IsOfSomeKind
insulation_all (Some i) h = All-cons IsOfSomeKind (insulation_row i) [] (Insulation, insulation_printed i h) (All-nil IsOfSomeKind)

withstand_all : (o : Option withstand.Withstand) → IfSome o IsWithstand → All IsOfSomeKind (withstand_rows o)
withstand_all None h = All-nil IsOfSomeKind
withstand_all (Some w) h = All-cons IsOfSomeKind (withstand_row w) [] (Withstand, withstand_printed w h) (All-nil IsOfSomeKind)

some_below : (t : NetTable) → IsNetTable t → 0 < t.points
some_below t ok = let inside = judged-below t (get_or (judged_points t) 0 0) (In-has _ (judged_points t) (index-In 0 0 (judged_points t) ok.some_point)) in omega arith

module _ (p : Program) (ok : IsProgram p) where
  nets_all : All IsOfSomeKind (map net_row (named_nets p))
  nets_all =
      let both = zip_all IsName (λ net. All (λ q. q < 65536) net) p.names p.nets.named ok.names (small_nets p ok) in
      All-map IsOfSomeKind net_row (named_nets p) (λ k d l. let h = both k d l in (Net, net_printed (get_or (named_nets p) k d) h.0 h.1))

  resistors_all : All IsOfSomeKind (map resistor_row p.resistors)
  resistors_all =
      All-map IsOfSomeKind resistor_row p.resistors (λ k d l. let h = resistors_small p ok k d l in (Resistor, resistor_printed (get_or p.resistors k d) h.0 h.1.0 h.1.1))

  diodes_all : All IsOfSomeKind (map diode_row p.diodes)
  diodes_all = All-map IsOfSomeKind diode_row p.diodes (λ k d l. let h = diodes_small p ok k d l in (Diode, diode_printed (get_or p.diodes k d) h.0 h.1.0 h.1.1))

  pub rows_printed : All IsOfSomeKind (rows_of p)
  rows_printed =
      let some : 0 < p.nets.points = some_below p.nets ok.nets in
      let points = points_row p.nets.points in
      let later = later_rows p in
      let all : All IsOfSomeKind later =
      seven_all IsOfSomeKind (map net_row (named_nets p)) (ignore_rows p.nets.ignored) (map resistor_row p.resistors) (map diode_row p.diodes) (insulation_rows p.insulation) (withstand_rows p.withstand)
      (attempts_row p.attempts ∷ [])
      nets_all (ignored_all p.nets.ignored (small_ignored p ok)) resistors_all diodes_all (insulation_all p.insulation ok.insulation) (withstand_all p.withstand ok.withstand)
      (All-cons IsOfSomeKind (attempts_row p.attempts) [] (Attempts, attempts_printed p.attempts ok.attempts) (All-nil IsOfSomeKind)) in
      All-cons IsOfSomeKind (part_row p.part p.revision) (points ∷ later) (Part, part_printed p.part p.revision ok.part ok.revision)
      (All-cons IsOfSomeKind points later (Points, points_printed p.nets.points (omega arith) ok.points) all)

  -- the rows are as they are without the empty fields at their ends
  pub printed_is_filled : map filled (rows_of p) ≡ rows_of p
  printed_is_filled = map_fixed filled (rows_of p) (λ k d l. filled_plain (get_or (rows_of p) k d) (rows_printed k d l).1.plain)
