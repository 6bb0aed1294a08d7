-- The rows of each kind among the rows of a program's text.
use Rattle.std.proofs.Common.{◌≡◌, ℕ, ◌+◌, Bool, true, false, cond, List, [], ◌∷◌, ◌++◌, length, map, filter, zip, Option, None, Some, refl, ◌∙◌, ap, arith, length-append}
use Rattle.std.proofs.lemmas.List.{append-nil, length-map}
use Rattle.wirelist.specs.Canonical.{rows_of, part_row, points_row, net_row, ignore_row, ignore_rows, resistor_row, diode_row, insulation_row, withstand_row, attempts_row, insulation_rows, withstand_rows}
use Rattle.wirelist.specs.declared.program.Program.{Program}
use Rattle.wirelist.specs.declared.program.Insulation as insulation
use Rattle.wirelist.specs.declared.program.Withstand as withstand
use Rattle.wirelist.specs.declared.parts.Resistor as resistor
use Rattle.wirelist.specs.declared.parts.Diode as diode
use Rattle.wirelist_reader.specs.Rows.{is_kind, is_named, is_component, rows_of_kind}
use Rattle.wirelist_reader.specs.declared.kind.Kind.TheVariants.{Part, Points, Net, Ignore, Resistor, Diode, Insulation, Withstand, Attempts}
use Rattle.wirelist_reader.proofs.printed.PrintedLists.{filter_all, filter_none, filter_seven}

-- the names of the nets with their points
abbrev pub named_nets : Program → List (List ℕ × List ℕ)
named_nets p = zip p.names p.nets.named

-- all of some rows, or none
abbrev pub chosen : Bool → List (List (List ℕ)) → List (List (List ℕ))
chosen b rows = cond b rows []

module _ (t : List (List ℕ) → Bool) where
  chosen_all : {A : Type 0} (f : A → List (List ℕ)) (b : Bool) → ((x : A) → t (f x) ≡ b) → (xs : List A) → filter t (map f xs) ≡ chosen b (map f xs)
  chosen_all f true tells xs = filter_all t f tells xs
  chosen_all f false tells xs = filter_none t f tells xs

  chosen_one : (row : List (List ℕ)) (b : Bool) → t row ≡ b → filter t (row ∷ []) ≡ chosen b (row ∷ [])
  chosen_one row b tells = ap (λ c. cond c (row ∷ []) []) tells

  chosen_nil : (b : Bool) → [] ≡ chosen b []
  chosen_nil true = refl
  chosen_nil false = refl

  chosen_ignored : (b : Bool) → ((ps : List ℕ) → t (ignore_row ps) ≡ b) → (ps : List ℕ) → filter t (ignore_rows ps) ≡ chosen b (ignore_rows ps)
  chosen_ignored b tells [] = chosen_nil b
  chosen_ignored b tells (p ∷ ps) = chosen_one (ignore_row (p ∷ ps)) b (tells (p ∷ ps))

  chosen_insulation : (b : Bool) → ((i : insulation.Insulation) → t (insulation_row i) ≡ b) → (o : Option insulation.Insulation) → filter t (insulation_rows o) ≡ chosen b (insulation_rows o)
  chosen_insulation b tells None = chosen_nil b
  chosen_insulation b tells (Some i) = chosen_one (insulation_row i) b (tells i)

  chosen_withstand : (b : Bool) → ((w : withstand.Withstand) → t (withstand_row w) ≡ b) → (o : Option withstand.Withstand) → filter t (withstand_rows o) ≡ chosen b (withstand_rows o)
  chosen_withstand b tells None = chosen_nil b
  chosen_withstand b tells (Some w) = chosen_one (withstand_row w) b (tells w)

-- the rows behind the first two
abbrev pub later_rows : Program → List (List (List ℕ))
later_rows p =
    map net_row (named_nets p)
    ++ (ignore_rows p.nets.ignored
    ++ (map resistor_row p.resistors ++ (map diode_row p.diodes ++ (insulation_rows p.insulation ++ (withstand_rows p.withstand ++ (attempts_row p.attempts ∷ []))))))

seven_same : {X : Type 0} (a b c d e f g k l m n o q r : List X) → a ≡ k → b ≡ l → c ≡ m → d ≡ n → e ≡ o → f ≡ q → g ≡ r
    → a ++ (b ++ (c ++ (d ++ (e ++ (f ++ g))))) ≡ k ++ (l ++ (m ++ (n ++ (o ++ (q ++ r)))))
seven_same a b c d e f g k l m n o q r ha hb hc hd he hf hg = cc

-- what a test says of the rows of each kind
pub record Tells (t : List (List ℕ) → Bool) (nets ignored resistors diodes of_insulation of_withstand attempts : Bool) : Type 0 where
  pub on_nets : (z : List ℕ × List ℕ) → t (net_row z) ≡ nets
  pub on_ignored : (ps : List ℕ) → t (ignore_row ps) ≡ ignored
  pub on_resistors : (r : resistor.Resistor) → t (resistor_row r) ≡ resistors
  pub on_diodes : (d : diode.Diode) → t (diode_row d) ≡ diodes
  pub on_insulation : (i : insulation.Insulation) → t (insulation_row i) ≡ of_insulation
  pub on_withstand : (w : withstand.Withstand) → t (withstand_row w) ≡ of_withstand
  pub on_attempts : (n : ℕ) → t (attempts_row n) ≡ attempts

pub filtered : (t : List (List ℕ) → Bool) (n g r d i w a : Bool) → Tells t n g r d i w a → (p : Program) →
    filter t (later_rows p)
    ≡ chosen n (map net_row (named_nets p))
    ++ (chosen g (ignore_rows p.nets.ignored)
    ++ (chosen r (map resistor_row p.resistors) ++ (chosen d (map diode_row p.diodes) ++ (chosen i (insulation_rows p.insulation) ++ (chosen w (withstand_rows p.withstand) ++ chosen a (attempts_row p.attempts ∷ []))))))
filtered t n g r d i w a tells p =
    filter_seven t (map net_row (named_nets p)) (ignore_rows p.nets.ignored) (map resistor_row p.resistors) (map diode_row p.diodes) (insulation_rows p.insulation) (withstand_rows p.withstand)
    (attempts_row p.attempts ∷ [])
    ∙ seven_same _ _ _ _ _ _ _ _ _ _ _ _ _ _
    (chosen_all t net_row n tells.on_nets (named_nets p))
    (chosen_ignored t g tells.on_ignored p.nets.ignored)
    (chosen_all t resistor_row r tells.on_resistors p.resistors)
    (chosen_all t diode_row d tells.on_diodes p.diodes)
    (chosen_insulation t i tells.on_insulation p.insulation)
    (chosen_withstand t w tells.on_withstand p.withstand)
    (chosen_one t (attempts_row p.attempts) a (tells.on_attempts p.attempts))

on_part : Tells (is_kind Part) false false false false false false false
on_part = record { on_nets = λ z. refl; on_ignored = λ ps. refl; on_resistors = λ r. refl; on_diodes = λ d. refl; on_insulation = λ i. refl; on_withstand = λ w. refl; on_attempts = λ n. refl }

on_points : Tells (is_kind Points) false false false false false false false
on_points = record { on_nets = λ z. refl; on_ignored = λ ps. refl; on_resistors = λ r. refl; on_diodes = λ d. refl; on_insulation = λ i. refl; on_withstand = λ w. refl; on_attempts = λ n. refl }

on_net : Tells (is_kind Net) true false false false false false false
on_net = record { on_nets = λ z. refl; on_ignored = λ ps. refl; on_resistors = λ r. refl; on_diodes = λ d. refl; on_insulation = λ i. refl; on_withstand = λ w. refl; on_attempts = λ n. refl }

on_ignore : Tells (is_kind Ignore) false true false false false false false
on_ignore = record { on_nets = λ z. refl; on_ignored = λ ps. refl; on_resistors = λ r. refl; on_diodes = λ d. refl; on_insulation = λ i. refl; on_withstand = λ w. refl; on_attempts = λ n. refl }

on_resistor : Tells (is_kind Resistor) false false true false false false false
on_resistor = record { on_nets = λ z. refl; on_ignored = λ ps. refl; on_resistors = λ r. refl; on_diodes = λ d. refl; on_insulation = λ i. refl; on_withstand = λ w. refl; on_attempts = λ n. refl }

on_diode : Tells (is_kind Diode) false false false true false false false
on_diode = record { on_nets = λ z. refl; on_ignored = λ ps. refl; on_resistors = λ r. refl; on_diodes = λ d. refl; on_insulation = λ i. refl; on_withstand = λ w. refl; on_attempts = λ n. refl }

on_insulation : Tells (is_kind Insulation) false false false false true false false
on_insulation = record { on_nets = λ z. refl; on_ignored = λ ps. refl; on_resistors = λ r. refl; on_diodes = λ d. refl; on_insulation = λ i. refl; on_withstand = λ w. refl; on_attempts = λ n. refl }

on_withstand : Tells (is_kind Withstand) false false false false false true false
on_withstand = record { on_nets = λ z. refl; on_ignored = λ ps. refl; on_resistors = λ r. refl; on_diodes = λ d. refl; on_insulation = λ i. refl; on_withstand = λ w. refl; on_attempts = λ n. refl }

on_attempts : Tells (is_kind Attempts) false false false false false false true
on_attempts = record { on_nets = λ z. refl; on_ignored = λ ps. refl; on_resistors = λ r. refl; on_diodes = λ d. refl; on_insulation = λ i. refl; on_withstand = λ w. refl; on_attempts = λ n. refl }

on_named : Tells is_named true false true true false false false
on_named = record { on_nets = λ z. refl; on_ignored = λ ps. refl; on_resistors = λ r. refl; on_diodes = λ d. refl; on_insulation = λ i. refl; on_withstand = λ w. refl; on_attempts = λ n. refl }

on_component : Tells is_component false false true true false false false
on_component = record { on_nets = λ z. refl; on_ignored = λ ps. refl; on_resistors = λ r. refl; on_diodes = λ d. refl; on_insulation = λ i. refl; on_withstand = λ w. refl; on_attempts = λ n. refl }

module _ (p : Program) where
  pub part_rows : rows_of_kind Part (rows_of p) ≡ part_row p.part p.revision ∷ []
  part_rows = ap (λ rows. part_row p.part p.revision ∷ rows) (filtered (is_kind Part) false false false false false false false on_part p)

  pub points_rows : rows_of_kind Points (rows_of p) ≡ points_row p.nets.points ∷ []
  points_rows = ap (λ rows. points_row p.nets.points ∷ rows) (filtered (is_kind Points) false false false false false false false on_points p)

  pub net_rows : rows_of_kind Net (rows_of p) ≡ map net_row (named_nets p)
  net_rows = filtered (is_kind Net) true false false false false false false on_net p ∙ append-nil (map net_row (named_nets p))

  pub ignore_rows_are : rows_of_kind Ignore (rows_of p) ≡ ignore_rows p.nets.ignored
  ignore_rows_are = filtered (is_kind Ignore) false true false false false false false on_ignore p ∙ append-nil (ignore_rows p.nets.ignored)

  pub resistor_rows : rows_of_kind Resistor (rows_of p) ≡ map resistor_row p.resistors
  resistor_rows = filtered (is_kind Resistor) false false true false false false false on_resistor p ∙ append-nil (map resistor_row p.resistors)

  pub diode_rows : rows_of_kind Diode (rows_of p) ≡ map diode_row p.diodes
  diode_rows = filtered (is_kind Diode) false false false true false false false on_diode p ∙ append-nil (map diode_row p.diodes)

  pub insulation_rows_are : rows_of_kind Insulation (rows_of p) ≡ insulation_rows p.insulation
  insulation_rows_are = filtered (is_kind Insulation) false false false false true false false on_insulation p ∙ append-nil (insulation_rows p.insulation)

  pub withstand_rows_are : rows_of_kind Withstand (rows_of p) ≡ withstand_rows p.withstand
  withstand_rows_are = filtered (is_kind Withstand) false false false false false true false on_withstand p ∙ append-nil (withstand_rows p.withstand)

  pub attempts_rows : rows_of_kind Attempts (rows_of p) ≡ attempts_row p.attempts ∷ []
  attempts_rows = filtered (is_kind Attempts) false false false false false false true on_attempts p

  pub named_rows : filter is_named (rows_of p) ≡ map net_row (named_nets p) ++ (map resistor_row p.resistors ++ map diode_row p.diodes)
  named_rows =
      filtered is_named true false true true false false false on_named p
      ∙ ap (λ rows. map net_row (named_nets p) ++ (map resistor_row p.resistors ++ rows)) (append-nil (map diode_row p.diodes))

  pub component_rows : filter is_component (rows_of p) ≡ map resistor_row p.resistors ++ map diode_row p.diodes
  component_rows =
      filtered is_component false false true true false false false on_component p ∙ ap (λ rows. map resistor_row p.resistors ++ rows) (append-nil (map diode_row p.diodes))

  pub component_count : length (filter is_component (rows_of p)) ≡ length p.resistors + length p.diodes
  component_count =
      ap length component_rows
      ∙ omega (arith, length-append (map resistor_row p.resistors) (map diode_row p.diodes), length-map p.resistors resistor_row, length-map p.diodes diode_row)
