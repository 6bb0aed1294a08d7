-- The faults are in the ranges of records.
use Rattle.std.proofs.Common.{◌≡◌, ℕ, ◌+◌, ◌<◌, ◌≤◌, true, false, nat_lt, List, length, Option, Some, None, sym, ap, subst, inl, inr, arith, length-append, if◌then◌else◌}
use Rattle.std.specs.Prelude.{All, IfSome}
use Rattle.std.specs.List.{enumerate_from}
use Rattle.std.proofs.lemmas.List.Elements.{All-get_or}
use Rattle.std.proofs.lemmas.List.FromFn.{length-enumerate_from}
use Rattle.partition.proofs.InTurn.{All-from_In, AllPairs-from_InTurn, InTurn, InTurn-append, InTurn-found, found-within, length-filter_map_le}
use Rattle.partition.proofs.Members.{In, In-append_cases, In-enumerate, In-filter_map_cases}
use Rattle.wirelist.specs.Ranges.{IsReading, KindInRange, PartFaultBefore, PartFaultInRange, PartFaultsInRange, most_parts}
use Rattle.wirelist.specs.declared.parts.Resistor.{Resistor}
use Rattle.wirelist.specs.declared.parts.Diode.{Diode}
use Rattle.wirelist.specs.declared.faults.PartFault.{PartFault}
use Rattle.wirelist.specs.declared.faults.PartFaultKind.{PartFaultKind}
use Rattle.wirelist.specs.declared.faults.PartFaultKind.TheVariants.{Low, High}
use Rattle.parts_check.specs.PartRule.{back_fault, diode_fault, numbered_fault, resistor_fault, window_fault}
use Rattle.parts_check.specs.Probed.{DiodeRead, Probed, ResistorRead, diode_faults, faults_of, resistor_faults}
use Rattle.parts_check.specs.Turns.{JunctionFits, OhmsFit}

-- ---- the readings

window-fits : (low high r : ℕ) → IsReading r → IfSome (window_fault low high r) KindInRange
window-fits low high r fit = elim (nat_lt r low) as (λ b. IfSome (if b then Some (Low r) else (if nat_lt high r then Some (High r) else None)) KindInRange) [
  | true ↦ fit
  | false ↦ elim (nat_lt high r) as (λ b. IfSome (if b then Some (High r) else None) KindInRange) [ true ↦ fit | false ↦ tt ]
]

resistor-fits : (part : Resistor) (o : Option ℕ) → IfSome o IsReading → IfSome (resistor_fault part o) KindInRange
resistor-fits part None fit = tt
resistor-fits part (Some r) fit = window-fits part.min part.max r fit

back-fits : (o : Option ℕ) → IfSome o IsReading → IfSome (back_fault o) KindInRange
back-fits None fit = tt
back-fits (Some d) fit = fit

diode-fits : (part : Diode) (f b : Option ℕ) → IfSome f IsReading → IfSome b IsReading → IfSome (diode_fault part f b) KindInRange
diode-fits part None None fit fits = tt
diode-fits part None (Some d) fit fits = fits
diode-fits part (Some d) b fit fits = elim (nat_lt d part.min) as (λ t. IfSome
    (if t then Some (Low d) else (if nat_lt part.max d then Some (High d) else back_fault b)) KindInRange) [
      | true ↦ fit
      | false ↦ elim (nat_lt part.max d) as (λ t. IfSome (if t then Some (High d) else back_fault b) KindInRange) [ true ↦ fit | false ↦ back-fits b fits ]
    ]

numbered-fits : (i : ℕ) (o : Option PartFaultKind) (fault : PartFault) → IfSome o KindInRange → numbered_fault i o ≡ Some fault → KindInRange fault.kind
numbered-fits i None fault fit is = absurd (let none : None ≡ Some fault = is in cc)
numbered-fits i (Some k) fault fit is =
    let same : record { part = i; kind = k } ≡ fault = cc in
    subst (λ (x : PartFault). KindInRange x.kind) same fit

number-of : (i : ℕ) (o : Option PartFaultKind) (fault : PartFault) → numbered_fault i o ≡ Some fault → fault.part ≡ i
number-of i None fault is = absurd (let none : None ≡ Some fault = is in cc)
number-of i (Some k) fault is =
    let same : record { part = i; kind = k } ≡ fault = cc in
    ap (λ (x : PartFault). x.part) (sym same)

-- ---- the faults of each kind

abbrev resistor_at : ℕ × ResistorRead → Option PartFault
resistor_at x = numbered_fault x.0 (resistor_fault x.1.part x.1.ohms)

abbrev diode_at : ℕ × DiodeRead → Option PartFault
diode_at x = numbered_fault x.0 (diode_fault x.1.part x.1.forward x.1.back)

abbrev number : PartFault → ℕ
number x = x.part

resistor-number : (x : ℕ × ResistorRead) (y : PartFault) → resistor_at x ≡ Some y → number y ≡ x.0
resistor-number x y is = number-of x.0 (resistor_fault x.1.part x.1.ohms) y is

diode-number : (x : ℕ × DiodeRead) (y : PartFault) → diode_at x ≡ Some y → number y ≡ x.0
diode-number x y is = number-of x.0 (diode_fault x.1.part x.1.forward x.1.back) y is

-- what holds of all holds of a numbered one
All-numbered : {X : Type 0} (P : X → Type 0) (n i : ℕ) (x : X) (xs : List X) → All P xs → In (i, x) (enumerate_from n xs) → P x
All-numbered P n i x xs all found =
    let k = In-enumerate n i x xs found in
    subst P (k.3 x) (All-get_or P xs k.0 x k.2 all)

resistors-in : (reads : List ResistorRead) → All OhmsFit reads → (y : PartFault) → In y (resistor_faults 0 reads) → (y.part < length reads) × KindInRange y.kind
resistors-in reads fits y i =
    let within = found-within resistor_at number resistor-number 0 reads y i in
    let from = In-filter_map_cases resistor_at y (enumerate_from 0 reads) i in
    let fit = All-numbered OhmsFit 0 (from.0).0 (from.0).1 reads fits from.1 in (
      omega (arith, within.1),
      numbered-fits (from.0).0 (resistor_fault (from.0).1.part (from.0).1.ohms) y
          (resistor-fits (from.0).1.part (from.0).1.ohms fit) from.2,
    )

diodes-in : (n : ℕ) (reads : List DiodeRead) → All JunctionFits reads → (y : PartFault) → In y (diode_faults n reads)
    → (n ≤ y.part) × (y.part < n + length reads) × KindInRange y.kind
diodes-in n reads fits y i =
    let within = found-within diode_at number diode-number n reads y i in
    let from = In-filter_map_cases diode_at y (enumerate_from n reads) i in
    let fit = All-numbered JunctionFits n (from.0).0 (from.0).1 reads fits from.1 in (
      within.0,
      within.1,
      numbered-fits (from.0).0 (diode_fault (from.0).1.part (from.0).1.forward (from.0).1.back) y
          (diode-fits (from.0).1.part (from.0).1.forward (from.0).1.back fit.0 fit.1) from.2,
    )

-- ---- all of them

module _ (probed : Probed) (few : length probed.resistors + length probed.diodes ≤ most_parts) (ohms : All OhmsFit probed.resistors)
    (drops : All JunctionFits probed.diodes) where
  each : (y : PartFault) → In y (faults_of probed) → PartFaultInRange y
  each y i = elim (In-append_cases y (resistor_faults 0 probed.resistors) (diode_faults (length probed.resistors) probed.diodes) i) as
      (λ _. PartFaultInRange y) [
        | inl l ↦ let found = resistors-in probed.resistors ohms y l in let within = found.0 in (omega arith, found.1)
        | inr r ↦ let found = diodes-in (length probed.resistors) probed.diodes drops y r in let within = found.1 in (omega arith, found.2)
      ]

  in_turn : InTurn PartFaultBefore (faults_of probed)
  in_turn =
      InTurn-append PartFaultBefore (resistor_faults 0 probed.resistors) (diode_faults (length probed.resistors) probed.diodes)
      (InTurn-found resistor_at number resistor-number 0 probed.resistors)
      (InTurn-found diode_at number diode-number (length probed.resistors) probed.diodes)
      (λ x y i j.
      let low = (resistors-in probed.resistors ohms x i).0 in
      let high = (diodes-in (length probed.resistors) probed.diodes drops y j).0 in
      omega arith)

  how_many : length (faults_of probed) ≤ length probed.resistors + length probed.diodes
  how_many =
      let both = length-append (resistor_faults 0 probed.resistors) (diode_faults (length probed.resistors) probed.diodes) in
      let one = length-filter_map_le resistor_at (enumerate_from 0 probed.resistors) in
      let other = length-filter_map_le diode_at (enumerate_from (length probed.resistors) probed.diodes) in
      let rs = length-enumerate_from 0 probed.resistors in
      let ds = length-enumerate_from (length probed.resistors) probed.diodes in
      omega arith

  pub faults-in_range : 0 < length (faults_of probed) → PartFaultsInRange (faults_of probed)
  faults-in_range some = (
    omega arith,
    (let many = how_many in omega arith),
    All-from_In PartFaultInRange (faults_of probed) each,
    AllPairs-from_InTurn PartFaultBefore (faults_of probed) in_turn,
  )
