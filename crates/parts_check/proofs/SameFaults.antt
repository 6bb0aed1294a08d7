-- The faults of readings are those that the rule gives of the same numbers, wherever these come from.
use Rattle.std.proofs.Common.{◌≡◌, ℕ, ◌+◌, List, [], ◌∷◌, ◌++◌, map, length, Option, refl, sym, ◌∙◌, ap, inl, inr}
use Rattle.std.specs.List.{cons_option, enumerate_from, filter_map}
use Rattle.std.proofs.lemmas.List.{length-map}
use Rattle.partition.proofs.Members.{In}
use Rattle.wirelist.specs.declared.program.Program.{Program}
use Rattle.wirelist.specs.declared.parts.Resistor.{Resistor}
use Rattle.wirelist.specs.declared.parts.Diode.{Diode}
use Rattle.wirelist.specs.declared.faults.PartFault.{PartFault}
use Rattle.parts_check.specs.PartRule.{diode_fault, numbered_fault, part_faults_by, resistor_fault}
use Rattle.parts_check.specs.Probed.{DiodeRead, Probed, ResistorRead, diode_faults, faults_of, resistor_faults}

module _ (ohms junction : ℕ → ℕ → Option ℕ) where
  abbrev resistor_by : ℕ × Resistor → Option PartFault
  resistor_by x = numbered_fault x.0 (resistor_fault x.1 (ohms x.1.a x.1.b))

  abbrev diode_by : ℕ × Diode → Option PartFault
  diode_by x = numbered_fault x.0 (diode_fault x.1 (junction x.1.from x.1.to) (junction x.1.to x.1.from))

  same_resistors : (n : ℕ) (reads : List ResistorRead) → ((x : ResistorRead) → In x reads → ohms x.part.a x.part.b ≡ x.ohms)
      → filter_map resistor_by (enumerate_from n (map (λ (x : ResistorRead). x.part) reads)) ≡ resistor_faults n reads
  same_resistors n [] same = refl
  same_resistors n (x ∷ xs) same =
      ap (λ (o : Option ℕ). cons_option (numbered_fault n (resistor_fault x.part o))
      (filter_map resistor_by (enumerate_from (n + 1) (map (λ (y : ResistorRead). y.part) xs)))) (same x (inl refl))
      ∙ ap (λ (fs : List PartFault). cons_option (numbered_fault n (resistor_fault x.part x.ohms)) fs) (same_resistors (n + 1) xs (λ y i. same y (inr i)))

  same_diodes : (n : ℕ) (reads : List DiodeRead)
      → ((x : DiodeRead) → In x reads → (junction x.part.from x.part.to ≡ x.forward) × (junction x.part.to x.part.from ≡ x.back))
      → filter_map diode_by (enumerate_from n (map (λ (x : DiodeRead). x.part) reads)) ≡ diode_faults n reads
  same_diodes n [] same = refl
  same_diodes n (x ∷ xs) same =
      let here = same x (inl refl) in
      let rest = filter_map diode_by (enumerate_from (n + 1) (map (λ (y : DiodeRead). y.part) xs)) in
      ap (λ (o : Option ℕ). cons_option (numbered_fault n (diode_fault x.part o (junction x.part.to x.part.from))) rest) here.0
      ∙ ap (λ (o : Option ℕ). cons_option (numbered_fault n (diode_fault x.part x.forward o)) rest) here.1
      ∙ ap (λ (fs : List PartFault). cons_option (numbered_fault n (diode_fault x.part x.forward x.back)) fs) (same_diodes (n + 1) xs (λ y i. same y (inr i)))

  pub same_faults : (p : Program) (probed : Probed) → map (λ (x : ResistorRead). x.part) probed.resistors ≡ p.resistors
      → map (λ (x : DiodeRead). x.part) probed.diodes ≡ p.diodes
      → ((x : ResistorRead) → In x probed.resistors → ohms x.part.a x.part.b ≡ x.ohms)
      → ((x : DiodeRead) → In x probed.diodes → (junction x.part.from x.part.to ≡ x.forward) × (junction x.part.to x.part.from ≡ x.back))
      → part_faults_by p ohms junction ≡ faults_of probed
  same_faults p probed resistors diodes ohms_are drops_are =
      let rs = probed.resistors in
      let ds = probed.diodes in
      let in_all : List Resistor → List Diode → List PartFault = λ xs ys. filter_map resistor_by (enumerate_from 0 xs) ++ filter_map diode_by
      (enumerate_from (length xs) ys) in
      ap (λ (xs : List Resistor). in_all xs p.diodes) (sym resistors)
      ∙ ap (λ (ys : List Diode). in_all (map (λ (x : ResistorRead). x.part) rs) ys) (sym diodes)
      ∙ ap (λ (fs : List PartFault). fs ++ filter_map diode_by (enumerate_from (length (map (λ (x : ResistorRead). x.part) rs))
      (map (λ (x : DiodeRead). x.part) ds))) (same_resistors 0 rs ohms_are)
      ∙ ap (λ (n : ℕ). resistor_faults 0 rs ++ filter_map diode_by (enumerate_from n (map (λ (x : DiodeRead). x.part) ds)))
      (length-map rs (λ (x : ResistorRead). x.part))
      ∙ ap (λ (fs : List PartFault). resistor_faults 0 rs ++ fs) (same_diodes (length rs) ds drops_are)
