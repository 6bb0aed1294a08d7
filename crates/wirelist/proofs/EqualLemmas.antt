-- What `==` of components says.
use Rattle.std.proofs.Common.{◌≡◌, ℕ, List, ap, ◌∙◌}
use Rattle.std.specs.Bool.{Decides}
use Rattle.std.proofs.lemmas.Bool.Decides.{Decides-and, Decides-like, Decides-eqb}
use Rattle.std.proofs.lemmas.Slice.Eq.{bytes_eq-Decides}
use Rattle.wirelist.specs.declared.parts.Resistor.{Resistor}
use Rattle.wirelist.specs.declared.parts.Diode.{Diode}
use Rattle.wirelist.specs.contracts.parts.ResistorPartialEq.TheImpl as resistor
use Rattle.wirelist.specs.contracts.parts.DiodePartialEq.TheImpl as diode

-- components with equal fields are equal
resistor_same : (a b : Resistor) → (a.name ≡ b.name) × ((a.a ≡ b.a) × ((a.b ≡ b.b) × ((a.min ≡ b.min) × (a.max ≡ b.max)))) → a ≡ b
resistor_same a b e =
    let to_name : List ℕ → Resistor = λ x. record { name = x; a = a.a; b = a.b; min = a.min; max = a.max } in
    let to_a : ℕ → Resistor = λ x. record { name = b.name; a = x; b = a.b; min = a.min; max = a.max } in
    let to_b : ℕ → Resistor = λ x. record { name = b.name; a = b.a; b = x; min = a.min; max = a.max } in
    let to_min : ℕ → Resistor = λ x. record { name = b.name; a = b.a; b = b.b; min = x; max = a.max } in
    let to_max : ℕ → Resistor = λ x. record { name = b.name; a = b.a; b = b.b; min = b.min; max = x } in
    ap to_name e.0 ∙ ap to_a e.1.0 ∙ ap to_b e.1.1.0 ∙ ap to_min e.1.1.1.0 ∙ ap to_max e.1.1.1.1

diode_same : (a b : Diode) → (a.name ≡ b.name) × ((a.from ≡ b.from) × ((a.to ≡ b.to) × ((a.min ≡ b.min) × (a.max ≡ b.max)))) → a ≡ b
diode_same a b e =
    let to_name : List ℕ → Diode = λ x. record { name = x; from = a.from; to = a.to; min = a.min; max = a.max } in
    let to_from : ℕ → Diode = λ x. record { name = b.name; from = x; to = a.to; min = a.min; max = a.max } in
    let to_to : ℕ → Diode = λ x. record { name = b.name; from = b.from; to = x; min = a.min; max = a.max } in
    let to_min : ℕ → Diode = λ x. record { name = b.name; from = b.from; to = b.to; min = x; max = a.max } in
    let to_max : ℕ → Diode = λ x. record { name = b.name; from = b.from; to = b.to; min = b.min; max = x } in
    ap to_name e.0 ∙ ap to_from e.1.0 ∙ ap to_to e.1.1.0 ∙ ap to_min e.1.1.1.0 ∙ ap to_max e.1.1.1.1

pub resistor_decides : (a b : Resistor) → Decides (resistor.eq-value.it a b) (a ≡ b)
resistor_decides a b =
    Decides-like (resistor.eq-value.it a b) (resistor_same a b) (λ e. (ap (λ (r : Resistor). r.name) e, (ap (λ (r : Resistor). r.a) e, (ap (λ (r : Resistor). r.b) e, (ap (λ (r : Resistor). r.min) e, ap (λ (r : Resistor). r.max) e)))))
    (Decides-and _ _ (bytes_eq-Decides a.name b.name) (Decides-and _ _ (Decides-eqb a.a b.a) (Decides-and _ _ (Decides-eqb a.b b.b) (Decides-and _ _ (Decides-eqb a.min b.min) (Decides-eqb a.max b.max)))))

pub diode_decides : (a b : Diode) → Decides (diode.eq-value.it a b) (a ≡ b)
diode_decides a b =
    Decides-like (diode.eq-value.it a b) (diode_same a b) (λ e. (ap (λ (r : Diode). r.name) e, (ap (λ (r : Diode). r.from) e, (ap (λ (r : Diode). r.to) e, (ap (λ (r : Diode). r.min) e, ap (λ (r : Diode). r.max) e)))))
    (Decides-and _ _ (bytes_eq-Decides a.name b.name) (Decides-and _ _ (Decides-eqb a.from b.from) (Decides-and _ _ (Decides-eqb a.to b.to) (Decides-and _ _ (Decides-eqb a.min b.min) (Decides-eqb a.max b.max)))))
