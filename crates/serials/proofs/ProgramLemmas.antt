-- Two programs are equal in all parts exactly where they are equal.
use Rattle.std.proofs.Common.{◌≡◌, ℕ, Bool, true, false, ◌↔◌, IsTrue, List, Option, None, Some, refl, sym, ap}
use Rattle.std.specs.Bool.{Decides}
use Rattle.std.proofs.lemmas.Bool.Decides.{Decides-and, Decides-like, Decides-eqb}
use Rattle.std.proofs.lemmas.Slice.Eq.{bytes_eq-Decides, slice_eq-Decides}
use Rattle.partition.specs.NetTable.{NetTable}
use Rattle.wirelist.specs.declared.program.Program.{Program}
use Rattle.wirelist.specs.declared.program.Insulation.{Insulation}
use Rattle.wirelist.specs.declared.program.Withstand.{Withstand}
use Rattle.wirelist.specs.declared.parts.Resistor.{Resistor}
use Rattle.wirelist.specs.declared.parts.Diode.{Diode}
use Rattle.serials.specs.SamePrograms.{same_lists, same_nets, same_resistor, same_diode, same_insulation, same_withstand, same_program}

same_lists-Decides : (xs ys : List (List ℕ)) → Decides (same_lists xs ys) (xs ≡ ys)
same_lists-Decides xs ys = slice_eq-Decides bytes_eq-Decides xs ys (same_lists xs ys) refl

same_nets-Decides : (s t : NetTable) → Decides (same_nets s t) (s ≡ t)
same_nets-Decides s t =
    Decides-like (same_nets s t) (λ e. λ i. record { points = e.0 i; named = e.1.0 i; ignored = e.1.1 i })
    (λ e. (ap (λ (n : NetTable). n.points) e, (ap (λ (n : NetTable). n.named) e, ap (λ (n : NetTable). n.ignored) e)))
    (Decides-and _ _ (Decides-eqb s.points t.points) (Decides-and _ _ (same_lists-Decides s.named t.named) (bytes_eq-Decides s.ignored t.ignored)))

same_resistor-Decides : (r s : Resistor) → Decides (same_resistor r s) (r ≡ s)
same_resistor-Decides r s =
    Decides-like (same_resistor r s)
    (λ e. λ i. record { name = e.0 i; a = e.1.0 i; b = e.1.1.0 i; min = e.1.1.1.0 i; max = e.1.1.1.1 i })
    (λ e. (ap (λ (x : Resistor). x.name) e, (ap (λ (x : Resistor). x.a) e, (ap (λ (x : Resistor). x.b) e, (ap (λ (x : Resistor). x.min) e, ap (λ (x : Resistor). x.max) e)))))
    (Decides-and _ _ (bytes_eq-Decides r.name s.name) (Decides-and _ _ (Decides-eqb r.a s.a) (Decides-and _ _ (Decides-eqb r.b s.b) (Decides-and _ _ (Decides-eqb r.min s.min) (Decides-eqb r.max s.max)))))

same_diode-Decides : (d e : Diode) → Decides (same_diode d e) (d ≡ e)
same_diode-Decides d e =
    Decides-like (same_diode d e)
    (λ h. λ i. record { name = h.0 i; from = h.1.0 i; to = h.1.1.0 i; min = h.1.1.1.0 i; max = h.1.1.1.1 i })
    (λ h. (ap (λ (x : Diode). x.name) h, (ap (λ (x : Diode). x.from) h, (ap (λ (x : Diode). x.to) h, (ap (λ (x : Diode). x.min) h, ap (λ (x : Diode). x.max) h)))))
    (Decides-and _ _ (bytes_eq-Decides d.name e.name) (Decides-and _ _ (Decides-eqb d.from e.from) (Decides-and _ _ (Decides-eqb d.to e.to) (Decides-and _ _ (Decides-eqb d.min e.min) (Decides-eqb d.max e.max)))))

an_insulation : Insulation → Option Insulation → Insulation
an_insulation d None = d
an_insulation d (Some i) = i

same_insulation-Decides : (o p : Option Insulation) → Decides (same_insulation o p) (o ≡ p)
unfolding an_insulation
same_insulation-Decides None None = (λ e. refl, λ e. refl)
same_insulation-Decides None (Some j) = (λ e. absurd cc, λ e. absurd cc)
same_insulation-Decides (Some i) None = (λ e. absurd cc, λ e. absurd cc)
same_insulation-Decides (Some x) (Some y) =
    Decides-like (same_insulation (Some x) (Some y))
    (λ e. λ i. Some (record { volts = e.0 i; ticks = e.1.0 i; megohms = e.1.1 i }))
    (λ e. let same = ap (an_insulation x) e in (ap (λ (v : Insulation). v.volts) same, (ap (λ (v : Insulation). v.ticks) same, ap (λ (v : Insulation). v.megohms) same)))
    (Decides-and _ _ (Decides-eqb x.volts y.volts) (Decides-and _ _ (Decides-eqb x.ticks y.ticks) (Decides-eqb x.megohms y.megohms)))

a_withstand : Withstand → Option Withstand → Withstand
a_withstand d None = d
a_withstand d (Some w) = w

same_withstand-Decides : (o p : Option Withstand) → Decides (same_withstand o p) (o ≡ p)
unfolding a_withstand
same_withstand-Decides None None = (λ e. refl, λ e. refl)
same_withstand-Decides None (Some j) = (λ e. absurd cc, λ e. absurd cc)
same_withstand-Decides (Some i) None = (λ e. absurd cc, λ e. absurd cc)
same_withstand-Decides (Some x) (Some y) =
    Decides-like (same_withstand (Some x) (Some y))
    (λ e. λ i. Some (record { volts = e.0 i; ticks = e.1.0 i; nanoamps = e.1.1 i }))
    (λ e. let same = ap (a_withstand x) e in (ap (λ (v : Withstand). v.volts) same, (ap (λ (v : Withstand). v.ticks) same, ap (λ (v : Withstand). v.nanoamps) same)))
    (Decides-and _ _ (Decides-eqb x.volts y.volts) (Decides-and _ _ (Decides-eqb x.ticks y.ticks) (Decides-eqb x.nanoamps y.nanoamps)))

pub same_program-Decides : (p q : Program) → Decides (same_program p q) (p ≡ q)
unfolding same_program
same_program-Decides p q =
    Decides-like (same_program p q)
    (λ e. λ i. record {
      part = e.0 i;
      revision = e.1.0 i;
      nets = e.1.1.0 i;
      names = e.1.1.1.0 i;
      resistors = e.1.1.1.1.0 i;
      diodes = e.1.1.1.1.1.0 i;
      insulation = e.1.1.1.1.1.1.0 i;
      withstand = e.1.1.1.1.1.1.1.0 i;
      attempts = e.1.1.1.1.1.1.1.1 i;
    })
    (λ e. (ap (λ (x : Program). x.part) e, (ap (λ (x : Program). x.revision) e, (ap (λ (x : Program). x.nets) e, (ap (λ (x : Program). x.names) e, (ap (λ (x : Program). x.resistors) e, (ap (λ (x : Program). x.diodes) e, (ap (λ (x : Program). x.insulation) e, (ap (λ (x : Program). x.withstand) e, ap (λ (x : Program). x.attempts) e)))))))))
    (Decides-and _ _ (bytes_eq-Decides p.part q.part)
    (Decides-and _ _ (Decides-eqb p.revision q.revision)
    (Decides-and _ _ (same_nets-Decides p.nets q.nets)
    (Decides-and _ _ (same_lists-Decides p.names q.names)
    (Decides-and _ _ (slice_eq-Decides same_resistor-Decides p.resistors q.resistors _ refl)
    (Decides-and _ _ (slice_eq-Decides same_diode-Decides p.diodes q.diodes _ refl)
    (Decides-and _ _ (same_insulation-Decides p.insulation q.insulation)
    (Decides-and _ _ (same_withstand-Decides p.withstand q.withstand) (Decides-eqb p.attempts q.attempts)))))))))

-- a test that tells whether two programs are equal
pub tells_programs : (p q : Program) (r s : Bool) → IsTrue r ↔ (q ≡ p) → Decides s (p ≡ q) → r ≡ s
tells_programs p q true true h d = refl
tells_programs p q true false h d = let is = d.1 (sym (h.0 refl)) in cc
tells_programs p q false true h d = let is = h.1 (sym (d.0 refl)) in absurd cc
tells_programs p q false false h d = refl
