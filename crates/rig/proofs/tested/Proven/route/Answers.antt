use Rattle.std.proofs.Common.{ap, sym, ◌∙◌, subst}
use Rattle.rig.specs.Calls.{Permits}
use Rattle.rig.specs.States.{IsProven}
use Rattle.rig.proofs.Down.{route-live, route-refused}
use Rattle.rig.proofs.tested.Proven.route.Goals as goal

pub invariant_of-result : goal.invariant_of-result
invariant_of-result g c =
    let rig = sym (c.into_rig-rig.ensures.rig ∙ c.into_parts-seat.ensures.rig) in
    route-live c.in-Ok.ensures c.into_rig-rig.ensures.seating
    (subst (λ p. IsProven (g.R.Rig.state c.into_rig-rig.result) p) (sym c.into_parts-seat.ensures.partition) (subst (λ r. IsProven (g.R.Rig.state r) c.args.self.partition) rig c.into_parts-seat.ensures.proven))
    (subst (λ r. Permits (g.R.Rig.state r) c.args.permit (record { left = c.args.a.now; right = c.args.b.now })) rig c.requires.permitted)

pub returns-in-Ok-clause-zero : goal.returns-in-Ok-clause-zero
returns-in-Ok-clause-zero g c = ap (λ s. s.volts) c.in-Ok.ensures.ok ∙ c.into_rig-rig.ensures.seating.unpowered

pub around-requires : goal.around-requires
around-requires g c = route-refused c.in-Err-Failed.ensures c.into_rig-rig.ensures.seating

pub around-requires-in-Err-Memory : goal.around-requires-in-Err-Memory
around-requires-in-Err-Memory g c = route-refused c.in-Err-Memory.ensures c.into_rig-rig.ensures.seating
