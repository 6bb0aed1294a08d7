use Rattle.std.proofs.Common.{ap, arith, subst, Ok}
use Rattle.rig.specs.Calls.{ReadsInterlock}
use Rattle.rig.proofs.CallEvents.{can-raise, live-interlock}
use Rattle.rig.proofs.Down.{live-after_failure, live-after_no_memory, live-after_raise, steps-failed, steps-no_memory}
use Rattle.rig.proofs.powered.Live.step.Goals as goal

pub invariant_of-self : goal.invariant_of-self
invariant_of-self g c = live-interlock c.interlock.result c.interlock.ensures c.self.invariant

pub invariant_of-self-in-Err-Failed : goal.invariant_of-self-in-Err-Failed
invariant_of-self-in-Err-Failed g c = live-interlock c.interlock.result c.interlock.ensures c.self.invariant

pub invariant_of-self-in-Err-Memory : goal.invariant_of-self-in-Err-Memory
invariant_of-self-in-Err-Memory g c = live-interlock c.interlock.result c.interlock.ensures c.self.invariant

pub raise-requires : goal.raise-requires
raise-requires g c =
    let volts = ap (λ v. (g.R.Rig.state v.rig).volts) c.self.view_is in
    let low = c.requires in
    can-raise (subst (λ b. ReadsInterlock (g.R.Rig.state c.self.inside.rig) (g.R.Rig.state c.interlock.new.self) (Ok b)) c.in-Ok-true.field-0-test c.in-Ok-true.ensures) (omega arith) c.self.invariant

pub invariant_of-self-in-Ok : goal.invariant_of-self-in-Ok
invariant_of-self-in-Ok g c =
    let volts = ap (λ v. (g.R.Rig.state v.rig).volts) c.self.view_is in
    let low = c.requires in
    live-after_raise (subst (λ b. ReadsInterlock (g.R.Rig.state c.self.inside.rig) (g.R.Rig.state c.interlock.new.self) (Ok b)) c.in-Ok-true.field-0-test c.in-Ok-true.ensures) (omega arith) c.self.invariant c.in-Ok.ensures

pub invariant_of-self-in-Err-Failed-raise : goal.invariant_of-self-in-Err-Failed-raise
invariant_of-self-in-Err-Failed-raise g c =
    let volts = ap (λ v. (g.R.Rig.state v.rig).volts) c.self.view_is in
    let low = c.requires in
    live-after_failure (subst (λ b. ReadsInterlock (g.R.Rig.state c.self.inside.rig) (g.R.Rig.state c.interlock.new.self) (Ok b)) c.in-Ok-true.field-0-test c.in-Ok-true.ensures) (omega arith) c.self.invariant (rw c.in-Err-Failed-raise.field-0-is at c.in-Err-Failed-raise.ensures)

pub invariant_of-self-in-Err-Memory-raise : goal.invariant_of-self-in-Err-Memory-raise
invariant_of-self-in-Err-Memory-raise g c =
    let volts = ap (λ v. (g.R.Rig.state v.rig).volts) c.self.view_is in
    let low = c.requires in
    live-after_no_memory (subst (λ b. ReadsInterlock (g.R.Rig.state c.self.inside.rig) (g.R.Rig.state c.interlock.new.self) (Ok b)) c.in-Ok-true.field-0-test c.in-Ok-true.ensures) (omega arith) c.self.invariant (rw c.in-Err-Memory-raise.field-0-is at c.in-Err-Memory-raise.ensures)

pub returns-in-Err-Failed-raise-clause-steps : goal.returns-in-Err-Failed-raise-clause-steps
returns-in-Err-Failed-raise-clause-steps g c =
    rw (← c.self.view_is) (steps-failed c.self.invariant.1 (subst (λ b. ReadsInterlock (g.R.Rig.state c.self.inside.rig) (g.R.Rig.state c.interlock.new.self) (Ok b)) c.in-Ok-true.field-0-test c.in-Ok-true.ensures) (rw c.in-Err-Failed-raise.field-0-is at c.in-Err-Failed-raise.ensures))

pub returns-in-Err-Memory-raise-clause-steps : goal.returns-in-Err-Memory-raise-clause-steps
returns-in-Err-Memory-raise-clause-steps g c =
    rw (← c.self.view_is) (steps-no_memory c.self.inside.volts (subst (λ b. ReadsInterlock (g.R.Rig.state c.self.inside.rig) (g.R.Rig.state c.interlock.new.self) (Ok b)) c.in-Ok-true.field-0-test c.in-Ok-true.ensures) (rw c.in-Err-Memory-raise.field-0-is at c.in-Err-Memory-raise.ensures))
