use Rattle.std.proofs.Common.{◌≤◌, ◌+◌, subst}
use Rattle.rig_sim.specs.Counters.{Counted, IsNext, numbers_to}
use Rattle.rig_sim.proofs.Numbers.{next_kept, next_more}
use Rattle.rig_sim.proofs.counter.Counter.count.Goals as goal

pub returns-clause-kept : goal.returns-clause-kept
returns-clause-kept c =
    subst (λ (k : Counted). numbers_to k.count k.listed ≤ numbers_to c.saturating_add-self-inside.result k.listed) c.self.view_is
    (next_kept c.self.inside.listed c.self.inside.count c.saturating_add-self-inside.result c.self.invariant.fits c.saturating_add-self-inside.ensures)

pub returns-clause-next : goal.returns-clause-next
returns-clause-next c =
    subst (λ (k : Counted). IsNext k → numbers_to k.count k.listed + 1 ≤ numbers_to c.saturating_add-self-inside.result k.listed) c.self.view_is
    (next_more c.self.inside.listed c.self.inside.count c.saturating_add-self-inside.result c.self.invariant.small c.saturating_add-self-inside.ensures)
