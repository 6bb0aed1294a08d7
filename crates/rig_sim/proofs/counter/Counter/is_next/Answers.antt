use Rattle.std.proofs.Common.{subst}
use Rattle.std.specs.Prelude.{IsTrue, ◌↔◌}
use Rattle.rig_sim.specs.Counters.{Counted, IsNext}
use Rattle.rig_sim.proofs.Numbers.{next_listed}
use Rattle.rig_sim.proofs.counter.Counter.is_next.Goals as goal

pub returns : goal.returns
returns c =
    subst (λ (k : Counted). IsTrue c.contains.result ↔ IsNext k) c.self.view_is
    (next_listed c.self.inside.listed c.self.inside.count c.saturating_add.result c.contains.result c.self.invariant.small c.saturating_add.ensures c.contains.ensures)
