use Rattle.std.proofs.Common.{◌≡◌}
use Rattle.applications.proofs.one_application.Climbing.{Dwelling}
use Rattle.applications.proofs.holding.dwell.Given as goal

abbrev pub invariant-loop-i : goal.invariant-loop-i
invariant-loop-i g l = record { dwelling : Dwelling (g.R.Rig.state l.fn.live.rig) (g.R.Rig.state l.live.rig) l._i; partition : l.live.partition ≡ l.fn.live.partition; permit : l.live.permit ≡ l.fn.live.permit }
