use Rattle.std.proofs.Common.{◌≡◌}
use Rattle.applications.proofs.one_application.Climbing.{Climbing}
use Rattle.applications.proofs.holding.climb.Given as goal

abbrev pub invariant-loop-i : goal.invariant-loop-i
invariant-loop-i g l = record { climbing : Climbing (g.R.Rig.state l.fn.live.rig) (g.R.Rig.state l.live.rig) l._i; partition : l.live.partition ≡ l.fn.live.partition; permit : l.live.permit ≡ l.fn.live.permit }
