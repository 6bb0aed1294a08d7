use Rattle.std.proofs.Common.{◌≡◌}
use Rattle.applications.specs.Enduring.{Stayed}
use Rattle.applications.proofs.enduring.stay.Given as goal

abbrev pub invariant-loop-i : goal.invariant-loop-i
invariant-loop-i g l = record { stayed : Stayed (g.R.Rig.state l.fn.live.rig) (g.R.Rig.state l.live.rig) l.volts l._i l.nanoamps; partition : l.live.partition ≡ l.fn.live.partition; permit : l.live.permit ≡ l.fn.live.permit }
