use Rattle.std.proofs.Common.{◌≡◌, take}
use Rattle.applications.specs.Each.{StoodAll}
use Rattle.applications.proofs.standing_each.stand_in_order.Given as goal

abbrev pub invariant-loop-i : goal.invariant-loop-i
invariant-loop-i g l = record { stood : StoodAll l.bonds (g.R.Rig.state l.fn.proven.rig) (g.R.Rig.state l.proven.rig) (take l.i l.pairs) l.test; partition : l.proven.partition ≡ l.fn.proven.partition }
