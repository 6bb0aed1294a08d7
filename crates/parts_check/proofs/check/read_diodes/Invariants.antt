use Rattle.std.proofs.Common.{◌≡◌, take}
use Rattle.parts_check.specs.Turns.{ProbedDiodes}
use Rattle.parts_check.proofs.check.read_diodes.Given as goal

abbrev pub invariant-loop-i : goal.invariant-loop-i
invariant-loop-i g l = record {
  probed : ProbedDiodes (g.R.Rig.state l.fn.proven.rig) (g.R.Rig.state l.proven.rig) l.first (take l.i l.diodes) l.fn.faults l.faults;
  partition : l.proven.partition ≡ l.fn.proven.partition;
}
