use Rattle.std.proofs.Common.{◌≡◌, take}
use Rattle.parts_check.specs.Turns.{ProbedResistors}
use Rattle.parts_check.proofs.check.read_resistors.Given as goal

abbrev pub invariant-loop-i : goal.invariant-loop-i
invariant-loop-i g l = record {
  probed : ProbedResistors (g.R.Rig.state l.fn.proven.rig) (g.R.Rig.state l.proven.rig) (take l.i l.resistors) l.fn.faults l.faults;
  partition : l.proven.partition ≡ l.fn.proven.partition;
}
