use Rattle.std.proofs.Common.{take}
use Rattle.std.specs.Prelude.{zip}
use Rattle.continuity_check.specs.Compared.{compared_of}
use Rattle.continuity_check.specs.Trials.{empty_sheet}
use Rattle.continuity_check.proofs.Checking.{Checking}
use Rattle.continuity_check.proofs.check.check_nets.Given as goal

abbrev pub invariant-loop-i : goal.invariant-loop-i
invariant-loop-i g l = Checking (g.R.Rig.state l.fn.seat) (g.R.Rig.state l.seat) empty_sheet l.sheet (compared_of (take l.i (zip l.names l.nets.named)))
