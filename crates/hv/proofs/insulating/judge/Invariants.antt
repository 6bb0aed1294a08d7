use Rattle.std.proofs.Common.{◌≡◌, take}
use Rattle.hv.specs.Insulating.{AreStated, faults_from}
use Rattle.hv.proofs.insulating.judge.Given as goal

abbrev pub invariant-loop-i : goal.invariant-loop-i
invariant-loop-i l = record { faults : l.faults ≡ faults_from l.megohms 0 (take l.i l.leaks); stated : AreStated l.faults }
