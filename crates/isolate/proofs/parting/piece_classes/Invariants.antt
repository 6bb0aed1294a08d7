use Rattle.partition.specs.NetTable.{programmed_of}
use Rattle.isolate.proofs.Splitting.{Splitting}
use Rattle.isolate.proofs.parting.piece_classes.Given as goal

abbrev pub invariant-loop-i : goal.invariant-loop-i
invariant-loop-i g l = Splitting (g.R.Rig.state l.fn.seat) (g.R.Rig.state l.seat) (programmed_of l.nets) l.pieces l.heads l.i
