use Rattle.std.proofs.Common.{arith}
use Rattle.difference.proofs.Judging.{measured_from}
use Rattle.difference.proofs.tests.is_measured.Goals as goal

pub returns : goal.returns
returns c = λ e. measured_from c.args.nets.now c.args.measured.now c.points.ensures.valid.partition c.loop-p.p (omega arith) c.loop-p.invariant
