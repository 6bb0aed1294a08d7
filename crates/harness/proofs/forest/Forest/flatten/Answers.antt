use Rattle.std.proofs.Common.{arith}
use Rattle.harness.proofs.Trees.{flat_end}
use Rattle.harness.proofs.forest.Forest.flatten.Goals as goal

pub returns : goal.returns
returns c = flat_end c.args.self.now.parents.items c.loop-point.self.parents.items c.loop-point.point (let s = c.loop-point.invariant.size in omega arith) c.loop-point.invariant
