use Rattle.std.proofs.Common.{arith}
use Rattle.records.proofs.Orders.{short_few}
use Rattle.records.proofs.wiring.ShortItem.write.Goals as goal

pub write_counted-requires-clause-few : goal.write_counted-requires-clause-few
write_counted-requires-clause-few c = rw c.as_slice.ensures (let few = short_few c.args.self.now c.requires in omega arith)
