use Rattle.std.proofs.Common.{arith}
use Rattle.std.proofs.lemmas.List.{get_or_read}
use Rattle.learn.proofs.Placing.{increasing_low}
use Rattle.learn.proofs.place.place_of.Goals as goal

pub overflow_cast-result : goal.overflow_cast-result
overflow_cast-result c =
    let low = increasing_low c.args.list.now c.requires.ascending c.loop-i.i c.loop-i-test.true in
    let here = get_or_read c.args.list.now c.loop-i.i c.index-list-i.result c.loop-i-test.true c.index-list-i.is 0 in
    omega (arith, low, here)
