use Rattle.std.proofs.Common.{arith, ap, length}
use Rattle.std.proofs.lemmas.List.Sums.{sum_by_more_le, sum_by-take-le}
use Rattle.difference.specs.declared.wiring.Piece.{Piece}
use Rattle.records.proofs.Orders.{pieces_few}
use Rattle.records.proofs.wiring.points_of.Goals as goal

pub overflow_add-points : goal.overflow_add-points
overflow_add-points c =
    let size = λ (x : Piece). length x.points in
    let more = sum_by_more_le size c.args.pieces.now c.loop-piece.piece-index c.piece-item.result c.loop-piece-test.true in
    let few = pieces_few c.args.pieces.now c.requires in
    let same = ap size c.piece-item.is in
    omega (arith, c.len.ensures, c.loop-piece.invariant)

pub returns-clause-few : goal.returns-clause-few
returns-clause-few c =
    let size = λ (x : Piece). length x.points in
    let less = sum_by-take-le size c.args.pieces.now c.loop-piece.piece-index in
    let few = pieces_few c.args.pieces.now c.requires in
    omega (arith, c.loop-piece.invariant)
