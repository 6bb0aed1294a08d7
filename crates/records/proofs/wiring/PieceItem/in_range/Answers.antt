use Rattle.std.proofs.Common.{subst, IsTrue, ◌↔◌, List, ℕ, All, AllPairs, ◌<◌}
use Rattle.wirelist.specs.Ranges.{most_points}
use Rattle.records.proofs.Orders.{piece_is_in_range, some_of}
use Rattle.records.proofs.wiring.PieceItem.in_range.Goals as goal

pub returns : goal.returns
returns c =
    piece_is_in_range c.args.self.now c.are_ordered.result c.if-self-ge-MOST_POINTS.false
    (c.in_range.ensures.0 (let e = c.if-not-in_range.false in cc))
    (some_of c.args.self.now.points c.is_empty.result c.if-is_empty.false c.is_empty.ensures)
    (subst (λ (xs : List ℕ). IsTrue c.are_ordered.result ↔ (All (λ p. p < most_points) xs × AllPairs (λ x y. x < y) xs)) c.as_slice.ensures c.are_ordered.ensures)
