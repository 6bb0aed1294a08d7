use Rattle.std.proofs.Common.{subst, IsTrue, ◌↔◌, List, ℕ, All, AllPairs, ◌<◌, arith}
use Rattle.wirelist.specs.Ranges.{most_points}
use Rattle.records.proofs.Orders.{short_is_in_range}
use Rattle.records.proofs.wiring.ShortItem.in_range.Goals as goal

pub returns : goal.returns
returns c =
    short_is_in_range c.args.self.now c.are_ordered.result
    (c.in_range.ensures.0 (let e = c.if-not-in_range.false in cc))
    (omega (arith, c.if-len-lt2.false, c.len.ensures))
    (subst (λ (xs : List ℕ). IsTrue c.are_ordered.result ↔ (All (λ p. p < most_points) xs × AllPairs (λ x y. x < y) xs)) c.as_slice.ensures c.are_ordered.ensures)
