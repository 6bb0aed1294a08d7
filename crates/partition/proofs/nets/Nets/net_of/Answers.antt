use Rattle.std.proofs.Common.{◌≡◌, ◌<◌, ℕ, arith, ap, sym, subst}
use Rattle.partition.specs.NetTable.{NetTable, IsNetTable, net_at, net_count}
use Rattle.partition.proofs.tables.NetLaws.{judged-below}
use Rattle.partition.proofs.tables.KeptLemmas.{number_read, net_at-below}
use Rattle.partition.proofs.nets.Nets.net_of.Goals as goal

pub index-requires-2 : goal.index-requires-2
index-requires-2 c =
    let points : c.self.inside.points ≡ c.args.self.now.points = ap (λ (t : NetTable). t.points) c.self.view_is in
    let inside = judged-below c.args.self.now c.args.point c.requires in
    let same = c.index.ensures.same in
    omega (arith, c.self.invariant.size, c.self.inside.numbers.ok)

number : (c : goal.After-row_known-1) → c.index-2.result.now ≡ net_at c.args.self.now c.args.point
number c =
    let points : c.self.inside.points ≡ c.args.self.now.points = ap (λ (t : NetTable). t.points) c.self.view_is in
    let below = judged-below c.args.self.now c.args.point c.requires in
    number_read (record { points = c.self.inside.points; named = c.self.inside.named; ignored = c.self.inside.ignored }) c.args.self.now c.self.inside.numbers.items c.self.inside.alone c.index.result c.args.point c.index-2.result.now
    c.self.view_is c.self.invariant c.index.ensures.same c.requires (let same = c.index.ensures.same in omega (arith, c.self.invariant.size)) c.index-2.ensures

pub returns : goal.returns
returns c = record {
  number = number c;
  net = subst (λ (i : ℕ). i < net_count c.args.self.now) (sym (number c)) (net_at-below c.args.self.now (subst IsNetTable c.self.view_is c.self.invariant.valid) c.args.point c.requires);
}
