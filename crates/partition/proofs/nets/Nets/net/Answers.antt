use Rattle.std.proofs.Common.{◌≡◌, ◌<◌, ℕ, List, length, sym, ◌∙◌, ap, subst, arith}
use Rattle.std.specs.List.Sorted.{IsStrictlyIncreasing}
use Rattle.partition.specs.NetTable.{IsNetTable, net_count}
use Rattle.partition.proofs.tables.KeptLemmas.{lone_read}
use Rattle.partition.proofs.tables.NetClasses.{net_some, net_increasing, named_read}
use Rattle.partition.proofs.nets.Nets.net.Goals as goal

pub returns-then-i-len : goal.returns-then-i-len
returns-then-i-len c =
    let inside = c.requires in
    let valid = subst IsNetTable c.self.view_is c.self.invariant.valid in
    let is = named_read (record { points = c.self.inside.points; named = c.self.inside.named; ignored = c.self.inside.ignored }) c.args.self.now c.args.i c.self.view_is (let low = c.if-i-len.true in let len = c.len.ensures in omega arith) in
    let at = c.net.ensures ∙ is in
    record {
      net = at;
      some = subst (λ (net : List ℕ). 0 < length net) (sym at) (net_some c.args.self.now valid c.args.i inside);
      ascending = subst IsStrictlyIncreasing (sym at) (net_increasing c.args.self.now valid c.args.i inside);
      valid = valid;
    }

pub returns-else-i-len : goal.returns-else-i-len
returns-else-i-len c =
    let count : net_count (record { points = c.self.inside.points; named = c.self.inside.named; ignored = c.self.inside.ignored }) ≡ net_count c.args.self.now = ap net_count c.self.view_is in
    let low = c.if-i-len.false in
    let len = c.len.ensures in
    let len_2 = c.len-else-i-len.ensures in
    let inside = c.requires in
    let valid = subst IsNetTable c.self.view_is c.self.invariant.valid in
    let at = lone_read (record { points = c.self.inside.points; named = c.self.inside.named; ignored = c.self.inside.ignored }) c.args.self.now c.as_slice.result.now c.args.i c.len-else-i-len.result
    c.self.view_is (c.as_slice.ensures ∙ c.self.invariant.alone) c.len-else-i-len.ensures (omega arith) (omega arith) in
    record {
      net = at;
      some = subst (λ (net : List ℕ). 0 < length net) (sym at) (net_some c.args.self.now valid c.args.i inside);
      ascending = subst IsStrictlyIncreasing (sym at) (net_increasing c.args.self.now valid c.args.i inside);
      valid = valid;
    }
