use Rattle.std.proofs.Common.{rules, ◌≡◌, ◌-◌, arith, ap, ◌∙◌}
use Rattle.partition.specs.Digits.{digits_of}
use Rattle.hv.specs.Routes.{numbered_sides, tested_bits}
use Rattle.hv.proofs.Pairs.{bit-small, pairs-push}
use Rattle.hv.proofs.routes.pair_bits.Goals as goal

pub side-requires : goal.side-requires
side-requires c =
    let last : c.saturating_sub-last.result ≡ c.args.clusters.now.count - 1 = search rules in
    let bits : c.digits-bit-end.result ≡ tested_bits c.args.clusters.now.count = c.digits-bit-end.ensures ∙ ap digits_of last in
    let less = c.loop-bit-test.true in
    bit-small c.args.clusters.now.count c.loop-bit.bit (omega arith) (omega arith)

pub side-requires-in-loop-bit : goal.side-requires-in-loop-bit
side-requires-in-loop-bit c =
    let last : c.saturating_sub-last.result ≡ c.args.clusters.now.count - 1 = search rules in
    let bits : c.digits-bit-end.result ≡ tested_bits c.args.clusters.now.count = c.digits-bit-end.ensures ∙ ap digits_of last in
    let less = c.loop-bit-test.true in
    bit-small c.args.clusters.now.count c.loop-bit.bit (omega arith) (omega arith)

pub loop-bit-preserved : goal.loop-bit-preserved
loop-bit-preserved c =
    pairs-push (numbered_sides c.args.clusters.now.numbers) c.loop-bit.pairs.items _ c.loop-bit.bit c.in_ok-left.left c.in_ok-right.right c.loop-bit.invariant c.in_ok-push.ensures.items c.in_ok-left.ensures c.in_ok-right.ensures
