use Rattle.std.proofs.Common.{◌≡◌, ◌<◌, ◌≤◌, length, get_or, sym, ◌∙◌, ap, append_assoc, take, arith, ◌++◌, [], map}
use Rattle.std.specs.List.{flat_map, zip}
use Rattle.std.proofs.lemmas.List.{get_or_default, get_or_append_left, take_all}
use Rattle.std.proofs.lemmas.Slice.Zip.{length-zip}
use Rattle.wirelist.specs.Canonical.{line_of, net_row}
use Rattle.wirelist.proofs.PrintingLemmas.{lines_more, pair_at}
use Rattle.wirelist.proofs.printing.print_nets.Goals as goal

pub loop-i-preserved : goal.loop-i-preserved
loop-i-preserved c =
    let i = c.loop-i.i in
    let names = c.args.names.now in
    let named = c.args.nets.now.named in
    let inside : i < length names = omega arith in
    let among : i < length named = omega arith in
    let name : get_or names i c.index-names-i.result ≡ c.index-names-i.result = sym c.index-names-i.is in
    let points : get_or named i c.net.result.now ≡ c.net.result.now =
    get_or_default named i c.net.result.now [] among ∙ sym (get_or_append_left named _ [] i among) ∙ sym c.net.ensures.net in
    let both : i < length (zip names named) = rw (length-zip names named) (omega arith) in
    c.in_ok-print_net.ensures
    ∙ ap (λ t. t ++ line_of (net_row (c.index-names-i.result, c.net.result.now))) c.loop-i.invariant
    ∙ append_assoc c.args.text.now (flat_map line_of (map net_row (take i (zip names named)))) (line_of (net_row (c.index-names-i.result, c.net.result.now)))
    ∙ ap (λ lines. c.args.text.now ++ lines)
    (sym (lines_more line_of net_row (zip names named) i (c.index-names-i.result, c.net.result.now) both
    (pair_at names named i c.index-names-i.result c.net.result.now inside among name points)))

pub returns : goal.returns
returns c =
    let names = c.args.names.now in
    let named = c.args.nets.now.named in
    let whole : length (zip names named) ≤ c.loop-i.i = rw (length-zip names named) (omega arith) in
    c.loop-i.invariant ∙ ap (λ part. c.args.text.now ++ flat_map line_of (map net_row part)) (take_all c.loop-i.i (zip names named) whole)
