use Rattle.std.proofs.Common.{List, [], length, ℕ, ◌<◌, ◌∙◌, ap, get_or, arith}
use Rattle.std.proofs.lemmas.List.{get_or_default}
use Rattle.learn.proofs.Placing.{least_more}
use Rattle.learn.proofs.place.least_points.Goals as goal

pub loop-i-preserved : goal.loop-i-preserved
loop-i-preserved c =
    let inside : c.loop-i.i < length c.args.groups.now = omega (arith, c.loop-i-test.true, c.len-i-end.ensures) in
    let group = c.index-as_slice-i.result in
    let here = c.as_slice-in-loop-i.ensures ∙ c.index-as_slice-i.is ∙ ap (λ (l : List (List ℕ)). get_or l c.loop-i.i group) c.as_slice.ensures
    ∙ get_or_default c.args.groups.now c.loop-i.i group [] inside in
    least_more c.args.groups.now c.loop-i.list c.push.new.self c.loop-i.i c.index-as_slice-0.result c.as_slice-in-loop-i.result.now
    inside c.requires.some c.requires.ascending c.loop-i.invariant here c.index-as_slice-0.is c.in_ok-push.ensures.ok
