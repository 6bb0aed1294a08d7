use Rattle.std.proofs.Common.{◌+◌, ◌∙◌, ap, sym, arith, ℕ, [], ◌∷◌, ◌++◌, length-append}
use Rattle.serving.specs.Visits.{Stage}
use Rattle.serving.proofs.VisitingLemmas.{visits-more, last-more}
use Rattle.serving.proofs.serving.serve_each.Goals as goal

pub loop-number-preserved : goal.loop-number-preserved
loop-number-preserved g c =
    let (stages, visits, last, count) = c.loop-number.invariant.visited in
    let next : Stage =
    record {
      station = c.in-Ok.next;
      waiting = g.N.Door.waiting c.serve_next.new.door;
      done = g.N.Door.done c.serve_next.new.door;
      moments = g.C.Clock.moments c.serve_next.new.clock;
      got = g.O.Stream.got c.serve_next.new.out;
    } in
    let out = c.serve_next.ensures.out_later in
    let door = c.serve_next.ensures.door_later in
    let out_before = c.loop-number.invariant.out_later in
    let door_before = c.loop-number.invariant.door_later in
    record {
      visited = (
        stages ++ next ∷ [],
        visits-more _ _ stages next (c.loop-number.number + 1) visits last (ap (λ (n : ℕ). n + 1) (sym count)) c.in-Ok.ensures.visited,
        last-more _ stages next,
        length-append stages (next ∷ []) ∙ ap (λ (n : ℕ). n + 1) count,
      );
      out_later = omega (arith, out, out_before);
      door_later = omega (arith, door, door_before);
    }
