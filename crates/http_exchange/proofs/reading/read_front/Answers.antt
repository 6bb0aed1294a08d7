use Rattle.std.proofs.Common.{◌≡◌, ◌<◌, ◌+◌, ◌∙◌, sym, refl, ap, arith, ℕ, length, length-append, ◌++◌, [], ◌∷◌}
use Rattle.std.proofs.KnownBytes.{Consumes-nil, Consumes-trans}
use Rattle.bench_edge.proofs.Calls.{SameOtherHalf-trans}
use Rattle.http_exchange.specs.Heads.{head_of, ends_head, longest_head}
use Rattle.http_exchange.proofs.HeadLemmas.{head_of-nil, head_of-goes_on, no_end-by}
use Rattle.http_exchange.proofs.TakingLemmas.{next-none, next-ends}
use Rattle.http_exchange.proofs.reading.read_front.Goals as goal

pub loop-init : goal.loop-init
loop-init g c = record {
  count = ap length c.new-taken.ensures;
  consumed = rw c.new-taken.ensures (Consumes-nil _);
  no_head = ap head_of c.new-taken.ensures ∙ head_of-nil;
  faults = refl;
  apart = record { bytes_stay = refl; faults_stay = refl };
}

pub returns-in_default-clause-front : goal.returns-in_default-clause-front
returns-in_default-clause-front g c =
    let next = rw c.in_default.is at c.in_ok-byte.ensures.byte in
    let short : length c.loop.taken < longest_head = omega (arith, c.loop-test.true, c.loop.invariant.count) in
    let (front, end) = next-none _ _ _ c.loop.taken c.loop.invariant.consumed c.loop.invariant.no_head next in
    (c.loop.taken, front, short, end)

pub returns-then-ends_head-clause-front : goal.returns-then-ends_head-clause-front
returns-then-ends_head-clause-front g c =
    let next = rw c.in-Some.is at c.in_ok-byte.ensures.byte in
    let short : length c.loop.taken < longest_head = omega (arith, c.loop-test.true, c.loop.invariant.count) in
    let pushed : c.push.new.self ≡ c.loop.taken ++ c.in-Some.byte ∷ [] = c.in_ok-push.ensures.ok in
    let ends = ap ends_head (sym pushed ∙ sym c.as_slice.ensures) ∙ sym c.ends_head.ensures ∙ c.if-ends_head.true in
    rw pushed (next-ends _ _ _ c.loop.taken c.in-Some.byte c.loop.invariant.consumed c.loop.invariant.no_head short next ends)

pub loop-preserved : goal.loop-preserved
loop-preserved g c =
    let next = rw c.in-Some.is at c.in_ok-byte.ensures.byte in
    let pushed : c.push.new.self ≡ c.loop.taken ++ c.in-Some.byte ∷ [] = c.in_ok-push.ensures.ok in
    let goes = ap ends_head (sym pushed ∙ sym c.as_slice.ensures) ∙ sym c.ends_head.ensures ∙ c.if-ends_head.false in
    record {
      count = ap length pushed ∙ length-append c.loop.taken (c.in-Some.byte ∷ []) ∙ ap (λ (n : ℕ). n + 1) c.loop.invariant.count;
      consumed = rw pushed (Consumes-trans _ _ _ c.loop.taken (c.in-Some.byte ∷ []) c.loop.invariant.consumed next);
      no_head = ap head_of pushed ∙ head_of-goes_on c.loop.taken c.in-Some.byte c.loop.invariant.no_head goes;
      faults = c.in_ok-byte.ensures.counted ∙ c.loop.invariant.faults;
      apart = SameOtherHalf-trans _ _ _ _ _ _ c.loop.invariant.apart c.in_ok-byte.ensures.apart;
    }

pub returns-clause-front : goal.returns-clause-front
returns-clause-front g c = (c.loop.taken, record { consumed = c.loop.invariant.consumed; no_head = no_end-by c.loop.taken c.loop.invariant.no_head }, omega arith)
