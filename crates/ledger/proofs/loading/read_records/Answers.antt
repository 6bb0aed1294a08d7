use Rattle.std.proofs.Common.{◌∙◌, ℕ, List, ◌∷◌, [], sym, subst, arith, length-append}
use Rattle.journal.specs.Append.{state_of}
use Rattle.records.specs.RecordRanges.{Spells}
use Rattle.disk_edge.proofs.Moments.{before_and}
use Rattle.ledger.proofs.Keeping.{are_pushed}
use Rattle.ledger.proofs.Entries.{still_tells, spelled_more, place_more, first_wrong, spelled_all}
use Rattle.ledger.proofs.loading.read_records.Goals as goal

pub loop-index-preserved : goal.loop-index-preserved
loop-index-preserved g c =
    let kept = c.loop-index.invariant in
    rw c.in_ok-push-in-Ok.ensures.ok (record {
      same = before_and (state_of c.args.journal.now) (state_of c.loop-index.journal) (state_of c.entry.new.self) kept.same c.entry.ensures.same;
      later = omega (arith, kept.later, c.entry.ensures.cause.later);
      gates = c.entry.ensures.gates ∙ kept.gates;
      in_range = are_pushed c.loop-index.records c.in-Ok.r kept.in_range c.in-Ok.ensures.found.in_range;
      counted = omega (arith, kept.counted, length-append c.loop-index.records (c.in-Ok.r ∷ []));
      spelled = λ bodies tells. spelled_more bodies c.loop-index.records c.loop-index.index c.in_ok-body.body (kept.spelled bodies tells)
          (c.in_ok-body.ensures.body bodies (still_tells (state_of c.args.journal.now) (state_of c.loop-index.journal) bodies kept.same tells))
          c.in-Ok.r (sym c.as_slice.ensures ∙ c.in-Ok.ensures.found.bytes_are);
      placed = λ bodies tells short. place_more bodies c.loop-index.records c.loop-index.index c.in_ok-body.body (kept.spelled bodies tells)
          (c.in_ok-body.ensures.body bodies (still_tells (state_of c.args.journal.now) (state_of c.loop-index.journal) bodies kept.same tells))
          c.in-Ok.r c.loop-index.place c.saturating_add.result c.len.result c.saturating_add-place.result (sym c.as_slice.ensures ∙ c.in-Ok.ensures.found.bytes_are) short (kept.placed bodies tells short)
          c.saturating_add.ensures c.len.ensures c.saturating_add-place.ensures;
    })

pub returns-clause-spelled : goal.returns-clause-spelled
returns-clause-spelled g c bodies tells =
    spelled_all bodies c.loop-index.records c.count-count.result c.loop-index.index (c.loop-index.invariant.spelled bodies tells) (c.count-count.ensures.told bodies tells) c.loop-index-test.false c.loop-index.auto.index-end

pub returns-in-Err-NotARecord-clause-wrong : goal.returns-in-Err-NotARecord-clause-wrong
returns-in-Err-NotARecord-clause-wrong g c bodies tells short =
    let kept = c.loop-index.invariant in
    first_wrong bodies c.loop-index.records c.loop-index.index c.in_ok-body.body (kept.spelled bodies tells)
    (c.in_ok-body.ensures.body bodies (still_tells (state_of c.args.journal.now) (state_of c.loop-index.journal) bodies kept.same tells))
    c.loop-index.place kept.in_range kept.counted
    (λ r spells. let never = c.in-Err-NotARecord.ensures.only r (subst (λ (b : List ℕ). Spells b r) (sym c.as_slice.ensures) spells) in cc)
    (kept.placed bodies tells short)
