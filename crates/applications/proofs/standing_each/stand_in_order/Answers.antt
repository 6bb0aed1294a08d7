use Rattle.std.proofs.Common.{◌∙◌, refl}
use Rattle.applications.proofs.one_by_one.Runs.{IfErr-by, stopped-after}
use Rattle.applications.proofs.one_by_one.EnduredEach.{StoodAll-more, StoodAll-none, broke-of, failed-at, once-of, pair_next}
use Rattle.applications.proofs.standing_each.stand_in_order.Goals as goal

pub loop-i-init : goal.loop-i-init
loop-i-init g c = record { stood = StoodAll-none c.args.bonds.now (g.R.Rig.state c.args.proven.rig) c.args.test; partition = refl }

pub stand-requires-clause-groups : goal.stand-requires-clause-groups
stand-requires-clause-groups g c =
    rw (c.as_slice.ensures, c.as_slice-in-loop-i.ensures) (pair_next c.args.pairs.now _ c.loop-i.invariant.stood c.requires.pairs c.loop-i-test.true c.index-pairs-i.is).groups

pub stand-requires-clause-apart : goal.stand-requires-clause-apart
stand-requires-clause-apart g c =
    rw (c.as_slice.ensures, c.as_slice-in-loop-i.ensures) (pair_next c.args.pairs.now _ c.loop-i.invariant.stood c.requires.pairs c.loop-i-test.true c.index-pairs-i.is).apart

pub returns-in_err-applied-clause-err : goal.returns-in_err-applied-clause-err
returns-in_err-applied-clause-err g c =
    IfErr-by c.from_residual.result _ c.in_err-applied.field-0.0 c.from_residual.ensures.1
    (stopped-after c.loop-i.invariant.stood.runs g.R.Rig.state c.in_err-applied.field-0.0 c.in_err-applied.ensures.err)

pub returns-in-Some-clause-ok : goal.returns-in-Some-clause-ok
returns-in-Some-clause-ok g c =
    failed-at _ c.index-pairs-i.result c.loop-i.invariant.stood c.loop-i-test.true c.index-pairs-i.is
    (broke-of c.as_slice.ensures c.as_slice-in-loop-i.ensures (rw c.in-Some.is at c.in_ok-applied.ensures.ok))

pub loop-i-preserved : goal.loop-i-preserved
loop-i-preserved g c = record {
  stood =
      StoodAll-more c.args.pairs.now _ c.index-pairs-i.result c.loop-i.invariant.stood c.loop-i-test.true c.index-pairs-i.is
      (once-of c.as_slice.ensures c.as_slice-in-loop-i.ensures (rw c.in-None.is at c.in_ok-applied.ensures.ok));
  partition = c.in_ok-applied.ensures.partition ∙ c.loop-i.invariant.partition;
}
