use Rattle.std.proofs.Common.{◌∙◌, None, List, [], refl, sym, subst}
use Rattle.rig.specs.declared.event.Leak.{Leak}
use Rattle.applications.specs.Each.{MeasuresEach}
use Rattle.applications.specs.Measuring.{StopsAtRest}
use Rattle.applications.proofs.one_by_one.Runs.{IfErr-by, measures-of, stopped-after}
use Rattle.applications.proofs.one_by_one.LeakEach.{Each-more, Each-none, each-no_memory, next_pair}
use Rattle.applications.proofs.measuring_each.measure_in_order.Goals as goal

pub loop-pair-init : goal.loop-pair-init
loop-pair-init g c = record {
  measured =
      subst (λ (leaks : List Leak). MeasuresEach c.args.bonds.now (g.R.Rig.state c.args.proven.rig) (g.R.Rig.state c.args.proven.rig) [] c.args.volts c.args.ticks leaks) (sym c.new-leaks.ensures.items)
      (Each-none c.args.bonds.now (g.R.Rig.state c.args.proven.rig) c.args.volts c.args.ticks);
  partition = refl;
}

pub measure-requires-clause-groups : goal.measure-requires-clause-groups
measure-requires-clause-groups g c =
    rw (c.as_slice.ensures, c.as_slice-in-loop-pair.ensures) (next_pair c.args.pairs.now _ c.loop-pair.invariant.measured c.requires.pairs c.loop-pair-test.true c.pair-item.is).groups

pub measure-requires-clause-apart : goal.measure-requires-clause-apart
measure-requires-clause-apart g c =
    rw (c.as_slice.ensures, c.as_slice-in-loop-pair.ensures) (next_pair c.args.pairs.now _ c.loop-pair.invariant.measured c.requires.pairs c.loop-pair-test.true c.pair-item.is).apart

pub returns-in_err-measured-clause-err : goal.returns-in_err-measured-clause-err
returns-in_err-measured-clause-err g c =
    IfErr-by c.from_residual.result _ c.in_err-measured.field-0.0 c.from_residual.ensures.1
    (stopped-after c.loop-pair.invariant.measured.runs g.R.Rig.state c.in_err-measured.field-0.0 c.in_err-measured.ensures.err)

pub returns-in-Err-clause-err : goal.returns-in-Err-clause-err
returns-in-Err-clause-err g c =
    subst (λ r. StopsAtRest c.args.bonds.now (g.R.Rig.state c.args.proven.rig) (g.R.Rig.state r) None) (sym (c.into_rig.ensures.rig ∙ c.back.ensures))
    (each-no_memory c.loop-pair.invariant.measured c.in_ok-measured.ensures.ok)

pub loop-pair-preserved : goal.loop-pair-preserved
loop-pair-preserved g c = record {
  measured =
      Each-more c.args.pairs.now _ c.pair-item.result c.in_ok-measured.measured.leak c.loop-pair.invariant.measured c.loop-pair-test.true c.pair-item.is
      (measures-of c.as_slice.ensures c.as_slice-in-loop-pair.ensures c.in_ok-measured.ensures.ok) c.in-Ok.ensures.items;
  partition = c.in_ok-measured.ensures.partition ∙ c.loop-pair.invariant.partition;
}
