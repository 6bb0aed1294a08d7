use Rattle.std.proofs.Common.{ℕ, List, None, length, arith, ap, subst, sym, ◌∙◌}
use Rattle.partition.specs.Partitions.{JoinsAllOf}
use Rattle.wirelist.specs.Clusters.{cluster_classes}
use Rattle.applications.specs.Measuring.{StopsAtRest}
use Rattle.applications.proofs.one_application.Together.{nothing-runs}
use Rattle.rig.proofs.Happening.{Happens-none}
use Rattle.hv.specs.Insulating.{Insulates, faults_from}
use Rattle.hv.specs.Routes.{cluster_pairs}
use Rattle.hv.proofs.Measure.{insulates, insulates-none, leaks-place, measured-as, measured-rests, of_test, pairs-none, pairs-some}
use Rattle.hv.proofs.Pairs.{bonds-join, cluster_pairs-sides, none-of, points-of, sides-of, some-of}
use Rattle.hv.proofs.insulating.measure_clusters.Goals as goal

pub returns-in-Err-clause-err : goal.returns-in-Err-clause-err
returns-in-Err-clause-err g c =
    subst (λ r. StopsAtRest (cluster_classes c.args.p.now) (g.R.Rig.state c.args.proven.rig) (g.R.Rig.state r) None) (sym (c.into_rig.ensures.rig ∙ c.back.ensures))
    (nothing-runs (cluster_classes c.args.p.now) (Happens-none (g.R.Rig.state c.args.proven.rig)))

pub returns-then-is_empty-clause-ok : goal.returns-then-is_empty-clause-ok
returns-then-is_empty-clause-ok g c =
    of_test c.args.p.now c.unwrap-test.result (λ test. Insulates c.args.p.now test (g.R.Rig.state c.args.proven.rig) (g.R.Rig.state c.args.proven.rig) c.new.result) c.unwrap-test.ensures
    (insulates-none c.args.p.now c.in-Ok.ensures.clusters c.unwrap-test.result (g.R.Rig.state c.args.proven.rig) c.new.result (pairs-none c.args.p.now c.as_slice-pairs.result.now (c.as_slice-pairs.ensures.value ∙ c.in-Ok.ensures.pairs)
    (none-of c.as_slice-pairs.result.now (sym c.is_empty.ensures ∙ c.if-is_empty.true))) c.new.ensures)

pub measure_each-requires-clause-bonds : goal.measure_each-requires-clause-bonds
measure_each-requires-clause-bonds g c =
    subst (λ (bonds : List ℕ). JoinsAllOf bonds c.args.proven.partition) (sym c.in-Ok.ensures.bonds)
    (subst (JoinsAllOf (cluster_classes c.args.p.now)) (sym c.requires.partition) (bonds-join c.args.p.now c.in-Ok.ensures.clusters))

pub measure_each-requires-clause-pairs : goal.measure_each-requires-clause-pairs
measure_each-requires-clause-pairs g c =
    let points = points-of c.args.p.now (g.R.Rig.state c.args.proven.rig).points c.args.proven.partition c.requires.unit.points c.requires.partition in
    sides-of c.args.p.now (g.R.Rig.state c.args.proven.rig).points c.in-Ok.routes.bonds c.as_slice-pairs.result.now (cluster_pairs c.args.p.now) points c.in-Ok.ensures.bonds (c.as_slice-pairs.ensures.value ∙ c.in-Ok.ensures.pairs)
    (cluster_pairs-sides c.args.p.now c.in-Ok.ensures.clusters)

pub judge-requires : goal.judge-requires
judge-requires g c =
    let made = measured-as c.args.p.now c.in-Ok.ensures.bonds (c.as_slice-pairs.ensures.value ∙ c.in-Ok.ensures.pairs) c.in_ok-measured.ensures.ok in
    let few = leaks-place c.args.p.now c.requires.program c.unwrap-test.result c.unwrap-test.ensures c.unwrap-test.result.volts c.unwrap-test.result.ticks c.in_ok-measured.measured.leaks.items made in
    omega (arith, ap length c.as_slice.ensures.value)

pub returns-in_err-measured-clause-alone : goal.returns-in_err-measured-clause-alone
returns-in_err-measured-clause-alone g c = λ alone.
    let two = pairs-some c.args.p.now c.as_slice-pairs.result.now (c.as_slice-pairs.ensures.value ∙ c.in-Ok.ensures.pairs) (some-of c.as_slice-pairs.result.now (sym c.is_empty.ensures ∙ c.if-is_empty.false)) in
    absurd (omega arith)

pub returns-in-Ok-judge-clause-ok : goal.returns-in-Ok-judge-clause-ok
returns-in-Ok-judge-clause-ok g c =
    let made = measured-as c.args.p.now c.in-Ok.ensures.bonds (c.as_slice-pairs.ensures.value ∙ c.in-Ok.ensures.pairs) c.in_ok-measured.ensures.ok in
    let two = pairs-some c.args.p.now c.as_slice-pairs.result.now (c.as_slice-pairs.ensures.value ∙ c.in-Ok.ensures.pairs) (some-of c.as_slice-pairs.result.now (sym c.is_empty.ensures ∙ c.if-is_empty.false)) in
    let points = points-of c.args.p.now (g.R.Rig.state c.args.proven.rig).points c.args.proven.partition c.requires.unit.points c.requires.partition in
    of_test c.args.p.now c.unwrap-test.result (λ test. Insulates c.args.p.now test (g.R.Rig.state c.args.proven.rig) (g.R.Rig.state c.in_ok-measured.measured.proven.rig) c.in-Ok-judge.faults) c.unwrap-test.ensures
    (insulates c.args.p.now c.in-Ok.ensures.clusters c.unwrap-test.result points c.in_ok-measured.measured.leaks.items c.in-Ok-judge.faults two made
    (c.in-Ok-judge.ensures.faults ∙ ap (faults_from c.unwrap-test.result.megohms 0) c.as_slice.ensures.value))

pub returns-in-Ok-judge-clause-alone : goal.returns-in-Ok-judge-clause-alone
returns-in-Ok-judge-clause-alone g c = λ alone.
    let two = pairs-some c.args.p.now c.as_slice-pairs.result.now (c.as_slice-pairs.ensures.value ∙ c.in-Ok.ensures.pairs) (some-of c.as_slice-pairs.result.now (sym c.is_empty.ensures ∙ c.if-is_empty.false)) in
    absurd (omega arith)

pub returns-clause-err : goal.returns-clause-err
returns-clause-err g c =
    subst (λ r. StopsAtRest (cluster_classes c.args.p.now) (g.R.Rig.state c.args.proven.rig) (g.R.Rig.state r) None) (sym (c.into_rig-in-Err-judge.ensures.rig ∙ c.back-in-Err-judge.ensures))
    (measured-rests (measured-as c.args.p.now c.in-Ok.ensures.bonds (c.as_slice-pairs.ensures.value ∙ c.in-Ok.ensures.pairs) c.in_ok-measured.ensures.ok))

pub returns-clause-alone : goal.returns-clause-alone
returns-clause-alone g c = λ alone.
    let two = pairs-some c.args.p.now c.as_slice-pairs.result.now (c.as_slice-pairs.ensures.value ∙ c.in-Ok.ensures.pairs) (some-of c.as_slice-pairs.result.now (sym c.is_empty.ensures ∙ c.if-is_empty.false)) in
    absurd (omega arith)
