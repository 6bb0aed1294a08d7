use Rattle.std.proofs.Common.{ℕ, List, None, Some, arith, refl, subst, sym, ◌∙◌}
use Rattle.partition.specs.Partitions.{JoinsAllOf}
use Rattle.wirelist.specs.Clusters.{cluster_classes}
use Rattle.applications.specs.Measuring.{StopsAtRest}
use Rattle.applications.proofs.one_application.Together.{nothing-runs}
use Rattle.rig.proofs.Happening.{Happens-none}
use Rattle.hv.specs.Withstanding.{Withstands}
use Rattle.hv.specs.Routes.{bit_pairs}
use Rattle.hv.proofs.Stand.{bits-alone, bits-few, bits-some, of_test, pair-small, stood-as, withstands-all, withstands-none, withstands-some}
use Rattle.hv.proofs.Pairs.{bit_pairs-sides, bonds-join, none-of, points-of, sides-of, some-of}
use Rattle.hv.proofs.withstanding.stand_bits.Goals as goal

pub returns-in-Err-clause-err : goal.returns-in-Err-clause-err
returns-in-Err-clause-err g c =
    subst (λ r. StopsAtRest (cluster_classes c.args.p.now) (g.R.Rig.state c.args.proven.rig) (g.R.Rig.state r) None) (sym (c.into_rig.ensures.rig ∙ c.back.ensures))
    (nothing-runs (cluster_classes c.args.p.now) (Happens-none (g.R.Rig.state c.args.proven.rig)))

pub returns-then-is_empty-clause-ok : goal.returns-then-is_empty-clause-ok
returns-then-is_empty-clause-ok g c =
    of_test c.args.p.now c.unwrap-test.result (λ test. Withstands c.args.p.now test (g.R.Rig.state c.args.proven.rig) (g.R.Rig.state c.args.proven.rig) None) c.unwrap-test.ensures
    (withstands-none c.args.p.now c.unwrap-test.result (g.R.Rig.state c.args.proven.rig) (bits-alone c.args.p.now c.as_slice-pairs.result.now (c.as_slice-pairs.ensures.value ∙ c.in-Ok.ensures.pairs)
    (none-of c.as_slice-pairs.result.now (sym c.is_empty.ensures ∙ c.if-is_empty.true))))

pub stand_each-requires-clause-bonds : goal.stand_each-requires-clause-bonds
stand_each-requires-clause-bonds g c =
    subst (λ (bonds : List ℕ). JoinsAllOf bonds c.args.proven.partition) (sym c.in-Ok.ensures.bonds)
    (subst (JoinsAllOf (cluster_classes c.args.p.now)) (sym c.requires.partition) (bonds-join c.args.p.now c.in-Ok.ensures.clusters))

pub stand_each-requires-clause-pairs : goal.stand_each-requires-clause-pairs
stand_each-requires-clause-pairs g c =
    let points = points-of c.args.p.now (g.R.Rig.state c.args.proven.rig).points c.args.proven.partition c.requires.unit.points c.requires.partition in
    sides-of c.args.p.now (g.R.Rig.state c.args.proven.rig).points c.in-Ok.routes.bonds c.as_slice-pairs.result.now (bit_pairs c.args.p.now) points c.in-Ok.ensures.bonds (c.as_slice-pairs.ensures.value ∙ c.in-Ok.ensures.pairs)
    (bit_pairs-sides c.args.p.now c.in-Ok.ensures.clusters)

pub returns-in_err-stood-clause-alone : goal.returns-in_err-stood-clause-alone
returns-in_err-stood-clause-alone g c = λ alone. absurd (bits-some c.args.p.now c.as_slice-pairs.result.now (c.as_slice-pairs.ensures.value ∙ c.in-Ok.ensures.pairs)
    (some-of c.as_slice-pairs.result.now (sym c.is_empty.ensures ∙ c.if-is_empty.false)) alone)

pub returns-in-None-clause-ok : goal.returns-in-None-clause-ok
returns-in-None-clause-ok g c =
    let points = points-of c.args.p.now (g.R.Rig.state c.args.proven.rig).points c.args.proven.partition c.requires.unit.points c.requires.partition in
    of_test c.args.p.now c.unwrap-test.result (λ test. Withstands c.args.p.now test (g.R.Rig.state c.args.proven.rig) (g.R.Rig.state c.in_ok-stood.stood.proven.rig) None) c.unwrap-test.ensures
    (withstands-all c.args.p.now c.in-Ok.ensures.clusters c.unwrap-test.result points
    (stood-as (g.R.Rig.state c.args.proven.rig) (g.R.Rig.state c.in_ok-stood.stood.proven.rig) c.args.p.now c.unwrap-test.result c.in_ok-stood.stood.failed None c.in-None.is c.in-Ok.ensures.bonds (c.as_slice-pairs.ensures.value ∙ c.in-Ok.ensures.pairs) refl c.in_ok-stood.ensures.ok))

pub returns-in-None-clause-alone : goal.returns-in-None-clause-alone
returns-in-None-clause-alone g c = λ alone. absurd (bits-some c.args.p.now c.as_slice-pairs.result.now (c.as_slice-pairs.ensures.value ∙ c.in-Ok.ensures.pairs)
    (some-of c.as_slice-pairs.result.now (sym c.is_empty.ensures ∙ c.if-is_empty.false)) alone)

pub fault_at-requires : goal.fault_at-requires
fault_at-requires g c =
    let count = c.count-net_count.ensures.count in
    let few = c.count-net_count.ensures.few in
    let bits = bits-few c.args.p.now c.requires.program (omega arith) in
    pair-small c.args.p.now bits c.unwrap-test.result c.in-Some.failed
    (stood-as (g.R.Rig.state c.args.proven.rig) (g.R.Rig.state c.in_ok-stood.stood.proven.rig) c.args.p.now c.unwrap-test.result c.in_ok-stood.stood.failed (Some c.in-Some.failed) c.in-Some.is c.in-Ok.ensures.bonds (c.as_slice-pairs.ensures.value ∙ c.in-Ok.ensures.pairs) refl c.in_ok-stood.ensures.ok)

pub returns-clause-ok : goal.returns-clause-ok
returns-clause-ok g c =
    let points = points-of c.args.p.now (g.R.Rig.state c.args.proven.rig).points c.args.proven.partition c.requires.unit.points c.requires.partition in
    of_test c.args.p.now c.unwrap-test.result (λ test. Withstands c.args.p.now test (g.R.Rig.state c.args.proven.rig) (g.R.Rig.state c.in_ok-stood.stood.proven.rig) (Some c.fault_at.result)) c.unwrap-test.ensures
    (withstands-some c.args.p.now c.in-Ok.ensures.clusters c.unwrap-test.result points c.in-Some.failed c.fault_at.result c.fault_at.ensures.fault
    (stood-as (g.R.Rig.state c.args.proven.rig) (g.R.Rig.state c.in_ok-stood.stood.proven.rig) c.args.p.now c.unwrap-test.result c.in_ok-stood.stood.failed (Some c.in-Some.failed) c.in-Some.is c.in-Ok.ensures.bonds (c.as_slice-pairs.ensures.value ∙ c.in-Ok.ensures.pairs) refl c.in_ok-stood.ensures.ok))

pub returns-clause-alone : goal.returns-clause-alone
returns-clause-alone g c = λ alone. absurd (bits-some c.args.p.now c.as_slice-pairs.result.now (c.as_slice-pairs.ensures.value ∙ c.in-Ok.ensures.pairs)
    (some-of c.as_slice-pairs.result.now (sym c.is_empty.ensures ∙ c.if-is_empty.false)) alone)
