use Rattle.std.proofs.Common.{subst, ◌∙◌}
use Rattle.partition.specs.NetTable.{programmed_of}
use Rattle.rig.specs.Trail.{Determines}
use Rattle.wirelist.specs.Clusters.{cluster_classes}
use Rattle.applications.proofs.one_by_one.InOrder.{rest-zero, runs-in_order, stop-in_order, stop-zero, voltage-by}
use Rattle.applications.proofs.one_application.Together.{IfOk-map}
use Rattle.hv.proofs.Measure.{insulated-range, insulated-rests, insulated-tallies, under_test}
use Rattle.hv.proofs.Trails.{IfOk-two, not_none}
use Rattle.hv.proofs.insulating.insulation.Goals as goal

pub returns-clause-voltage : goal.returns-clause-voltage
returns-clause-voltage g c = λ before.
    let classes = programmed_of c.args.p.now.nets in
    let bonds = cluster_classes c.args.p.now in
    let same = c.partition-partition.ensures.same ∙ c.requires.partition in
    let determines = subst (Determines (g.R.Rig.state c.args.proven.rig)) same c.partition-partition.ensures.determines in
    voltage-by c.measure_clusters.result _ _ _ _
    (λ done made. runs-in_order classes bonds (g.R.Rig.state done.proven.rig) determines (insulated-rests c.args.p.now.insulation c.args.p.now done.faults (not_none c.args.p.now.insulation c.requires.test) made).runs before)
    (λ stop stopped. stop-in_order classes bonds g.R.Rig.state (g.R.Rig.state c.args.proven.rig) stop determines stopped before)
    c.measure_clusters.ensures.ok c.measure_clusters.ensures.err

pub returns-clause-zero : goal.returns-clause-zero
returns-clause-zero g c =
    let zeroed = c.points-point_count.ensures.seating.unpowered in
    voltage-by c.measure_clusters.result _ _ _ _
    (λ done made. let rests = (insulated-rests c.args.p.now.insulation c.args.p.now done.faults (not_none c.args.p.now.insulation c.requires.test) made).runs in rest-zero zeroed rests.happens rests.rest)
    (λ stop stopped. stop-zero (cluster_classes c.args.p.now) g.R.Rig.state (g.R.Rig.state c.args.proven.rig) stop zeroed stopped)
    c.measure_clusters.ensures.ok c.measure_clusters.ensures.err

pub returns-clause-in_range : goal.returns-clause-in_range
returns-clause-in_range g c =
    IfOk-two c.measure_clusters.result _ _ _ (λ done made stated some. insulated-range c.args.p.now c.requires.program (not_none c.args.p.now.insulation c.requires.test) (g.R.Rig.state c.args.proven.rig) (g.R.Rig.state done.proven.rig) done.faults made stated some)
    c.measure_clusters.ensures.ok c.measure_clusters.ensures.readings

pub returns-clause-tallies : goal.returns-clause-tallies
returns-clause-tallies g c =
    IfOk-map c.measure_clusters.result _ _
    (λ done made. under_test c.args.p.now.insulation _ _ (λ test is h. insulated-tallies c.points-point_count.ensures.seating.unpowered h) made)
    c.measure_clusters.ensures.ok
