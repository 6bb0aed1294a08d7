use Rattle.cluster_groups.specs.Places.{Places}
use Rattle.cluster_groups.proofs.clusters.number_classes.Given as goal

abbrev pub invariant-loop-i : goal.invariant-loop-i
invariant-loop-i l = Places l.p l.i l.places.items l.count
