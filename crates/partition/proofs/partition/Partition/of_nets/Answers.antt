use Rattle.std.proofs.Common.{sym, subst, refl}
use Rattle.partition.specs.Partitions.{IsPartitionValue}
use Rattle.partition.proofs.tables.NetClasses.{programmed_is, programmed_valid}
use Rattle.partition.proofs.partition.Partition.of_nets.Goals as goal

pub invariant_of-result : goal.invariant_of-result
invariant_of-result c =
    subst IsPartitionValue (sym (programmed_is c.args.nets.now c.head_labels.ensures.valid c.in_ok-classes.classes.items c.args.nets.now.points refl c.in_ok-classes.ensures.labels))
    (programmed_valid c.args.nets.now c.head_labels.ensures.valid c.head_labels.ensures.few)

pub returns : goal.returns
returns c = programmed_is c.args.nets.now c.head_labels.ensures.valid c.in_ok-classes.classes.items c.args.nets.now.points refl c.in_ok-classes.ensures.labels
