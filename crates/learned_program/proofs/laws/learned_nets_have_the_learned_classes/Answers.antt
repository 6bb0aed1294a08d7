use Rattle.learned_program.proofs.PartitionLaw.{learned_classes}
use Rattle.learned_program.proofs.laws.learned_nets_have_the_learned_classes.Goals as goal

pub returns : goal.returns
returns c = learned_classes
