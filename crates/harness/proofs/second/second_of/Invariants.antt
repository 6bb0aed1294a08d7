use Rattle.std.proofs.Common.{length}
use Rattle.rig.specs.Joins.{joined_classes}
use Rattle.harness.proofs.second.second_of.Given as goal

abbrev pub ghost-first_repeat : goal.ghost-first_repeat
ghost-first_repeat a = joined_classes a.rows.now (length a.forest.now.parents.items)
