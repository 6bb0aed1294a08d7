use Rattle.std.proofs.Common.{[], arith}
use Rattle.harness.specs.declared.row.HarnessRow.TheVariants.{Fault, Door}
use Rattle.harness.specs.Rows.{most_call}
use Rattle.harness.proofs.Collecting.{numbers_small}
use Rattle.harness.proofs.Sound.{all_in_range, first_points, all_units_sound}
use Rattle.harness.proofs.file.of_rows.Goals as goal

pub returns-clause-sound : goal.returns-clause-sound
returns-clause-sound c =
    let rows = c.args.rows.now in
    let points = first_points rows c.requires.stand c.requires.ends in
    let points_are = c.points_of-points.ensures in
    let in_range = all_in_range [] rows c.requires.stand in
    record {
      some_points = omega arith;
      few_points = omega arith;
      faults = numbers_small Fault rows c.in_ok-faults.faults most_call (λ k r. r.1) in_range c.in_ok-faults.ensures.faults;
      doors = numbers_small Door rows c.in_ok-faults.doors most_call (λ k r. r.1) in_range c.in_ok-faults.ensures.doors;
      units = all_units_sound rows c.points_of-points.result c.in_ok-make_units.field-0 c.requires.stand c.requires.few points_are c.in_ok-make_units.ensures.units;
    }
