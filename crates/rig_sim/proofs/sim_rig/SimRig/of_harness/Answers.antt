use Rattle.std.proofs.Common.{[], length, ◌∙◌, ap, sym, subst, arith}
use Rattle.std.proofs.lemmas.List.Elements.{All-weaker}
use Rattle.std.proofs.lemmas.List.FromFn.{length-range_with_len}
use Rattle.partition.specs.Partitions.{IsPartitionOfAll}
use Rattle.partition.proofs.classes.JoinedPartition.{joined_by-own}
use Rattle.harness.specs.Harness.{IsUnitOf}
use Rattle.rig_sim.specs.Logs.{Logged}
use Rattle.rig_sim.specs.SimRig.{HasSmallConductance}
use Rattle.rig_sim.proofs.Sums.{small_unit}
use Rattle.rig_sim.proofs.sim_rig.SimRig.of_harness.Goals as goal

pub invariant_of-result : goal.invariant_of-result
invariant_of-result c =
    let points = c.args.harness.points in
    let singles = c.in_ok-singles.ensures in
    let room = ap (λ (l : Logged). l.trail.spare) c.new-3.ensures in
    let opens = ap (λ (l : Logged). l.meter.opens) c.new-3.ensures in
    record {
      some_points = c.requires.some_points;
      few_points = c.requires.few_points;
      units = c.requires.units;
      placed = tt;
      routed = tt;
      size = ap length singles ∙ length-range_with_len 0 points;
      all = subst IsPartitionOfAll (sym singles) (joined_by-own [] points (λ a b found. absurd (let s = found.1 in omega arith))).0;
      joined = tt;
      room = omega arith;
      fits = omega arith;
      seats_fits = omega arith;
      few_faults = λ spent seats. omega arith;
      few_opens = omega arith;
    }

pub returns-clause-small : goal.returns-clause-small
returns-clause-small c =
    All-weaker (IsUnitOf c.args.harness.points) (HasSmallConductance c.args.harness.points) (λ u sound. small_unit c.args.harness.points u sound) c.args.harness.units c.requires.units
