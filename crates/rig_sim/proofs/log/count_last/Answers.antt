use Rattle.std.proofs.Common.{length, ◌-◌, arith}
use Rattle.rig_sim.proofs.Logging.{can_count}
use Rattle.rig_sim.proofs.log.count_last.Goals as goal

pub count-requires : goal.count-requires
count-requires c =
    let len = c.len-place.ensures in
    can_count (length c.args.trail.now.list - 1) c.args.tallies.now (omega arith) c.requires.tallied
