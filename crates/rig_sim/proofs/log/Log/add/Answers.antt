use Rattle.std.proofs.Common.{ap, arith}
use Rattle.rig.specs.EventRoom.{EventRoom}
use Rattle.rig_sim.proofs.Logging.{length-push, ticks_within, counted_log}
use Rattle.rig_sim.proofs.log.Log.add.Goals as goal

pub count_last-requires-clause-ticks : goal.count_last-requires-clause-ticks
count_last-requires-clause-ticks c =
    let len = length-push c.push.new.self.list c.self.inside.trail.list c.args.event (ap (λ (r : EventRoom). r.list) c.in_ok-push.ensures.ok) in
    let ticks = c.self.invariant.ticks in
    let few = ticks_within c.self.inside.trail.list in omega arith

pub invariant_of-self-2 : goal.invariant_of-self-2
invariant_of-self-2 c =
    counted_log (record { seated = c.self.inside.seated; trail = c.self.inside.trail; tallies = c.self.inside.tallies; meter = c.self.inside.meter }) c.args.event c.self.inside.trail.spare c.push.new.self c.count_last.new.tallies c.count_last.new.meter
    c.in_ok-push.ensures.ok c.count_last.ensures.tallies c.count_last.ensures.meter c.self.invariant
