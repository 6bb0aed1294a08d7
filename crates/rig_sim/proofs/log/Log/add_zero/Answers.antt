use Rattle.std.proofs.Common.{◌≡◌, ◌-◌, subst}
use Rattle.rig.specs.declared.event.Event.TheVariants.{Zero}
use Rattle.rig_sim.specs.Logs.{Logged, with_event}
use Rattle.rig_sim.proofs.Logging.{zero_log, zero_is}
use Rattle.rig_sim.proofs.log.Log.add_zero.Goals as goal

pub count-requires : goal.count-requires
count-requires c = record { spent = λ h. absurd h; ticks = λ e. cc }

pub invariant_of-self : goal.invariant_of-self
invariant_of-self c =
    zero_log (record { seated = c.self.inside.seated; trail = c.self.inside.trail; tallies = c.self.inside.tallies; meter = c.self.inside.meter }) c.args.done (c.self.inside.trail.spare - 1) c.push_into_room.new.self c.count.new.self
    c.push_into_room.ensures c.count.ensures c.self.invariant

pub returns : goal.returns
returns c =
    let log : Logged = record { seated = c.self.inside.seated; trail = c.self.inside.trail; tallies = c.self.inside.tallies; meter = c.self.inside.meter } in
    subst (λ (l : Logged). record log { trail = c.push_into_room.new.self; meter = c.count.new.self } ≡ with_event (Zero c.args.done) (l.trail.spare - 1) l) c.self.view_is
    (zero_is log c.args.done (c.self.inside.trail.spare - 1) c.push_into_room.new.self c.count.new.self c.push_into_room.ensures c.count.ensures)
