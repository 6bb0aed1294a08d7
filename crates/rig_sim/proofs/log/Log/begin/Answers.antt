use Rattle.std.proofs.Common.{◌++◌, ◌∷◌, [], List, ℕ, ◌∙◌, ap}
use Rattle.rig.specs.Seating.{empty_tally}
use Rattle.rig_sim.proofs.Logging.{begun_log}
use Rattle.rig_sim.proofs.log.Log.begin.Goals as goal

pub invariant_of-self-2 : goal.invariant_of-self-2
invariant_of-self-2 c =
    begun_log (record { seated = c.self.inside.seated; trail = c.self.inside.trail; tallies = c.self.inside.tallies; meter = c.self.inside.meter }) c.clear.new.self c.push.new.self c.restart.new.self c.args.serial.now c.args.attempt
    c.clear.ensures (c.in_ok-push.ensures.ok ∙ ap (λ (bytes : List ℕ). c.self.inside.tallies ++ (empty_tally bytes c.args.attempt ∷ [])) c.in_ok-serial.ensures) c.restart.ensures
