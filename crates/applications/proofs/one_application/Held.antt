-- The three parts of holding a voltage, one after the other.
use Rattle.std.proofs.Common.{◌≡◌, ℕ, ◌*◌, ◌/◌, ◌%◌, ◌≤◌, List, ◌++◌, Option, None, Ok, Err, IsTrue, sym, ◌∙◌, ap, subst, arith}
use Rattle.std.specs.Prelude.{IfSome}
use Rattle.std.proofs.lemmas.List.Elements.{All-append}
use Rattle.rig.specs.declared.event.Leak.{Leak as LeakReading}
use Rattle.rig.specs.declared.rig.RigStop.{RigStop}
use Rattle.rig.specs.declared.powered.RaiseStop.{RaiseStop}
use Rattle.rig.specs.declared.unit.Row.{Row}
use Rattle.rig.specs.RigState.{RigState, Groups}
use Rattle.rig.specs.Calls.{ReadsLeak}
use Rattle.rig.specs.Happened.{Happens}
use Rattle.rig.specs.Powered.{raise_stop_of}
use Rattle.rig.specs.Values.{leak_of}
use Rattle.rig.proofs.CallEvents.{Happens-leak}
use Rattle.rig.proofs.Happening.{Happens-honest, Happens-points, Happens-then, Happens-truth}
use Rattle.applications.specs.Holding.{IsCalm, BreaksOff, Holds, Leads, MayFollowAt}
use Rattle.applications.specs.Steps.{dwelling, ramp}
use Rattle.applications.proofs.Allowed.{Leads-append, dwelling_leads, none_allowed}
use Rattle.applications.proofs.one_application.Climbing.{Happens-cause, breaks-off, climb-leads, dwelling-calm, dwelling-route, dwelling-volts, no_door, none_stop, ramp-calm, ramp-route, ramp-volts}

pub whole_steps : (v : ℕ) → v % 50 ≡ 0 → 50 * (v / 50) ≡ v
whole_steps v by = omega arith

module _ {s t : RigState} {volts : ℕ} (zeroed : s.volts ≡ 0) (by : volts % 50 ≡ 0) (most : volts ≤ 2000) (climbed : Happens s t (ramp (volts / 50)) None) where
  climbed_leads : Leads s.volts (50 * (volts / 50)) (ramp (volts / 50))
  climbed_leads = climb-leads s (volts / 50) zeroed (let whole = whole_steps volts by in omega arith)

  pub climbed-volts : t.volts ≡ volts
  climbed-volts = ap (λ (v : RigState). v.volts) climbed.frame ∙ ramp-volts (volts / 50) s zeroed ∙ whole_steps volts by

  climbed-route : t.route ≡ s.route
  climbed-route = ap (λ (v : RigState). v.route) climbed.frame ∙ ramp-route (volts / 50) s

  -- the dwell was broken off
  pub dwell-broken : {u : RigState} (stop : RaiseStop) → BreaksOff t u stop → BreaksOff s u stop
  dwell-broken {u} stop off =
      let at : t.volts ≡ 50 * (volts / 50) = climbed-volts ∙ sym (whole_steps volts by) in
      breaks-off climbed climbed_leads (ramp-calm (volts / 50)) off.happens (subst (λ (v : ℕ). MayFollowAt v off.events) at off.allowed) (off.of_source, off.done) off.door

  module _ {u : RigState} (ticks : ℕ) (dwelt : Happens t u (dwelling ticks) None) where
    pub dwelt-volts : u.volts ≡ volts
    dwelt-volts = ap (λ (v : RigState). v.volts) dwelt.frame ∙ dwelling-volts ticks t ∙ climbed-volts

    dwelt-route : u.route ≡ s.route
    dwelt-route = ap (λ (v : RigState). v.route) dwelt.frame ∙ dwelling-route ticks t ∙ climbed-route

    both_leads : Leads s.volts (50 * (volts / 50)) (ramp (volts / 50) ++ dwelling ticks)
    both_leads = Leads-append climbed_leads (dwelling_leads (50 * (volts / 50)) ticks)

    -- the leak was not read
    pub no_leak : {w : RigState} (e : RigStop) → ReadsLeak u w (Err e) → BreaksOff s w (raise_stop_of e)
    no_leak {w} e refused =
        breaks-off (Happens-then climbed dwelt) both_leads (All-append IsCalm (ramp (volts / 50)) (dwelling ticks) (ramp-calm (volts / 50)) (dwelling-calm ticks))
        (Happens-cause e (Happens-leak (Err e) refused)) (none_allowed (50 * (volts / 50))) none_stop (λ is. absurd (no_door e is))

    -- the leak was read
    pub holds : {w : RigState} (g : LeakReading) → ReadsLeak u w (Ok g) → Holds s w volts ticks g
    holds {w} g read =
        let both = Happens-then climbed dwelt in
        let Q : Option (List Row) → Option Groups → ℕ → ℕ → Type 0 = λ o r n v. IfSome o (λ rows. IfSome r (λ groups. g ≡ leak_of rows n groups.left groups.right v)) in
        record {
          happens = Happens-then both (Happens-leak (Ok g) read);
          truth = λ honest.
              subst (λ o. Q o s.route s.points volts) (Happens-truth both)
              (subst (λ r. Q u.truth r s.points volts) dwelt-route
              (subst (λ n. Q u.truth u.route n volts) (Happens-points both)
              (subst (λ v. Q u.truth u.route u.points v) dwelt-volts
              (read.truth (subst IsTrue (sym (Happens-honest both)) honest)))));
        }
