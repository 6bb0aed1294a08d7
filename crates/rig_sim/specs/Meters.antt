-- What events count.
use Rattle.std.specs.Prelude.{◌≡◌, ◌+◌, ℕ, Bool, true, false}
use Rattle.rig.specs.declared.event.Event.{Event}
use Rattle.rig.specs.declared.event.Event.TheVariants.{Reading, Ohms, Junction, Door, Route, Raise, Leak, Zero, Residual, Tick}
use Rattle.rig.specs.Happened.{IsBelowLast, spent_after, opens_after, volts_after, closed_after}
use Rattle.rig.specs.Trail.{IsReading}
use Rattle.rig_sim.specs.declared.meter.Meter.{Meter}

-- whether a raise stands in the trail
abbrev pub raised_after : Bool → Event → Bool
raised_after r (Raise v done) = true
raised_after r (Reading a b met) = r
raised_after r (Ohms a b x) = r
raised_after r (Junction a b d) = r
raised_after r (Door closed) = r
raised_after r (Route a b) = r
raised_after r (Leak g) = r
raised_after r (Zero done) = r
raised_after r (Residual w) = r
raised_after r Tick = r

-- the ticks since the last zero that was done
abbrev pub ticks_after : ℕ → Event → ℕ
ticks_after n Tick = n + 1
ticks_after n (Zero true) = 0
ticks_after n (Zero false) = n
ticks_after n (Raise v done) = n
ticks_after n (Reading a b met) = n
ticks_after n (Ohms a b x) = n
ticks_after n (Junction a b d) = n
ticks_after n (Door closed) = n
ticks_after n (Route a b) = n
ticks_after n (Leak g) = n
ticks_after n (Residual w) = n

-- a meter after an event
abbrev pub meter_after : Event → Meter → Meter
meter_after event m = record {
  spent = spent_after m.spent event;
  opens = opens_after m.opens event;
  volts = volts_after m.volts event;
  closed_now = closed_after m.closed_now event;
  raised = raised_after m.raised event;
  ticks = ticks_after m.ticks event;
}

-- the event can be counted
pub record CanMeter (meter : Meter) (event : Event) : Type 0 where
  pub spent : IsReading event → IsBelowLast meter.spent
  pub ticks : event ≡ Tick → IsBelowLast meter.ticks
