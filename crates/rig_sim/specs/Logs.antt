-- What is recorded of a seating.
use Rattle.std.specs.Prelude.{◌≡◌, ◌≤◌, ℕ, Bool, false, List, [], ◌∷◌, ◌++◌, length, slice_index_or, ◌-◌, IsTrue, ⊤}
use Rattle.rig.specs.declared.event.Event.{Event}
use Rattle.rig.specs.declared.event.Event.TheVariants.{Tick}
use Rattle.rig.specs.declared.event.Tally.{Tally}
use Rattle.rig.specs.EventRoom.{EventRoom}
use Rattle.rig.specs.Happened.{IsBelowLast, tally_after, with_last}
use Rattle.rig.specs.Trail.{IsReading}
use Rattle.rig.specs.Source.{source_of}
use Rattle.rig_sim.specs.declared.meter.Meter.{Meter}
use Rattle.rig_sim.specs.Meters.{meter_after}

-- whether a unit is seated, the trail and the room set aside in it, the tallies, and what the events come to
pub record Logged : Type 0 where
  pub seated : Bool
  pub trail : EventRoom
  pub tallies : List Tally
  pub meter : Meter

-- the log with one more event
abbrev pub with_event : Event → ℕ → Logged → Logged
with_event event spare log = record log {
  trail = record { list = log.trail.list ++ event ∷ []; spare = spare };
  tallies = with_last (tally_after log.meter.volts event) log.tallies;
  meter = meter_after event log.meter;
}

-- nothing recorded
abbrev pub no_log : Logged
no_log = record {
  seated = false;
  trail = record { list = []; spare = 0 };
  tallies = [];
  meter = record { spent = 0; opens = 0; volts = 0; closed_now = false; raised = false; ticks = 0 };
}

-- a log whose trail begins again, with a unit seated or none
abbrev pub begun : Bool → Logged → Logged
begun seated log = record log {
  seated = seated;
  trail = record { list = []; spare = log.trail.spare };
  meter = record log.meter { closed_now = false; raised = false; ticks = 0 };
}

-- the event can be added: a unit is seated, and the count of readings can rise where it is one
pub record CanAdd (log : Logged) (event : Event) : Type 0 where
  pub seated : IsTrue log.seated
  pub spent : IsReading event → IsBelowLast log.meter.spent

-- the last event of a list that has one
abbrev pub last_event : List Event → Event
last_event list = slice_index_or list (length list - 1) Tick

-- no count of the tally is above n
pub record IsTallyWithin (n : ℕ) (tally : Tally) : Type 0 where
  pub readings : tally.readings ≤ n
  pub probes : tally.probes ≤ n
  pub routes : tally.routes ≤ n
  pub raises : tally.raises ≤ n
  pub ticks : tally.ticks ≤ n
  pub leaks : tally.leaks ≤ n

-- nor of the last of the tallies
abbrev pub LastWithin : ℕ → List Tally → Type 0
LastWithin n [] = ⊤
LastWithin n (tally ∷ []) = IsTallyWithin n tally
LastWithin n (tally ∷ next ∷ more) = LastWithin n (next ∷ more)

-- The meter has counted the trail, and the last tally no more than its events while a unit is seated.
pub record IsLog (log : Logged) : Type 0 where
  pub raised : log.meter.raised ≡ (source_of log.trail.list).raised
  pub ticks : log.meter.ticks ≡ (source_of log.trail.list).ticks
  pub tallied : IsTrue log.seated → LastWithin (length log.trail.list) log.tallies
