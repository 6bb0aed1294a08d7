-- What a seat leaves of a simulator.
use Rattle.std.proofs.Common.{◌≡◌, ℕ, zero, suc, ◌+◌, ◌-◌, ◌^◌, ◌<◌, ◌≤◌, Bool, true, false, List, [], ◌∷◌, ◌++◌, Option, Some, None, Ok, Err, length, refl, sym, ◌∙◌, ap, subst, arith}
use Rattle.std.specs.Prelude.{IfSome, IsErrAnd, Result, slice_get, slice_index_or, option_map, drop}
use Rattle.std.specs.List.{position_or_len}
use Rattle.partition.specs.Partitions.{IsPartitionOfAll}
use Rattle.partition.proofs.classes.JoinedPartition.{joined_by-own}
use Rattle.rig.specs.declared.rig.RigStop.{RigStop}
use Rattle.rig.specs.declared.rig.RigStop.TheVariants.{Memory}
use Rattle.rig.specs.declared.rig.SeatAnswer.{SeatAnswer}
use Rattle.rig.specs.declared.rig.SeatAnswer.TheVariants.{Present, Absent}
use Rattle.rig.specs.declared.event.Tally.{Tally}
use Rattle.rig.specs.declared.unit.Unit.{Unit as HarnessUnit}
use Rattle.rig.specs.Joins.{is_unit, joins_of, joined_classes, unit_rows}
use Rattle.rig.specs.Seating.{Seats, empty_tally}
use Rattle.rig.proofs.RowsBelow.{joins_below}
use Rattle.rig_sim.specs.declared.sim_rig.SimRig.TheInside.{Inside}
use Rattle.rig_sim.specs.Counters.{Counted, next_count, numbers_to}
use Rattle.rig_sim.specs.Fixture.{IsPlaceOf, states_alone}
use Rattle.rig_sim.specs.Logs.{Logged, begun}
use Rattle.rig_sim.specs.SimRig.{rows_at, rows_of}
use Rattle.rig_sim.specs.SimView.{sim_state, IsSim}
use Rattle.rig_sim.proofs.SimLemmas.{sim_told, unit_of}

-- the log without a unit
abbrev pub left_log : Logged → Logged
left_log log = record log { seated = false }

pub sim_left : (a : Inside) (log : Logged) → log ≡ left_log a.log → IsSim a → IsSim (record a { log = log })
sim_left a log left sim = rw left (record {
  some_points = sim.some_points;
  few_points = sim.few_points;
  units = sim.units;
  placed = sim.placed;
  routed = sim.routed;
  size = sim.size;
  all = sim.all;
  joined = sim.joined;
  room = sim.room;
  fits = sim.fits;
  seats_fits = sim.seats_fits;
  few_faults = sim.few_faults;
  few_opens = sim.few_opens;
})

pub seats_memory : (a : Inside) (log : Logged) (serial : List ℕ) (attempt : ℕ) → log ≡ left_log a.log → IsSim a → Seats (sim_state a).state (sim_state (record a { log = log })).state serial attempt (Err Memory)
seats_memory a log serial attempt left sim =
    let told = sim_told (record a { log = log }) (sim_left a log left sim) in record {
      called = record {
        cause = record { later = omega arith; rose = λ e. cc };
        no_fault = λ h. refl;
        memory = λ e. rw left refl;
        told = told;
      };
      seats = λ h. absurd (h refl);
      room = tt;
      present = λ e. cc;
      unit = λ e. cc;
      coming = λ e. cc;
      in_range = λ e. cc;
      absent = λ e. cc;
      no_unit = λ e. cc;
      err = rw left refl;
    }

-- a simulator whose trail has begun again
pub sim_begun : (a : Inside) (calls : Counted) (seats i : ℕ) (place : Option ℕ) (classes : List ℕ) (seated : Bool) (tallies : List Tally) (log : Logged) → IsSim a → calls ≡ next_count a.calls →
    numbers_to a.calls.count a.calls.listed ≤ numbers_to calls.count a.calls.listed → seats ≡ a.seats + 1 → a.seats < 2 ^ 64 - 1 → log ≡ begun seated (record a.log { tallies = tallies }) →
    IfSome place (λ k. k < length a.units) → length classes ≡ a.points → IsPartitionOfAll classes → IfSome (rows_of a.units place) (λ rows. classes ≡ joined_classes rows a.points) →
    IsSim (record a { calls = calls; seats = seats; place = place; classes = classes; route = None; log = log })
sim_begun a calls seats i place classes seated tallies log sim counted left seats_are below begun_is placed size all joined = rw begun_is (record {
  some_points = sim.some_points;
  few_points = sim.few_points;
  units = sim.units;
  placed = placed;
  routed = tt;
  size = size;
  all = all;
  joined = joined;
  room = sim.room;
  fits = sim.fits;
  seats_fits = omega arith;
  few_faults = λ spent seated.
      let had = sim.few_faults spent (omega arith) in
      let same : calls.listed ≡ a.calls.listed = ap (λ (c : Counted). c.listed) counted in
      subst (λ (ks : List ℕ). a.faults ≤ numbers_to calls.count ks) (sym same) (omega arith);
  few_opens = sim.few_opens;
})

pub seats_absent : (a : Inside) (calls : Counted) (seats : ℕ) (log : Logged) (serial : List ℕ) (attempt : ℕ) → IsSim a → calls ≡ next_count a.calls → numbers_to a.calls.count a.calls.listed ≤ numbers_to calls.count a.calls.listed →
    seats ≡ a.seats + 1 → a.seats < 2 ^ 64 - 1 → log ≡ begun false a.log → unit_rows a.units serial attempt ≡ None →
    Seats (sim_state a).state (sim_state (record a { calls = calls; seats = seats; route = None; log = log })).state serial attempt (Ok Absent)
seats_absent a calls seats log serial attempt sim counted left seats_are below begun_is none =
    let told = sim_told (record a { calls = calls; seats = seats; route = None; log = log })
    (sim_begun a calls seats 0 a.place a.classes false a.log.tallies log sim counted left seats_are below begun_is sim.placed sim.size sim.all sim.joined) in record {
      called = record {
        cause = record { later = omega arith; rose = λ e. cc };
        no_fault = λ h. refl;
        memory = λ e. cc;
        told = told;
      };
      seats = λ h. omega arith;
      room = below;
      present = λ e. cc;
      unit = λ e. cc;
      coming = λ e. cc;
      in_range = λ e. cc;
      absent = λ e. rw counted (rw begun_is refl);
      no_unit = λ e. none;
      err = tt;
    }

none_later : (units : List HarnessUnit) (i : ℕ) → drop 1 (slice_index_or (states_alone units) i []) ≡ []
none_later [] i = refl
none_later (u ∷ units) zero = refl
none_later (u ∷ units) (suc i) = none_later units i

pub seats_present : (a : Inside) (calls : Counted) (seats i : ℕ) (unit : HarnessUnit) (classes : List ℕ) (log : Logged) (serial : List ℕ) (attempt : ℕ) → IsSim a → calls ≡ next_count a.calls →
    numbers_to a.calls.count a.calls.listed ≤ numbers_to calls.count a.calls.listed → seats ≡ a.seats + 1 → a.seats < 2 ^ 64 - 1 →
    log ≡ begun true (record a.log { tallies = a.log.tallies ++ (empty_tally serial attempt ∷ []) }) → IsPlaceOf a.units serial attempt i unit →
    IsSim (record a { calls = calls; seats = seats; place = Some i; classes = classes; route = None; log = log }) →
    Seats (sim_state a).state (sim_state (record a { calls = calls; seats = seats; place = Some i; classes = classes; route = None; log = log })).state serial attempt (Ok Present)
seats_present a calls seats i unit classes log serial attempt sim counted left seats_are below begun_is place next =
    let truth : rows_at a.units i ≡ Some unit.rows = ap (option_map (λ (u : HarnessUnit). u.rows)) place.stands in
    let told = sim_told (record a { calls = calls; seats = seats; place = Some i; classes = classes; route = None; log = log }) next in record {
      called = record {
        cause = record { later = omega arith; rose = λ e. cc };
        no_fault = λ h. refl;
        memory = λ e. cc;
        told = told;
      };
      seats = λ h. omega arith;
      room = below;
      present = λ e. rw counted (rw begun_is refl);
      unit = λ e. (unit.rows, place.first, truth);
      coming = λ e. ap Some (sym (none_later a.units (position_or_len (is_unit serial attempt) a.units)));
      in_range = λ e. rw truth (unit_of a.units a.points i unit sim.units place.stands).below;
      absent = λ e. cc;
      no_unit = λ e. cc;
      err = tt;
    }

-- the classes of the unit
pub classes_of : (a : Inside) (i : ℕ) (unit : HarnessUnit) (classes : List ℕ) → IsSim a → slice_get a.units i ≡ Some unit → classes ≡ joined_classes unit.rows a.points →
    (length classes ≡ a.points) × IsPartitionOfAll classes × IfSome (rows_of a.units (Some i)) (λ rows. classes ≡ joined_classes rows a.points)
classes_of a i unit classes sim stands joined =
    let truth : rows_at a.units i ≡ Some unit.rows = ap (option_map (λ (u : HarnessUnit). u.rows)) stands in
    let own = joined_by-own (joins_of unit.rows) a.points (joins_below a.points unit.rows (unit_of a.units a.points i unit sim.units stands).below) in
    (ap length joined ∙ own.1, subst IsPartitionOfAll (sym joined) own.0, rw truth joined)

pub seats_refused : (a : Inside) (log : Logged) (serial : List ℕ) (attempt : ℕ) (result : Result SeatAnswer RigStop) → IsErrAnd result (λ e. e ≡ Memory) → log ≡ left_log a.log → IsSim a →
    Seats (sim_state a).state (sim_state (record a { log = log })).state serial attempt result
seats_refused a log serial attempt (Ok x) stop left sim = absurd stop
seats_refused a log serial attempt (Err e) stop left sim = rw stop (seats_memory a log serial attempt left sim)
