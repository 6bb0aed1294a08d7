-- How the work on a unit ends, from the parts.
use Rattle.std.proofs.Common.{◌≡◌, inl, inr, ℕ, List, Option, Some, Ok, Err, refl, sym, subst}
use Rattle.rig.specs.declared.rig.RigStop.{RigStop}
use Rattle.rig.specs.declared.rig.RigStop.TheVariants.{Failed}
use Rattle.rig.specs.declared.rig.SeatAnswer.TheVariants.{Present, Absent}
use Rattle.rig.specs.RigState.{RigState}
use Rattle.rig.specs.Seating.{Seats}
use Rattle.rig.specs.Readings.{Reads}
use Rattle.bench_cli.specs.Closing.{Sunk, IsUnasked, ClosesWith, rig_fault_line, fixture_empty_line}
use Rattle.bench_cli.specs.UnitEnds.{PrintEnds, SeatedEnds, UnseatedEnds, UnitEnds}
use Rattle.bench_cli.specs.UnitEnds.SeatedEnds.{printed, write_failed, rig_failed, no_memory, no_memory_in_text, no_memory_at_fault}
use Rattle.bench_cli.specs.UnitEnds.UnseatedEnds.{empty, rig_failed as seat_failed, no_memory as no_memory_at_seat, no_memory_at_empty, no_memory_at_fault as memory_at_seat}
use Rattle.bench_cli.specs.UnitEnds.UnitEnds.{seated, unseated}

-- a sink that was not asked
abbrev pub untouched : Option (List ℕ) → ℕ → Sunk
untouched got faults = record { got = got; got_after = got; faults = faults; faults_after = faults }

unasked : (got : Option (List ℕ)) (faults : ℕ) → IsUnasked (untouched got faults)
unasked got faults = record { got = refl; faults = refl }

-- ---- from the seated unit on

module _ (Finds : RigState → RigState → List ℕ → Type 0) (Stops : RigState → RigState → Type 0) (before new : RigState) (sunk : Sunk) (final : RigState) (same : final ≡ new) where
  abbrev Ending : ℕ → Type 0
  Ending status = SeatedEnds Finds Stops before final sunk status

  at_final : {status : ℕ} → SeatedEnds Finds Stops before new sunk status → Ending status
  at_final {status} ends = subst (λ (s : RigState). SeatedEnds Finds Stops before s sunk status) (sym same) ends

  pub print_ends : (text : List ℕ) (status : ℕ) → Finds before new text → PrintEnds sunk text status → Ending status
  print_ends text status finds (inl (is, wrote)) = subst Ending (sym is) (at_final (printed text finds wrote))
  print_ends text status finds (inr (inl (is, rose, wrote))) = subst Ending (sym is) (at_final (write_failed text finds rose wrote))
  print_ends text status finds (inr (inr (is, lacks))) = subst Ending (sym is) (at_final (no_memory_in_text text finds lacks))

  pub fault_ends : (status : ℕ) → Reads before new (Some Failed) → Stops before new → ClosesWith sunk rig_fault_line 15 status → Ending status
  fault_ends status reads stops (inl (is, line)) = subst Ending (sym is) (at_final (rig_failed reads stops line))
  fault_ends status reads stops (inr (is, line)) = subst Ending (sym is) (at_final (no_memory_at_fault reads line))

pub memory_ends : (Finds : RigState → RigState → List ℕ → Type 0) (Stops : RigState → RigState → Type 0) (before new final : RigState) (stop : Option RigStop) (got : Option (List ℕ)) (faults : ℕ) → final ≡ new → Reads before new stop
    → SeatedEnds Finds Stops before final (untouched got faults) 9
memory_ends Finds Stops before new final stop got faults same reads =
    subst (λ (s : RigState). SeatedEnds Finds Stops before s (untouched got faults) 9) (sym same) (no_memory stop reads (unasked got faults))

-- ---- where it was not seated

module _ (old new : RigState) (serial : List ℕ) (attempt : ℕ) (sunk : Sunk) where
  abbrev Unseated : ℕ → Type 0
  Unseated status = UnseatedEnds old new serial attempt sunk status

  pub empty_ends : (status : ℕ) → Seats old new serial attempt (Ok Absent) → ClosesWith sunk fixture_empty_line 14 status → Unseated status
  empty_ends status seats (inl (is, line)) = subst Unseated (sym is) (empty seats line)
  empty_ends status seats (inr (is, line)) = subst Unseated (sym is) (no_memory_at_empty seats line)

  pub seat_fault_ends : (status : ℕ) → Seats old new serial attempt (Err Failed) → ClosesWith sunk rig_fault_line 15 status → Unseated status
  seat_fault_ends status seats (inl (is, line)) = subst Unseated (sym is) (seat_failed seats line)
  seat_fault_ends status seats (inr (is, line)) = subst Unseated (sym is) (memory_at_seat seats line)

pub seat_memory_ends : {old new : RigState} {serial : List ℕ} {attempt : ℕ} {stop : RigStop} (got : Option (List ℕ)) (faults : ℕ) → Seats old new serial attempt (Err stop) → UnseatedEnds old new serial attempt (untouched got faults) 9
seat_memory_ends {stop = stop} got faults seats = no_memory_at_seat stop seats (unasked got faults)

-- ---- either way

module _ (Finds : RigState → RigState → List ℕ → Type 0) (Stops : RigState → RigState → Type 0) (old new : RigState) (name serial : List ℕ) (attempt : ℕ) (sunk : Sunk) (status : ℕ) (named : name ≡ serial) where
  with_name : UnitEnds Finds Stops old new name attempt sunk status → UnitEnds Finds Stops old new serial attempt sunk status
  with_name ends = subst (λ (n : List ℕ). UnitEnds Finds Stops old new n attempt sunk status) named ends

  pub seated_ends : (middle : RigState) → Seats old middle name attempt (Ok Present) → SeatedEnds Finds Stops middle new sunk status → UnitEnds Finds Stops old new serial attempt sunk status
  seated_ends middle seats ends = with_name (seated middle seats ends)

  pub unseated_ends : UnseatedEnds old new name attempt sunk status → UnitEnds Finds Stops old new serial attempt sunk status
  unseated_ends ends = with_name (unseated ends)
