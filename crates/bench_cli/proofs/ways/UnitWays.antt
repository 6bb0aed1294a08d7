-- The ways in which the work on a unit ends, by the status alone.
use Rattle.std.proofs.Common.{◌≡◌, ◌≢◌, ◌⊎◌, inl, inr, ℕ, List, Some, Ok, Err, refl, arith}
use Rattle.base.specs.Causes.{Rose}
use Rattle.rig.specs.declared.rig.RigStop.TheVariants.{Failed}
use Rattle.rig.specs.declared.rig.SeatAnswer.TheVariants.{Present, Absent}
use Rattle.rig.specs.RigState.{RigState}
use Rattle.rig.specs.Seating.{Seats}
use Rattle.rig.specs.Readings.{Reads}
use Rattle.bench_cli.specs.Closing.{Sunk, Wrote, WroteSome, Closes, CountsNone, LacksMemory, rig_fault_line, fixture_empty_line}
use Rattle.bench_cli.specs.UnitEnds.{SeatedEnds, UnseatedEnds, UnitEnds}
use Rattle.bench_cli.specs.UnitEnds.SeatedEnds.{printed, write_failed, rig_failed as reading_failed, no_memory as reading_memory, no_memory_in_text, no_memory_at_fault as reading_memory_at_fault}
use Rattle.bench_cli.specs.UnitEnds.UnseatedEnds.{empty, rig_failed as seat_failed, no_memory as seat_memory, no_memory_at_empty, no_memory_at_fault as seat_memory_at_fault}
use Rattle.bench_cli.specs.UnitEnds.UnitEnds.{seated, unseated}

-- where memory ran out, no failed write was counted
pub lacks_none : {sunk : Sunk} (bytes : List ℕ) → LacksMemory sunk bytes → CountsNone sunk
lacks_none bytes (inl unasked) = unasked.faults
lacks_none bytes (inr (none, some)) = none

pub data UnitWay (Finds : RigState → RigState → List ℕ → Type 0) (Stops : RigState → RigState → Type 0) (old final : RigState) (serial : List ℕ) (attempt : ℕ) (sunk : Sunk) (status : ℕ) : Type 0 where
  done : status ≡ 0 → (middle : RigState) (text : List ℕ) → Seats old middle serial attempt (Ok Present) → Finds middle final text → Wrote sunk text → UnitWay Finds Stops old final serial attempt sunk status
  cut : status ≡ 7 → (middle : RigState) (text : List ℕ) → Seats old middle serial attempt (Ok Present) → Finds middle final text → Rose sunk.faults sunk.faults_after → WroteSome sunk text → UnitWay Finds Stops old final serial attempt sunk status
  absent : status ≡ 14 → Seats old final serial attempt (Ok Absent) → Closes sunk fixture_empty_line → UnitWay Finds Stops old final serial attempt sunk status
  no_seat : status ≡ 15 → Seats old final serial attempt (Err Failed) → Closes sunk rig_fault_line → UnitWay Finds Stops old final serial attempt sunk status
  no_reading : status ≡ 15 → (middle : RigState) → Seats old middle serial attempt (Ok Present) → Reads middle final (Some Failed) → Stops middle final → Closes sunk rig_fault_line → UnitWay Finds Stops old final serial attempt sunk status
  memory : status ≡ 9 → CountsNone sunk → UnitWay Finds Stops old final serial attempt sunk status

module _ (Finds : RigState → RigState → List ℕ → Type 0) (Stops : RigState → RigState → Type 0) (old final : RigState) (serial : List ℕ) (attempt : ℕ) (sunk : Sunk) where
  seated_way : (status : ℕ) (middle : RigState) → Seats old middle serial attempt (Ok Present) → SeatedEnds Finds Stops middle final sunk status → UnitWay Finds Stops old final serial attempt sunk status
  seated_way status middle seats (printed text finds wrote) = done refl middle text seats finds wrote
  seated_way status middle seats (write_failed text finds rose wrote) = cut refl middle text seats finds rose wrote
  seated_way status middle seats (reading_failed reads stops line) = no_reading refl middle seats reads stops line
  seated_way status middle seats (reading_memory stop reads unasked) = memory refl unasked.faults
  seated_way status middle seats (no_memory_in_text text finds lacks) = memory refl (lacks_none text lacks)
  seated_way status middle seats (reading_memory_at_fault reads lacks) = memory refl (lacks_none rig_fault_line lacks)

  unseated_way : (status : ℕ) → UnseatedEnds old final serial attempt sunk status → UnitWay Finds Stops old final serial attempt sunk status
  unseated_way status (empty seats line) = absent refl seats line
  unseated_way status (seat_failed seats line) = no_seat refl seats line
  unseated_way status (seat_memory stop seats unasked) = memory refl unasked.faults
  unseated_way status (no_memory_at_empty seats lacks) = memory refl (lacks_none fixture_empty_line lacks)
  unseated_way status (seat_memory_at_fault seats lacks) = memory refl (lacks_none rig_fault_line lacks)

  pub unit_way : (status : ℕ) → UnitEnds Finds Stops old final serial attempt sunk status → UnitWay Finds Stops old final serial attempt sunk status
  unit_way status (seated middle seats ends) = seated_way status middle seats ends
  unit_way status (unseated ends) = unseated_way status ends

-- ---- what a status says

module _ {Finds : RigState → RigState → List ℕ → Type 0} {Stops : RigState → RigState → Type 0} {old final : RigState} {serial : List ℕ} {attempt : ℕ} {sunk : Sunk} {status : ℕ} where
  pub at_done : UnitWay Finds Stops old final serial attempt sunk status → status ≡ 0 → (middle : RigState) × (text : List ℕ) × Seats old middle serial attempt (Ok Present) × Finds middle final text × Wrote sunk text
  at_done (done is middle text seats finds wrote) at = (middle, text, seats, finds, wrote)
  at_done (cut is middle text seats finds rose wrote) at = absurd (omega arith)
  at_done (absent is seats line) at = absurd (omega arith)
  at_done (no_seat is seats line) at = absurd (omega arith)
  at_done (no_reading is middle seats reads stops line) at = absurd (omega arith)
  at_done (memory is quiet) at = absurd (omega arith)

  pub at_cut : UnitWay Finds Stops old final serial attempt sunk status → status ≡ 7
      → (middle : RigState) × (text : List ℕ) × Seats old middle serial attempt (Ok Present) × Finds middle final text × Rose sunk.faults sunk.faults_after × WroteSome sunk text
  at_cut (done is middle text seats finds wrote) at = absurd (omega arith)
  at_cut (cut is middle text seats finds rose wrote) at = (middle, text, seats, finds, rose, wrote)
  at_cut (absent is seats line) at = absurd (omega arith)
  at_cut (no_seat is seats line) at = absurd (omega arith)
  at_cut (no_reading is middle seats reads stops line) at = absurd (omega arith)
  at_cut (memory is quiet) at = absurd (omega arith)

  pub at_absent : UnitWay Finds Stops old final serial attempt sunk status → status ≡ 14 → Seats old final serial attempt (Ok Absent) × Closes sunk fixture_empty_line
  at_absent (done is middle text seats finds wrote) at = absurd (omega arith)
  at_absent (cut is middle text seats finds rose wrote) at = absurd (omega arith)
  at_absent (absent is seats line) at = (seats, line)
  at_absent (no_seat is seats line) at = absurd (omega arith)
  at_absent (no_reading is middle seats reads stops line) at = absurd (omega arith)
  at_absent (memory is quiet) at = absurd (omega arith)

  pub at_fault : UnitWay Finds Stops old final serial attempt sunk status → status ≡ 15 → (Seats old final serial attempt (Err Failed)
      ⊎ ((middle : RigState) × Seats old middle serial attempt (Ok Present) × Reads middle final (Some Failed) × Stops middle final)) × Closes sunk rig_fault_line
  at_fault (done is middle text seats finds wrote) at = absurd (omega arith)
  at_fault (cut is middle text seats finds rose wrote) at = absurd (omega arith)
  at_fault (absent is seats line) at = absurd (omega arith)
  at_fault (no_seat is seats line) at = (inl seats, line)
  at_fault (no_reading is middle seats reads stops line) at = (inr (middle, seats, reads, stops), line)
  at_fault (memory is quiet) at = absurd (omega arith)

  -- files and words have other statuses
  pub at_work : UnitWay Finds Stops old final serial attempt sunk status → (status ≢ 2) × (status ≢ 3) × (status ≢ 4) × (status ≢ 6) × (status ≢ 13) × (status ≢ 11)
  at_work (done is middle text seats finds wrote) = (λ e. omega arith, λ e. omega arith, λ e. omega arith, λ e. omega arith, λ e. omega arith, λ e. omega arith)
  at_work (cut is middle text seats finds rose wrote) = (λ e. omega arith, λ e. omega arith, λ e. omega arith, λ e. omega arith, λ e. omega arith, λ e. omega arith)
  at_work (absent is seats line) = (λ e. omega arith, λ e. omega arith, λ e. omega arith, λ e. omega arith, λ e. omega arith, λ e. omega arith)
  at_work (no_seat is seats line) = (λ e. omega arith, λ e. omega arith, λ e. omega arith, λ e. omega arith, λ e. omega arith, λ e. omega arith)
  at_work (no_reading is middle seats reads stops line) = (λ e. omega arith, λ e. omega arith, λ e. omega arith, λ e. omega arith, λ e. omega arith, λ e. omega arith)
  at_work (memory is quiet) = (λ e. omega arith, λ e. omega arith, λ e. omega arith, λ e. omega arith, λ e. omega arith, λ e. omega arith)

  -- want of memory comes with no failed write
  pub at_memory : UnitWay Finds Stops old final serial attempt sunk status → status ≡ 9 → CountsNone sunk
  at_memory (done is middle text seats finds wrote) at = absurd (omega arith)
  at_memory (cut is middle text seats finds rose wrote) at = absurd (omega arith)
  at_memory (absent is seats line) at = absurd (omega arith)
  at_memory (no_seat is seats line) at = absurd (omega arith)
  at_memory (no_reading is middle seats reads stops line) at = absurd (omega arith)
  at_memory (memory is quiet) at = quiet
