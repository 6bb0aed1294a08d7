-- How the work on a unit ends: its status, what was read and what was written.
--     Finds seated new text     with a rig that was so as the unit was seated, and is so after all readings, this is the text of what was found
--     Stops seated new          the same where a reading failed: what is known of the readings before it
use Rattle.std.specs.Prelude.{◌≡◌, ◌⊎◌, ℕ, List, Option, Some, Ok, Err}
use Rattle.base.specs.Causes.{Rose}
use Rattle.rig.specs.declared.rig.RigStop.{RigStop}
use Rattle.rig.specs.declared.rig.RigStop.TheVariants.{Failed}
use Rattle.rig.specs.declared.rig.SeatAnswer.TheVariants.{Present, Absent}
use Rattle.rig.specs.RigState.{RigState}
use Rattle.rig.specs.Seating.{Seats}
use Rattle.rig.specs.Readings.{Reads}
use Rattle.bench_cli.specs.Closing.{Sunk, Wrote, WroteSome, Closes, IsUnasked, LacksMemory, rig_fault_line, fixture_empty_line}

-- the text was written, or a write failed in it, or memory ran out
abbrev pub PrintEnds : Sunk → List ℕ → ℕ → Type 0
PrintEnds sunk text result =
    ((result ≡ 0) × Wrote sunk text)
    ⊎ (((result ≡ 7) × Rose sunk.faults sunk.faults_after × WroteSome sunk text)
    ⊎ ((result ≡ 9) × LacksMemory sunk text))

-- from the seated unit on
pub data SeatedEnds (Finds : RigState → RigState → List ℕ → Type 0) (Stops : RigState → RigState → Type 0) (seated new : RigState)
    (sunk : Sunk) : ℕ → Type 0 where
  -- the whole text was written
  printed : (text : List ℕ) → Finds seated new text → Wrote sunk text → SeatedEnds Finds Stops seated new sunk 0
  -- a write failed in it, after the last reading
  write_failed : (text : List ℕ) → Finds seated new text → Rose sunk.faults sunk.faults_after → WroteSome sunk text → SeatedEnds Finds Stops seated new sunk 7
  -- a reading failed
  rig_failed : Reads seated new (Some Failed) → Stops seated new → Closes sunk rig_fault_line → SeatedEnds Finds Stops seated new sunk 15
  -- memory ran out: in a reading, in the text after the last reading, or in the closing line
  no_memory : (stop : Option RigStop) → Reads seated new stop → IsUnasked sunk → SeatedEnds Finds Stops seated new sunk 9
  no_memory_in_text : (text : List ℕ) → Finds seated new text → LacksMemory sunk text → SeatedEnds Finds Stops seated new sunk 9
  no_memory_at_fault : Reads seated new (Some Failed) → LacksMemory sunk rig_fault_line → SeatedEnds Finds Stops seated new sunk 9

-- where it was not seated
pub data UnseatedEnds (old new : RigState) (serial : List ℕ) (attempt : ℕ) (sunk : Sunk) : ℕ → Type 0 where
  -- there is no such unit
  empty : Seats old new serial attempt (Ok Absent) → Closes sunk fixture_empty_line → UnseatedEnds old new serial attempt sunk 14
  -- the rig failed to seat it
  rig_failed : Seats old new serial attempt (Err Failed) → Closes sunk rig_fault_line → UnseatedEnds old new serial attempt sunk 15
  -- memory ran out: before anything was written, or in the closing line
  no_memory : (stop : RigStop) → Seats old new serial attempt (Err stop) → IsUnasked sunk → UnseatedEnds old new serial attempt sunk 9
  no_memory_at_empty : Seats old new serial attempt (Ok Absent) → LacksMemory sunk fixture_empty_line → UnseatedEnds old new serial attempt sunk 9
  no_memory_at_fault : Seats old new serial attempt (Err Failed) → LacksMemory sunk rig_fault_line → UnseatedEnds old new serial attempt sunk 9

pub data UnitEnds (Finds : RigState → RigState → List ℕ → Type 0) (Stops : RigState → RigState → Type 0) (old new : RigState)
    (serial : List ℕ) (attempt : ℕ) (sunk : Sunk) : ℕ → Type 0 where
  seated : {status : ℕ} → (middle : RigState) → Seats old middle serial attempt (Ok Present) → SeatedEnds Finds Stops middle new sunk status
      → UnitEnds Finds Stops old new serial attempt sunk status
  unseated : {status : ℕ} → UnseatedEnds old new serial attempt sunk status → UnitEnds Finds Stops old new serial attempt sunk status
