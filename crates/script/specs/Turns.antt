-- A line that was answered.
--     OfAsked old asked now P    the line asks for a test that is to be made, and P holds of its serial and its attempt
--     IsTurn                     what answering a line made of the station
--     IsAnswered                 the same, with what was written and the clock
use Rattle.std.specs.Prelude.{◌≡◌, ℕ, ◌≤◌, false, List, Option, Some, None, IfSome}
use Rattle.std.specs.Io.KnownBytes.{Appends}
use Rattle.bench_edge.specs.Clocks.{Ticks}
use Rattle.disk_edge.specs.Disk.{DiskState, LeavesOnly}
use Rattle.journal.specs.Journal.{KeepsLimit}
use Rattle.rig.specs.RigState.{RigState}
use Rattle.unit_outcome.specs.Found.{Findings, told_by}
use Rattle.records.specs.declared.record.StationRecord.{StationRecord}
use Rattle.ledger.specs.Kept.{IsImageOfEither}
use Rattle.ledger.specs.Ledger.{Tells}
use Rattle.serials.specs.Commands.{id_of}
use Rattle.station.specs.declared.answer.Answer.{Answer}
use Rattle.station.specs.RigAfter.{TestOf, AnsweredFor, GrowsTallies, StaysInOrder, StaysOrKeeps}
use Rattle.station.specs.Step.{answered, decision_at}
use Rattle.station.specs.View.{StationState, Same}
use Rattle.script.specs.Said.{Asked, Said, no_command, replied, written, is_stuck}
use Rattle.script.specs.After.{Answers}

-- the line asks for a test that is to be made, and P holds of its serial and its attempt
abbrev pub OfAsked : StationState → Asked → ℕ → (List ℕ → ℕ → Type 0) → Type 0
OfAsked old (number, None) now P = ⊥
OfAsked old (number, Some c) now P = TestOf c (decision_at old.program old.records c now) P

-- whatever is said to a line, the rig says of itself what it said, and at most the tally of its test came
pub record RigGoesOn (old : StationState) (asked : Asked) (now : ℕ) (rig : RigState) : Type 0 where
  pub kept : StaysOrKeeps old.rig rig
  pub tallies : GrowsTallies (OfAsked old asked now) old.rig rig

-- no image is longer than a journal may be, where none was, and no fault of the disk is uncounted
pub record DiskGoesOn (old new : DiskState) : Type 0 where
  pub limit : LeavesOnly old new (KeepsLimit old)
  pub later : old.faults ≤ new.faults

-- what a line did to the rig, by what is said to it: what is no command leaves the station as it was
abbrev pub DidFor : StationState → Asked → ℕ → Said → StationState → Type 0
DidFor old (number, None) now said new = (said ≡ no_command number) × (new ≡ old)
DidFor old (number, Some c) now said new =
    (a : Answer) × (said ≡ replied (id_of c) (answered a)) × AnsweredFor (TestOf c (decision_at old.program old.records c now)) old new a

-- The answer is a step's, and so are the records behind it: by what the rig tells of each unit, or else by something that it may have
-- found. A crash at any moment leaves the records before, or those.
pub record Steps (old : StationState) (asked : Asked) (now : ℕ) (said : Said) (later : List StationRecord) (disk : DiskState) : Type 0 where
  pub findings : Findings
  pub told : IfSome (told_by old.program old.rig) (λ told. findings ≡ told)
  pub step : Answers findings old.program old.records asked now said later
  pub images : LeavesOnly old.disk disk (IsImageOfEither old.records later)

-- What answering a line made of the station.
--     step     where the disk tells its content, the answer is a step's, and so are the records behind it
--     did      what was done to the rig, with the cause of each refusal
--     order    the trail stays in the order of high voltage, and ends at zero
pub record IsTurn (old : StationState) (asked : Asked) (now : ℕ) (said : Said) (new : StationState) : Type 0 where
  pub at_zero : is_stuck said ≡ false
  pub same : Same old new
  pub step : Tells old.disk → Steps old asked now said new.records new.disk
  pub disk : DiskGoesOn old.disk new.disk
  pub rig : RigGoesOn old asked now new.rig
  pub did : DidFor old asked now said new
  pub order : StaysInOrder old.program old.rig new.rig

-- The line is answered, its answer is written whole, and the clock was asked once.
pub record IsAnswered (old : StationState) (asked : Asked) (new : StationState) (got got' moments moments' : Option (List ℕ)) : Type 0 where
  pub now : ℕ
  pub said : Said
  pub ticks : Ticks moments moments' now
  pub turn : IsTurn old asked now said new
  pub wrote : Appends got got' (written said)
