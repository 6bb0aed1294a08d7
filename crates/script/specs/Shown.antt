-- What the rig shows of the tests that a script recorded.
--     last_tally serial attempt tallies     the last tally of this serial and attempt
--     IsShown p tallies r                   a test that r records has a last tally that counts enough for its outcome
--     test_count R, has_wiring R            how many tests the records have, and whether one found a wiring fault
--     refuses_test said                     E16, E17, E20 or E21
--     IsShownBehind p tallies R S           so has each test that S has behind R
--     TestsShown                            all of it
use Rattle.std.specs.Prelude.{◌≡◌, ◌⊎◌, ℕ, ◌+◌, ◌*◌, ◌==◌, ◌&&◌, ◌||◌, Bool, true, false}
use Rattle.std.specs.Prelude.{List, [], ◌∷◌, ◌++◌, bytes_eq, count_by, Option, Some, None, IfSome, IsTrue, ⊤}
use Rattle.std.specs.List.{AllByRecursion}
use Rattle.disk_edge.specs.Disk.{DiskState, EachImage}
use Rattle.rig.specs.RigState.{RigState}
use Rattle.rig.specs.declared.event.Tally.{Tally}
use Rattle.wirelist.specs.declared.outcome.Verdict.{Verdict}
use Rattle.wirelist.specs.declared.outcome.Outcome.TheVariants as outcome
use Rattle.wirelist.specs.declared.program.Program.{Program}
use Rattle.unit_outcome.specs.Enough.{Enough, checking_readings}
use Rattle.records.specs.declared.record.Body.{Body}
use Rattle.records.specs.declared.record.Body.TheVariants.{Tested}
use Rattle.records.specs.declared.record.StationRecord.{StationRecord}
use Rattle.ledger.specs.Kept.{IsImageOf}
use Rattle.station.specs.declared.answer.Refused.{Refused}
use Rattle.station.specs.declared.answer.Refused.TheVariants as refused
use Rattle.station.specs.declared.answer.Answer.TheVariants as answer
use Rattle.station.specs.RigAfter.{LeavesFor}
use Rattle.station.specs.Step.{answered, not_at_zero}
use Rattle.script.specs.RigLines.{refuses_by}
use Rattle.script.specs.Said.{Said, no_command, replied}

-- ---- tallies

abbrev pub is_tally_of : List ℕ → ℕ → Tally → Bool
is_tally_of serial attempt tally = bytes_eq tally.serial serial && (tally.attempt == attempt)

-- the tally, where there is none behind it
abbrev pub or_this : Option Tally → Bool → Tally → Option Tally
or_this (Some later) is tally = Some later
or_this None true tally = Some tally
or_this None false tally = None

-- the last tally of this serial and attempt
abbrev pub last_tally : List ℕ → ℕ → List Tally → Option Tally
last_tally serial attempt [] = None
last_tally serial attempt (tally ∷ more) = or_this (last_tally serial attempt more) (is_tally_of serial attempt tally) tally

-- a test had a seating of its own, which counts enough for the outcome that it states
abbrev pub IsShown : Program → List Tally → Body → Type 0
IsShown p tallies (Tested serial attempt staff outcome) = (tally : Tally) × (last_tally serial attempt tallies ≡ Some tally) × Enough p outcome tally
IsShown p tallies others = ⊤

-- what stands behind the records has such tallies
abbrev pub IsShownBehind : Program → Option (List Tally) → List StationRecord → List StationRecord → Type 0
IsShownBehind p tallies records later =
    (more : List StationRecord) × (later ≡ records ++ more) × IfSome tallies (λ list. AllByRecursion (λ (r : StationRecord). IsShown p list r.body) more)

-- ---- tests

abbrev pub is_test : Body → Bool
is_test (Tested serial attempt staff outcome) = true
is_test others = false

abbrev pub is_wiring : Body → Bool
is_wiring (Tested serial attempt staff (outcome.Wiring d)) = true
is_wiring others = false

abbrev pub test_count : List StationRecord → ℕ
test_count R = count_by (λ (r : StationRecord). is_test r.body) R

abbrev pub no_wiring : List StationRecord → Type 0
no_wiring R = AllByRecursion (λ (r : StationRecord). is_wiring r.body ≡ false) R

-- E16, E17 and E20
abbrev pub is_of_the_test : Refused → Bool
is_of_the_test refused.Door = true
is_of_the_test (refused.Charged volts) = true
is_of_the_test refused.RigFault = true
is_of_the_test (refused.Rule r) = false
is_of_the_test refused.Full = false
is_of_the_test refused.Empty = false

abbrev pub refuses_test : Said → Bool
refuses_test (no_command number) = false
refuses_test (replied id (answered a)) = refuses_by is_of_the_test a
refuses_test (replied id not_at_zero) = true

abbrev pub NoneRefused : List Said → Type 0
NoneRefused said = AllByRecursion (λ s. refuses_test s ≡ false) said

-- with these statuses all lines that were read were answered, and no command is under way
abbrev pub is_done : ℕ → Bool
is_done status = status == 0 || status == 6 || status == 12

-- What the rig shows of the tests that the lines with these answers recorded. `records` are those behind these lines.
--     added    the records that were added
--     tallies  the last tally of each test's serial and attempt counts enough for its outcome
--     spent    the group readings are those that each test takes, where no unit had a wiring fault and no test was refused
--     last     the trail and all else shows what is said of the record that the last line stored
--     under_way  of the line that was not answered each image keeps nothing, or what it recorded has such a tally too
pub record TestsShown (p : Program) (began rig : RigState) (found records later : List StationRecord) (ended : DiskState) (said : List Said) (status : ℕ)
    : Type 0 where
  pub added : List StationRecord
  pub is : records ≡ found ++ added
  pub tallies : IfSome rig.tallies (λ tallies. AllByRecursion (λ (r : StationRecord). IsShown p tallies r.body) added)
  pub spent : IsTrue (is_done status) → no_wiring added → NoneRefused said → rig.spent ≡ began.spent + test_count added * checking_readings p
  pub last : IsTrue (is_done status) → (before : List Said) (id : List ℕ) (number : ℕ) (v : Option Verdict)
      → said ≡ before ++ replied id (answered (answer.Stored number v)) ∷ []
      → (old : RigState) × LeavesFor p records old rig
  pub under_way : EachImage ended (IsImageOf records) ⊎ IsShownBehind p rig.tallies records later
