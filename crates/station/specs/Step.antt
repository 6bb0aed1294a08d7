-- What one command makes of the records.
--     done findings p R c moment decision     the answer and the records behind a decision, where nothing fails
--     Step findings p R c now reply after     these, or a test that failed and left the records
use Rattle.std.specs.Prelude.{◌≡◌, ◌⊎◌, ℕ, ◌+◌, ◌-◌, min, max, false, List, [], ◌∷◌, ◌++◌, length, if◌then◌else◌}
use Rattle.std.specs.Prelude.{Option, Some, None, option_and_then, option_map, unwrap_or}
use Rattle.std.specs.List.{slice_get}
use Rattle.wirelist.specs.declared.program.Program.{Program}
use Rattle.wirelist.specs.declared.outcome.Outcome.{Outcome}
use Rattle.wirelist.specs.declared.outcome.Outcome.TheVariants as outcome
use Rattle.wirelist.specs.declared.outcome.Verdict.{Verdict}
use Rattle.wirelist.specs.Outcomes.{verdict_of}
use Rattle.unit_outcome.specs.Found.{Found, Findings}
use Rattle.records.specs.declared.record.Body.{Body}
use Rattle.records.specs.declared.record.Body.TheVariants as body
use Rattle.records.specs.declared.record.Staff.{Staff}
use Rattle.records.specs.declared.record.StationRecord.{StationRecord}
use Rattle.records.specs.RecordRanges.{last_moment}
use Rattle.serials.specs.declared.command.Command.{Command}
use Rattle.serials.specs.declared.command.Command.TheVariants as command
use Rattle.serials.specs.declared.decision.Decision.{Decision}
use Rattle.serials.specs.declared.decision.Decision.TheVariants as decision
use Rattle.serials.specs.Commands.{id_of}
use Rattle.serials.specs.Decide.{decide}
use Rattle.ledger.specs.Kept.{is_full}
use Rattle.station.specs.declared.answer.Refused.{Refused}
use Rattle.station.specs.declared.answer.Refused.TheVariants as refused
use Rattle.station.specs.declared.answer.Answer.{Answer}
use Rattle.station.specs.declared.answer.Answer.TheVariants as answer

-- what a command comes to: an answer, or three failed zero calls
pub data Reply : Type 0 where
  answered : Answer → Reply
  not_at_zero : Reply

-- ---- the record of a command

-- the moment of the last record, 0 where there is none
abbrev pub moment_of_last : List StationRecord → ℕ
moment_of_last R = unwrap_or (option_map (λ (r : StationRecord). r.moment) (slice_get R (length R - 1))) 0

-- the moment of the next record: the clock's, but not before the last record's
abbrev pub moment_at : List StationRecord → ℕ → ℕ
moment_at R now = max (moment_of_last R) (min now last_moment)

-- what the command's record keeps; attempt and outcome are of a test alone
abbrev pub body_of : Program → ℕ → Outcome → Command → Body
body_of p attempt outcome (command.Adopt id) = body.Adopt p
body_of p attempt outcome (command.Enrol id serial) = body.Enrol serial
body_of p attempt outcome (command.Calibrate id day) = body.Calibrate day
body_of p attempt outcome (command.Mark id) = body.Mark
body_of p attempt outcome (command.Test id serial staff) = body.Tested serial attempt staff outcome
body_of p attempt outcome (command.Rework id serial) = body.Rework serial
body_of p attempt outcome (command.Release id serial) = body.Release serial
body_of p attempt outcome (command.Scrap id serial) = body.Scrap serial

-- the command's record
abbrev pub record_of : Program → ℕ → ℕ → Outcome → Command → StationRecord
record_of p moment attempt outcome c = record { id = id_of c; moment = moment; body = body_of p attempt outcome c }

-- the record of a test with this outcome
abbrev pub test_record : List ℕ → List ℕ → Option Staff → ℕ → ℕ → Outcome → StationRecord
test_record id serial staff attempt moment outcome = record { id = id; moment = moment; body = body.Tested serial attempt staff outcome }

-- the verdict of a record, where it is a test
abbrev pub verdict_in : Body → Option Verdict
verdict_in (body.Adopt p) = None
verdict_in (body.Enrol serial) = None
verdict_in (body.Calibrate day) = None
verdict_in (body.Tested serial attempt staff outcome) = Some (verdict_of outcome)
verdict_in (body.Rework serial) = None
verdict_in (body.Release serial) = None
verdict_in (body.Scrap serial) = None
verdict_in body.Mark = None

-- the recorded verdict
abbrev pub verdict_at : List StationRecord → ℕ → Option Verdict
verdict_at R k = option_and_then (λ (r : StationRecord). verdict_in r.body) (slice_get R (k - 1))

-- ---- the answer and the records behind it

-- a refusal leaves the records
abbrev pub refuses : List StationRecord → Refused → Answer × List StationRecord
refuses R why = (answer.No why, R)

-- a stored record stands behind the others, and has the next number
abbrev pub stores : List StationRecord → StationRecord → Answer × List StationRecord
stores R r = (answer.Stored (length R + 1) (verdict_in r.body), R ++ r ∷ [])

-- the same, where the journal has room
abbrev pub keeps : List StationRecord → StationRecord → Answer × List StationRecord
keeps R r = if is_full R then refuses R refused.Full else stores R r

-- the unit that a test is made of
abbrev pub tested_unit : Findings → Command → ℕ → Option Found
tested_unit findings (command.Test id serial staff) attempt = findings serial attempt
tested_unit findings others attempt = None

-- a test of a unit that is there: it stays charged, or the record of its outcome is stored
abbrev pub tests_unit : List StationRecord → StationRecord → Option ℕ → Answer × List StationRecord
tests_unit R r None = stores R r
tests_unit R r (Some volts) = refuses R (refused.Charged volts)

-- a test: the fixture is empty, or it has the unit
abbrev pub tests : List StationRecord → (Outcome → StationRecord) → Option Found → Answer × List StationRecord
tests R made None = refuses R refused.Empty
tests R made (Some unit) = tests_unit R (made unit.outcome) unit.charged

-- by the decision, where the rig has no fault and the door stays closed
abbrev pub done : Findings → Program → List StationRecord → Command → ℕ → Decision → Answer × List StationRecord
done findings p R c moment (decision.Same k) = (answer.Same k (verdict_at R k), R)
done findings p R c moment (decision.No r) = refuses R (refused.Rule r)
done findings p R c moment decision.Keep = keeps R (record_of p moment 0 outcome.Pass c)
done findings p R c moment (decision.Test attempt) =
    if is_full R then refuses R refused.Full
    else tests R (λ found. record_of p moment attempt found c) (tested_unit findings c attempt)

-- ---- the step

-- a test of a seated unit may come to a fault, a door that opens, or a source that is not at zero; with no unit, to a fault alone
abbrev pub MayFail : Option Found → Reply → Type 0
MayFail None reply = reply ≡ answered (answer.No refused.RigFault)
MayFail (Some unit) reply = (reply ≡ answered (answer.No refused.RigFault)) ⊎ (reply ≡ answered (answer.No refused.Door)) ⊎ (reply ≡ not_at_zero)

-- what a test comes to where there is room: that, or it failed and left the records
abbrev pub Tests : List StationRecord → (Outcome → StationRecord) → Option Found → Reply → List StationRecord → Type 0
Tests R made unit reply later =
    ((reply ≡ answered (tests R made unit).0) × (later ≡ (tests R made unit).1))
    ⊎ (MayFail unit reply × (later ≡ R))

-- only a test that is made may fail
abbrev pub FailsBy : Findings → Command → Decision → Reply → Type 0
FailsBy findings c (decision.Test attempt) reply = MayFail (tested_unit findings c attempt) reply
FailsBy findings c others reply = ⊥

-- the reply and the records behind a decision: that, or a test that failed where there was room, and left the records
unfoldable pub StepBy : Findings → Program → List StationRecord → Command → ℕ → Decision → Reply → List StationRecord → Type 0
StepBy findings p R c moment decision reply after =
    ((reply ≡ answered (done findings p R c moment decision).0) × (after ≡ (done findings p R c moment decision).1))
    ⊎ ((is_full R ≡ false) × FailsBy findings c decision reply × (after ≡ R))

-- the decision, with the moment of the record
abbrev pub decision_at : Program → List StationRecord → Command → ℕ → Decision
decision_at p R c now = decide R c (moment_at R now) p

-- The step.
abbrev pub Step : Findings → Program → List StationRecord → Command → ℕ → Reply → List StationRecord → Type 0
Step findings p R c now reply after = StepBy findings p R c (moment_at R now) (decision_at p R c now) reply after
