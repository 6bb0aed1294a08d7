-- Parts of the table of rules, as the bodies of the decision take them.
use Rattle.std.specs.Prelude.{ℕ, ◌<◌, Bool, not, ◌&&◌, nat_lt, nat_le, List, [], length, Option, is_none, ⊤}
use Rattle.std.specs.Option.{option_or}
use Rattle.wirelist.specs.declared.program.Program.{Program}
use Rattle.records.specs.declared.record.Staff.{Staff}
use Rattle.records.specs.declared.record.StationRecord.{StationRecord}
use Rattle.serials.specs.declared.command.Command.{Command}
use Rattle.serials.specs.declared.command.Command.TheVariants as command
use Rattle.serials.specs.declared.decision.Rule.{Rule}
use Rattle.serials.specs.declared.decision.Rule.TheVariants as rule
use Rattle.serials.specs.declared.facts.SerialFacts.{SerialFacts}
use Rattle.serials.specs.Scan.{tests}
use Rattle.serials.specs.Decide.{when, no_wirelist, differs, calibration_over, not_marked, staff_missing}

-- the serial has a test, the last is no pass, and no rework stands after it
abbrev pub rework_due : SerialFacts → Bool
rework_due f = nat_lt 0 f.tests && (not f.last_passed && not f.reworked)

-- the first rule against a unit, whatever is to be done with it
abbrev pub unit_rule : SerialFacts → Option Rule
unit_rule f = option_or (when (is_none f.enrol) rule.NotEnrolled) (option_or (when f.released rule.Released) (when f.scrapped rule.Scrapped))

-- the first rule against its next test
abbrev pub test_rule : SerialFacts → ℕ → Option Rule
test_rule f attempts =
    option_or (when f.last_passed rule.PassedAlready)
    (option_or (when (rework_due f) rule.ReworkOwed) (when (nat_le attempts f.tests) (rule.AttemptsUsed attempts)))

-- a test, whatever its id and serial
abbrev pub a_test : Option Staff → Command
a_test staff = command.Test [] [] staff

-- the first rule against testing any unit
abbrev pub testing_rule : List StationRecord → Option Staff → ℕ → Program → Option Rule
testing_rule R staff moment p =
    option_or (no_wirelist R (a_test staff))
    (option_or (differs R p (a_test staff))
    (option_or (calibration_over R moment (a_test staff)) (option_or (not_marked R (a_test staff)) (staff_missing R (a_test staff)))))

-- a serial that is to be tested has fewer tests than this
abbrev pub IsFewTests : List StationRecord → Command → ℕ → Type 0
IsFewTests R (command.Test id serial staff) attempts = length (tests R serial) < attempts
IsFewTests R others attempts = ⊤
