-- What is to be done with a command, from the plain list of records.
--     repeats body c p          a record is of the command again
--     table R c moment p        the rules, in their order, each where it applies
--     decide R c moment p       the decision
use Rattle.std.specs.Prelude.{ℕ, ◌+◌, ◌-◌, ◌/◌, Bool, true, false, not, ◌&&◌, ◌==◌, nat_lt, nat_le, if◌then◌else◌}
use Rattle.std.specs.Prelude.{List, [], ◌∷◌, length, slice_get, bytes_eq, Option, Some, None, option_map, option_and_then, is_some, is_none}
use Rattle.std.specs.Option.{option_or, option_map_or}
use Rattle.wirelist.specs.declared.program.Program.{Program}
use Rattle.records.specs.declared.record.Staff.{Staff}
use Rattle.records.specs.declared.record.Body.{Body}
use Rattle.records.specs.declared.record.Body.TheVariants as body
use Rattle.records.specs.declared.record.StationRecord.{StationRecord}
use Rattle.serials.specs.declared.command.Command.{Command}
use Rattle.serials.specs.declared.command.Command.TheVariants as command
use Rattle.serials.specs.declared.decision.Rule.{Rule}
use Rattle.serials.specs.declared.decision.Rule.TheVariants as rule
use Rattle.serials.specs.declared.decision.Decision.{Decision}
use Rattle.serials.specs.declared.decision.Decision.TheVariants as decision
use Rattle.serials.specs.Commands.{id_of}
use Rattle.serials.specs.SamePrograms.{same_program}
use Rattle.serials.specs.Scan.{by_id, last_program, last_calibration, first_mark, enrolment, tests, has_passed, is_reworked, is_released, is_scrapped}

-- ---- a command that was given before

-- both name nobody, or the same operator and fixture
abbrev pub same_staff : Option Staff → Option Staff → Bool
same_staff None None = true
same_staff None (Some t) = false
same_staff (Some s) None = false
same_staff (Some s) (Some t) = bytes_eq s.operator t.operator && bytes_eq s.fixture t.fixture

-- the record is of this command again, under the program
abbrev pub repeats : Body → Command → Program → Bool
repeats (body.Adopt q) (command.Adopt id) p = same_program q p
repeats (body.Enrol s) (command.Enrol id serial) p = bytes_eq s serial
repeats (body.Calibrate d) (command.Calibrate id day) p = d == day
repeats (body.Tested s attempt kept outcome) (command.Test id serial staff) p = bytes_eq s serial && same_staff kept staff
repeats (body.Rework s) (command.Rework id serial) p = bytes_eq s serial
repeats (body.Release s) (command.Release id serial) p = bytes_eq s serial
repeats (body.Scrap s) (command.Scrap id serial) p = bytes_eq s serial
repeats body.Mark (command.Mark id) p = true
repeats others c p = false

-- so is the record with this number
abbrev pub repeats_at : List StationRecord → ℕ → Command → Program → Bool
repeats_at R number c p = option_map_or (λ (r : StationRecord). repeats r.body c p) (slice_get R (number - 1)) false

-- ---- the rules

-- the rule, where it applies
abbrev pub when : Bool → Rule → Option Rule
when true r = Some r
when false r = None

-- the serial of a test, rework, release or scrap
abbrev pub unit_of : Command → Option (List ℕ)
unit_of (command.Test id serial staff) = Some serial
unit_of (command.Rework id serial) = Some serial
unit_of (command.Release id serial) = Some serial
unit_of (command.Scrap id serial) = Some serial
unit_of others = None

-- E18: a program is adopted, and p is no newer revision of its part
abbrev pub not_newer : List StationRecord → Program → Command → Option Rule
not_newer R p (command.Adopt id) =
    option_and_then (λ (q : Program). when (not (bytes_eq q.part p.part && nat_lt q.revision p.revision)) (rule.NotNewer q.part q.revision)) (last_program R)
not_newer R p others = None

-- E19: the last calibration is not before this day
abbrev pub not_later : List StationRecord → Command → Option Rule
not_later R (command.Calibrate id day) = option_and_then (λ last. when (nat_le day last) (rule.NotLater last)) (last_calibration R)
not_later R others = None

-- E25: there is a mark
abbrev pub marked_already : List StationRecord → Command → Option Rule
marked_already R (command.Mark id) = option_map rule.MarkedAlready (first_mark R)
marked_already R others = None

-- E02: no program is adopted
abbrev pub no_wirelist : List StationRecord → Command → Option Rule
no_wirelist R (command.Enrol id serial) = when (is_none (last_program R)) rule.NoWirelist
no_wirelist R (command.Test id serial staff) = when (is_none (last_program R)) rule.NoWirelist
no_wirelist R others = None

-- E03: the adopted program is not p
abbrev pub differs : List StationRecord → Program → Command → Option Rule
differs R p (command.Test id serial staff) = option_and_then (λ (q : Program). when (not (same_program q p)) rule.Differs) (last_program R)
differs R p others = None

-- E04: the last calibration is before the day of the moment
abbrev pub calibration_over : List StationRecord → ℕ → Command → Option Rule
calibration_over R moment (command.Test id serial staff) =
    option_and_then (λ last. when (nat_lt last (moment / 86400)) (rule.CalibrationOver last (moment / 86400))) (last_calibration R)
calibration_over R moment others = None

-- E24: there is no mark, and the command names staff
abbrev pub not_marked : List StationRecord → Command → Option Rule
not_marked R (command.Test id serial staff) = when (is_none (first_mark R) && is_some staff) rule.NotMarked
not_marked R others = None

-- E23: there is a mark, and the command names no staff
abbrev pub staff_missing : List StationRecord → Command → Option Rule
staff_missing R (command.Test id serial staff) = when (is_some (first_mark R) && is_none staff) rule.StaffMissing
staff_missing R others = None

-- E22: the serial is enrolled
abbrev pub enrolled_already : List StationRecord → Command → Option Rule
enrolled_already R (command.Enrol id serial) = option_map rule.EnrolledAlready (enrolment R serial)
enrolled_already R others = None

-- E05: the serial is not enrolled
abbrev pub not_enrolled : List StationRecord → Command → Option Rule
not_enrolled R c = option_and_then (λ serial. when (is_none (enrolment R serial)) rule.NotEnrolled) (unit_of c)

-- E06: it is released
abbrev pub released : List StationRecord → Command → Option Rule
released R c = option_and_then (λ serial. when (is_released R serial) rule.Released) (unit_of c)

-- E07: it is scrapped
abbrev pub scrapped : List StationRecord → Command → Option Rule
scrapped R c = option_and_then (λ serial. when (is_scrapped R serial) rule.Scrapped) (unit_of c)

-- E08: the last test is a pass
abbrev pub passed_already : List StationRecord → Command → Option Rule
passed_already R (command.Test id serial staff) = when (has_passed R serial) rule.PassedAlready
passed_already R others = None

-- the serial has a test, the last is no pass, and no rework stands after it
abbrev pub is_rework_due : List StationRecord → List ℕ → Bool
is_rework_due R serial = nat_lt 0 (length (tests R serial)) && (not (has_passed R serial) && not (is_reworked R serial))

-- E09: a rework is due
abbrev pub rework_owed : List StationRecord → Command → Option Rule
rework_owed R (command.Test id serial staff) = when (is_rework_due R serial) rule.ReworkOwed
rework_owed R others = None

-- E10: the tests number at least the program's attempts
abbrev pub attempts_used : List StationRecord → Program → Command → Option Rule
attempts_used R p (command.Test id serial staff) = when (nat_le p.attempts (length (tests R serial))) (rule.AttemptsUsed p.attempts)
attempts_used R p others = None

-- E11: no rework is due
abbrev pub no_rework_due : List StationRecord → Command → Option Rule
no_rework_due R (command.Rework id serial) = when (not (is_rework_due R serial)) rule.NoReworkDue
no_rework_due R others = None

-- E12: the last test is no pass, or there is none
abbrev pub not_passed : List StationRecord → Command → Option Rule
not_passed R (command.Release id serial) = when (not (has_passed R serial)) rule.NotPassed
not_passed R others = None

-- the rules in their order
abbrev pub table : List StationRecord → Command → ℕ → Program → List (Option Rule)
table R c moment p =
    not_newer R p c
    ∷ not_later R c
    ∷ marked_already R c
    ∷ no_wirelist R c
    ∷ differs R p c
    ∷ calibration_over R moment c
    ∷ not_marked R c
    ∷ staff_missing R c
    ∷ enrolled_already R c
    ∷ not_enrolled R c
    ∷ released R c
    ∷ scrapped R c
    ∷ passed_already R c
    ∷ rework_owed R c
    ∷ attempts_used R p c
    ∷ no_rework_due R c
    ∷ not_passed R c
    ∷ []

-- the first rule that applies
abbrev pub first_rule : List (Option Rule) → Option Rule
first_rule [] = None
first_rule (applies ∷ more) = option_or applies (first_rule more)

-- ---- the decision

-- with no rule against it a command is kept, and a test is made with the next attempt
abbrev pub allowed : List StationRecord → Command → Decision
allowed R (command.Test id serial staff) = decision.Test (length (tests R serial) + 1)
allowed R others = decision.Keep

-- a rule refuses
abbrev pub by_rules : List StationRecord → Command → Option Rule → Decision
by_rules R c (Some r) = decision.No r
by_rules R c None = allowed R c

-- the record with this number has the command's id
abbrev pub again : List StationRecord → ℕ → Command → Program → Decision
again R number c p = if repeats_at R number c p then decision.Same number else decision.No (rule.IdTaken number)

-- the first record with the command's id decides, and else the first rule that applies
abbrev pub decided : List StationRecord → Command → ℕ → Program → Option ℕ → Decision
decided R c moment p (Some number) = again R number c p
decided R c moment p None = by_rules R c (first_rule (table R c moment p))

-- what is to be done with the command at the moment, under the program
unfoldable pub decide : List StationRecord → Command → ℕ → Program → Decision
decide R c moment p = decided R c moment p (by_id R (id_of c))
