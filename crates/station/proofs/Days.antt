-- The days that a rule names have dates.
use Rattle.std.proofs.Common.{ℕ, ◌/◌, ◌≤◌, Bool, true, false, if◌then◌else◌, List, [], ◌∷◌, Option, Some, None, IfSome, arith}
use Rattle.std.specs.Prelude.{option_and_then, option_map, filter_map, is_none, nat_le, nat_lt}
use Rattle.std.specs.List.{last_or, cons_option}
use Rattle.std.specs.Option.{option_or}
use Rattle.std.proofs.lemmas.List.Elements.{All-head, All-tail}
use Rattle.wirelist.specs.declared.program.Program.{Program}
use Rattle.records.specs.declared.record.Body.{Body}
use Rattle.records.specs.declared.record.Body.TheVariants.{Adopt, Enrol, Calibrate, Tested, Rework, Release, Scrap, Mark}
use Rattle.records.specs.declared.record.StationRecord.{StationRecord}
use Rattle.records.specs.RecordRanges.{IsBody, IsDay, IsRecord, last_moment}
use Rattle.serials.specs.declared.command.Command.{Command}
use Rattle.serials.specs.declared.command.Command.TheVariants as command
use Rattle.serials.specs.declared.decision.Rule.{Rule}
use Rattle.serials.specs.declared.decision.Rule.TheVariants as rule
use Rattle.serials.specs.declared.decision.Decision.TheVariants as decision
use Rattle.serials.specs.Commands.{id_of}
use Rattle.serials.specs.Decide.{when, not_newer, not_later, marked_already, no_wirelist, differs, calibration_over, not_marked, staff_missing, enrolled_already, passed_already, rework_owed, attempts_used, no_rework_due, not_passed, table, first_rule, by_rules, repeats_at, decided, decide}
use Rattle.serials.specs.Scan.{by_id, day_in, last_calibration, last_program, first_mark, enrolment, is_released, is_scrapped}
use Rattle.ledger.specs.Kept.{AreRecords}
use Rattle.station.specs.AnswerText.{RuleHasDays, DecidesDays}

-- ---- the last calibration

day_of : (id : List ℕ) (moment : ℕ) (b : Body) → IsBody b → IfSome (day_in (record { id = id; moment = moment; body = b })) IsDay
day_of id moment (Adopt p) in_range = tt
day_of id moment (Enrol serial) in_range = tt
day_of id moment (Calibrate day) in_range = in_range
day_of id moment (Tested serial attempt staff outcome) in_range = tt
day_of id moment (Rework serial) in_range = tt
day_of id moment (Release serial) in_range = tt
day_of id moment (Scrap serial) in_range = tt
day_of id moment Mark in_range = tt

one_more : (o so_far : Option ℕ) (days : List ℕ) → IfSome o IsDay → IfSome so_far IsDay → ((last : Option ℕ) → IfSome last IsDay → IfSome (last_or last days) IsDay) → IfSome (last_or so_far (cons_option o days)) IsDay
one_more None so_far days here before rest = rest so_far before
one_more (Some day) so_far days here before rest = rest (Some day) here

last_is_day : (R : List StationRecord) → AreRecords R → (so_far : Option ℕ) → IfSome so_far IsDay → IfSome (last_or so_far (filter_map day_in R)) IsDay
last_is_day [] in_range so_far before = before
last_is_day (r ∷ R) in_range so_far before =
    one_more (day_in r) so_far (filter_map day_in R) (day_of r.id r.moment r.body (All-head IsRecord r R in_range).body) before (λ last is. last_is_day R (All-tail IsRecord r R in_range) last is)

calibrated : (R : List StationRecord) → AreRecords R → IfSome (last_calibration R) IsDay
calibrated R in_range = last_is_day R in_range None tt

-- ---- rules

abbrev Days : Option Rule → Type 0
Days o = IfSome o RuleHasDays

either : (a b : Option Rule) → Days a → Days b → Days (option_or a b)
either None b first second = second
either (Some r) b first second = first

applies : (b : Bool) (r : Rule) → RuleHasDays r → Days (when b r)
applies true r days = days
applies false r days = tt

mapped : {A : Type 0} (f : A → Rule) (o : Option A) → ((x : A) → RuleHasDays (f x)) → Days (option_map f o)
mapped f None days = tt
mapped f (Some x) days = days x

found_in : {A : Type 0} (f : A → Option Rule) (o : Option A) (P : A → Type 0) → IfSome o P → ((x : A) → P x → Days (f x)) → Days (option_and_then f o)
found_in f None P is days = tt
found_in f (Some x) P is days = days x is

-- a rule without days, of what is found, where that is so
plainly : {A : Type 0} (o : Option A) (b : A → Bool) (r : A → Rule) → ((x : A) → RuleHasDays (r x)) → Days (option_and_then (λ x. when (b x) (r x)) o)
plainly None b r days = tt
plainly (Some x) b r days = applies (b x) (r x) (days x)

module _ (R : List StationRecord) (in_range : AreRecords R) (moment : ℕ) (early : moment ≤ last_moment) (p : Program) where
  today : IsDay (moment / 86400)
  today = omega (arith, early)

  unit_days : (serial : List ℕ) (more : Option Rule) → Days more
      → Days (option_or (when (is_none (enrolment R serial)) rule.NotEnrolled) (option_or (when (is_released R serial) rule.Released) (option_or (when (is_scrapped R serial) rule.Scrapped) more)))
  unit_days serial more days =
      either _ _ (applies (is_none (enrolment R serial)) rule.NotEnrolled tt) (either _ _ (applies (is_released R serial) rule.Released tt) (either _ _ (applies (is_scrapped R serial) rule.Scrapped tt) days))

  table_days : (c : Command) → Days (first_rule (table R c moment p))
  table_days (command.Adopt id) = either (not_newer R p (command.Adopt id)) None (plainly (last_program R) _ (λ (q : Program). rule.NotNewer q.part q.revision) (λ q. tt)) tt
  table_days (command.Enrol id serial) =
      either (no_wirelist R (command.Enrol id serial)) _ (applies _ rule.NoWirelist tt) (either (enrolled_already R (command.Enrol id serial)) None (mapped rule.EnrolledAlready (enrolment R serial) (λ k. tt)) tt)
  table_days (command.Calibrate id day) =
      either (not_later R (command.Calibrate id day)) None
      (found_in (λ last. when (nat_le day last) (rule.NotLater last)) (last_calibration R) IsDay (calibrated R in_range) (λ last is. applies (nat_le day last) (rule.NotLater last) is)) tt
  table_days (command.Mark id) = either (marked_already R (command.Mark id)) None (mapped rule.MarkedAlready (first_mark R) (λ k. tt)) tt
  table_days (command.Test id serial staff) =
      let c : Command = command.Test id serial staff in
      either (no_wirelist R c) _ (applies _ rule.NoWirelist tt)
      (either (differs R p c) _ (plainly (last_program R) _ (λ q. rule.Differs) (λ q. tt))
      (either (calibration_over R moment c) _
      (found_in (λ last. when (nat_lt last (moment / 86400)) (rule.CalibrationOver last (moment / 86400))) (last_calibration R) IsDay (calibrated R in_range)
      (λ last is. applies (nat_lt last (moment / 86400)) (rule.CalibrationOver last (moment / 86400)) (is, today)))
      (either (not_marked R c) _ (applies _ rule.NotMarked tt)
      (either (staff_missing R c) _ (applies _ rule.StaffMissing tt)
      (unit_days serial _
      (either (passed_already R c) _ (applies _ rule.PassedAlready tt)
      (either (rework_owed R c) _ (applies _ rule.ReworkOwed tt)
      (either (attempts_used R p c) None (applies _ (rule.AttemptsUsed p.attempts) tt) tt))))))))
  table_days (command.Rework id serial) =
      unit_days serial _ (either (no_rework_due R (command.Rework id serial)) None (applies _ rule.NoReworkDue tt) tt)
  table_days (command.Release id serial) =
      unit_days serial _ (either (not_passed R (command.Release id serial)) None (applies _ rule.NotPassed tt) tt)
  table_days (command.Scrap id serial) = unit_days serial None tt

  by_rules_days : (c : Command) (o : Option Rule) → Days o → DecidesDays (by_rules R c o)
  by_rules_days c (Some r) days = days
  by_rules_days (command.Test id serial staff) None days = tt
  by_rules_days (command.Adopt id) None days = tt
  by_rules_days (command.Enrol id serial) None days = tt
  by_rules_days (command.Calibrate id day) None days = tt
  by_rules_days (command.Mark id) None days = tt
  by_rules_days (command.Rework id serial) None days = tt
  by_rules_days (command.Release id serial) None days = tt
  by_rules_days (command.Scrap id serial) None days = tt

  again_days : (number : ℕ) (b : Bool) → DecidesDays (if b then decision.Same number else decision.No (rule.IdTaken number))
  again_days number true = tt
  again_days number false = tt

  decided_days : (c : Command) (o : Option ℕ) → DecidesDays (decided R c moment p o)
  decided_days c (Some number) = again_days number (repeats_at R number c p)
  decided_days c None = by_rules_days c (first_rule (table R c moment p)) (table_days c)

  pub decides_days : (c : Command) → DecidesDays (decide R c moment p)
  unfolding decide
  decides_days c = decided_days c (by_id R (id_of c))
