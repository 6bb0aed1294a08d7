-- The line of an answer.
--     rule_code, rule_facts      the number of a rule, and what is printed behind the id
--     answer_line answer id      the line, without its line feed
use Rattle.std.specs.Prelude.{ℕ, List, [], ◌++◌, codes, decimal, Option, Some, None, ⊤}
use Rattle.wirelist.specs.declared.outcome.Verdict.{Verdict}
use Rattle.outcome_lines.specs.VerdictText.{verdict_text}
use Rattle.records.specs.RecordRanges.{IsDay}
use Rattle.serials.specs.Dates.{day_text}
use Rattle.serials.specs.declared.decision.Rule.{Rule}
use Rattle.serials.specs.declared.decision.Rule.TheVariants as rule
use Rattle.serials.specs.declared.decision.Decision.{Decision}
use Rattle.serials.specs.declared.decision.Decision.TheVariants as decision
use Rattle.station.specs.declared.answer.Refused.{Refused}
use Rattle.station.specs.declared.answer.Refused.TheVariants as refused
use Rattle.station.specs.declared.answer.Answer.{Answer}
use Rattle.station.specs.declared.answer.Answer.TheVariants as answer

-- the days that a rule names have dates
abbrev pub RuleHasDays : Rule → Type 0
RuleHasDays (rule.NotLater day) = IsDay day
RuleHasDays (rule.CalibrationOver last day) = IsDay last × IsDay day
RuleHasDays others = ⊤

abbrev pub RefusedHasDays : Refused → Type 0
RefusedHasDays (refused.Rule r) = RuleHasDays r
RefusedHasDays others = ⊤

-- so have those of an answer
abbrev pub HasDays : Answer → Type 0
HasDays (answer.No why) = RefusedHasDays why
HasDays others = ⊤

-- and those of a decision
abbrev pub DecidesDays : Decision → Type 0
DecidesDays (decision.No r) = RuleHasDays r
DecidesDays others = ⊤

-- ---- refusals

abbrev pub rule_code : Rule → List ℕ
rule_code (rule.IdTaken number) = codes "E13"
rule_code (rule.NotNewer part revision) = codes "E18"
rule_code (rule.NotLater day) = codes "E19"
rule_code (rule.MarkedAlready number) = codes "E25"
rule_code rule.NoWirelist = codes "E02"
rule_code rule.Differs = codes "E03"
rule_code (rule.CalibrationOver last day) = codes "E04"
rule_code rule.NotMarked = codes "E24"
rule_code rule.StaffMissing = codes "E23"
rule_code (rule.EnrolledAlready number) = codes "E22"
rule_code rule.NotEnrolled = codes "E05"
rule_code rule.Released = codes "E06"
rule_code rule.Scrapped = codes "E07"
rule_code rule.PassedAlready = codes "E08"
rule_code rule.ReworkOwed = codes "E09"
rule_code (rule.AttemptsUsed attempts) = codes "E10"
rule_code rule.NoReworkDue = codes "E11"
rule_code rule.NotPassed = codes "E12"

-- a word behind others
abbrev pub word_after : List ℕ → List ℕ
word_after word = codes " " ++ word

-- a record's number, the adopted part and revision, days as dates, the limit of attempts
abbrev pub rule_facts : Rule → List ℕ
rule_facts (rule.IdTaken number) = word_after (decimal number)
rule_facts (rule.NotNewer part revision) = word_after part ++ word_after (decimal revision)
rule_facts (rule.NotLater day) = word_after (day_text day)
rule_facts (rule.MarkedAlready number) = word_after (decimal number)
rule_facts (rule.CalibrationOver last day) = word_after (day_text last) ++ word_after (day_text day)
rule_facts (rule.EnrolledAlready number) = word_after (decimal number)
rule_facts (rule.AttemptsUsed attempts) = word_after (decimal attempts)
rule_facts others = []

abbrev pub refused_code : Refused → List ℕ
refused_code (refused.Rule r) = rule_code r
refused_code refused.Full = codes "E15"
refused_code refused.Empty = codes "E14"
refused_code refused.Door = codes "E16"
refused_code (refused.Charged volts) = codes "E17"
refused_code refused.RigFault = codes "E20"

-- the same of each refusal, and the volts of a charge
abbrev pub refused_facts : Refused → List ℕ
refused_facts (refused.Rule r) = rule_facts r
refused_facts (refused.Charged volts) = word_after (decimal volts)
refused_facts others = []

-- ---- lines

-- the verdict, of a test alone
abbrev pub verdict_part : Option Verdict → List ℕ
verdict_part None = []
verdict_part (Some verdict) = word_after (verdict_text verdict)

-- a word, the number of a record, an id
abbrev pub record_line : List ℕ → ℕ → List ℕ → List ℕ
record_line word number id = word ++ word_after (decimal number) ++ word_after id

-- the line of an answer, without its line feed
unfoldable pub answer_line : Answer → List ℕ → List ℕ
answer_line (answer.Stored number verdict) id = record_line (codes "OK") number id ++ verdict_part verdict
answer_line (answer.Same number verdict) id = record_line (codes "SAME") number id ++ verdict_part verdict
answer_line (answer.No why) id = codes "NO" ++ word_after (refused_code why) ++ word_after id ++ refused_facts why
