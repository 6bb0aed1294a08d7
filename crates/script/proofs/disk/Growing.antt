-- How records grow, line by line.
use Rattle.std.proofs.Common.{◌≡◌, ⊎_elim, ℕ, Bool, true, false, List, [], ◌∷◌, ◌++◌, Option, Some, None, refl, sym, ◌∙◌, ap, subst, append_assoc, append-nil}
use Rattle.std.specs.Prelude.{if◌then◌else◌}
use Rattle.std.specs.List.{AllByRecursion}
use Rattle.wirelist.specs.declared.program.Program.{Program}
use Rattle.wirelist.specs.declared.outcome.Outcome.TheVariants.{Pass}
use Rattle.unit_outcome.specs.Found.{Found, Findings}
use Rattle.records.specs.declared.record.StationRecord.{StationRecord}
use Rattle.serials.specs.declared.command.Command.{Command}
use Rattle.serials.specs.declared.command.Command.TheVariants.{Adopt, Enrol, Calibrate, Mark, Test, Rework, Release, Scrap}
use Rattle.serials.specs.declared.decision.Decision.{Decision}
use Rattle.serials.specs.declared.decision.Decision.TheVariants as decision
use Rattle.serials.specs.Decided.{IsNoTest, IsDecided}
use Rattle.serials.proofs.DecideLemmas.{decide_is}
use Rattle.ledger.specs.Kept.{is_full}
use Rattle.station.specs.declared.answer.Answer.{Answer}
use Rattle.station.specs.declared.answer.Refused.TheVariants as refused
use Rattle.station.specs.Step.{Reply, moment_at, record_of, body_of, refuses, stores, tests, tests_unit, tested_unit, done, decision_at, StepBy, Step}
use Rattle.script.specs.Said.{Asked, Said}
use Rattle.script.specs.After.{Answers}
use Rattle.script.specs.Growth.{IsPrefix, StatesOutcome, IsGrown}

pub grown_none : (findings : Findings) (R : List StationRecord) → IsGrown findings R R
grown_none findings R = record { added = []; is = sym (append-nil R); states = tt }

grown_one : (findings : Findings) (R : List StationRecord) (r : StationRecord) → StatesOutcome findings r.body → IsGrown findings R (R ++ r ∷ [])
grown_one findings R r states = record { added = r ∷ []; is = refl; states = (states, tt) }

grown_if : (findings : Findings) (R : List StationRecord) (b : Bool) (x y : Answer × List StationRecord) → IsGrown findings R x.1 → IsGrown findings R y.1 → IsGrown findings R (if b then x else y).1
grown_if findings R true x y first second = first
grown_if findings R false x y first second = second

-- ---- one step

states_kept : (findings : Findings) (p : Program) (c : Command) → IsNoTest c → StatesOutcome findings (body_of p 0 Pass c)
states_kept findings p (Adopt id) no_test = tt
states_kept findings p (Enrol id serial) no_test = tt
states_kept findings p (Calibrate id day) no_test = tt
states_kept findings p (Mark id) no_test = tt
states_kept findings p (Test id serial staff) no_test = absurd no_test
states_kept findings p (Rework id serial) no_test = tt
states_kept findings p (Release id serial) no_test = tt
states_kept findings p (Scrap id serial) no_test = tt

-- a test that stays not charged states the outcome of its unit
states_tested : (findings : Findings) (p : Program) (c : Command) (attempt : ℕ) (found : Found) → tested_unit findings c attempt ≡ Some found → found.charged ≡ None → StatesOutcome findings (body_of p attempt found.outcome c)
states_tested findings p (Adopt id) attempt found is quiet = tt
states_tested findings p (Enrol id serial) attempt found is quiet = tt
states_tested findings p (Calibrate id day) attempt found is quiet = tt
states_tested findings p (Mark id) attempt found is quiet = tt
states_tested findings p (Test id serial staff) attempt found is quiet = record { found = found; there = is; discharged = quiet; outcome_is = refl }
states_tested findings p (Rework id serial) attempt found is quiet = tt
states_tested findings p (Release id serial) attempt found is quiet = tt
states_tested findings p (Scrap id serial) attempt found is quiet = tt

grown_unit : (findings : Findings) (R : List StationRecord) (r : StationRecord) (charged : Option ℕ) → (charged ≡ None → StatesOutcome findings r.body) → IsGrown findings R (tests_unit R r charged).1
grown_unit findings R r None states = grown_one findings R r (states refl)
grown_unit findings R r (Some volts) states = grown_none findings R

grown_tests : (findings : Findings) (p : Program) (R : List StationRecord) (c : Command) (moment attempt : ℕ) (unit : Option Found) → tested_unit findings c attempt ≡ unit → IsGrown findings R (tests R (λ outcome. record_of p moment attempt outcome c) unit).1
grown_tests findings p R c moment attempt None is = grown_none findings R
grown_tests findings p R c moment attempt (Some found) is = grown_unit findings R (record_of p moment attempt found.outcome c) found.charged (λ quiet. states_tested findings p c attempt found is quiet)

grown_done : (findings : Findings) (p : Program) (R : List StationRecord) (c : Command) (moment : ℕ) (d : Decision) → IsDecided R c p d → IsGrown findings R (done findings p R c moment d).1
grown_done findings p R c moment (decision.Same k) decided = grown_none findings R
grown_done findings p R c moment (decision.No r) decided = grown_none findings R
grown_done findings p R c moment decision.Keep decided =
    grown_if findings R (is_full R) (refuses R refused.Full) (stores R (record_of p moment 0 Pass c)) (grown_none findings R) (grown_one findings R (record_of p moment 0 Pass c) (states_kept findings p c decided))
grown_done findings p R c moment (decision.Test attempt) decided =
    grown_if findings R (is_full R) (refuses R refused.Full) (tests R (λ outcome. record_of p moment attempt outcome c) (tested_unit findings c attempt)) (grown_none findings R) (grown_tests findings p R c moment attempt (tested_unit findings c attempt) refl)

grown_step : (findings : Findings) (p : Program) (R : List StationRecord) (c : Command) (now : ℕ) (reply : Reply) (after : List StationRecord) → Step findings p R c now reply after → IsGrown findings R after
unfolding StepBy
grown_step findings p R c now reply after taken = ⊎_elim
    (λ made. subst (λ (S : List StationRecord). IsGrown findings R S) (sym made.1) (grown_done findings p R c (moment_at R now) (decision_at p R c now) (decide_is R c (moment_at R now) p)))
    (λ failed. subst (λ (S : List StationRecord). IsGrown findings R S) (sym failed.2) (grown_none findings R))
    taken

pub grown_answer : (findings : Findings) (p : Program) (R : List StationRecord) (asked : Asked) (now : ℕ) (said : Said) (after : List StationRecord) → Answers findings p R asked now said after → IsGrown findings R after
grown_answer findings p R (number, None) now said after answers = subst (λ (S : List StationRecord). IsGrown findings R S) (sym answers.1) (grown_none findings R)
grown_answer findings p R (number, Some c) now said after answers = grown_step findings p R c now answers.reply after answers.step

-- ---- one growth behind another

all_append : {A : Type 0} (P : A → Type 0) (xs ys : List A) → AllByRecursion P xs → AllByRecursion P ys → AllByRecursion P (xs ++ ys)
all_append P [] ys first second = second
all_append P (x ∷ xs) ys first second = (first.0, all_append P xs ys first.1 second)

pub all_push : {A : Type 0} (P : A → Type 0) (xs : List A) (x : A) → AllByRecursion P xs → P x → AllByRecursion P (xs ++ x ∷ [])
all_push P xs x first last = all_append P xs (x ∷ []) first (last, tt)

pub grown_and : (findings : Findings) (a b c : List StationRecord) → IsGrown findings a b → IsGrown findings b c → IsGrown findings a c
grown_and findings a b c first second = record {
  added = first.added ++ second.added;
  is = second.is ∙ ap (λ (S : List StationRecord). S ++ second.added) first.is ∙ append_assoc a first.added second.added;
  states = all_append (λ (r : StationRecord). StatesOutcome findings r.body) first.added second.added first.states second.states;
}

pub prefix_grown : (findings : Findings) (a b : List StationRecord) → IsGrown findings a b → IsPrefix a b
prefix_grown findings a b grown = record { behind = grown.added; is = grown.is }

pub prefix_and : {A : Type 0} → (a b c : List A) → IsPrefix a b → IsPrefix b c → IsPrefix a c
prefix_and {A} a b c first second = record { behind = first.behind ++ second.behind; is = second.is ∙ ap (λ (s : List A). s ++ second.behind) first.is ∙ append_assoc a first.behind second.behind }

pub prefix_self : {A : Type 0} (a : List A) → IsPrefix a a
prefix_self a = record { behind = []; is = sym (append-nil a) }
