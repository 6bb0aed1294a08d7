-- What a step adds to the records, and what that shows of the rig.
use Rattle.std.proofs.Common.{◌≡◌, ◌⊎◌, inl, inr, ⊎_elim, ℕ, ◌+◌, ◌-◌, Bool, true, false, List, [], ◌∷◌, ◌++◌, length, Option, Some, None, refl, sym, ◌∙◌, ap, subst, arith, length-append}
use Rattle.std.specs.Prelude.{if◌then◌else◌, slice_get, IfSome, ⊤}
use Rattle.disk_edge.specs.Disk.{DiskState, EachImage}
use Rattle.rig.specs.RigState.{RigState}
use Rattle.wirelist.specs.declared.program.Program.{Program}
use Rattle.wirelist.specs.declared.outcome.Outcome.{Outcome}
use Rattle.wirelist.specs.declared.outcome.Outcome.TheVariants.{Pass}
use Rattle.unit_outcome.specs.Found.{Found, Findings}
use Rattle.unit_outcome.specs.Tested.{IsEmpty}
use Rattle.records.specs.declared.record.Body.{Body}
use Rattle.records.specs.declared.record.Body.TheVariants as body
use Rattle.records.specs.declared.record.StationRecord.{StationRecord}
use Rattle.serials.specs.declared.command.Command.{Command}
use Rattle.serials.specs.declared.command.Command.TheVariants.{Adopt, Enrol, Calibrate, Mark, Test, Rework, Release, Scrap}
use Rattle.serials.specs.declared.decision.Rule.{Rule}
use Rattle.serials.specs.declared.decision.Rule.TheVariants as rule
use Rattle.serials.specs.declared.decision.Decision.{Decision}
use Rattle.serials.specs.declared.decision.Decision.TheVariants as decision
use Rattle.serials.specs.Commands.{id_of}
use Rattle.serials.specs.Scan.{by_id, tests as tests_of}
use Rattle.serials.specs.Decide.{table, first_rule, allowed, by_rules, decided, decide, repeats_at}
use Rattle.serials.specs.Decided.{IsNoTest, IsDecided}
use Rattle.serials.proofs.DecideLemmas.{decide_is}
use Rattle.ledger.specs.Kept.{is_full, IsImageOf}
use Rattle.station.specs.declared.answer.Answer.{Answer}
use Rattle.station.specs.declared.answer.Answer.TheVariants as answer
use Rattle.station.specs.declared.answer.Refused.{Refused}
use Rattle.station.specs.declared.answer.Refused.TheVariants as refused
use Rattle.station.specs.RigAfter.{TestOf, Leaves, RefusedFor, AnsweredFor}
use Rattle.station.specs.Step.{Reply, answered, not_at_zero, moment_at, record_of, body_of, refuses, stores, tests, tests_unit, tested_unit, done, decision_at, MayFail, FailsBy, StepBy, Step}
use Rattle.station.specs.View.{StationState}
use Rattle.script.specs.Said.{Asked, Said, replied}
use Rattle.script.specs.Turns.{DidFor, Steps}
use Rattle.script.specs.Ends.{MayEnd}
use Rattle.script.specs.RigLines.{refuses_by}
use Rattle.script.specs.Shown.{is_of_the_test, refuses_test}
use Rattle.script.proofs.on_rig.Rigs.{test_of}

-- ---- the next attempt

-- a test has the attempt that comes next
abbrev pub IsNext : List StationRecord → Body → Type 0
IsNext R (body.Tested serial attempt staff outcome) = attempt ≡ length (tests_of R serial) + 1
IsNext R others = ⊤

next_by : (R : List StationRecord) (id serial : List ℕ) (c : Command) (attempt : ℕ) (o : Option Rule) → decision.Test (length (tests_of R serial) + 1) ≡ allowed R c → by_rules R c o ≡ decision.Test attempt → attempt ≡ length (tests_of R serial) + 1
next_by R id serial c attempt (Some r) is test = cc
next_by R id serial c attempt None is test = let same : decision.Test (length (tests_of R serial) + 1) ≡ decision.Test attempt = is ∙ test in cc

again_no_test : (b : Bool) (number attempt : ℕ) (P : Type 0) → (if b then decision.Same number else decision.No (rule.IdTaken number)) ≡ decision.Test attempt → P
again_no_test true number attempt P is = cc
again_no_test false number attempt P is = cc

next_decided : (R : List StationRecord) (id serial : List ℕ) (c : Command) (moment : ℕ) (p : Program) (attempt : ℕ) (o : Option ℕ) → decision.Test (length (tests_of R serial) + 1) ≡ allowed R c → decided R c moment p o ≡ decision.Test attempt → attempt ≡ length (tests_of R serial) + 1
next_decided R id serial c moment p attempt (Some number) is test = again_no_test (repeats_at R number c p) number attempt (attempt ≡ length (tests_of R serial) + 1) test
next_decided R id serial c moment p attempt None is test = next_by R id serial c attempt (first_rule (table R c moment p)) is test

next_attempt : (R : List StationRecord) (id serial : List ℕ) (c : Command) (moment : ℕ) (p : Program) (attempt : ℕ) → decision.Test (length (tests_of R serial) + 1) ≡ allowed R c → decide R c moment p ≡ decision.Test attempt → attempt ≡ length (tests_of R serial) + 1
unfolding decide
next_attempt R id serial c moment p attempt is test = next_decided R id serial c moment p attempt (by_id R (id_of c)) is test

-- the record of a test that was decided on
next_body : (R : List StationRecord) (c : Command) (moment : ℕ) (p : Program) (attempt : ℕ) (outcome : Outcome) → decide R c moment p ≡ decision.Test attempt → IsNext R (body_of p attempt outcome c)
next_body R (Adopt id) moment p attempt outcome is = tt
next_body R (Enrol id serial) moment p attempt outcome is = tt
next_body R (Calibrate id day) moment p attempt outcome is = tt
next_body R (Mark id) moment p attempt outcome is = tt
next_body R (Test id serial staff) moment p attempt outcome is = next_attempt R id serial (Test id serial staff) moment p attempt refl is
next_body R (Rework id serial) moment p attempt outcome is = tt
next_body R (Release id serial) moment p attempt outcome is = tt
next_body R (Scrap id serial) moment p attempt outcome is = tt

kept_body : (R : List StationRecord) (c : Command) (p : Program) → IsNoTest c → IsNext R (body_of p 0 Pass c)
kept_body R (Adopt id) p no_test = tt
kept_body R (Enrol id serial) p no_test = tt
kept_body R (Calibrate id day) p no_test = tt
kept_body R (Mark id) p no_test = tt
kept_body R (Test id serial staff) p no_test = absurd no_test
kept_body R (Rework id serial) p no_test = tt
kept_body R (Release id serial) p no_test = tt
kept_body R (Scrap id serial) p no_test = tt

-- what holds of a test that is made holds of the next attempt
pub test_next : (R : List StationRecord) (c : Command) (moment : ℕ) (p : Program) (d : Decision) (P : List ℕ → ℕ → Type 0) → decide R c moment p ≡ d → TestOf c d P → (serial : List ℕ) × (attempt : ℕ) × (attempt ≡ length (tests_of R serial) + 1) × P serial attempt
test_next R (Test id serial staff) moment p (decision.Test attempt) P is holds = (serial, attempt, next_attempt R id serial (Test id serial staff) moment p attempt refl is, holds)
test_next R (Test id serial staff) moment p decision.Keep P is holds = absurd holds
test_next R (Test id serial staff) moment p (decision.Same k) P is holds = absurd holds
test_next R (Test id serial staff) moment p (decision.No r) P is holds = absurd holds
test_next R (Adopt id) moment p d P is holds = absurd holds
test_next R (Enrol id serial) moment p d P is holds = absurd holds
test_next R (Calibrate id day) moment p d P is holds = absurd holds
test_next R (Mark id) moment p d P is holds = absurd holds
test_next R (Rework id serial) moment p d P is holds = absurd holds
test_next R (Release id serial) moment p d P is holds = absurd holds
test_next R (Scrap id serial) moment p d P is holds = absurd holds

-- ---- what a step adds

abbrev pub is_stored : Reply → Bool
is_stored (answered (answer.Stored number v)) = true
is_stored (answered (answer.Same number v)) = false
is_stored (answered (answer.No why)) = false
is_stored not_at_zero = false

-- nothing is added, or one record is, and its test has the next attempt
abbrev pub Shape : List StationRecord → Reply → List StationRecord → Type 0
Shape R reply after =
    ((is_stored reply ≡ false) × (after ≡ R))
    ⊎ ((r : StationRecord) × (is_stored reply ≡ true) × (after ≡ R ++ r ∷ []) × IsNext R r.body)

abbrev ShapeOf : List StationRecord → Answer × List StationRecord → Type 0
ShapeOf R made = Shape R (answered made.0) made.1

refused_shape : (R : List StationRecord) (why : Refused) → ShapeOf R (refuses R why)
refused_shape R why = inl (refl, refl)

stored_shape : (R : List StationRecord) (r : StationRecord) → IsNext R r.body → ShapeOf R (stores R r)
stored_shape R r is_next = inr (r, refl, refl, is_next)

if_shape : (R : List StationRecord) (b : Bool) (x y : Answer × List StationRecord) → ShapeOf R x → ShapeOf R y → ShapeOf R (if b then x else y)
if_shape R true x y first second = first
if_shape R false x y first second = second

unit_shape : (R : List StationRecord) (r : StationRecord) (charged : Option ℕ) → IsNext R r.body → ShapeOf R (tests_unit R r charged)
unit_shape R r None is_next = stored_shape R r is_next
unit_shape R r (Some volts) is_next = refused_shape R (refused.Charged volts)

tests_shape : (R : List StationRecord) (made : Outcome → StationRecord) (unit : Option Found) → ((outcome : Outcome) → IsNext R (made outcome).body) → ShapeOf R (tests R made unit)
tests_shape R made None is_next = refused_shape R refused.Empty
tests_shape R made (Some found) is_next = unit_shape R (made found.outcome) found.charged (is_next found.outcome)

done_shape : (findings : Findings) (p : Program) (R : List StationRecord) (c : Command) (moment : ℕ) (d : Decision) → decide R c moment p ≡ d → IsDecided R c p d → ShapeOf R (done findings p R c moment d)
done_shape findings p R c moment (decision.Same k) is decided = inl (refl, refl)
done_shape findings p R c moment (decision.No r) is decided = refused_shape R (refused.Rule r)
done_shape findings p R c moment decision.Keep is decided =
    if_shape R (is_full R) (refuses R refused.Full) (stores R (record_of p moment 0 Pass c)) (refused_shape R refused.Full) (stored_shape R (record_of p moment 0 Pass c) (kept_body R c p decided))
done_shape findings p R c moment (decision.Test attempt) is decided =
    if_shape R (is_full R) (refuses R refused.Full) (tests R (λ outcome. record_of p moment attempt outcome c) (tested_unit findings c attempt)) (refused_shape R refused.Full)
    (tests_shape R (λ outcome. record_of p moment attempt outcome c) (tested_unit findings c attempt) (λ outcome. next_body R c moment p attempt outcome is))

may_fail : (unit : Option Found) (reply : Reply) → MayFail unit reply → is_stored reply ≡ false
may_fail None reply is = ap is_stored is
may_fail (Some found) reply is = ⊎_elim (λ e. ap is_stored e) (⊎_elim (λ e. ap is_stored e) (λ e. ap is_stored e)) is

fails_by : (findings : Findings) (c : Command) (d : Decision) (reply : Reply) → FailsBy findings c d reply → is_stored reply ≡ false
fails_by findings c (decision.Test attempt) reply fails = may_fail (tested_unit findings c attempt) reply fails
fails_by findings c decision.Keep reply fails = absurd fails
fails_by findings c (decision.Same k) reply fails = absurd fails
fails_by findings c (decision.No r) reply fails = absurd fails

step_shape : (findings : Findings) (p : Program) (R : List StationRecord) (c : Command) (now : ℕ) (reply : Reply) (after : List StationRecord) → Step findings p R c now reply after → Shape R reply after
unfolding StepBy
step_shape findings p R c now reply after taken = ⊎_elim
    (λ made.
    let made_shape = done_shape findings p R c (moment_at R now) (decision_at p R c now) refl (decide_is R c (moment_at R now) p) in
    subst (λ (x : Reply). Shape R x after) (sym made.0) (subst (λ (S : List StationRecord). Shape R (answered (done findings p R c (moment_at R now) (decision_at p R c now)).0) S) (sym made.1) made_shape))
    (λ failed. inl (fails_by findings c (decision_at p R c now) reply failed.1, failed.2))
    taken

-- ---- what a turn shows

-- the last of some records
last_of : (R : List StationRecord) (r : StationRecord) → slice_get (R ++ r ∷ []) (length R) ≡ Some r
last_of [] r = refl
last_of (x ∷ R) r = last_of R r

pub last_stored : (R : List StationRecord) (r : StationRecord) → slice_get (R ++ r ∷ []) (length (R ++ r ∷ []) - 1) ≡ Some r
last_stored R r =
    let n : length (R ++ r ∷ []) - 1 ≡ length R = omega (arith, length-append R (r ∷ [])) in
    ap (λ (k : ℕ). slice_get (R ++ r ∷ []) k) n ∙ last_of R r

some_at : {A : Type 0} (o : Option A) (P : A → Type 0) (x : A) → o ≡ Some x → IfSome o P → P x
some_at None P x is holds = cc
some_at (Some y) P x is holds = let same : y ≡ x = cc in subst P same holds

-- Nothing was added: no group reading was made, but in a test that was refused. Or one record was added, and the rig shows what is said of it.
pub data OneTurn (s t : StationState) (said : Said) : Type 0 where
  stays : t.records ≡ s.records → (refuses_test said ≡ false → t.rig.spent ≡ s.rig.spent) → OneTurn s t said
  adds : (r : StationRecord) → t.records ≡ s.records ++ r ∷ [] → Leaves s.program r.body s.rig t.rig → IsNext s.records r.body → OneTurn s t said

empty_spent : (c : Command) (d : Decision) (old new : RigState) → TestOf c d (λ serial attempt. IsEmpty serial attempt old new) → new.spent ≡ old.spent
empty_spent c d old new is = test_of c d (λ serial attempt. IsEmpty serial attempt old new) (new.spent ≡ old.spent) (λ serial attempt seats. ap (λ (r : RigState). r.spent) (seats.absent refl)) is

refused_spent : (c : Command) (d : Decision) (p : Program) (old new : RigState) (why : Refused) → RefusedFor (TestOf c d) p old new why → is_of_the_test why ≡ false → new.spent ≡ old.spent
refused_spent c d p old new (refused.Rule r) is quiet = ap (λ (x : RigState). x.spent) is
refused_spent c d p old new refused.Full is quiet = ap (λ (x : RigState). x.spent) is
refused_spent c d p old new refused.Empty is quiet = empty_spent c d old new is
refused_spent c d p old new refused.Door is quiet = cc
refused_spent c d p old new (refused.Charged volts) is quiet = cc
refused_spent c d p old new refused.RigFault is quiet = cc

-- an answer that stored nothing
answer_spent : (c : Command) (d : Decision) (s t : StationState) (a : Answer) → AnsweredFor (TestOf c d) s t a → is_stored (answered a) ≡ false → refuses_by is_of_the_test a ≡ false → t.rig.spent ≡ s.rig.spent
answer_spent c d s t (answer.Stored number v) did stored quiet = cc
answer_spent c d s t (answer.Same number v) did stored quiet = ap (λ (x : RigState). x.spent) did
answer_spent c d s t (answer.No why) did stored quiet = refused_spent c d s.program s.rig t.rig why did quiet

-- and one that did
answer_leaves : (c : Command) (d : Decision) (s t : StationState) (a : Answer) (r : StationRecord) → AnsweredFor (TestOf c d) s t a → is_stored (answered a) ≡ true → t.records ≡ s.records ++ r ∷ [] → Leaves s.program r.body s.rig t.rig
answer_leaves c d s t (answer.Stored number v) r did stored is =
    some_at (slice_get t.records (length t.records - 1)) (λ (x : StationRecord). Leaves s.program x.body s.rig t.rig) r (ap (λ (S : List StationRecord). slice_get S (length S - 1)) is ∙ last_stored s.records r) did.0
answer_leaves c d s t (answer.Same number v) r did stored is = cc
answer_leaves c d s t (answer.No why) r did stored is = cc

turn_of_shape : (s t : StationState) (c : Command) (d : Decision) (said : Said) (reply : Reply) (a : Answer) → said ≡ replied (id_of c) reply → said ≡ replied (id_of c) (answered a) → AnsweredFor (TestOf c d) s t a → Shape s.records reply t.records → OneTurn s t said
turn_of_shape s t c d said reply a said_is said_so did shape =
    let same : reply ≡ answered a = cc in
    ⊎_elim
    (λ none. stays none.1 (λ quiet. answer_spent c d s t a did (sym (ap is_stored same) ∙ none.0) (sym (ap refuses_test said_so) ∙ quiet)))
    (λ one. adds one.0 one.2 (answer_leaves c d s t a one.0 did (sym (ap is_stored same) ∙ one.1) one.2) one.3)
    shape

pub one_turn : (s t : StationState) (asked : Asked) (now : ℕ) (said : Said) → Steps s asked now said t.records t.disk → DidFor s asked now said t → OneTurn s t said
one_turn s t (number, None) now said steps did = stays (ap (λ (x : StationState). x.records) did.1) (λ quiet. ap (λ (x : StationState). x.rig.spent) did.1)
one_turn s t (number, Some c) now said steps (a, said_so, did) =
    turn_of_shape s t c (decision_at s.program s.records c now) said steps.step.reply a steps.step.said_is said_so did (step_shape steps.findings s.program s.records c now steps.step.reply t.records steps.step.step)

-- ---- the line under way

-- of its record no image keeps anything, or there is none, or the rig shows what it says
abbrev pub Under : StationState → RigState → List StationRecord → DiskState → Type 0
Under s rig later disk =
    EachImage disk (IsImageOf s.records)
    ⊎ (later ≡ s.records)
    ⊎ ((r : StationRecord) × (later ≡ s.records ++ r ∷ []) × IsNext s.records r.body × Leaves s.program r.body s.rig rig)

-- a line that was answered
pub under_turn : (s t : StationState) (asked : Asked) (now : ℕ) (said : Said) → Steps s asked now said t.records t.disk → DidFor s asked now said t → (rig : RigState) → rig ≡ t.rig → (disk : DiskState) → Under s rig t.records disk
under_turn s t asked now said steps did rig is disk =
    elim (one_turn s t asked now said steps did) [
      | stays records spent ↦ inr (inl records)
      | adds r records leaves next ↦ inr (inr (r, records, next, subst (λ (x : RigState). Leaves s.program r.body s.rig x) (sym is) leaves))
    ]

-- what a step adds
step_adds : (s : StationState) (asked : Asked) (now : ℕ) (said : Said) (later : List StationRecord) (disk : DiskState) → Steps s asked now said later disk
    → (later ≡ s.records) ⊎ ((r : StationRecord) × (later ≡ s.records ++ r ∷ []) × IsNext s.records r.body)
step_adds s (number, None) now said later disk steps = inl steps.step.1
step_adds s (number, Some c) now said later disk steps = ⊎_elim
    (λ none. inl none.1)
    (λ one. inr (one.0, one.2, one.3))
    (step_shape steps.findings s.program s.records c now steps.step.reply later steps.step.step)

-- a line that was not
pub under_may : (s : StationState) (asked : Asked) (now : ℕ) (rig : RigState) (disk : DiskState) → EachImage s.disk (IsImageOf s.records) → (may : MayEnd s asked now rig disk) → Under s rig may.later disk
under_may s asked now rig disk standing may = ⊎_elim
    (λ same. inl (subst (λ (d : DiskState). EachImage d (IsImageOf s.records)) (sym same) standing))
    (⊎_elim
    (λ none. inr (inl none))
    (λ leaves. ⊎_elim
    (λ none. inr (inl none))
    (λ one. inr (inr (
      one.0,
      one.1,
      one.2,
      some_at (slice_get may.later (length may.later - 1)) (λ (x : StationRecord). Leaves s.program x.body s.rig rig) one.0
          (ap (λ (S : List StationRecord). slice_get S (length S - 1)) one.1 ∙ last_stored s.records one.0) leaves,
    )))
    (step_adds s asked now may.said may.later disk may.step)))
    may.bears
