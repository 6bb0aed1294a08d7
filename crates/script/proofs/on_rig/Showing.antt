-- What the rig shows of recorded tests, line by line.
use Rattle.std.proofs.Common.{◌≡◌, ◌⊎◌, inl, inr, ⊎_elim, ℕ, ◌+◌, ◌*◌, Bool, false, cond, List, [], ◌∷◌, ◌++◌, length, Option, Some, None, refl, sym, ◌∙◌, ap, subst, arith, append_assoc, append-nil}
use Rattle.std.specs.Prelude.{IsTrue, IfSome, ⊤}
use Rattle.std.specs.List.{AllByRecursion}
use Rattle.std.proofs.lemmas.List.Sums.{sum_by-cons}
use Rattle.std.proofs.Math.Nat.{add-mul}
use Rattle.disk_edge.specs.Disk.{DiskState, EachImage}
use Rattle.rig.specs.RigState.{RigState}
use Rattle.rig.specs.declared.event.Tally.{Tally}
use Rattle.wirelist.specs.declared.program.Program.{Program}
use Rattle.wirelist.specs.declared.outcome.Outcome.TheVariants as outcome
use Rattle.wirelist.specs.declared.outcome.Verdict.{Verdict}
use Rattle.unit_outcome.specs.Enough.{checking_readings}
use Rattle.unit_outcome.specs.Tested.{AddsTally, IsTallyOf}
use Rattle.records.specs.declared.record.Body.{Body}
use Rattle.records.specs.declared.record.Body.TheVariants as body
use Rattle.records.specs.declared.record.StationRecord.{StationRecord}
use Rattle.serials.specs.declared.command.Command.{Command}
use Rattle.serials.specs.Commands.{id_of}
use Rattle.serials.specs.Scan.{tests as tests_of}
use Rattle.ledger.specs.Kept.{IsImageOf}
use Rattle.ledger.specs.Ledger.{Tells}
use Rattle.station.specs.declared.answer.Answer.{Answer}
use Rattle.station.specs.declared.answer.Answer.TheVariants as answer
use Rattle.station.specs.RigAfter.{Leaves, LeavesFor, AnsweredFor, TestOf}
use Rattle.station.specs.Step.{answered, moment_at, decision_at}
use Rattle.station.specs.View.{StationState}
use Rattle.script.specs.Said.{Asked, Said, no_command, replied}
use Rattle.script.specs.Shown.{is_test, is_wiring, test_count, no_wiring, refuses_test, NoneRefused, is_done, IsShown, IsShownBehind, TestsShown}
use Rattle.script.specs.Turns.{OfAsked, RigGoesOn, DidFor}
use Rattle.script.proofs.answers.History.{Turn, said_of, IsHistory}
use Rattle.script.proofs.on_rig.Shapes.{stays, adds, one_turn, test_next, Under}
use Rattle.script.proofs.on_rig.Tallying.{HasTallies, some_all, shown_added, tallies_grow, tallies_added}

-- ---- tallies of the next test

next_of : (s : StationState) (asked : Asked) (now : ℕ) (P : List ℕ → ℕ → Type 0) → OfAsked s asked now P → (serial : List ℕ) × (attempt : ℕ) × (attempt ≡ length (tests_of s.records serial) + 1) × P serial attempt
next_of s (number, None) now P of = absurd of
next_of s (number, Some c) now P of = test_next s.records c (moment_at s.records now) s.program (decision_at s.program s.records c now) P refl of

pub goes_on_tallies : (p : Program) (A : List StationRecord) (s : StationState) (asked : Asked) (now : ℕ) (rig : RigState) → RigGoesOn s asked now rig → HasTallies p A s.records s.rig.tallies → HasTallies p A s.records rig.tallies
goes_on_tallies p A s asked now rig goes has = tallies_grow p A s.records s.rig rig has (⊎_elim (λ same. inl same) (λ of. inr (next_of s asked now (λ serial attempt. AddsTally (IsTallyOf serial attempt) s.rig rig) of)) goes.tallies)

-- ---- group readings

-- one test more
one_spent : (a b k : ℕ) (is : Bool) (body_is : Bool) → body_is ≡ is → b ≡ a + cond is 1 0 * k → b ≡ a + cond body_is 1 0 * k
one_spent a b k is body_is same spent = spent ∙ ap (λ (x : Bool). a + cond x 1 0 * k) (sym same)

test_spent : (a b k : ℕ) → b ≡ a + k → b ≡ a + 1 * k
test_spent a b k is = omega arith

none_spent : (a b k : ℕ) → b ≡ a → b ≡ a + 0 * k
none_spent a b k is = omega arith

same_spent : (p : Program) (old new : RigState) → new ≡ old → new.spent ≡ old.spent + 0 * checking_readings p
same_spent p old new is = none_spent old.spent new.spent (checking_readings p) (ap (λ (r : RigState). r.spent) is)

leaves_spent : (p : Program) (b : Body) (old new : RigState) → Leaves p b old new → is_wiring b ≡ false → new.spent ≡ old.spent + cond (is_test b) 1 0 * checking_readings p
leaves_spent p (body.Tested serial attempt staff (outcome.Wiring d)) old new leaves quiet = cc
leaves_spent p (body.Tested serial attempt staff outcome.Pass) old new leaves quiet = test_spent old.spent new.spent (checking_readings p) leaves.spent
leaves_spent p (body.Tested serial attempt staff (outcome.Parts faults)) old new leaves quiet = test_spent old.spent new.spent (checking_readings p) leaves.spent
leaves_spent p (body.Tested serial attempt staff (outcome.Insulation faults)) old new leaves quiet = test_spent old.spent new.spent (checking_readings p) leaves.spent
leaves_spent p (body.Tested serial attempt staff (outcome.Withstand bit volts leak)) old new leaves quiet = test_spent old.spent new.spent (checking_readings p) leaves.spent
leaves_spent p (body.Adopt q) old new leaves quiet = same_spent p old new leaves
leaves_spent p (body.Enrol s) old new leaves quiet = same_spent p old new leaves
leaves_spent p (body.Calibrate d) old new leaves quiet = same_spent p old new leaves
leaves_spent p body.Mark old new leaves quiet = same_spent p old new leaves
leaves_spent p (body.Rework s) old new leaves quiet = same_spent p old new leaves
leaves_spent p (body.Release s) old new leaves quiet = same_spent p old new leaves
leaves_spent p (body.Scrap s) old new leaves quiet = same_spent p old new leaves

add_up : (a b c k n m : ℕ) (is : Bool) → b ≡ a + cond is 1 0 * k → c ≡ b + n * k → m ≡ cond is 1 0 + n → c ≡ a + m * k
add_up a b c k n m is first second count =
    let all : m * k ≡ cond is 1 0 * k + n * k = ap (λ (x : ℕ). x * k) count ∙ add-mul (cond is 1 0) n k in
    omega (arith, first, second, all)

-- ---- line after line

-- What was added to these records, and what the rig shows of it.
pub record SoShown (p : Program) (A : List StationRecord) (s t : StationState) (said : List Said) : Type 0 where
  pub added : List StationRecord
  pub is : t.records ≡ s.records ++ added
  pub tallies : HasTallies p (A ++ added) t.records t.rig.tallies
  pub spent : no_wiring added → NoneRefused said → t.rig.spent ≡ s.rig.spent + test_count added * checking_readings p

none_shown : (p : Program) (A : List StationRecord) (s : StationState) → HasTallies p A s.records s.rig.tallies → SoShown p A s s []
none_shown p A s has = record {
  added = [];
  is = sym (append-nil s.records);
  tallies = subst (λ (l : List StationRecord). HasTallies p l s.records s.rig.tallies) (sym (append-nil A)) has;
  spent = λ nw nr. none_spent s.rig.spent s.rig.spent (checking_readings p) refl;
}

stays_shown : (p : Program) (A : List StationRecord) (s mid t : StationState) (one : Said) (said : List Said) → mid.records ≡ s.records → (refuses_test one ≡ false → mid.rig.spent ≡ s.rig.spent) → SoShown p A mid t said → SoShown p A s t (one ∷ said)
stays_shown p A s mid t one said records spent more = record {
  added = more.added;
  is = more.is ∙ ap (λ (l : List StationRecord). l ++ more.added) records;
  tallies = more.tallies;
  spent = λ nw nr. more.spent nw nr.1 ∙ ap (λ (n : ℕ). n + test_count more.added * checking_readings p) (spent nr.0);
}

adds_shown : (p : Program) (A : List StationRecord) (s mid t : StationState) (one : Said) (said : List Said) (r : StationRecord) → mid.records ≡ s.records ++ r ∷ [] → Leaves p r.body s.rig mid.rig → SoShown p (A ++ r ∷ []) mid t said → SoShown p A s t (one ∷ said)
adds_shown p A s mid t one said r records leaves more = record {
  added = r ∷ more.added;
  is = more.is ∙ ap (λ (l : List StationRecord). l ++ more.added) records ∙ append_assoc s.records (r ∷ []) more.added;
  tallies = subst (λ (l : List StationRecord). HasTallies p l t.records t.rig.tallies) (append_assoc A (r ∷ []) more.added) more.tallies;
  spent = λ nw nr. add_up s.rig.spent mid.rig.spent t.rig.spent (checking_readings p) (test_count more.added) (test_count (r ∷ more.added)) (is_test r.body)
      (leaves_spent p r.body s.rig mid.rig leaves nw.0) (more.spent nw.1 nr.1) (sum_by-cons (λ (x : StationRecord). cond (is_test x.body) 1 0) r more.added);
}

pub shown_all : (p : Program) (turns : List Turn) (A : List StationRecord) (s t : StationState) → s.program ≡ p → Tells s.disk → IsHistory s turns t → HasTallies p A s.records s.rig.tallies → SoShown p A s t (said_of turns)
shown_all p [] A s t program tells is has = subst (λ (x : StationState). SoShown p A s x []) (sym is) (none_shown p A s has)
shown_all p (turn ∷ turns) A s t program tells (one, history) has =
    elim (one_turn s turn.after turn.asked turn.now turn.said (one.step tells) one.did) [
      | stays records spent ↦ stays_shown p A s turn.after t turn.said (said_of turns) records spent
          (shown_all p turns A turn.after t (one.same.program ∙ program) (one.disk.limit.tells ∙ tells) history
          (subst (λ (R : List StationRecord). HasTallies p A R turn.after.rig.tallies) (sym records) (goes_on_tallies p A s turn.asked turn.now turn.after.rig one.rig has)))
      | adds r records leaves next ↦
          let leaves_p : Leaves p r.body s.rig turn.after.rig = subst (λ (q : Program). Leaves q r.body s.rig turn.after.rig) program leaves in
          adds_shown p A s turn.after t turn.said (said_of turns) r records leaves_p
          (shown_all p turns (A ++ r ∷ []) turn.after t (one.same.program ∙ program) (one.disk.limit.tells ∙ tells) history
          (subst (λ (R : List StationRecord). HasTallies p (A ++ r ∷ []) R turn.after.rig.tallies) (sym records) (tallies_added p A s.records s.rig turn.after.rig r has next leaves_p)))
    ]

-- ---- the last line

no_end : (before : List Said) (x : Said) (P : Type 0) → [] ≡ before ++ x ∷ [] → P
no_end [] x P is = cc
no_end (b ∷ before) x P is = cc

last_answer : (c : Command) (a : Answer) (number : ℕ) (v : Option Verdict) (id : List ℕ) → replied (id_of c) (answered a) ≡ replied id (answered (answer.Stored number v)) → a ≡ answer.Stored number v
last_answer c a number v id is = cc

last_did : (s t : StationState) (asked : Asked) (now : ℕ) (said : Said) (id : List ℕ) (number : ℕ) (v : Option Verdict) → DidFor s asked now said t → said ≡ replied id (answered (answer.Stored number v)) → LeavesFor s.program t.records s.rig t.rig
last_did s t (n, None) now said id number v did is = let never : no_command n ≡ replied id (answered (answer.Stored number v)) = sym did.0 ∙ is in cc
last_did s t (n, Some c) now said id number v (a, said_so, did) is =
    (subst (λ (x : Answer). AnsweredFor (TestOf c (decision_at s.program s.records c now)) s t x) (last_answer c a number v id (sym said_so ∙ is)) did).0

last_one : (said one : Said) (before : List Said) → said ∷ [] ≡ before ++ one ∷ [] → said ≡ one
last_one said one [] is = cc
last_one said one (b ∷ before) is = let rest : [] ≡ before ++ one ∷ [] = cc in no_end before one (said ≡ one) rest

last_more : (said one : Said) (more : List Said) (before : List Said) → said ∷ more ≡ before ++ one ∷ [] → (more ≡ []) ⊎ ((rest : List Said) × (more ≡ rest ++ one ∷ []))
last_more said one more [] is = let none_left : more ≡ [] = cc in inl none_left
last_more said one more (b ∷ before) is = let rest : more ≡ before ++ one ∷ [] = cc in inr (before, rest)

pub last_all : (p : Program) (turns : List Turn) (s t : StationState) (before : List Said) (id : List ℕ) (number : ℕ) (v : Option Verdict) → s.program ≡ p → IsHistory s turns t → said_of turns ≡ before ++ replied id (answered (answer.Stored number v)) ∷ [] → (old : RigState) × LeavesFor p t.records old t.rig
last_all p [] s t before id number v program is said = no_end before (replied id (answered (answer.Stored number v))) ((old : RigState) × LeavesFor p t.records old t.rig) said
last_all p (turn ∷ []) s t before id number v program (one, is) said =
    let did = last_did s turn.after turn.asked turn.now turn.said id number v one.did (last_one turn.said (replied id (answered (answer.Stored number v))) before said) in
    (s.rig, subst (λ (x : StationState). LeavesFor p x.records s.rig x.rig) (sym is) (subst (λ (q : Program). LeavesFor q turn.after.records s.rig turn.after.rig) program did))
last_all p (turn ∷ next ∷ turns) s t before id number v program (one, history) said =
    ⊎_elim
    (λ none_left. let never : ⊥ = cc in absurd never)
    (λ rest. last_all p (next ∷ turns) turn.after t rest.0 id number v (one.same.program ∙ program) history rest.1)
    (last_more turn.said (replied id (answered (answer.Stored number v))) (said_of (next ∷ turns)) before said)

-- ---- the exits

pub begins_shown : (p : Program) (s : StationState) → HasTallies p [] s.records s.rig.tallies
begins_shown p s = record { shown = some_all s.rig.tallies (λ list. ⊤) (λ list. tt); past = tt }

one_shown : (p : Program) (r : StationRecord) (o : Option (List Tally)) → IfSome o (λ list. IsShown p list r.body) → IfSome o (λ list. AllByRecursion (λ (x : StationRecord). IsShown p list x.body) (r ∷ []))
one_shown p r None shown = tt
one_shown p r (Some list) shown = (shown, tt)

-- what the line under way recorded
pub shown_under : (p : Program) (A : List StationRecord) (s : StationState) (rig : RigState) (later : List StationRecord) (disk : DiskState) → s.program ≡ p → HasTallies p A s.records s.rig.tallies → Under s rig later disk
    → EachImage disk (IsImageOf s.records) ⊎ IsShownBehind p rig.tallies s.records later
shown_under p A s rig later disk program has under = ⊎_elim
    (λ images. inl images)
    (⊎_elim
    (λ none. inr ([], none ∙ sym (append-nil s.records), some_all rig.tallies (λ list. ⊤) (λ list. tt)))
    (λ one. inr (
      one.0 ∷ [],
      one.1,
      one_shown p one.0 rig.tallies (shown_added p A s.records s.rig rig one.0.body has one.2 (subst (λ (q : Program). Leaves q one.0.body s.rig rig) program one.3)).1,
    )))
    under

-- the tests that were recorded, as the rig shows them at an exit
pub tests_shown : (began s : StationState) (turns : List Turn) (rig : RigState) (said : List Said) (status : ℕ) (later : List StationRecord) (disk : DiskState) → s.program ≡ began.program → Under s rig later disk → Tells began.disk → (history : IsHistory began turns s) → ((A : List StationRecord) → HasTallies began.program A s.records s.rig.tallies → HasTallies began.program A s.records rig.tallies)
    → (IsTrue (is_done status) → (rig ≡ s.rig) × (said ≡ said_of turns)) → TestsShown began.program began.rig rig began.records s.records later disk said status
tests_shown began s turns rig said status later disk program under tells history goes_on done =
    let shown = shown_all began.program turns [] began s refl tells history (begins_shown began.program began) in
    record {
      added = shown.added;
      is = shown.is;
      tallies = (goes_on shown.added shown.tallies).shown;
      spent = λ rests nw nr. let at = done rests in ap (λ (r : RigState). r.spent) at.0 ∙ shown.spent nw (subst (λ (l : List Said). NoneRefused l) at.1 nr);
      last = λ rests before id number v is.
          let at = done rests in
          let last = last_all began.program turns began s before id number v refl history (sym at.1 ∙ is) in
          (last.0, subst (λ (r : RigState). LeavesFor began.program s.records last.0 r) (sym at.0) last.1);
      under_way = shown_under began.program shown.added s rig later disk program shown.tallies under;
    }
