-- What lines do to the rig.
use Rattle.std.proofs.Common.{◌≡◌, ◌⊎◌, inl, inr, ⊎_elim, ℕ, ◌+◌, ◌-◌, ◌<◌, ◌≤◌, ◌^◌, Bool, true, false, cond, List, [], ◌∷◌, Option, Some, None, refl, sym, ◌∙◌, ap, subst, arith, min}
use Rattle.std.specs.Prelude.{count_by, IfSome}
use Rattle.base.specs.Causes.{Rose}
use Rattle.std.proofs.lemmas.List.Sums.{sum_by-cons}
use Rattle.partition.specs.NetTable.{programmed_of}
use Rattle.rig.specs.Happened.{IsTold, IsBelowLast}
use Rattle.rig.specs.HvOrder.{HvOrder}
use Rattle.rig.specs.Source.{Ends}
use Rattle.rig.specs.declared.event.Event.{Event}
use Rattle.wirelist.specs.Clusters.{cluster_classes}
use Rattle.rig.specs.RigState.{RigState}
use Rattle.wirelist.specs.declared.program.Program.{Program}
use Rattle.unit_outcome.specs.Tested.{IsOpen, IsInOrderOf}
use Rattle.serials.specs.declared.command.Command.{Command}
use Rattle.serials.specs.declared.command.Command.TheVariants as command
use Rattle.serials.specs.declared.decision.Decision.{Decision}
use Rattle.serials.specs.declared.decision.Decision.TheVariants as decision
use Rattle.station.specs.declared.answer.Answer.{Answer}
use Rattle.station.specs.declared.answer.Answer.TheVariants as answer
use Rattle.station.specs.declared.answer.Refused.{Refused}
use Rattle.station.specs.declared.answer.Refused.TheVariants as refused
use Rattle.station.specs.RigAfter.{TestOf, RefusedFor, AnsweredFor, StaysOrKeeps, StaysInOrder}
use Rattle.station.specs.Step.{decision_at}
use Rattle.station.specs.View.{StationState}
use Rattle.script.specs.Said.{Asked, Said}
use Rattle.script.specs.Turns.{DidFor, IsTurn}
use Rattle.script.specs.RigLines.{is_fault, is_door, refuses_by, is_fault_line, is_door_line, fault_lines, door_lines, LinesWithin, StillTells}
use Rattle.script.proofs.answers.History.{Turn, said_of, IsHistory}

-- ---- one line

-- a count over the command of one line: it does not fall, and rose where the line says so
pub record Rises (before now : ℕ) (says : Bool) : Type 0 where
  pub later : min before (2 ^ 64 - 1) ≤ now
  pub rose : says ≡ true → Rose before now

-- what holds of the test of a command holds of some serial and attempt
pub test_of : (c : Command) (d : Decision) (P : List ℕ → ℕ → Type 0) (Q : Type 0) → ((serial : List ℕ) (attempt : ℕ) → P serial attempt → Q) → TestOf c d P → Q
test_of (command.Test id serial staff) (decision.Test attempt) P Q then holds = then serial attempt holds
test_of (command.Test id serial staff) decision.Keep P Q then holds = absurd holds
test_of (command.Test id serial staff) (decision.Same k) P Q then holds = absurd holds
test_of (command.Test id serial staff) (decision.No r) P Q then holds = absurd holds
test_of (command.Adopt id) d P Q then holds = absurd holds
test_of (command.Enrol id serial) d P Q then holds = absurd holds
test_of (command.Calibrate id day) d P Q then holds = absurd holds
test_of (command.Mark id) d P Q then holds = absurd holds
test_of (command.Rework id serial) d P Q then holds = absurd holds
test_of (command.Release id serial) d P Q then holds = absurd holds
test_of (command.Scrap id serial) d P Q then holds = absurd holds

never : {P : Type 0} → false ≡ true → P
never is = cc

fault_of : (c : Command) (d : Decision) (p : Program) (old new : RigState) (why : Refused) → RefusedFor (TestOf c d) p old new why → is_fault why ≡ true → Rose old.faults new.faults
fault_of c d p old new (refused.Rule r) refuses says = never says
fault_of c d p old new refused.Full refuses says = never says
fault_of c d p old new refused.Empty refuses says = never says
fault_of c d p old new refused.Door refuses says = never says
fault_of c d p old new (refused.Charged volts) refuses says = never says
fault_of c d p old new refused.RigFault refuses says = refuses.1

door_of : (c : Command) (d : Decision) (p : Program) (old new : RigState) (why : Refused) → RefusedFor (TestOf c d) p old new why → is_door why ≡ true → Rose old.opens new.opens
door_of c d p old new (refused.Rule r) refuses says = never says
door_of c d p old new refused.Full refuses says = never says
door_of c d p old new refused.Empty refuses says = never says
door_of c d p old new refused.Door refuses says = test_of c d (λ serial attempt. IsOpen p serial attempt old new) (Rose old.opens new.opens) (λ serial attempt was. was.opens) refuses
door_of c d p old new (refused.Charged volts) refuses says = never says
door_of c d p old new refused.RigFault refuses says = never says

fault_answer : (c : Command) (d : Decision) (old new : StationState) (a : Answer) → AnsweredFor (TestOf c d) old new a → refuses_by is_fault a ≡ true → Rose old.rig.faults new.rig.faults
fault_answer c d old new (answer.Stored number v) did says = never says
fault_answer c d old new (answer.Same number v) did says = never says
fault_answer c d old new (answer.No why) did says = fault_of c d old.program old.rig new.rig why did says

door_answer : (c : Command) (d : Decision) (old new : StationState) (a : Answer) → AnsweredFor (TestOf c d) old new a → refuses_by is_door a ≡ true → Rose old.rig.opens new.rig.opens
door_answer c d old new (answer.Stored number v) did says = never says
door_answer c d old new (answer.Same number v) did says = never says
door_answer c d old new (answer.No why) did says = door_of c d old.program old.rig new.rig why did says

-- a line that says so was answered by such a refusal
fault_said : (s t : StationState) (asked : Asked) (now : ℕ) (said : Said) → DidFor s asked now said t → is_fault_line said ≡ true → Rose s.rig.faults t.rig.faults
fault_said s t (number, None) now said did says = never (sym (ap is_fault_line did.0) ∙ says)
fault_said s t (number, Some c) now said (a, is, did) says = fault_answer c (decision_at s.program s.records c now) s t a did (sym (ap is_fault_line is) ∙ says)

door_said : (s t : StationState) (asked : Asked) (now : ℕ) (said : Said) → DidFor s asked now said t → is_door_line said ≡ true → Rose s.rig.opens t.rig.opens
door_said s t (number, None) now said did says = never (sym (ap is_door_line did.0) ∙ says)
door_said s t (number, Some c) now said (a, is, did) says = door_answer c (decision_at s.program s.records c now) s t a did (sym (ap is_door_line is) ∙ says)

pub faults_later : (old new : RigState) → StaysOrKeeps old new → old.faults ≤ new.faults
faults_later old new kept = ⊎_elim (λ same. omega (arith, ap (λ (r : RigState). r.faults) same)) (λ keeps. keeps.faults) kept

pub opens_later : (old new : RigState) → StaysOrKeeps old new → min old.opens (2 ^ 64 - 1) ≤ new.opens
opens_later old new kept = ⊎_elim (λ same. omega (arith, ap (λ (r : RigState). r.opens) same)) (λ keeps. keeps.opens) kept

pub turn_faults : (s t : StationState) (asked : Asked) (now : ℕ) (said : Said) → IsTurn s asked now said t → Rises s.rig.faults t.rig.faults (is_fault_line said)
turn_faults s t asked now said turn = record { later = omega (arith, faults_later s.rig t.rig turn.rig.kept); rose = fault_said s t asked now said turn.did }

pub turn_opens : (s t : StationState) (asked : Asked) (now : ℕ) (said : Said) → IsTurn s asked now said t → Rises s.rig.opens t.rig.opens (is_door_line said)
turn_opens s t asked now said turn = record { later = opens_later s.rig t.rig turn.rig.kept; rose = door_said s t asked now said turn.did }

-- ---- line after line

one_more_line : (says : Said → Bool) (a c : ℕ) (one : Said) (said : List Said) → a + (cond (says one) 1 0 + count_by says said) ≤ c → a + count_by says (one ∷ said) ≤ c
one_more_line says a c one said risen = subst (λ (n : ℕ). a + n ≤ c) (sym (sum_by-cons (λ (x : Said). cond (says x) 1 0) one said)) risen

-- one line and the lines behind it
one_rise : (a b c n : ℕ) (says : Bool) → Rises a b says → b + n ≤ c → c < 2 ^ 64 - 1 → a + (cond says 1 0 + n) ≤ c
one_rise a b c n true rises rest below = omega (arith, rises.rose refl, rest, below)
one_rise a b c n false rises rest below = omega (arith, rises.later, rest)

pub faults_risen : (turns : List Turn) (s t : StationState) → IsHistory s turns t → IsBelowLast t.rig.faults → s.rig.faults + fault_lines (said_of turns) ≤ t.rig.faults
faults_risen [] s t is below = omega (arith, ap (λ (x : StationState). x.rig.faults) is)
faults_risen (turn ∷ turns) s t (one, history) below =
    let rest = faults_risen turns turn.after t history below in
    let both = one_rise s.rig.faults turn.after.rig.faults t.rig.faults (fault_lines (said_of turns)) (is_fault_line turn.said) (turn_faults s turn.after turn.asked turn.now turn.said one) rest below in
    one_more_line is_fault_line s.rig.faults t.rig.faults turn.said (said_of turns) both

pub opens_risen : (turns : List Turn) (s t : StationState) → IsHistory s turns t → IsBelowLast t.rig.opens → s.rig.opens + door_lines (said_of turns) ≤ t.rig.opens
opens_risen [] s t is below = omega (arith, ap (λ (x : StationState). x.rig.opens) is)
opens_risen (turn ∷ turns) s t (one, history) below =
    let rest = opens_risen turns turn.after t history below in
    let both = one_rise s.rig.opens turn.after.rig.opens t.rig.opens (door_lines (said_of turns)) (is_door_line turn.said) (turn_opens s turn.after turn.asked turn.now turn.said one) rest below in
    one_more_line is_door_line s.rig.opens t.rig.opens turn.said (said_of turns) both

-- ---- what a rig tells of itself

-- a rig that was called tells what is so; one that was not is as it was
pub record Grown (old new : RigState) : Type 0 where
  pub most_faults : new.most_faults ≡ old.most_faults
  pub most_opens : new.most_opens ≡ old.most_opens
  pub called : (new ≡ old) ⊎ IsTold new

pub grown_by : (old new : RigState) → StaysOrKeeps old new → Grown old new
grown_by old new kept = ⊎_elim
    (λ same. record { most_faults = ap (λ (r : RigState). r.most_faults) same; most_opens = ap (λ (r : RigState). r.most_opens) same; called = inl same })
    (λ keeps. record { most_faults = keeps.most_faults; most_opens = keeps.most_opens; called = inr keeps.told })
    kept

pub grown_both : (a b c : RigState) → Grown a b → Grown b c → Grown a c
grown_both a b c first second = record {
  most_faults = second.most_faults ∙ first.most_faults;
  most_opens = second.most_opens ∙ first.most_opens;
  called = ⊎_elim
      (λ same. ⊎_elim (λ was. inl (same ∙ was)) (λ told. inr (subst (λ (r : RigState). IsTold r) (sym same) told)) first.called)
      (λ told. inr told)
      second.called;
}

pub grown_all : (turns : List Turn) (s t : StationState) → IsHistory s turns t → Grown s.rig t.rig
grown_all [] s t is = grown_by s.rig t.rig (inl (ap (λ (x : StationState). x.rig) is))
grown_all (turn ∷ turns) s t (one, history) = grown_both s.rig turn.after.rig t.rig (grown_by s.rig turn.after.rig one.rig.kept) (grown_all turns turn.after t history)

pub still_tells : (began rig : RigState) → Grown began rig → StillTells began rig
still_tells began rig grown = record {
  most_faults = grown.most_faults;
  most_opens = grown.most_opens;
  told = λ was. ⊎_elim (λ same. subst (λ (r : RigState). IsTold r) (sym same) was) (λ told. told) grown.called;
}

-- no more lines than the count rose by, where the rig was not called none
bounded : (a b n most : ℕ) → a + n ≤ b → b ≤ most → n ≤ most
bounded a b n most risen within = omega (arith, risen, within)

none_more : (a b n most : ℕ) → a + n ≤ b → b ≡ a → n ≤ most
none_more a b n most risen same = omega (arith, risen, same)

some_is : {A : Type 0} (o : Option A) (P : A → Type 0) → ((x : A) → o ≡ Some x → P x) → IfSome o P
some_is None P holds = tt
some_is (Some x) P holds = holds x refl

some_has : {A : Type 0} (o : Option A) (P : A → Type 0) (x : A) → o ≡ Some x → IfSome o P → P x
some_has None P x is holds = cc
some_has (Some y) P x is holds = let same : y ≡ x = cc in subst P same holds

pub lines_within : (said : List Said) (began rig : RigState) → Grown began rig → (IsBelowLast rig.faults → began.faults + fault_lines said ≤ rig.faults) → (IsBelowLast rig.opens → began.opens + door_lines said ≤ rig.opens) → LinesWithin said began rig
lines_within said began rig grown faults opens = record {
  faults = faults;
  opens = opens;
  most_faults = some_is rig.most_faults (λ most. IsBelowLast rig.faults → IsBelowLast rig.spent → IsBelowLast rig.seats → fault_lines said ≤ most) (λ most is below spent seats.
      ⊎_elim (λ same. none_more began.faults rig.faults (fault_lines said) most (faults below) (ap (λ (r : RigState). r.faults) same))
      (λ told. bounded began.faults rig.faults (fault_lines said) most (faults below) (some_has rig.most_faults (λ m. IsBelowLast rig.spent → IsBelowLast rig.seats → rig.faults ≤ m) most is told.faults spent seats))
      grown.called);
  most_opens = some_is rig.most_opens (λ most. IsBelowLast rig.opens → door_lines said ≤ most) (λ most is below.
      ⊎_elim (λ same. none_more began.opens rig.opens (door_lines said) most (opens below) (ap (λ (r : RigState). r.opens) same))
      (λ told. bounded began.opens rig.opens (door_lines said) most (opens below) (some_has rig.most_opens (λ m. rig.opens ≤ m) most is told.opens))
      grown.called);
}

-- ---- the order of high voltage

in_order_same : (p : Program) (old new : RigState) → new.trail ≡ old.trail → IsInOrderOf p old → IsInOrderOf p new
in_order_same p old new same was =
    subst (λ (o : Option (List Event)). IfSome o (λ trail. HvOrder (programmed_of p.nets) (cluster_classes p) trail × Ends trail)) (sym same) was

pub stays_in_order : (p : Program) (old new : RigState) → StaysInOrder p old new → IsInOrderOf p old → IsInOrderOf p new
stays_in_order p old new stays was = ⊎_elim (λ same. in_order_same p old new same was) (λ now. now) stays

pub order_all : (p : Program) (turns : List Turn) (s t : StationState) → s.program ≡ p → IsHistory s turns t → IsInOrderOf p s.rig → IsInOrderOf p t.rig
order_all p [] s t program is was = subst (λ (x : StationState). IsInOrderOf p x.rig) (sym is) was
order_all p (turn ∷ turns) s t program (one, history) was =
    order_all p turns turn.after t (one.same.program ∙ program) history
    (stays_in_order p s.rig turn.after.rig (subst (λ (q : Program). StaysInOrder q s.rig turn.after.rig) program one.order) was)
