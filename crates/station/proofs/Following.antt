-- What follows of trail and tallies, whatever a command answers.
use Rattle.std.proofs.Common.{◌≡◌, ◌⊎◌, inl, inr, ⊎_elim, ℕ, List, ◌++◌, ◌∷◌, [], Option, Some, None, refl, sym, ap, subst, Result, Ok, Err, IfSome}
use Rattle.std.specs.Prelude.{MatchOption}
use Rattle.partition.specs.NetTable.{programmed_of}
use Rattle.rig.specs.HvOrder.{HvOrder}
use Rattle.rig.specs.RigState.{RigState}
use Rattle.rig.specs.Seating.{emptied}
use Rattle.rig.specs.Source.{Ends}
use Rattle.rig.specs.declared.event.Event.{Event}
use Rattle.rig.specs.declared.event.Tally.{Tally}
use Rattle.wirelist.specs.Clusters.{cluster_classes}
use Rattle.wirelist.specs.declared.program.Program.{Program}
use Rattle.applications.specs.Ordered.{IsStuckInOrder}
use Rattle.unit_outcome.specs.Enough.{Enough}
use Rattle.unit_outcome.specs.Tested.{IsEmpty, IsOpen, IsCharged, IsCutOff, IsNotAtZero, AddsTally, IsTallyOf, IsInOrderOf}
use Rattle.serials.specs.declared.command.Command.{Command}
use Rattle.serials.specs.declared.command.Command.TheVariants as command
use Rattle.serials.specs.declared.decision.Decision.{Decision}
use Rattle.serials.specs.declared.decision.Decision.TheVariants as decision
use Rattle.station.specs.declared.answer.Answer.{Answer}
use Rattle.station.specs.declared.answer.Answer.TheVariants as answer
use Rattle.station.specs.declared.answer.Refused.{Refused}
use Rattle.station.specs.declared.answer.Refused.TheVariants as refused
use Rattle.station.specs.declared.station.StepDone.{StepDone}
use Rattle.station.specs.declared.stops.StepStop.{StepStop}
use Rattle.station.specs.declared.stops.StepStop.TheVariants.{Disk, NotZero, Memory}
use Rattle.station.specs.View.{StationState}
use Rattle.station.specs.Ended.{rig_after}
use Rattle.station.specs.RigAfter.{TestOf, WasTested, LeftOrTested, RefusedFor, AnsweredFor, RigEnds, GrowsTallies, StaysInOrder, VoltageEnds}

-- what follows from the serial and the attempt of the command's test; what holds of these holds of the command's
of_test : (c : Command) (d : Decision) (P : List ℕ → ℕ → Type 0) (X : Type 0) → TestOf c d P
    → ((serial : List ℕ) (attempt : ℕ) → P serial attempt → ((Q : List ℕ → ℕ → Type 0) → Q serial attempt → TestOf c d Q) → X) → X
of_test (command.Test id serial staff) (decision.Test attempt) P X holds more = more serial attempt holds (λ Q q. q)
of_test (command.Test id serial staff) decision.Keep P X holds more = absurd holds
of_test (command.Test id serial staff) (decision.Same number) P X holds more = absurd holds
of_test (command.Test id serial staff) (decision.No rule) P X holds more = absurd holds
of_test (command.Adopt id) d P X holds more = absurd holds
of_test (command.Enrol id serial) d P X holds more = absurd holds
of_test (command.Calibrate id day) d P X holds more = absurd holds
of_test (command.Mark id) d P X holds more = absurd holds
of_test (command.Rework id serial) d P X holds more = absurd holds
of_test (command.Release id serial) d P X holds more = absurd holds
of_test (command.Scrap id serial) d P X holds more = absurd holds

-- ---- one test

more_of : (P Q : Tally → Type 0) (new : RigState) (tallies : Option (List Tally)) → ((t : Tally) → P t → Q t)
    → MatchOption tallies (new.tallies ≡ None) (λ list. (tally : Tally) × (new.tallies ≡ Some (list ++ tally ∷ [])) × P tally)
    → MatchOption tallies (new.tallies ≡ None) (λ list. (tally : Tally) × (new.tallies ≡ Some (list ++ tally ∷ [])) × Q tally)
more_of P Q new None more none = none
more_of P Q new (Some list) more one = (one.0, one.1, more one.0 one.2)

empty_in_order : (classes bonds : List ℕ) (trail : Option (List Event)) → IfSome (emptied trail) (λ events. HvOrder classes bonds events × Ends events)
empty_in_order classes bonds None = tt
empty_in_order classes bonds (Some events) = (tt, refl)

module _ (p : Program) (serial : List ℕ) (attempt : ℕ) (old new : RigState) where
  empty_order : IsEmpty serial attempt old new → IsInOrderOf p new
  empty_order seats =
      subst (λ (trail : Option (List Event)). IfSome trail (λ events. HvOrder (programmed_of p.nets) (cluster_classes p) events × Ends events)) (sym (ap (λ (s : RigState). s.trail) (seats.absent refl)))
      (empty_in_order (programmed_of p.nets) (cluster_classes p) old.trail)

  cut_order : IsCutOff p serial attempt old new → StaysInOrder p old new
  cut_order cut = ⊎_elim (λ refused. inl (ap (λ (s : RigState). s.trail) refused.0.frame)) (λ stops. inr stops.order) cut

  cut_tally : IsCutOff p serial attempt old new → (new.tallies ≡ old.tallies) ⊎ AddsTally (IsTallyOf serial attempt) old new
  cut_tally cut = ⊎_elim (λ refused. inl (ap (λ (s : RigState). s.tallies) refused.0.frame)) (λ stops. inr stops.begun.tally) cut

  tested_tally : WasTested p old new serial attempt → AddsTally (IsTallyOf serial attempt) old new
  tested_tally tested = more_of (λ tally. IsTallyOf serial attempt tally × Enough p tested.0 tally) (IsTallyOf serial attempt) new old.tallies (λ tally both. both.0) tested.1.tally

-- ---- a command

module _ (c : Command) (d : Decision) (p : Program) (old new : RigState) where
  grows : (P : List ℕ → ℕ → Type 0) → TestOf c d P → ((serial : List ℕ) (attempt : ℕ) → P serial attempt → (new.tallies ≡ old.tallies) ⊎ AddsTally (IsTallyOf serial attempt) old new) → GrowsTallies (TestOf c d) old new
  grows P holds adds = of_test c d P (GrowsTallies (TestOf c d) old new) holds
      (λ serial attempt is lift. ⊎_elim (λ same. inl same) (λ one. inr (lift (λ s a. AddsTally (IsTallyOf s a) old new) one)) (adds serial attempt is))

  orders : (P : List ℕ → ℕ → Type 0) → TestOf c d P → ((serial : List ℕ) (attempt : ℕ) → P serial attempt → StaysInOrder p old new) → StaysInOrder p old new
  orders P holds order = of_test c d P (StaysInOrder p old new) holds (λ serial attempt is lift. order serial attempt is)

  left_order : LeftOrTested (TestOf c d) p old new → StaysInOrder p old new
  left_order left = ⊎_elim (λ same. inl (ap (λ (s : RigState). s.trail) same)) (λ tested. orders (WasTested p old new) tested (λ serial attempt found. inr found.1.order)) left

  left_tallies : LeftOrTested (TestOf c d) p old new → GrowsTallies (TestOf c d) old new
  left_tallies left = ⊎_elim (λ same. inl (ap (λ (s : RigState). s.tallies) same)) (λ tested. grows (WasTested p old new) tested (λ serial attempt found. inr (tested_tally p serial attempt old new found))) left

  same_order : new ≡ old → StaysInOrder p old new
  same_order same = inl (ap (λ (s : RigState). s.trail) same)

  same_tallies : new ≡ old → GrowsTallies (TestOf c d) old new
  same_tallies same = inl (ap (λ (s : RigState). s.tallies) same)

  refused_order : (why : Refused) → RefusedFor (TestOf c d) p old new why → StaysInOrder p old new
  refused_order (refused.Rule r) same = same_order same
  refused_order refused.Full same = same_order same
  refused_order refused.Empty test = orders (λ serial attempt. IsEmpty serial attempt old new) test (λ serial attempt is. inr (empty_order p serial attempt old new is))
  refused_order refused.Door test = orders (λ serial attempt. IsOpen p serial attempt old new) test (λ serial attempt is. inr is.stops.order)
  refused_order (refused.Charged volts) test = orders (λ serial attempt. IsCharged p serial attempt old new volts) test (λ serial attempt is. inr is.order)
  refused_order refused.RigFault test = orders (λ serial attempt. IsCutOff p serial attempt old new) test.0 (λ serial attempt is. cut_order p serial attempt old new is)

  refused_tallies : (why : Refused) → RefusedFor (TestOf c d) p old new why → GrowsTallies (TestOf c d) old new
  refused_tallies (refused.Rule r) same = same_tallies same
  refused_tallies refused.Full same = same_tallies same
  refused_tallies refused.Empty test = grows (λ serial attempt. IsEmpty serial attempt old new) test (λ serial attempt is. inl (ap (λ (s : RigState). s.tallies) (is.absent refl)))
  refused_tallies refused.Door test = grows (λ serial attempt. IsOpen p serial attempt old new) test (λ serial attempt is. inr is.stops.begun.tally)
  refused_tallies (refused.Charged volts) test = grows (λ serial attempt. IsCharged p serial attempt old new volts) test (λ serial attempt is. inr is.begun.tally)
  refused_tallies refused.RigFault test = grows (λ serial attempt. IsCutOff p serial attempt old new) test.0 (λ serial attempt is. cut_tally p serial attempt old new is)

module _ (c : Command) (d : Decision) (old new : StationState) where
  answered_order : (a : Answer) → AnsweredFor (TestOf c d) old new a → StaysInOrder old.program old.rig new.rig
  answered_order (answer.Stored number v) says = left_order c d old.program old.rig new.rig says.1
  answered_order (answer.Same number v) says = same_order c d old.program old.rig new.rig says
  answered_order (answer.No why) says = refused_order c d old.program old.rig new.rig why says

  answered_tallies : (a : Answer) → AnsweredFor (TestOf c d) old new a → GrowsTallies (TestOf c d) old.rig new.rig
  answered_tallies (answer.Stored number v) says = left_tallies c d old.program old.rig new.rig says.1
  answered_tallies (answer.Same number v) says = same_tallies c d old.program old.rig new.rig says
  answered_tallies (answer.No why) says = refused_tallies c d old.program old.rig new.rig why says

module _ {R D : Type 0} (rs : R → RigState) (c : Command) (d : Decision) (old : StationState) where
  pub voltage_ends : (result : Result (StepDone R D) (StepStop R D)) → RigEnds rs (TestOf c d) old result → VoltageEnds rs old result
  voltage_ends (Ok done) ends = answered_order c d old done.station done.answer ends
  voltage_ends (Err (Disk rig disk)) ends = left_order c d old.program old.rig (rs rig) ends
  voltage_ends (Err (NotZero rig disk)) ends =
      of_test c d (λ serial attempt. IsNotAtZero old.program serial attempt old.rig (rs rig)) (IsStuckInOrder (programmed_of old.program.nets) (cluster_classes old.program) (rs rig)) ends (λ serial attempt is lift. is.order)
  voltage_ends (Err (Memory rig disk)) ends = ⊎_elim
      (λ left. left_order c d old.program old.rig (rs rig) left)
      (λ cut. orders c d old.program old.rig (rs rig) (λ serial attempt. IsCutOff old.program serial attempt old.rig (rs rig)) cut (λ serial attempt is. cut_order old.program serial attempt old.rig (rs rig) is))
      ends

  pub tallies_grow : (result : Result (StepDone R D) (StepStop R D)) → RigEnds rs (TestOf c d) old result → GrowsTallies (TestOf c d) old.rig (rig_after rs result)
  tallies_grow (Ok done) ends = answered_tallies c d old done.station done.answer ends
  tallies_grow (Err (Disk rig disk)) ends = left_tallies c d old.program old.rig (rs rig) ends
  tallies_grow (Err (NotZero rig disk)) ends =
      grows c d old.program old.rig (rs rig) (λ serial attempt. IsNotAtZero old.program serial attempt old.rig (rs rig)) ends (λ serial attempt is. inr is.begun.tally)
  tallies_grow (Err (Memory rig disk)) ends = ⊎_elim
      (λ left. left_tallies c d old.program old.rig (rs rig) left)
      (λ cut. grows c d old.program old.rig (rs rig) (λ serial attempt. IsCutOff old.program serial attempt old.rig (rs rig)) cut (λ serial attempt is. cut_tally old.program serial attempt old.rig (rs rig) is))
      ends
