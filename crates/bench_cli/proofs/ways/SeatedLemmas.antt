-- What the work on a unit has read and written, where the rig was a new simulator.
use Rattle.std.proofs.Common.{◌≡◌, ◌<◌, ◌≤◌, ◌++◌, [], ℕ, true, List, Option, None, Some, Ok, Err, map, length, refl, sym, ◌∙◌, ap, subst, arith, zero-add}
use Rattle.std.specs.Prelude.{◌+◌, All, IfSome, IsSome, option_map, flat_map}
use Rattle.partition.specs.Classes.{JoinsBelow}
use Rattle.partition.specs.Heads.{heads}
use Rattle.rig.specs.declared.event.Event.{Event}
use Rattle.rig.specs.declared.unit.Row.{Row}
use Rattle.rig.specs.declared.rig.RigStop.TheVariants.{Failed}
use Rattle.rig.specs.declared.rig.SeatAnswer.TheVariants.{Present, Absent}
use Rattle.rig.specs.RigState.{RigState}
use Rattle.rig.specs.Joins.{IsRowBelow, joins_of, joined_classes, unit_rows}
use Rattle.rig.specs.Happened.{IsBelowLast, IsTold}
use Rattle.rig.proofs.RowsBelow.{joins_below}
use Rattle.rig.specs.Seating.{Seats}
use Rattle.rig.specs.Readings.{Reads}
use Rattle.rig.specs.Trail.{Determines, Extends, IsReading}
use Rattle.harness.specs.declared.row.HarnessRow.{HarnessRow}
use Rattle.harness.specs.Places.{points_in}
use Rattle.harness.specs.Units.{units_of}
use Rattle.rig_sim.specs.SimRig.{SimState, IsNew}
use Rattle.continuity_check.specs.Compared.{Compared, Trial, trial_of, reading_of, checked_text, lines_of, open_count, result_line}
use Rattle.continuity_check.specs.Trials.{IsBelow, IsRight}
use Rattle.continuity_check.proofs.RightTrials.{right_trials}
use Rattle.learn.specs.Learned.{most_readings}
use Rattle.learned_program.specs.LearnedProgram.{learned_text}
use Rattle.bench_cli.specs.Findings.{ComparesAll, LearnsAll}

-- a fact of the value that is there
pub if_some : {X : Type 0} {o : Option X} {x : X} (P : X → Type 0) → o ≡ Some x → IfSome o P → P x
if_some P is h = subst (λ v. IfSome v P) is h

-- the unit as it was seated
pub record IsSeated (rows : List HarnessRow) (middle : RigState) (serial : List ℕ) (attempt : ℕ) : Type 0 where
  pub elements : List Row
  pub unit : unit_rows (units_of rows) serial attempt ≡ Some elements
  pub truth : middle.truth ≡ Some elements
  pub below : JoinsBelow (joins_of elements) (points_in rows)
  pub points : middle.points ≡ points_in rows
  pub honest : middle.honest ≡ true
  pub spent : middle.spent ≡ 0
  pub trail : middle.trail ≡ Some []

-- what a check shows of the unit
pub record Shows (rows : List HarnessRow) (final : RigState) (serial : List ℕ) (attempt : ℕ) (compared : List Compared) (text : List ℕ) : Type 0 where
  pub elements : List Row
  pub trials : List Trial
  pub unit : unit_rows (units_of rows) serial attempt ≡ Some elements
  pub answers : trials ≡ map (trial_of (joined_classes elements (points_in rows))) compared
  pub trail : final.trail ≡ Some (map reading_of trials)
  pub text_is : text ≡ checked_text trials

-- what learning shows of it
pub record Teaches (rows : List HarnessRow) (final : RigState) (serial : List ℕ) (attempt : ℕ) (text : List ℕ) : Type 0 where
  pub elements : List Row
  pub classes : List ℕ
  pub unit : unit_rows (units_of rows) serial attempt ≡ Some elements
  pub truth : classes ≡ joined_classes elements (points_in rows)
  pub trail : Extends IsReading (Some []) final.trail
  pub determined : Determines final classes
  pub at_least : length classes ≤ final.spent + length (heads classes)
  pub at_most : final.spent ≤ most_readings (length classes) (length (heads classes))
  pub text_is : text ≡ learned_text classes

told : (trail : Option (List Event)) → Extends IsReading (Some []) trail → IsSome trail
told trail (more, all, is) = subst IsSome (sym is) (let some : IsSome (Some ([] ++ more)) = refl in some)

module _ (rows : List HarnessRow) (sim : SimState) (new : IsNew rows sim) where
  units_are : sim.state.units ≡ Some (units_of rows)
  units_are = ap (λ (s : RigState). s.units) new.state

  pub points_are : sim.state.points ≡ points_in rows
  points_are = ap (λ (s : RigState). s.points) new.state

  module _ (middle : RigState) (serial : List ℕ) (attempt : ℕ) (seats : Seats sim.state middle serial attempt (Ok Present)) where
    pub is_seated : IsSeated rows middle serial attempt
    is_seated =
        let frame = seats.present refl in
        let found = if_some (λ units. (elements : List Row) × (unit_rows units serial attempt ≡ Some elements) × (middle.truth ≡ Some elements)) units_are (seats.unit refl) in
        record {
          elements = found.0;
          unit = found.1;
          truth = found.2;
          below = subst (λ (n : ℕ). JoinsBelow (joins_of found.0) n) points_are (joins_below sim.state.points found.0 (if_some (λ (r : List Row). All (IsRowBelow sim.state.points) r) found.2 (seats.in_range refl)));
          points = ap (λ (s : RigState). s.points) frame ∙ points_are;
          honest = ap (λ (s : RigState). s.honest) frame ∙ ap (λ (s : RigState). s.honest) new.state;
          spent = ap (λ (s : RigState). s.spent) frame ∙ ap (λ (s : RigState). s.spent) new.state;
          trail = ap (λ (s : RigState). s.trail) frame ∙ ap (λ (s : RigState). option_map (λ _. []) s.trail) new.state;
        }

    pub shows : (final : RigState) (compared : List Compared) (text : List ℕ) → ComparesAll compared middle final text → Shows rows final serial attempt compared text
    shows final compared text all =
        let unit = is_seated in
        let right = if_some (λ r. All (IsRight r) all.compares.trials) unit.truth (all.compares.right unit.honest) in
        let inside = subst (λ (n : ℕ). All (IsBelow n) all.compares.trials) unit.points all.compares.below in
        record {
          elements = unit.elements;
          trials = all.compares.trials;
          unit = unit.unit;
          answers = right_trials unit.elements (points_in rows) unit.below all.compares.trials inside right ∙ ap (map (trial_of (joined_classes unit.elements (points_in rows)))) all.compares.of_these;
          trail = all.compares.trail ∙ ap (option_map (λ (events : List Event). events ++ map reading_of all.compares.trials)) unit.trail;
          text_is =
              all.text_is
              ∙ ap (λ (l : List ℕ). l ++ result_line all.sheet.opens) all.compares.lines
              ∙ ap (λ (n : ℕ). flat_map lines_of all.compares.trials ++ result_line n) (all.compares.opens ∙ zero-add (open_count all.compares.trials));
        }

    pub teaches : (final : RigState) (text : List ℕ) → LearnsAll middle final text → Teaches rows final serial attempt text
    teaches final text all =
        let unit = is_seated in
        let frame = all.reads.frame in
        let honest : final.honest ≡ true = ap (λ (s : RigState). s.honest) frame ∙ unit.honest in
        let truth : final.truth ≡ Some unit.elements = ap (λ (s : RigState). s.truth) frame ∙ unit.truth in
        let points : final.points ≡ points_in rows = ap (λ (s : RigState). s.points) frame ∙ unit.points in
        let trail = subst (λ (t : Option (List Event)). Extends IsReading t final.trail) unit.trail all.reads.trail in
        let none = unit.spent in
        let least = all.at_least in
        let most = all.at_most in
        record {
          elements = unit.elements;
          classes = all.classes;
          unit = unit.unit;
          truth = if_some (λ (r : List Row). all.classes ≡ joined_classes r final.points) truth (all.of_all.truth_of_all honest (told final.trail trail)) ∙ ap (joined_classes unit.elements) points;
          trail = trail;
          determined = all.learned.proven.determines;
          at_least = omega arith;
          at_most = omega arith;
          text_is = all.text_is;
        }

  -- a rig with no fault to come does not fail while its counts can rise
  no_faults : (final : RigState) → sim.calls.listed ≡ [] → final.most_faults ≡ sim.state.most_faults → IsTold final → IsBelowLast final.spent → IsBelowLast final.seats → final.faults ≤ 0
  no_faults final none same told spent seats =
      let most : final.most_faults ≡ Some 0 = same ∙ ap (λ (s : RigState). s.most_faults) new.state ∙ ap (λ (k : List ℕ). Some (length k)) none in
      if_some (λ most. IsBelowLast final.spent → IsBelowLast final.seats → final.faults ≤ most) most told.faults spent seats

  -- neither a seat nor a reading of it fails
  pub seat_holds : (final : RigState) (serial : List ℕ) (attempt : ℕ) → sim.calls.listed ≡ [] → Seats sim.state final serial attempt (Err Failed) → IsBelowLast final.spent → IsBelowLast final.seats → ⊥
  seat_holds final serial attempt none seats spent seated =
      let zero = no_faults final none (ap (λ (s : RigState). s.most_faults) seats.err) seats.called.told spent seated in
      let rose = seats.called.cause.rose refl in
      absurd (omega arith)

  pub readings_hold : (middle final : RigState) (serial : List ℕ) (attempt : ℕ) → sim.calls.listed ≡ [] → Seats sim.state middle serial attempt (Ok Present) → Reads middle final (Some Failed) → IsBelowLast final.spent → IsBelowLast final.seats → ⊥
  readings_hold middle final serial attempt none seats reads spent seated =
      let zero = no_faults final none (ap (λ (s : RigState). s.most_faults) reads.frame ∙ ap (λ (s : RigState). s.most_faults) (seats.present refl)) (reads.told seats.called.told) spent seated in
      let rose = reads.cause.rose refl in
      absurd (omega arith)

  -- where one failed, a fault was counted
  pub seat_counts : (final : RigState) (serial : List ℕ) (attempt : ℕ) → Seats sim.state final serial attempt (Err Failed) → 0 < final.faults
  seat_counts final serial attempt seats = let rose = seats.called.cause.rose refl in omega arith

  pub readings_count : (middle final : RigState) → Reads middle final (Some Failed) → 0 < final.faults
  readings_count middle final reads = let rose = reads.cause.rose refl in omega arith

  -- no reading was made
  pub unseated_trail : (final : RigState) (serial : List ℕ) (attempt : ℕ) → Seats sim.state final serial attempt (Err Failed) → final.trail ≡ Some []
  unseated_trail final serial attempt seats = ap (λ (s : RigState). s.trail) seats.err ∙ ap (λ (s : RigState). s.trail) new.state

  -- no unit was found because there is none
  pub none_there : (final : RigState) (serial : List ℕ) (attempt : ℕ) → Seats sim.state final serial attempt (Ok Absent) → unit_rows (units_of rows) serial attempt ≡ None
  none_there final serial attempt seats = if_some (λ units. unit_rows units serial attempt ≡ None) units_are (seats.no_unit refl)
