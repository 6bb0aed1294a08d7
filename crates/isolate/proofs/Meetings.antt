-- The pieces of an honest rig's unit, and what a diagnosis has gone through.
use Rattle.std.proofs.Common.{◌≡◌, ◌+◌, ◌-◌, ◌≤◌, ℕ, List, length, Option, Some, None, Result, Ok, Err, sym, ◌∙◌, arith}
use Rattle.std.specs.Prelude.{IfSome, IfOk, IfErr}
use Rattle.partition.specs.Classes.{judged_in}
use Rattle.partition.specs.Heads.{heads}
use Rattle.partition.specs.Partitions.{IsOver, JoinsAllOf}
use Rattle.partition.proofs.classes.HeadLemmas.{heads_of_some}
use Rattle.rig.specs.declared.event.Event.{Event}
use Rattle.rig.specs.declared.event.Event.TheVariants.{Reading}
use Rattle.rig.specs.declared.unit.Row.{Row}
use Rattle.rig.specs.Joins.{truth_of}
use Rattle.rig.specs.RigState.{RigState}
use Rattle.rig.specs.Readings.{Reads}
use Rattle.rig.specs.Seating.{IsSeated, IsSeating}
use Rattle.rig.specs.States.{IsProven}
use Rattle.rig.specs.Trail.{Agrees, ReadsAmong}
use Rattle.rig.proofs.Reading.{Agrees-before, Extends-trans}
use Rattle.rig.proofs.TruthLaw.{truth_agrees}
use Rattle.learn.proofs.Possible.{Extends-weaken}
use Rattle.learn.specs.declared.learned.Learned.{Learned}
use Rattle.learn.specs.declared.learned.LearnStop.{LearnStop}
use Rattle.learn.specs.Learned.{IsLearned}
use Rattle.learn.specs.Stops.{learn_stop_rig, refusal_of, rig_after}
use Rattle.isolate.specs.Counts.{ReadsJudged}
use Rattle.isolate.specs.Merges.{most_merging}
use Rattle.isolate.specs.Pieces.{AreMeetings, ArePieces, IsDiagnosed, IsWithinDiagnosing, IsWithinPlacing, OfTheUnit, most_placing}
use Rattle.isolate.proofs.Checking.{IsOfRig-after}

over-over : {nets one other : List ℕ} → IsOver nets one → IsOver nets other → IsOver one other
over-over first second = record {
  size = second.size ∙ sym first.size;
  judged = λ p. (λ has. (first.judged p).1 ((second.judged p).0 has), λ has. (second.judged p).1 ((first.judged p).0 has));
}

pub over-then : {nets pieces classes : List ℕ} → IsOver nets pieces → IsOver pieces classes → IsOver nets classes
over-then first second = record {
  size = second.size ∙ first.size;
  judged = λ p. (λ has. (first.judged p).0 ((second.judged p).0 has), λ has. (second.judged p).1 ((first.judged p).1 has));
}

-- the pieces are the meetings of the nets and the classes of each partition that agrees with the readings
meetings : {state : RigState} {nets pieces own : List ℕ} → ArePieces state nets pieces → Agrees state own → IsOver nets own → AreMeetings nets own pieces
meetings parts agrees over =
    let of_pieces = over-over parts.over over in
    record {
      over = parts.over;
      met = λ a b has_a has_b. (
        λ same. (parts.of_nets a b has_a has_b same, parts.joined _ of_pieces agrees a b has_a has_b same),
        λ both. parts.apart _ of_pieces agrees a b has_a has_b both.0 both.1,
      );
    }

pub pieces-own : (state : RigState) (nets pieces : List ℕ) → IsSeated state → ArePieces state nets pieces
    → OfTheUnit state nets (λ own. AreMeetings nets own pieces)
pieces-own state nets pieces seated parts honest trail among = go state.truth (truth_agrees state nets seated parts.nets_of_rig honest trail among)
  where
    go : (truth : Option (List Row)) → IfSome truth (λ rows. Agrees state (truth_of rows (judged_in nets) state.points) × IsOver nets
        (truth_of rows (judged_in nets) state.points))
        → IfSome truth (λ rows. AreMeetings nets (truth_of rows (judged_in nets) state.points) pieces)
    go None told = tt
    go (Some rows) (agrees, over) = meetings parts agrees over

-- ---- a diagnosis

diagnosed : {start middle now : RigState} {nets pieces classes : List ℕ} (n : ℕ) → ArePieces middle nets pieces → Reads middle now None → IsSeated now
    → IsProven now classes → IsOver pieces classes → JoinsAllOf classes pieces
    → length (heads nets) ≤ length (heads pieces) → length (heads pieces) ≤ n
    → middle.spent ≤ start.spent + most_placing n (length (heads nets)) (length (heads pieces))
    → now.spent ≤ middle.spent + most_merging (length (heads pieces)) (length (heads pieces) - length (heads classes)) → IsDiagnosed start now nets n classes
diagnosed {start} {middle} {now} {nets} {pieces} {classes} n parts reads seated proven over joins some few placed merged = record {
  pieces = pieces;
  over = parts.over;
  of_nets = parts.of_nets;
  of_classes = joins;
  some = some;
  few = few;
  at_most = omega (arith, placed, merged);
  own = λ honest trail among. go now.truth (truth_agrees now nets seated (IsOfRig-after reads parts.nets_of_rig) honest trail among);
}
  where
    go : (truth : Option (List Row)) → IfSome truth (λ rows. Agrees now (truth_of rows (judged_in nets) now.points) × IsOver nets
        (truth_of rows (judged_in nets) now.points))
        → IfSome truth (λ rows. (classes ≡ truth_of rows (judged_in nets) now.points) × AreMeetings nets (truth_of rows (judged_in nets) now.points) pieces)
    go None told = tt
    go (Some rows) (agrees, own_over) = (
      sym (proven.determines _ (over-over (over-then parts.over over) own_over) agrees),
      meetings parts
          (Agrees-before _ reads agrees) own_over,
    )

among-over : {nets pieces : List ℕ} → IsOver nets pieces → (e : Event) → ReadsAmong pieces e → ReadsAmong nets e
among-over over (Reading a b met) (in_a, in_b) = (λ k d lt. (over.judged _).0 (in_a k d lt), λ k d lt. (over.judged _).0 (in_b k d lt))
among-over over _ is = tt

-- points that count in the pieces count in the nets
pub judged-over : {nets pieces : List ℕ} (old middle new : RigState) → IsOver nets pieces → ReadsJudged nets old middle → ReadsJudged pieces middle new
    → ReadsJudged nets old new
judged-over {nets} {pieces} old middle new over first second =
    Extends-trans (ReadsAmong nets) old.trail middle.trail new.trail first
    (Extends-weaken (ReadsAmong pieces) (ReadsAmong nets) (among-over over) middle.trail new.trail second)

pub IfOk-map : {T E : Type 0} {P Q : T → Type 0} (result : Result T E) → ((x : T) → P x → Q x) → IfOk result P → IfOk result Q
IfOk-map (Ok x) f h = f x h
IfOk-map (Err e) f h = tt

-- what the answer of the location of the pieces says of the diagnosis
module _ {R : Type 0} (state : R → RigState) (start : RigState) {middle : RigState} {nets pieces : List ℕ} (n : ℕ) (parts : ArePieces middle nets pieces)
    (some : length (heads nets) ≤ length (heads pieces)) (few : length (heads pieces) ≤ n)
    (placed : middle.spent ≤ start.spent + most_placing n (length (heads nets)) (length (heads pieces))) where
  pub diagnosed-answer : (result : Result (Learned R) (LearnStop R)) → Reads middle (state (rig_after result)) (refusal_of result)
      → IfOk result (λ unit. IsSeating (state unit.seat)) → IfOk result (λ unit. IsLearned (state unit.seat) unit.partition)
      → IfOk result (λ unit. IsOver pieces unit.partition) → IfOk result (λ unit. JoinsAllOf unit.partition pieces)
      → IfOk result (λ unit. (state unit.seat).spent ≤ middle.spent + most_merging (length (heads pieces))
      (length (heads pieces) - length (heads unit.partition)))
      → IfOk result (λ unit. IsDiagnosed start (state unit.seat) nets n unit.partition)
  diagnosed-answer (Ok unit) reads seating learned over joins merged = diagnosed n parts reads seating.unit learned.proven over joins some few placed merged
  diagnosed-answer (Err stop) reads seating learned over joins merged = tt

  -- a refusal is within the bound
  pub refused-answer : (result : Result (Learned R) (LearnStop R)) → IfErr result
      (λ stop. (state (learn_stop_rig stop)).spent ≤ middle.spent + most_merging (length (heads pieces)) (length (heads pieces) - 1))
      → IfErr result (λ stop. IsWithinDiagnosing start (state (learn_stop_rig stop)) n (length (heads nets)))
  refused-answer (Ok unit) merged = tt
  refused-answer (Err stop) merged = record {
    pieces = length (heads pieces);
    classes = 1;
    some = some;
    few = few;
    fewer = let one = heads_of_some pieces parts.of_rig.partition parts.of_rig.some.0 parts.of_rig.some.1 in omega arith;
    at_most = omega (arith, placed, merged);
  }

-- a diagnosis that was refused while the nets were parted
pub refused-parting : {old new : RigState} {n k : ℕ} → IsWithinPlacing old new n k → IsWithinDiagnosing old new n k
refused-parting within = record {
  pieces = within.pieces;
  classes = within.pieces;
  some = within.some;
  few = within.few;
  fewer = omega arith;
  at_most = let most = within.at_most in omega (arith, most);
}
