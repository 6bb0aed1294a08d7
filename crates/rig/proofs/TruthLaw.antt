-- What the readings of an honest rig determine is the partition of the seated unit.
use Rattle.std.proofs.Common.{◌≡◌, ℕ, ◌<◌, ◌^◌, List, Option, Some, None, refl, sym, ◌∙◌, ap, subst, arith}
use Rattle.std.specs.Prelude.{All, IfSome, IsSome, IsSomeAnd, IsTrue}
use Rattle.std.proofs.lemmas.List.Elements.{All-contains}
use Rattle.partition.specs.Classes.{AllBelow, JoinsBelow, class_at, judged_in, points_below}
use Rattle.partition.specs.Partitions.{HasClass, IsClassing, IsOver, IsPartitionOfAll, Meets}
use Rattle.partition.proofs.classes.JoinedPartition.{joined_by-IsPartition}
use Rattle.partition.proofs.classes.ClassLaws.{classes_by-IsPartition, classes_by-same, same-classes_by, length-classes_by}
use Rattle.partition.proofs.classes.JudgedPartition.{all-class, all-judged_in, class-inside, class-judged, class-js, js-class, judged-class, judged_in-below, judged_in-ascends, partition-classing}
use Rattle.partition.proofs.classes.WalkLaws.{joined_by-walk, walk-joined_by}
use Rattle.rig.specs.declared.event.Event.{Event}
use Rattle.rig.specs.declared.event.Event.TheVariants.{Reading, Ohms, Junction, Door, Route, Raise, Leak, Zero, Residual, Tick}
use Rattle.rig.specs.declared.unit.Row.{Row}
use Rattle.rig.specs.Joins.{IsRowBelow, joins_of, joined_classes, truth_of}
use Rattle.rig.specs.RigState.{RigState}
use Rattle.rig.specs.Calls.{AreJoined}
use Rattle.rig.specs.Seating.{IsSeated, IsTrueOf}
use Rattle.rig.specs.States.{IsOfRig}
use Rattle.rig.specs.Trail.{Agrees, AgreesWith, Determines, ReadsAmong}
use Rattle.rig.specs.Laws.{TruthLaw}
use Rattle.rig.proofs.RowsBelow.{joins_below}

module _ (rows : List Row) (state : RigState) (classes : List ℕ) (below : JoinsBelow (joins_of rows) state.points) (of_rig : IsOfRig state classes) where
  abbrev n : ℕ
  n = state.points

  abbrev js : List ℕ
  js = judged_in classes

  abbrev truth : List ℕ
  truth = truth_of rows js n

  js-below : AllBelow js n
  js-below = λ p k. let i = judged_in-below classes p k in let size = of_rig.points in omega arith

  few : n < 2 ^ 16
  few = let size = of_rig.points in let small = of_rig.few in omega arith

  truth-class : (p : ℕ) → HasClass classes p → HasClass truth p
  truth-class p h = js-class js n truth few js-below (judged_in-ascends classes) (classes_by-IsPartition js n (class_at (joined_classes rows n)) js-below) p (class-judged classes p h)

  class-truth : (p : ℕ) → HasClass truth p → HasClass classes p
  class-truth p h =
      judged-class classes p of_rig.partition (class-js js n truth few js-below (judged_in-ascends classes) (classes_by-IsPartition js n (class_at (joined_classes rows n)) js-below) p h)

  truth-over : IsOver classes truth
  truth-over = record { size = length-classes_by js n (class_at (joined_classes rows n)) ∙ sym of_rig.points; judged = λ p. (class-truth p, truth-class p) }

  truth-classing : IsClassing truth
  truth-classing = partition-classing js n truth few js-below (judged_in-ascends classes) (classes_by-IsPartition js n (class_at (joined_classes rows n)) js-below)

  inside : (p : ℕ) → HasClass classes p → p < n
  inside p h = let i = class-inside classes p h in let size = of_rig.points in omega arith

  -- two groups of points that count are joined exactly where some point of the one is in a class with some point of the other
  joined-meets : (a b : List ℕ) → All (HasClass classes) a → All (HasClass classes) b → AreJoined rows a b → Meets truth a b
  joined-meets a b among_a among_b (p, q, in_a, in_b, walk) =
      let hp = All-contains (HasClass classes) a p among_a in_a in
      let hq = All-contains (HasClass classes) b q among_b in_b in
      record {
        left = p;
        right = q;
        in_left = in_a;
        in_right = in_b;
        judged = truth-class p hp;
        joined = classes_by-same js n (class_at (joined_classes rows n)) p q (inside p hp) (inside q hq) (class-judged classes p hp) (class-judged classes q hq) (walk-joined_by (joins_of rows) n below walk);
      }

  meets-joined : (a b : List ℕ) → All (HasClass classes) a → All (HasClass classes) b → Meets truth a b → AreJoined rows a b
  meets-joined a b among_a among_b meets =
      let hp = All-contains (HasClass classes) a meets.left among_a meets.in_left in
      let hq = All-contains (HasClass classes) b meets.right among_b meets.in_right in (
        meets.left,
        meets.right,
        meets.in_left,
        meets.in_right,
        joined_by-walk (joins_of rows) n below meets.left meets.right (inside meets.left hp) (inside meets.right hq)
            (same-classes_by js n (class_at (joined_classes rows n)) meets.left meets.right (inside meets.left hp) (inside meets.right hq) (class-judged classes meets.left hp) (class-judged classes meets.right hq) meets.joined),
      )

  -- so what is true of the unit agrees with its classes
  true-agrees : (e : Event) → ReadsAmong classes e → IsTrueOf rows n e → AgreesWith truth e
  true-agrees (Reading a b met) (among_a, among_b) (groups, is) = (λ m. joined-meets a b among_a among_b (is.0 m), λ meets. is.1 (meets-joined a b among_a among_b meets))
  true-agrees (Ohms a b r) among is = tt
  true-agrees (Junction a b d) among is = tt
  true-agrees (Door closed) among is = tt
  true-agrees (Route a b) among is = tt
  true-agrees (Raise v done) among is = tt
  true-agrees (Leak g) among is = tt
  true-agrees (Zero done) among is = tt
  true-agrees (Residual v) among is = tt
  true-agrees Tick among is = tt

all-agree : (P Q R : Event → Type 0) (events : List Event) → ((e : Event) → P e → Q e → R e) → All P events → All Q events → All R events
all-agree P Q R events f all also = λ k d lt. f _ (all k d lt) (also k d lt)

told : {X : Type 0} (P Q R : X → Type 0) (o : Option X) → IsSome o → ((x : X) → P x → Q x → R x) → IfSome o P → IfSome o Q → IsSomeAnd o R
told P Q R None some f h k = cc
told P Q R (Some x) some f h k = f x h k

-- the unit's own partition, cut down to the points that count, agrees with the readings
pub truth_agrees : (state : RigState) (classes : List ℕ) → IsSeated state → IsOfRig state classes → IsTrue state.honest → IsSome state.trail → IfSome state.trail (All (ReadsAmong classes))
    → IfSome state.truth (λ rows. Agrees state (truth_of rows (judged_in classes) state.points) × IsOver classes (truth_of rows (judged_in classes) state.points))
truth_agrees state classes seated of_rig honest trail among = at state.truth seated.in_range (seated.faithful honest)
  where
    at : (truth : Option (List Row)) → IfSome truth (All (IsRowBelow state.points)) → IfSome truth (λ rows. IfSome state.trail (All (IsTrueOf rows state.points)))
        → IfSome truth (λ rows. Agrees state (truth_of rows (judged_in classes) state.points) × IsOver classes (truth_of rows (judged_in classes) state.points))
    at None below faithful = tt
    at (Some rows) below faithful = (
      record {
        partition = truth-classing rows state classes (joins_below state.points rows below) of_rig;
        readings = told (All (ReadsAmong classes)) (All (IsTrueOf rows state.points)) (All (AgreesWith (truth_of rows (judged_in classes) state.points))) state.trail trail
            (λ events all also. all-agree _ _ _ events (true-agrees rows state classes (joins_below state.points rows below) of_rig) all also) among faithful;
      },
      truth-over rows state classes (joins_below state.points rows below) of_rig,
    )

pub truth_law : (state : RigState) (classes : List ℕ) → TruthLaw state classes
truth_law state classes seated of_rig determines honest trail among = is state.truth (truth_agrees state classes seated of_rig honest trail among)
  where
    is : (truth : Option (List Row)) → IfSome truth (λ rows. Agrees state (truth_of rows (judged_in classes) state.points) × IsOver classes (truth_of rows (judged_in classes) state.points))
        → IfSome truth (λ rows. classes ≡ truth_of rows (judged_in classes) state.points)
    is None told = tt
    is (Some rows) (agrees, over) = sym (determines (truth_of rows (judged_in classes) state.points) over agrees)

-- ---- where all points count

groups-among : (classes : List ℕ) (n : ℕ) → ((p : ℕ) → p < n → HasClass classes p) → (rows : List Row) (e : Event) → IsTrueOf rows n e → ReadsAmong classes e
groups-among classes n each rows (Reading a b met) (groups, is) = (λ k d lt. each _ (groups.left.in_range k d lt), λ k d lt. each _ (groups.right.in_range k d lt))
groups-among classes n each rows (Ohms a b r) is = tt
groups-among classes n each rows (Junction a b d) is = tt
groups-among classes n each rows (Door closed) is = tt
groups-among classes n each rows (Route a b) is = tt
groups-among classes n each rows (Raise v done) is = tt
groups-among classes n each rows (Leak g) is = tt
groups-among classes n each rows (Zero done) is = tt
groups-among classes n each rows (Residual v) is = tt
groups-among classes n each rows Tick is = tt

all-among : (classes : List ℕ) (n : ℕ) → ((p : ℕ) → p < n → HasClass classes p) → (rows : List Row) (trail : Option (List Event)) → IfSome trail (All (IsTrueOf rows n)) → IfSome trail (All (ReadsAmong classes))
all-among classes n each rows None faithful = tt
all-among classes n each rows (Some t) faithful = λ k d lt. groups-among classes n each rows _ (faithful k d lt)

-- the partition of all points that the readings determine has as classes the joined points of the unit
pub truth_of_all : (state : RigState) (classes : List ℕ) → IsSeated state → IsOfRig state classes → IsPartitionOfAll classes → Determines state classes → IsTrue state.honest → IsSome state.trail
    → IfSome state.truth (λ rows. classes ≡ joined_classes rows state.points)
truth_of_all state classes seated of_rig all determines honest trail = at state.truth refl seated.in_range (seated.faithful honest)
  where
    each : (p : ℕ) → p < state.points → HasClass classes p
    each p lt = all-class classes all of_rig.few p (let size = of_rig.points in omega arith)

    at : (truth : Option (List Row)) → state.truth ≡ truth → IfSome truth (All (IsRowBelow state.points)) → IfSome truth (λ rows. IfSome state.trail (All (IsTrueOf rows state.points)))
        → IfSome truth (λ rows. classes ≡ joined_classes rows state.points)
    at None is below faithful = tt
    at (Some rows) is below faithful =
        let P : Option (List Row) → Type 0 = λ o. IfSome o (λ r. classes ≡ truth_of r (judged_in classes) state.points) in
        let found = subst P is (truth_law state classes seated of_rig determines honest trail (all-among classes state.points each rows state.trail faithful)) in
        let whole : judged_in classes ≡ points_below state.points =
        all-judged_in classes all of_rig.few ∙ ap points_below of_rig.points in
        found ∙ ap (λ (js : List ℕ). truth_of rows js state.points) whole ∙ sym (joined_by-IsPartition (joins_of rows) state.points (joins_below state.points rows below))
