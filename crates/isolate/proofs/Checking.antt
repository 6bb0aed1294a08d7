-- The reading of each point against its head.
use Rattle.std.proofs.Common.{◌≡◌, ◌≢◌, true, false, eqb, ◌<◌, ◌≤◌, ◌+◌, ◌-◌, ℕ, List, [], ◌∷◌, length, Bool, Option, None, Some, Err, refl, subst, sym, ◌∙◌, ap, arith, below_more}
use Rattle.std.proofs.lemmas.Bool.{eq-eqb, eqb-true}
use Rattle.std.proofs.lemmas.List.{length_push}
use Rattle.std.proofs.lemmas.List.Elements.{All-cons, All-nil}
use Rattle.partition.specs.Classes.{class_at, Same}
use Rattle.partition.specs.Heads.{heads_below, heads, heads_to}
use Rattle.partition.specs.Partitions.{HasClass, IsClassing}
use Rattle.partition.proofs.classes.JudgedPartition.{class-has_class, class-inside}
use Rattle.rig.specs.declared.event.Event.TheVariants.{Reading}
use Rattle.isolate.specs.Counts.{judged_to, ReadsJudged}
use Rattle.isolate.proofs.JudgedCounts.{heads_grow}
use Rattle.partition.proofs.classes.HeadLemmas.{heads_below-head, heads_below-other}
use Rattle.rig.specs.declared.rig.RigStop.TheVariants.{Memory}
use Rattle.rig.specs.RigState.{RigState}
use Rattle.rig.specs.Calls.{AreGroups}
use Rattle.rig.specs.Trail.{Forces, ReadsAmong}
use Rattle.rig.specs.Readings.{Reads}
use Rattle.rig.specs.Seating.{IsSeating}
use Rattle.rig.specs.States.{IsOfRig, IsProven}
use Rattle.rig.proofs.TruthLaw.{truth_law}
use Rattle.learn.specs.Learned.{IsLearned}
use Rattle.rig.proofs.Reading.{Reads-none, Reads-then, Reads-no_memory, Extends-refl, Extends-trans}
use Rattle.rig.proofs.Groups.{IsGroup-one, Contains-one}
use Rattle.learn.specs.Groups.{IsPossible}
use Rattle.learn.proofs.Determined.{forced}
use Rattle.learn.proofs.Possible.{IsPossible-before, IsPossible-over}

pub IsOfRig-after : {old new : RigState} {stop : Option _} {classes : List ℕ} → Reads old new stop → IsOfRig old classes → IsOfRig new classes
IsOfRig-after reads of_rig = record {
  partition = of_rig.partition;
  some = of_rig.some;
  few = of_rig.few;
  points = of_rig.points
      ∙ sym (ap (λ (s : RigState). s.points) reads.frame);
}

-- memory was refused before the first reading
pub no_reading : (s : RigState) → Reads s s (Some Memory)
no_reading s = Reads-no_memory {T = ℕ} (Reads-none s) (Err Memory) refl

-- a point and its head are groups
pub head_groups : (state : RigState) (classes : List ℕ) (p head : ℕ) → IsOfRig state classes → HasClass classes p → head ≡ class_at classes p → head ≢ p
    → AreGroups state.points (head ∷ []) (p ∷ [])
head_groups state classes p head of_rig has is other =
    let low = of_rig.partition.least p has in
    let inside = class-inside classes p has in
    record {
      left = IsGroup-one state.points head (omega (arith, low, is, of_rig.points));
      right = IsGroup-one state.points p (omega (arith, of_rig.points));
      apart = λ q here there. other (sym (Contains-one head q here) ∙ Contains-one p q there);
    }

-- and both count
pub head_judged : (classes : List ℕ) (p head : ℕ) → IsClassing classes → HasClass classes p → head ≡ class_at classes p → (met : Bool)
    → ReadsAmong classes (Reading (head ∷ []) (p ∷ []) met)
head_judged classes p head ok has is met =
    let own : HasClass classes head = subst (HasClass classes) (sym is) (class-has_class classes p ok has) in
    (All-cons (HasClass classes) head [] own (All-nil (HasClass classes)), All-cons (HasClass classes) p [] has (All-nil (HasClass classes)))

-- a head is one head more
pub heads_to-head : (classes : List ℕ) (p : ℕ) → class_at classes p ≡ p → heads_to classes (p + 1) ≡ heads_to classes p + 1
heads_to-head classes p is = ap length (heads_below-head classes p is) ∙ length_push (heads_below classes p) p

pub heads_to-other : (classes : List ℕ) (p : ℕ) → class_at classes p ≢ p → heads_to classes (p + 1) ≡ heads_to classes p
heads_to-other classes p other = ap length (heads_below-other classes p other)

-- as it is computed
pub heads_to-skip : (classes : List ℕ) (p head : ℕ) → head ≡ class_at classes p → true ≡ eqb head p → heads_to classes (p + 1) ≡ heads_to classes p + 1
heads_to-skip classes p head is same = heads_to-head classes p (sym is ∙ eqb-true head p (sym same))

pub heads_to-read : (classes : List ℕ) (p head : ℕ) → head ≡ class_at classes p → false ≡ eqb head p → heads_to classes (p + 1) ≡ heads_to classes p
heads_to-read classes p head is two = heads_to-other classes p (λ own. let e : false ≡ true = two ∙ eq-eqb head p (is ∙ own) in cc)

-- what readings determine is learnt of a seated unit
pub learned : (state : RigState) (classes : List ℕ) → IsSeating state → IsProven state classes → IsLearned state classes
learned state classes seating proven = record
    { proven = proven; truth = λ honest trail among. truth_law state classes seating.unit proven.partition proven.determines honest trail among }

-- the points below i are joined with their heads
pub record Checking (start now : RigState) (classes : List ℕ) (i : ℕ) : Type 0 where
  pub partition : IsOfRig now classes
  pub known : (other : List ℕ) → IsPossible now other → (p : ℕ) → p < i → HasClass classes p → Same other (class_at classes p) p
  pub reads : Reads start now None
  pub among : ReadsJudged classes start now
  pub spent : now.spent + heads_to classes i ≡ start.spent + judged_to classes i

pub Checking-start : (s : RigState) (classes : List ℕ) → IsOfRig s classes → Checking s s classes 0
Checking-start s classes of_rig = record {
  partition = of_rig;
  known = λ other possible p less. absurd
      (omega arith);
  reads = Reads-none s;
  among = Extends-refl (ReadsAmong classes) s.trail;
  spent = refl;
}

module _ {start now : RigState} {classes : List ℕ} {i : ℕ} (so_far : Checking start now classes i) where
  -- one point more
  pub Checking-next : {next : RigState} → Reads now next None → ReadsJudged classes now next
      → ((other : List ℕ) → IsPossible next other → HasClass classes i → Same other (class_at classes i) i)
      → next.spent + heads_to classes (i + 1) + judged_to classes i ≡ now.spent + heads_to classes i + judged_to classes (i + 1)
      → Checking start next classes (i + 1)
  Checking-next {next} reads among joined spent = record {
    partition = IsOfRig-after reads so_far.partition;
    known = λ other possible. below_more (λ (p : ℕ). HasClass classes p → Same other (class_at classes p) p) i
        (so_far.known other (IsPossible-before other reads possible)) (joined other possible);
    reads = Reads-then so_far.reads reads;
    among = Extends-trans (ReadsAmong classes) start.trail now.trail next.trail so_far.among among;
    spent = omega (arith, so_far.spent, spent);
  }

  -- all were read
  pub Checking-all : i ≡ length classes → Forces now classes
  Checking-all whole = forced now classes (λ other over agrees p has. so_far.known other (IsPossible-over so_far.partition.points over agrees) p
      (let inside = class-inside classes p has in omega arith) has)

  -- it was the last reading
  pub Checking-bound : (spent : ℕ) → i < length classes → spent + heads_to classes
      (i + 1) + judged_to classes i ≤ now.spent + heads_to classes i + judged_to classes (i + 1)
      → spent + length (heads classes) ≤ start.spent + judged_to classes (length classes)
  Checking-bound spent inside one =
      let at : i + 1 + (length classes - (i + 1)) ≡ length classes = omega arith in
      omega (
        arith,
        so_far.spent,
        one,
        heads_grow classes (i + 1) (length classes - (i + 1)) (let few = so_far.partition.few in omega arith),
        ap
            (λ (n : ℕ). length (heads_below classes n)) at,
        ap (judged_to classes) at,
      )
