-- One application after the other, up to a breakdown.
use Rattle.std.proofs.Common.{◌≡◌, ℕ, zero, suc, ◌+◌, ◌*◌, ◌/◌, ◌<◌, ◌≤◌, List, [], ◌∷◌, ◌++◌, length, take, get_or, Option, Some, None, IsTrue, refl, sym, ◌∙◌, ap, subst, arith, append_assoc, length-append}
use Rattle.std.specs.Prelude.{All, IfSome}
use Rattle.std.proofs.lemmas.List.{take_more, take_all}
use Rattle.std.proofs.lemmas.List.Elements.{All-append, All-cons, All-nil}
use Rattle.rig.specs.declared.event.Event.{Event}
use Rattle.rig.specs.declared.event.Event.TheVariants.{Leak, Route}
use Rattle.rig.specs.declared.event.Leak.{Leak as LeakReading}
use Rattle.rig.specs.declared.rig.RigStop.{RigStop}
use Rattle.rig.specs.declared.unit.Row.{Row}
use Rattle.rig.specs.RigState.{RigState}
use Rattle.rig.specs.Happened.{Happens}
use Rattle.rig.specs.Values.{leak_of}
use Rattle.rig.proofs.Happening.{Happens-honest, Happens-points, Happens-truth}
use Rattle.applications.specs.declared.endurance.Breakdown.{Breakdown}
use Rattle.applications.specs.declared.sides.Sides.{Sides}
use Rattle.applications.specs.declared.endurance.Endurance.{Endurance}
use Rattle.applications.specs.declared.standing_each.PairBreakdown.{PairBreakdown}
use Rattle.applications.specs.Counting.{Gains}
use Rattle.applications.specs.Enduring.{HoldsBelow}
use Rattle.applications.specs.Measuring.{StopsAtRest}
use Rattle.applications.specs.Each.{AllHold, AreSides, FailedAt, HasStoodTallies, StandsAll, StandsEach, StoodAll}
use Rattle.applications.specs.Standing.{BreaksOnce, EndsBroken, IsStanding, StandsOnce, TellsBetween}
use Rattle.applications.proofs.Counted.{gains-append, gains-less, gains-none, tallies-more}
use Rattle.applications.proofs.one_by_one.Lasting.{lasting-before}
use Rattle.applications.proofs.one_by_one.Runs.{Runs-none, Runs-then}

-- ---- applications, one after the other

stands-push : (v t nanoamps : ℕ) (pairs : List Sides) (pair : Sides) (es run rest : List Event)
    → StandsAll v t nanoamps pairs es → IsStanding pair.left pair.right v t nanoamps run → StandsAll v t nanoamps (pairs ++ pair ∷ []) (es ++ (run ++ rest))
stands-push v t nanoamps [] pair es run rest h standing = (es, run, rest, sym (append_assoc es run rest), standing, tt)
stands-push v t nanoamps (x ∷ xs) pair es run rest h standing = (
  h.0,
  h.1,
  h.2 ++ (run ++ rest),
  ap (λ (ys : List Event). ys ++ (run ++ rest)) h.3 ∙ append_assoc (h.0 ++ h.1) h.2 (run ++ rest),
  h.4,
  stands-push v t nanoamps xs pair h.2 run rest h.5 standing,
)

-- events before or after them do no harm
pub stands-before : (v t nanoamps : ℕ) (pairs : List Sides) (more es : List Event) → StandsAll v t nanoamps pairs es → StandsAll v t nanoamps pairs (more ++ es)
stands-before v t nanoamps [] more es h = tt
stands-before v t nanoamps (x ∷ xs) more es h = (
  more ++ h.0,
  h.1,
  h.2,
  ap (λ (ys : List Event). more ++ ys) h.3 ∙ sym (append_assoc more (h.0 ++ h.1) h.2) ∙ ap (λ (ys : List Event). ys ++ h.2) (sym (append_assoc more h.0 h.1)),
  h.4,
  h.5,
)

pub broken-before : (a b : List ℕ) (v : ℕ) (leak : LeakReading) (more es : List Event) → EndsBroken a b v leak es → EndsBroken a b v leak (more ++ es)
broken-before a b v leak more es last =
    let run : List Event = Route a b ∷ last.climb in
    let end : List Event = Leak leak ∷ last.after in
    record {
      before = more ++ last.before;
      climb = last.climb;
      after = last.after;
      events_are = ap (λ (ys : List Event). more ++ ys) last.events_are ∙ sym (append_assoc more (last.before ++ run) end) ∙ ap (λ (ys : List Event). ys ++ end) (sym (append_assoc more last.before run));
      no_route = last.no_route;
      volts = last.volts;
      no_leak = last.no_leak;
    }

stands-after : (v t nanoamps : ℕ) (pairs : List Sides) (es more : List Event) → StandsAll v t nanoamps pairs es → StandsAll v t nanoamps pairs (es ++ more)
stands-after v t nanoamps [] es more h = tt
stands-after v t nanoamps (x ∷ xs) es more h = (
  h.0,
  h.1,
  h.2 ++ more,
  ap (λ (ys : List Event). ys ++ more) h.3 ∙ append_assoc (h.0 ++ h.1) h.2 more,
  h.4,
  stands-after v t nanoamps xs h.2 more h.5,
)

-- ---- what an honest rig tells

between-before : {s t : RigState} {es : List Event} {stop : Option RigStop} (a b : List ℕ) (P : (ℕ → LeakReading) → Type 0) → Happens s t es stop → TellsBetween t a b P → TellsBetween s a b P
between-before {s} {t} a b P h tells = λ honest.
    let Q : Option (List Row) → ℕ → Type 0 = λ o n. IfSome o (λ rows. P (leak_of rows n a b)) in
    subst (λ o. Q o s.points) (Happens-truth h)
    (subst (λ n. Q t.truth n) (Happens-points h)
    (tells (subst IsTrue (sym (Happens-honest h)) honest)))

hold_more : (truth : Option (List Row)) (n : ℕ) (test : Endurance) (pairs : List Sides) (pair : Sides) → IfSome truth (λ rows. AllHold rows n test pairs)
    → IfSome truth (λ rows. HoldsBelow (leak_of rows n pair.left pair.right) test.nanoamps (test.volts + 50)) → IfSome truth (λ rows. AllHold rows n test (pairs ++ pair ∷ []))
hold_more None n test pairs pair before here = tt
hold_more (Some rows) n test pairs pair before here =
    let P : Sides → Type 0 = λ x. HoldsBelow (leak_of rows n x.left x.right) test.nanoamps (test.volts + 50) in
    All-append P pairs (pair ∷ []) before (All-cons P pair [] here (All-nil P))

hold_none : (truth : Option (List Row)) (n : ℕ) (test : Endurance) → IfSome truth (λ rows. AllHold rows n test [])
hold_none None n test = tt
hold_none (Some rows) n test = All-nil (λ (x : Sides). HoldsBelow (leak_of rows n x.left x.right) test.nanoamps (test.volts + 50))

-- ---- the loop

pub StoodAll-none : (bonds : List ℕ) (s : RigState) (test : Endurance) → StoodAll bonds s s [] test
StoodAll-none bonds s test = record {
  events = [];
  runs = Runs-none bonds s;
  standing = tt;
  counts = gains-less (omega arith) (omega arith) (omega arith) (omega arith) (gains-none 0);
  truth = λ honest. hold_none s.truth s.points test;
  discharged = λ some. absurd (omega arith);
}

pub StoodAll-all : {bonds : List ℕ} {s t : RigState} {pairs : List Sides} {test : Endurance} (i : ℕ) → StoodAll bonds s t (take i pairs) test → length pairs ≤ i → StoodAll bonds s t pairs test
StoodAll-all {bonds} {s} {t} {pairs} {test} i before all = subst (λ (xs : List Sides). StoodAll bonds s t xs test) (take_all i pairs all) before

-- the groups of the next pair
pub pair_next : {bonds : List ℕ} {s t : RigState} (pairs : List Sides) {test : Endurance} (i : ℕ) {pair : Sides} → StoodAll bonds s t (take i pairs) test → All (AreSides s.points bonds) pairs → i < length pairs → pair ≡ get_or pairs i pair → AreSides t.points bonds pair
pair_next {bonds} {s} {t} pairs {test} i {pair} before all less here =
    subst (λ (n : ℕ). AreSides n bonds pair) (sym (Happens-points before.runs.happens)) (subst (AreSides s.points bonds) (sym here) (all i pair less))

module _ {bonds : List ℕ} {s t : RigState} {test : Endurance} {done : List Sides} (made : StoodAll bonds s t done test) (pair : Sides) where
  stood_push : {u : RigState} → StandsOnce bonds t u pair.left pair.right test → StoodAll bonds s u (done ++ pair ∷ []) test
  stood_push {u} once = record {
    events = made.events ++ (once.run ++ once.rest);
    runs = Runs-then made.runs once.runs;
    standing = stands-push test.volts test.ticks test.nanoamps done pair made.events once.run once.rest made.standing once.standing;
    counts =
        let sum = length-append done (pair ∷ []) in
        let n : ℕ = length done in
        let steps : ℕ = test.volts / 50 in
        let grown : length (done ++ pair ∷ []) ≡ n + 1 = omega (arith, sum) in
        let P : ℕ → Type 0 = λ m. Gains 0 0 m (m * steps) (m * test.ticks) (m * test.ticks) (made.events ++ (once.run ++ once.rest)) in
        subst P (sym grown) (gains-less (omega arith) (omega arith) (omega arith) (omega arith) (gains-append made.counts once.counts));
    truth = λ honest.
        hold_more s.truth s.points test done pair (made.truth honest)
        (between-before pair.left pair.right (λ f. HoldsBelow f test.nanoamps (test.volts + 50)) made.runs.happens once.truth honest);
    discharged = λ some. lasting-before None made.runs.happens once.discharged;
  }

pub StoodAll-more : {bonds : List ℕ} {s t u : RigState} (pairs : List Sides) {test : Endurance} (i : ℕ) (pair : Sides)
    → StoodAll bonds s t (take i pairs) test → i < length pairs → pair ≡ get_or pairs i pair → StandsOnce bonds t u pair.left pair.right test → StoodAll bonds s u (take (i + 1) pairs) test
StoodAll-more {bonds} {s} {t} {u} pairs {test} i pair made less here once =
    let next : take i pairs ++ pair ∷ [] ≡ take (i + 1) pairs = ap (λ (x : Sides). take i pairs ++ x ∷ []) here ∙ sym (take_more pairs i pair less) in
    subst (λ (xs : List Sides). StoodAll bonds s u xs test) next (stood_push made pair once)

length_take : (i : ℕ) (pairs : List Sides) → i ≤ length pairs → length (take i pairs) ≡ i
length_take zero pairs le = refl
length_take (suc i) [] le = absurd (omega arith)
length_take (suc i) (x ∷ xs) le = ap suc (length_take i xs (omega arith))

pub failed-at : {bonds : List ℕ} {s t u : RigState} {pairs : List Sides} {test : Endurance} {broken : Breakdown} (i : ℕ) (pair : Sides)
    → StoodAll bonds s t (take i pairs) test → i < length pairs → pair ≡ get_or pairs i pair → BreaksOnce bonds t u pair.left pair.right test broken
    → FailedAt bonds s u pairs test (record { pair = i; broken = broken })
failed-at {bonds} {s} {t} {u} {pairs} {test} {broken} i pair made less here once = record {
  pair = pair;
  here = less;
  which = here;
  events = made.events ++ once.events;
  runs = Runs-then made.runs once.runs;
  standing = stands-after test.volts test.ticks test.nanoamps (take i pairs) made.events once.events made.standing;
  last = broken-before pair.left pair.right broken.volts broken.leak made.events once.events once.last;
  is = once.is;
  counts =
      let steps : ℕ = test.volts / 50 in
      let P : ℕ → Type 0 = λ n. Gains 0 0 (n + 1) (n * steps + broken.volts / 50) (n * test.ticks) (n * test.ticks + 1) (made.events ++ once.events) in
      subst P (length_take i pairs (omega arith)) (gains-less (omega arith) (omega arith) (omega arith) (omega arith) (gains-append made.counts once.counts));
  truth = made.truth;
  broke = between-before pair.left pair.right (λ f. HoldsBelow f test.nanoamps broken.volts × (broken.leak ≡ f broken.volts)) made.runs.happens once.truth;
  discharged = lasting-before None made.runs.happens once.discharged;
}

-- the slices as the groups of a pair

pub once-of : {bonds : List ℕ} {s t : RigState} {a b left right : List ℕ} {test : Endurance} → a ≡ left → b ≡ right → StandsOnce bonds s t a b test → StandsOnce bonds s t left right test
once-of {bonds} {s} {t} {a} {b} {left} {right} {test} l r h =
    subst (λ (x : List ℕ). StandsOnce bonds s t left x test) r (subst (λ (x : List ℕ). StandsOnce bonds s t x b test) l h)

pub broke-of : {bonds : List ℕ} {s t : RigState} {a b left right : List ℕ} {test : Endurance} {broken : Breakdown} → a ≡ left → b ≡ right → BreaksOnce bonds s t a b test broken → BreaksOnce bonds s t left right test broken
broke-of {bonds} {s} {t} {a} {b} {left} {right} {test} {broken} l r h =
    subst (λ (x : List ℕ). BreaksOnce bonds s t left x test broken) r (subst (λ (x : List ℕ). BreaksOnce bonds s t x b test broken) l h)

-- ---- of the whole test

pub withstood-rests : {bonds : List ℕ} {s t : RigState} (pairs : List Sides) (test : Endurance) (failed : Option PairBreakdown) → StandsEach bonds s t pairs test failed → StopsAtRest bonds s t None
withstood-rests pairs test None stood = record { events = _; runs = stood.runs }
withstood-rests pairs test (Some failed) broke = record { events = _; runs = broke.runs }

pub withstood-tallies : (bonds : List ℕ) (s t : RigState) (pairs : List Sides) (test : Endurance) (failed : Option PairBreakdown) → s.volts ≡ 0 → StandsEach bonds s t pairs test failed → HasStoodTallies s t (length pairs) test failed
withstood-tallies bonds s t pairs test None zeroed stood = tallies-more zeroed stood.runs.happens stood.counts
withstood-tallies bonds s t pairs test (Some failed) zeroed broke = tallies-more zeroed broke.runs.happens broke.counts
