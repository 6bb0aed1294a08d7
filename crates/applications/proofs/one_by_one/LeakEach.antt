-- One application after the other, with one leak each.
use Rattle.std.proofs.Common.{◌≡◌, ℕ, ◌+◌, ◌*◌, ◌/◌, ◌<◌, ◌≤◌, List, [], ◌∷◌, ◌++◌, length, map, take, get_or, Option, Some, None, IsTrue, refl, sym, ◌∙◌, ap, subst, arith, append_assoc, length-append}
use Rattle.std.specs.Prelude.{All, IfSome}
use Rattle.std.proofs.lemmas.List.{take_more, take_all}
use Rattle.rig.specs.declared.event.Event.{Event}
use Rattle.rig.specs.declared.event.Leak.{Leak}
use Rattle.rig.specs.declared.unit.Row.{Row}
use Rattle.rig.specs.RigState.{RigState}
use Rattle.rig.specs.Values.{leak_of}
use Rattle.rig.proofs.Happening.{Happens-honest, Happens-points, Happens-truth}
use Rattle.applications.specs.declared.sides.Sides.{Sides}
use Rattle.applications.specs.Counting.{Gains}
use Rattle.applications.specs.Each.{AreSides, MeasuresAll, MeasuresEach, leak_between}
use Rattle.applications.specs.Measuring.{IsMeasuring, Measures, StopsAtRest}
use Rattle.applications.proofs.Counted.{gains-append, gains-less, gains-none}
use Rattle.applications.proofs.one_by_one.Lasting.{lasting-before}
use Rattle.applications.proofs.one_by_one.Runs.{Runs-none, Runs-then}

-- ---- applications, one after the other

-- events before and after them do no harm
pub measures-before : (v t : ℕ) (pairs : List Sides) (leaks : List Leak) (more es : List Event) → MeasuresAll v t pairs leaks es → MeasuresAll v t pairs leaks (more ++ es)
measures-before v t [] [] more es h = tt
measures-before v t [] (leak ∷ leaks) more es h = h
measures-before v t (pair ∷ pairs) [] more es h = h
measures-before v t (pair ∷ pairs) (leak ∷ leaks) more es h = (
  more ++ h.0,
  h.1,
  h.2,
  ap (λ (xs : List Event). more ++ xs) h.3 ∙ sym (append_assoc more (h.0 ++ h.1) h.2) ∙ ap (λ (xs : List Event). xs ++ h.2) (sym (append_assoc more h.0 h.1)),
  h.4,
  h.5,
)

pub measures-push : (v t : ℕ) (pairs : List Sides) (leaks : List Leak) (pair : Sides) (leak : Leak) (es run rest : List Event)
    → MeasuresAll v t pairs leaks es → IsMeasuring pair.left pair.right v t leak run → MeasuresAll v t (pairs ++ pair ∷ []) (leaks ++ leak ∷ []) (es ++ (run ++ rest))
measures-push v t [] [] pair leak es run rest h measuring = (es, run, rest, sym (append_assoc es run rest), measuring, tt)
measures-push v t [] (g ∷ gs) pair leak es run rest h measuring = absurd h
measures-push v t (x ∷ xs) [] pair leak es run rest h measuring = absurd h
measures-push v t (x ∷ xs) (g ∷ gs) pair leak es run rest h measuring = (
  h.0,
  h.1,
  h.2 ++ (run ++ rest),
  ap (λ (ys : List Event). ys ++ (run ++ rest)) h.3 ∙ append_assoc (h.0 ++ h.1) h.2 (run ++ rest),
  h.4,
  measures-push v t xs gs pair leak h.2 run rest h.5 measuring,
)

map-push : {X Y : Type 0} (f : X → Y) (xs : List X) (x : X) → map f xs ++ f x ∷ [] ≡ map f (xs ++ x ∷ [])
map-push f [] x = refl
map-push f (y ∷ ys) x = ap (λ (zs : List _). f y ∷ zs) (map-push f ys x)

leaks_none : (f : List Row → Sides → Leak) (o : Option (List Row)) → let none : List Leak = [] in IfSome o (λ rows. none ≡ map (f rows) [])
leaks_none f None = tt
leaks_none f (Some rows) = refl

leaks_true : (f : List Row → Sides → Leak) (truth : Option (List Row)) (pairs : List Sides) (pair : Sides) (leaks : List Leak) (leak : Leak)
    → IfSome truth (λ rows. leaks ≡ map (f rows) pairs) → IfSome truth (λ rows. leak ≡ f rows pair) → IfSome truth (λ rows. leaks ++ leak ∷ [] ≡ map (f rows) (pairs ++ pair ∷ []))
leaks_true f None pairs pair leaks leak before now = tt
leaks_true f (Some rows) pairs pair leaks leak before now =
    ap (λ (gs : List Leak). gs ++ leak ∷ []) before ∙ ap (λ (g : Leak). map (f rows) pairs ++ g ∷ []) now ∙ map-push (f rows) pairs pair

-- ---- the loop

pub Each-none : (bonds : List ℕ) (s : RigState) (v t : ℕ) → MeasuresEach bonds s s [] v t []
Each-none bonds s v t = record {
  events = [];
  runs = Runs-none bonds s;
  measured = tt;
  counts = gains-less (omega arith) (omega arith) (omega arith) (omega arith) (gains-none 0);
  truth = λ honest. leaks_none (λ rows. leak_between rows s.points v) s.truth;
  discharged = λ some. absurd (omega arith);
}

Each-push : {bonds : List ℕ} {s t u : RigState} {done : List Sides} {v k : ℕ} {leaks : List Leak} (pair : Sides) (leak : Leak)
    → MeasuresEach bonds s t done v k leaks → Measures bonds t u pair.left pair.right v k leak → MeasuresEach bonds s u (done ++ pair ∷ []) v k (leaks ++ leak ∷ [])
Each-push {bonds} {s} {t} {u} {done} {v} {k} {leaks} pair leak made measures = record {
  events = made.events ++ (measures.run ++ measures.rest);
  runs = Runs-then made.runs measures.runs;
  measured = measures-push v k done leaks pair leak made.events measures.run measures.rest made.measured measures.measuring;
  counts =
      let sum = length-append done (pair ∷ []) in
      let n : ℕ = length done in
      let steps : ℕ = v / 50 in
      let grown : length (done ++ pair ∷ []) ≡ n + 1 = omega (arith, sum) in
      let P : ℕ → Type 0 = λ m. Gains 0 0 m (m * steps) (m * k) m (made.events ++ (measures.run ++ measures.rest)) in
      subst P (sym grown) (gains-less (omega arith) (omega arith) (omega arith) (omega arith) (gains-append made.counts measures.counts));
  truth = λ honest.
      let one = made.runs.happens in
      let Q : Option (List Row) → ℕ → Type 0 = λ o n. IfSome o (λ rows. leak ≡ leak_of rows n pair.left pair.right v) in
      leaks_true (λ rows. leak_between rows s.points v) s.truth done pair leaks leak (made.truth honest)
      (subst (λ o. Q o s.points) (Happens-truth one) (subst (λ n. Q t.truth n) (Happens-points one) (measures.truth (subst IsTrue (sym (Happens-honest one)) honest))));
  discharged = λ some. lasting-before None made.runs.happens measures.discharged;
}

pub Each-more : {bonds : List ℕ} {s t u : RigState} {v k : ℕ} {leaks more : List Leak} (pairs : List Sides) (i : ℕ) (pair : Sides) (leak : Leak)
    → MeasuresEach bonds s t (take i pairs) v k leaks → i < length pairs → pair ≡ get_or pairs i pair → Measures bonds t u pair.left pair.right v k leak → more ≡ leaks ++ leak ∷ []
    → MeasuresEach bonds s u (take (i + 1) pairs) v k more
Each-more {bonds} {s} {t} {u} {v} {k} {leaks} {more} pairs i pair leak made less here measures pushed =
    let next : take i pairs ++ pair ∷ [] ≡ take (i + 1) pairs = ap (λ (x : Sides). take i pairs ++ x ∷ []) here ∙ sym (take_more pairs i pair less) in
    subst (λ (xs : List Sides). MeasuresEach bonds s u xs v k more) next
    (subst (λ (gs : List Leak). MeasuresEach bonds s u (take i pairs ++ pair ∷ []) v k gs) (sym pushed) (Each-push pair leak made measures))

pub Each-all : {bonds : List ℕ} {s t : RigState} {v k : ℕ} {leaks : List Leak} (pairs : List Sides) (i : ℕ) → MeasuresEach bonds s t (take i pairs) v k leaks → length pairs ≤ i → MeasuresEach bonds s t pairs v k leaks
Each-all {bonds} {s} {t} {v} {k} {leaks} pairs i made all = subst (λ (xs : List Sides). MeasuresEach bonds s t xs v k leaks) (take_all i pairs all) made

-- the groups of the next pair
pub next_pair : {bonds : List ℕ} {s t : RigState} {v k : ℕ} {leaks : List Leak} {done : List Sides} (pairs : List Sides) (i : ℕ) {pair : Sides}
    → MeasuresEach bonds s t done v k leaks → All (AreSides s.points bonds) pairs → i < length pairs → pair ≡ get_or pairs i pair → AreSides t.points bonds pair
next_pair {bonds} {s} {t} {v} {k} {leaks} {done} pairs i {pair} made all less here =
    subst (λ (n : ℕ). AreSides n bonds pair) (sym (Happens-points made.runs.happens)) (subst (AreSides s.points bonds) (sym here) (all i pair less))

-- memory ran out after a measurement
pub each-no_memory : {bonds : List ℕ} {s t u : RigState} {v k : ℕ} {leaks : List Leak} {done : List Sides} {a b : List ℕ} {leak : Leak}
    → MeasuresEach bonds s t done v k leaks → Measures bonds t u a b v k leak → StopsAtRest bonds s u None
each-no_memory made measures = record { events = _; runs = Runs-then made.runs measures.runs }
