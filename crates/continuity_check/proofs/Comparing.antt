-- Checks, one after the other.
use Rattle.std.proofs.Common.{◌≡◌, ◌↔◌, ◌+◌, ◌++◌, ◌∷◌, [], ℕ, Bool, true, false, List, Option, Some, None, map, IsTrue, refl, sym, ◌∙◌, ap, subst, arith, append_assoc, append-nil, add_assoc, add-zero, not, cond, Result, Ok, Err}
use Rattle.std.specs.Prelude.{All, IfSome, IsErrAnd, flat_map, option_map}
use Rattle.std.proofs.lemmas.List.Elements.{All-nil, All-cons, All-append}
use Rattle.std.proofs.lemmas.List.{map-append}
use Rattle.std.proofs.lemmas.List.Sums.{sum_by-append}
use Rattle.std.proofs.lemmas.Grind.{flat_map-append}
use Rattle.rig.specs.declared.event.Event.{Event}
use Rattle.rig.specs.declared.unit.Row.{Row}
use Rattle.rig.specs.Joins.{Joined}
use Rattle.rig.specs.RigState.{RigState}
use Rattle.rig.specs.declared.rig.RigStop.{RigStop}
use Rattle.rig.specs.declared.rig.RigStop.TheVariants.{Failed, Memory as NoMemory}
use Rattle.rig.specs.Calls.{AreGroups, AreJoined, Conducts}
use Rattle.rig.specs.Readings.{Reads}
use Rattle.rig.proofs.Groups.{Contains-one}
use Rattle.continuity_check.specs.Compared.{Compared, Trial, reading_of, lines_of, open_count, open_line}
use Rattle.continuity_check.specs.Trials.{SheetView, IsBelow, IsRight, Compares, StopsAt}

trail-none : (trail : Option (List Event)) → trail ≡ option_map (λ events. events ++ []) trail
trail-none None = refl
trail-none (Some events) = ap Some (sym (append-nil events))

trail-then : (old : Option (List Event)) (first second : List Event) → option_map (λ events. events ++ second) (option_map (λ events. events ++ first) old) ≡ option_map (λ events. events ++ (first ++ second)) old
trail-then None first second = refl
trail-then (Some events) first second = ap Some (append_assoc events first second)

all-none : (honest : Bool) (truth : Option (List Row)) → IsTrue honest → IfSome truth (λ rows. All (IsRight rows) [])
all-none honest None h = tt
all-none honest (Some rows) h = All-nil (IsRight rows)

all-then : (truth : Option (List Row)) (first second : List Trial) → IfSome truth (λ rows. All (IsRight rows) first) → IfSome truth (λ rows. All (IsRight rows) second) → IfSome truth (λ rows. All (IsRight rows) (first ++ second))
all-then None first second a b = tt
all-then (Some rows) first second a b = All-append (IsRight rows) first second a b

pub Compares-none : (s : RigState) (sheet : SheetView) → Compares s s sheet sheet []
Compares-none s sheet = record {
  trials = [];
  of_these = refl;
  trail = trail-none s.trail;
  below = All-nil (IsBelow s.points);
  right = λ honest. all-none s.honest s.truth honest;
  lines = sym (append-nil sheet.lines);
  opens = sym (add-zero sheet.opens);
}

pub Compares-then : {s t u : RigState} {stop : Option RigStop} {a b c : SheetView} {first second : List Compared} → Reads s t stop → Compares s t a b first → Compares t u b c second → Compares s u a c (first ++ second)
Compares-then {s} {t} {u} {stop} {a} {b} {c} {first} {second} reads one two = record {
  trials = one.trials ++ two.trials;
  of_these = map-append (λ (t : Trial). t.compared) one.trials two.trials ∙ ap (λ (l : List Compared). l ++ map (λ (t : Trial). t.compared) two.trials) one.of_these ∙ ap (λ (l : List Compared). first ++ l) two.of_these;
  trail = two.trail ∙ ap (option_map (λ events. events ++ map reading_of two.trials)) one.trail ∙ trail-then s.trail (map reading_of one.trials) (map reading_of two.trials) ∙ ap (λ (more : List Event). option_map (λ events. events ++ more) s.trail) (sym (map-append reading_of one.trials two.trials));
  below = All-append (IsBelow s.points) one.trials two.trials one.below (subst (λ (n : ℕ). All (IsBelow n) two.trials) (ap (λ (s : RigState). s.points) reads.frame) two.below);
  right = λ honest. all-then s.truth one.trials two.trials (one.right honest)
      (subst (λ (o : Option (List Row)). IfSome o (λ rows. All (IsRight rows) two.trials)) (ap (λ (s : RigState). s.truth) reads.frame) (two.right (subst IsTrue (sym (ap (λ (s : RigState). s.honest) reads.frame)) honest)));
  lines = two.lines ∙ ap (λ (l : List ℕ). l ++ flat_map lines_of two.trials) one.lines ∙ append_assoc a.lines (flat_map lines_of one.trials) (flat_map lines_of two.trials) ∙ ap (λ (l : List ℕ). a.lines ++ l) (sym (flat_map-append lines_of one.trials two.trials));
  opens = two.opens ∙ ap (λ (n : ℕ). n + open_count two.trials) one.opens ∙ add_assoc a.opens (open_count one.trials) (open_count two.trials) ∙ ap (λ (n : ℕ). a.opens + n) (sym (sum_by-append (λ (t : Trial). cond (not t.met) 1 0) one.trials two.trials));
}

-- one point against one other

joined-one : (rows : List Row) (h p : ℕ) → AreJoined rows (h ∷ []) (p ∷ []) → Joined rows h p
joined-one rows h p (x, y, in_h, in_p, walk) =
    let P : ℕ → Type 0 = λ z. Joined rows z p in
    let Q : ℕ → Type 0 = λ z. Joined rows x z in
    subst P (Contains-one h x in_h) (subst Q (Contains-one p y in_p) walk)

one-joined : (rows : List Row) (h p : ℕ) → Joined rows h p → AreJoined rows (h ∷ []) (p ∷ [])
one-joined rows h p walk = (h, p, (0, omega arith, refl), (0, omega arith, refl), walk)

right-one : (truth : Option (List Row)) (c : Compared) (met : Bool) → IfSome truth (λ rows. IsTrue met ↔ AreJoined rows (c.head ∷ []) (c.point ∷ []))
    → IfSome truth (λ rows. All (IsRight rows) (record { compared = c; met = met } ∷ []))
right-one None c met is = tt
right-one (Some rows) c met is =
    All-cons (IsRight rows) _ [] (λ m. joined-one rows c.head c.point (is.0 m), λ walk. is.1 (one-joined rows c.head c.point walk)) (All-nil (IsRight rows))

below-one : (n : ℕ) (c : Compared) (met : Bool) → AreGroups n (c.head ∷ []) (c.point ∷ []) → All (IsBelow n) (record { compared = c; met = met } ∷ [])
below-one n c met groups = All-cons (IsBelow n) _ [] (groups.left.in_range 0 c.head (omega arith), groups.right.in_range 0 c.point (omega arith)) (All-nil (IsBelow n))

pub Compares-met : {old new : RigState} {sheet : SheetView} (c : Compared) → AreGroups old.points (c.head ∷ []) (c.point ∷ []) → Conducts old new (c.head ∷ []) (c.point ∷ []) (Ok true) → Compares old new sheet sheet (c ∷ [])
Compares-met {old} {new} {sheet} c groups call = record {
  trials = record { compared = c; met = true } ∷ [];
  of_these = refl;
  trail = ap (λ (s : RigState). s.trail) call.ok;
  below = below-one old.points c _ groups;
  right = λ honest. right-one old.truth c true (call.truth honest);
  lines = sym (append-nil sheet.lines);
  opens = sym (add-zero sheet.opens);
}

pub Compares-open : {old new : RigState} {before after : SheetView} (c : Compared) → AreGroups old.points (c.head ∷ []) (c.point ∷ []) → Conducts old new (c.head ∷ []) (c.point ∷ []) (Ok false)
    → after.lines ≡ before.lines ++ open_line c.name c.point → after.opens ≡ before.opens + 1 → Compares old new before after (c ∷ [])
Compares-open {old} {new} {before} {after} c groups call lines opens = record {
  trials = record { compared = c; met = false } ∷ [];
  of_these = refl;
  trail = ap (λ (s : RigState). s.trail) call.ok;
  below = below-one old.points c _ groups;
  right = λ honest. right-one old.truth c false (call.truth honest);
  lines = lines ∙ ap (λ (l : List ℕ). before.lines ++ l) (sym (append-nil (open_line c.name c.point)));
  opens = opens;
}

-- a reading that failed is in no trail
pub StopsAt-here : {old new : RigState} (sheet : SheetView) (c : Compared) → new.trail ≡ old.trail → StopsAt old new sheet (c ∷ [])
StopsAt-here {old} {new} sheet c same = record {
  done = [];
  next = c;
  rest = [];
  sheet = sheet;
  split = refl;
  compares = record {
    trials = [];
    of_these = refl;
    trail = same ∙ trail-none old.trail;
    below = All-nil (IsBelow old.points);
    right = λ honest. all-none old.honest old.truth honest;
    lines = sym (append-nil sheet.lines);
    opens = sym (add-zero sheet.opens);
  };
}

-- it comes after points that were compared, and before others
pub StopsAt-after : {s t u : RigState} {a b : SheetView} {first more all : List Compared} (others : List Compared)
    → Reads s t None → Compares s t a b first → StopsAt t u b more → first ++ (more ++ others) ≡ all → StopsAt s u a all
StopsAt-after {s} {t} {u} {a} {b} {first} {more} {all} others reads one stops is = record {
  done = first ++ stops.done;
  next = stops.next;
  rest = stops.rest ++ others;
  sheet = stops.sheet;
  split =
      sym is
      ∙ ap (λ (l : List Compared). first ++ (l ++ others)) stops.split
      ∙ ap (λ (l : List Compared). first ++ l) (append_assoc stops.done (stops.next ∷ stops.rest) others)
      ∙ sym (append_assoc first stops.done (stops.next ∷ (stops.rest ++ others)));
  compares = Compares-then reads one stops.compares;
}

-- what is said of a failure is said of no want of memory
pub no_failure : {T : Type 0} (result : Result T RigStop) (P : Type 0) → IsErrAnd result (λ e. e ≡ NoMemory) → result ≡ Err Failed → P
no_failure (Ok x) P is failed = absurd is
no_failure (Err e) P is failed = let both : NoMemory ≡ Failed = cc in cc

-- a refusal that is passed on was the failure
pub was_failure : {T : Type 0} {e : RigStop} (result : Result T RigStop) → IsErrAnd result (λ y. y ≡ e) → result ≡ Err Failed → e ≡ Failed
was_failure (Ok x) is failed = absurd is
was_failure {e = e} (Err y) is failed = let same : y ≡ Failed = cc in sym is ∙ same
