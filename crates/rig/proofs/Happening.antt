-- Events that happen one after the other, and what stays.
use Rattle.std.proofs.Common.{◌≡◌, ℕ, Bool, List, [], ◌∷◌, ◌++◌, Option, Some, None, Result, Ok, Err, IsTrue, refl, sym, ◌∙◌, ap, subst, arith, append_assoc, append-nil}
use Rattle.std.specs.Prelude.{All, IfSome, IfOk, IsSomeAnd, OnOk, OnErr, option_map, false}
use Rattle.std.specs.Result.{result_err}
use Rattle.std.proofs.lemmas.List.Elements.{All-cons, All-head, All-nil, All-tail, All-append}
use Rattle.rig.specs.declared.event.Event.{Event}
use Rattle.rig.specs.declared.event.Event.TheVariants.{Ohms, Junction, Door, Leak, Residual, Tick}
use Rattle.rig.specs.declared.rig.RigStop.{RigStop}
use Rattle.rig.specs.declared.rig.RigStop.TheVariants.{Failed, Memory}
use Rattle.rig.specs.declared.unit.Row.{Row}
use Rattle.rig.specs.RigState.{RigState, Groups}
use Rattle.rig.specs.Joins.{IsRowBelow}
use Rattle.rig.specs.Trail.{Agrees, AgreesWith, Determines, Extends}
use Rattle.rig.specs.Happened.{Called, Happens, IsDone, Records, Refuses, happened, happened_all, recorded, route_after, volts_after}
use Rattle.rig.specs.Calls.{Permission, Permits}
use Rattle.rig.specs.Seating.{IsSeated, IsSeating, IsTrueOf}
use Rattle.rig.specs.States.{IsProven}
use Rattle.rig.proofs.Reading.{Extends-agrees}

-- what holds of all of two lists holds of all of each
pub all_left : {X : Type 0} (P : X → Type 0) (xs ys : List X) → All P (xs ++ ys) → All P xs
all_left P [] ys all = All-nil P
all_left P (x ∷ xs) ys all = All-cons P x xs (All-head P x (xs ++ ys) all) (all_left P xs ys (All-tail P x (xs ++ ys) all))

pub all_right : {X : Type 0} (P : X → Type 0) (xs ys : List X) → All P (xs ++ ys) → All P ys
all_right P [] ys all = all
all_right P (x ∷ xs) ys all = all_right P xs ys (All-tail P x (xs ++ ys) all)

-- ---- one after the other

pub happened_all-append : (xs ys : List Event) (s : RigState) → happened_all (xs ++ ys) s ≡ happened_all ys (happened_all xs s)
happened_all-append [] ys s = refl
happened_all-append (x ∷ xs) ys s = happened_all-append xs ys (happened x s)

-- the count of faults and the room for zero calls take no part in it
pub happened_all-free : (es : List Event) (f p : ℕ) (s : RigState) → happened_all es (record s { faults = f; spare = p }) ≡ record (happened_all es s) { faults = f; spare = p }
happened_all-free [] f p s = refl
happened_all-free (e ∷ es) f p s = happened_all-free es f p (happened e s)

pub Happens-none : (s : RigState) → Happens s s [] None
Happens-none s = record { frame = refl; cause = record { later = omega arith; rose = λ is. cc }; no_fault = λ calm done. refl; told = λ h. h }

-- what stands after two lists of events, whatever ended the first
happens_frame : {s t u : RigState} {xs ys : List Event} {stop later : Option RigStop} → Happens s t xs stop → Happens t u ys later → u ≡ record (happened_all (xs ++ ys) s) { faults = u.faults; spare = u.spare }
happens_frame {s} {t} {u} {xs} {ys} first second =
    second.frame
    ∙ ap (λ (v : RigState). record (happened_all ys v) { faults = u.faults; spare = u.spare }) first.frame
    ∙ ap (λ (v : RigState). record v { faults = u.faults; spare = u.spare }) (happened_all-free ys t.faults t.spare (happened_all xs s))
    ∙ ap (λ (v : RigState). record v { faults = u.faults; spare = u.spare }) (sym (happened_all-append xs ys s))

pub Happens-then : {s t u : RigState} {xs ys : List Event} {stop : Option RigStop} → Happens s t xs None → Happens t u ys stop → Happens s u (xs ++ ys) stop
Happens-then {s} {t} {u} {xs} {ys} {stop} first second = record {
  frame = happens_frame first second;
  cause = record { later = omega (arith, first.cause.later, second.cause.later); rose = λ is. omega (arith, first.cause.later, second.cause.rose is) };
  no_fault = λ calm done. second.no_fault calm (all_right IsDone xs ys done) ∙ first.no_fault (λ is. cc) (all_left IsDone xs ys done);
  told = λ h. second.told (first.told h);
}

-- a call that was refused for memory leaves what happened before it
pub Happens-no_memory : {s t : RigState} {es : List Event} → Happens s t es (Some Memory) → Happens s t es None
Happens-no_memory h = record { frame = h.frame; cause = record { later = h.cause.later; rose = λ is. cc }; no_fault = λ calm done. h.no_fault (λ is. cc) done; told = h.told }

-- a refusal first, then calls that were answered
pub Happens-after : {s t u : RigState} {xs ys : List Event} {stop : Option RigStop} → Happens s t xs stop → Happens t u ys None → Happens s u (xs ++ ys) stop
Happens-after {s} {t} {u} {xs} {ys} first second = record {
  frame = happens_frame first second;
  cause = record { later = omega (arith, first.cause.later, second.cause.later); rose = λ is. let risen = first.cause.rose is in let later = second.cause.later in omega arith };
  no_fault = λ calm done. second.no_fault (λ is. cc) (all_right IsDone xs ys done) ∙ first.no_fault calm (all_left IsDone xs ys done);
  told = λ h. second.told (first.told h);
}

-- a refusal first, then a call that failed
pub Happens-failed : {s t u : RigState} {xs ys : List Event} {stop : Option RigStop} → Happens s t xs stop → Happens t u ys (Some Failed) → Happens s u (xs ++ ys) (Some Failed)
Happens-failed {s} {t} {u} {xs} {ys} first second = record {
  frame = happens_frame first second;
  cause = record { later = omega (arith, first.cause.later, second.cause.later); rose = λ is. let risen = second.cause.rose is in let later = first.cause.later in omega arith };
  no_fault = λ calm done. absurd (calm refl);
  told = λ h. second.told (first.told h);
}

-- the events under another name
pub Happens-as : {s t : RigState} {xs ys : List Event} {stop : Option RigStop} → xs ≡ ys → Happens s t xs stop → Happens s t ys stop
Happens-as {s} {t} {xs} {ys} {stop} is h = subst (λ (es : List Event). Happens s t es stop) is h

-- a call

pub Happens-records : {s t : RigState} {stop : Option RigStop} (e : Event) → Called s t stop → Records s t e → Happens s t (e ∷ []) stop
Happens-records e called frame = record { frame = frame; cause = called.cause; no_fault = λ calm done. called.no_fault calm; told = λ h. called.told }

pub Happens-refuses : {s t : RigState} {stop : Option RigStop} → Called s t stop → Refuses s t → Happens s t [] stop
Happens-refuses called frame = record { frame = frame; cause = called.cause; no_fault = λ calm done. called.no_fault calm; told = λ h. called.told }

-- the events of a call that answers
abbrev pub answered : {X : Type 0} → (X → Event) → Result X RigStop → List Event
answered f (Ok x) = f x ∷ []
answered f (Err e) = []

pub Happens-answered : {X : Type 0} {s t : RigState} (f : X → Event) (result : Result X RigStop) → Called s t (result_err result) → IfOk result (λ x. Records s t (f x)) → OnErr result (Refuses s t) → Happens s t (answered f result) (result_err result)
Happens-answered f (Ok x) called ok err = Happens-records (f x) called ok
Happens-answered f (Err e) called ok err = Happens-refuses called err

pub Happens-done : {X : Type 0} {s t : RigState} (e : Event) (result : Result X RigStop) → Called s t (result_err result) → OnOk result (Records s t e) → OnErr result (Refuses s t) → Happens s t (answered (λ _. e) result) (result_err result)
Happens-done e (Ok x) called ok err = Happens-records e called ok
Happens-done e (Err x) called ok err = Happens-refuses called err

-- ---- what stays

-- the parts that no event changes
abbrev pub fixed : RigState → RigState
fixed s = record s { faults = 0; spare = 0; spent = 0; opens = 0; volts = 0; route = None; closed_now = false; trail = None; tallies = None }

fixed-all : (es : List Event) (s : RigState) → fixed (happened_all es s) ≡ fixed s
fixed-all [] s = refl
fixed-all (e ∷ es) s = fixed-all es (happened e s)

module _ {s t : RigState} {es : List Event} {stop : Option RigStop} (h : Happens s t es stop) where
  pub Happens-fixed : fixed t ≡ fixed s
  Happens-fixed = ap fixed h.frame ∙ fixed-all es s

  pub Happens-points : t.points ≡ s.points
  Happens-points = ap (λ (v : RigState). v.points) Happens-fixed

  pub Happens-seats : t.seats ≡ s.seats
  Happens-seats = ap (λ (v : RigState). v.seats) Happens-fixed

  pub Happens-honest : t.honest ≡ s.honest
  Happens-honest = ap (λ (v : RigState). v.honest) Happens-fixed

  pub Happens-truth : t.truth ≡ s.truth
  Happens-truth = ap (λ (v : RigState). v.truth) Happens-fixed

  pub Happens-seated : t.seated ≡ s.seated
  Happens-seated = ap (λ (v : RigState). v.seated) Happens-fixed

-- ---- the trail

abbrev pub followed : List Event → Option (List Event) → Option (List Event)
followed es trail = option_map (λ t. t ++ es) trail

followed-nil : (trail : Option (List Event)) → trail ≡ followed [] trail
followed-nil None = refl
followed-nil (Some t) = ap Some (sym (append-nil t))

followed-recorded : (e : Event) (es : List Event) (trail : Option (List Event)) → followed es (recorded e trail) ≡ followed (e ∷ es) trail
followed-recorded e es None = refl
followed-recorded e es (Some t) = ap Some (append_assoc t (e ∷ []) es)

trail-all : (es : List Event) (s : RigState) → (happened_all es s).trail ≡ followed es s.trail
trail-all [] s = followed-nil s.trail
trail-all (e ∷ es) s = trail-all es (happened e s) ∙ followed-recorded e es s.trail

followed-extends : (P : Event → Type 0) (es : List Event) (trail : Option (List Event)) → All P es → Extends P trail (followed es trail)
followed-extends P es None all = refl
followed-extends P es (Some t) all = (es, all, refl)

module _ {s t : RigState} {es : List Event} {stop : Option RigStop} (h : Happens s t es stop) where
  pub Happens-trail : t.trail ≡ followed es s.trail
  Happens-trail = ap (λ (v : RigState). v.trail) h.frame ∙ trail-all es s

  pub Happens-extends : (P : Event → Type 0) → All P es → Extends P s.trail t.trail
  Happens-extends P all = let Q : Option (List Event) → Type 0 = λ v. Extends P s.trail v in subst Q (sym Happens-trail) (followed-extends P es s.trail all)

  -- what agrees with all readings agreed with the earlier ones
  pub Happens-agrees : (classes : List ℕ) → Agrees t classes → Agrees s classes
  Happens-agrees classes agrees = record {
    partition = agrees.partition;
    readings = Extends-agrees (AgreesWith classes) (λ _. Unit {0}) s.trail t.trail (Happens-extends (λ _. Unit {0}) (λ k d lt. tt)) agrees.readings;
  }

  pub Happens-determines : (classes : List ℕ) → Determines s classes → Determines t classes
  Happens-determines classes determines = λ other over agrees. determines other over (Happens-agrees other agrees)

  pub IsProven-happens : {classes : List ℕ} → IsProven s classes → IsProven t classes
  IsProven-happens {classes} proven = record {
    partition = record {
      partition = proven.partition.partition;
      points = proven.partition.points ∙ sym (Happens-points h);
      some = proven.partition.some;
      few = proven.partition.few;
    };
    determines = Happens-determines classes proven.determines;
  }

  pub Permits-happens : {permit : Permission} {groups : Groups} → Permits s permit groups → Permits t permit groups
  Permits-happens {permit} permits = record { seat = permits.seat ∙ sym (Happens-seats h); apart = permits.apart; determined = Happens-determines permit.partition permits.determined }

  pub IsSomePermit-happens : (permit : Permission) → t.route ≡ s.route → IsSomeAnd s.route (Permits s permit) → IsSomeAnd t.route (Permits t permit)
  IsSomePermit-happens permit same routed = let Q : Option Groups → Type 0 = λ r. IsSomeAnd r (Permits t permit) in subst Q (sym same) (at s.route routed)
    where
      at : (r : Option Groups) → IsSomeAnd r (Permits s permit) → IsSomeAnd r (Permits t permit)
      at None none = absurd none
      at (Some groups) permits = Permits-happens permits

-- ---- the seating

all_true : (n : ℕ) (es : List Event) (truth : Option (List Row)) (trail : Option (List Event)) → ((rows : List Row) → All (IsTrueOf rows n) es)
    → IfSome truth (λ rows. IfSome trail (All (IsTrueOf rows n))) → IfSome truth (λ rows. IfSome (followed es trail) (All (IsTrueOf rows n)))
all_true n es None trail more before = tt
all_true n es (Some rows) None more before = tt
all_true n es (Some rows) (Some t) more before = All-append (IsTrueOf rows n) t es before (more rows)

pub IsSeated-happens : {s t : RigState} {es : List Event} {stop : Option RigStop} → Happens s t es stop → ((rows : List Row) → All (IsTrueOf rows s.points) es) → IsSeated s → IsSeated t
IsSeated-happens {s} {t} {es} h more seated =
    let P : Option (List Row) → ℕ → Type 0 = λ o n. IfSome o (All (IsRowBelow n)) in
    let Q : Option (List Row) → ℕ → Option (List Event) → Type 0 = λ o n trail. IfSome o (λ rows. IfSome trail (All (IsTrueOf rows n))) in
    record {
      seated = subst IsTrue (sym (Happens-seated h)) seated.seated;
      in_range = subst (λ n. P t.truth n) (sym (Happens-points h)) (subst (λ o. P o s.points) (sym (Happens-truth h)) seated.in_range);
      faithful = λ honest.
          subst (λ trail. Q t.truth t.points trail) (sym (Happens-trail h))
          (subst (λ n. Q t.truth n (followed es s.trail)) (sym (Happens-points h))
          (subst (λ o. Q o s.points (followed es s.trail)) (sym (Happens-truth h))
          (all_true s.points es s.truth s.trail more (seated.faithful (subst IsTrue (Happens-honest h) honest)))));
    }

-- an event that leaves the volts and the route, and reads no wiring
pub record IsSteady (e : Event) : Type 0 where
  pub volts : (v : ℕ) → volts_after v e ≡ v
  pub route : (r : Option Groups) → route_after r e ≡ r
  pub no_reading : (rows : List Row) (n : ℕ) → IsTrueOf rows n e

abbrev pub AllSteady : List Event → Type 0
AllSteady [] = Unit {0}
AllSteady (e ∷ es) = IsSteady e × AllSteady es

steady-all : (es : List Event) → AllSteady es → (s : RigState) → ((happened_all es s).volts ≡ s.volts) × ((happened_all es s).route ≡ s.route)
steady-all [] steady s = (refl, refl)
steady-all (e ∷ es) steady s =
    let later = steady-all es steady.1 (happened e s) in
    (later.0 ∙ steady.0.volts s.volts, later.1 ∙ steady.0.route s.route)

steady-true : (es : List Event) → AllSteady es → (rows : List Row) (n : ℕ) → All (IsTrueOf rows n) es
steady-true [] steady rows n = All-nil (IsTrueOf rows n)
steady-true (e ∷ es) steady rows n = All-cons (IsTrueOf rows n) e es (steady.0.no_reading rows n) (steady-true es steady.1 rows n)

module _ {s t : RigState} {es : List Event} {stop : Option RigStop} (h : Happens s t es stop) (steady : AllSteady es) where
  pub steady-volts : t.volts ≡ s.volts
  steady-volts = ap (λ (v : RigState). v.volts) h.frame ∙ (steady-all es steady s).0

  pub steady-route : t.route ≡ s.route
  steady-route = ap (λ (v : RigState). v.route) h.frame ∙ (steady-all es steady s).1

  pub IsSeated-steady : IsSeated s → IsSeated t
  IsSeated-steady seated = IsSeated-happens h (λ rows. steady-true es steady rows s.points) seated

  pub IsSeating-steady : IsSeating s → IsSeating t
  IsSeating-steady seating = record { unit = IsSeated-steady seating.unit; unpowered = steady-volts ∙ seating.unpowered }

pub steady-answered : {X : Type 0} (f : X → Event) (result : Result X RigStop) → ((x : X) → IsSteady (f x)) → AllSteady (answered f result)
steady-answered f (Ok x) each = (each x, tt)
steady-answered f (Err e) each = tt

pub door_steady : (closed : Bool) → IsSteady (Door closed)
door_steady closed = record { volts = λ v. refl; route = λ r. refl; no_reading = λ rows n. tt }

pub tick_steady : IsSteady Tick
tick_steady = record { volts = λ v. refl; route = λ r. refl; no_reading = λ rows n. tt }

pub leak_steady : (g : _) → IsSteady (Leak g)
leak_steady g = record { volts = λ v. refl; route = λ r. refl; no_reading = λ rows n. tt }

pub residual_steady : (w : ℕ) → IsSteady (Residual w)
residual_steady w = record { volts = λ v. refl; route = λ r. refl; no_reading = λ rows n. tt }

pub ohms_steady : (a b : ℕ) (r : Option ℕ) → IsSteady (Ohms a b r)
ohms_steady a b r = record { volts = λ v. refl; route = λ o. refl; no_reading = λ rows n. tt }

pub junction_steady : (a b : ℕ) (d : Option ℕ) → IsSteady (Junction a b d)
junction_steady a b d = record { volts = λ v. refl; route = λ r. refl; no_reading = λ rows n. tt }
