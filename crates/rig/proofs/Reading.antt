-- One reading after the other.
use Rattle.std.proofs.Common.{◌≡◌, ◌↔◌, ◌≤◌, ◌+◌, ◌-◌, ℕ, Bool, List, [], ◌∷◌, ◌++◌, length, Option, Some, None, Result, Ok, Err, IsTrue, refl, sym, ◌∙◌, ap, subst, arith, append_assoc, append-nil, add-zero, add_assoc, length-append}
use Rattle.std.specs.Prelude.{All, IsSomeAnd, IfSome, IfNone, IfOk, IsErrAnd}
use Rattle.std.specs.Result.{result_err}
use Rattle.std.proofs.lemmas.List.{get_or_push, get_or_append_left}
use Rattle.std.proofs.lemmas.List.Elements.{All-push, All-nil, All-cons, All-append}
use Rattle.rig.specs.declared.event.Event.{Event}
use Rattle.rig.specs.declared.event.Event.TheVariants.{Reading}
use Rattle.rig.specs.declared.event.Tally.{Tally}
use Rattle.rig.specs.declared.rig.RigStop.{RigStop}
use Rattle.rig.specs.declared.rig.RigStop.TheVariants.{Memory}
use Rattle.rig.specs.RigState.{RigState}
use Rattle.rig.specs.Trail.{Agrees, AgreesWith, Extends, IsReading}
use Rattle.rig.specs.Happened.{recorded}
use Rattle.rig.specs.Calls.{AreGroups, AreJoined, Conducts, counted, with_readings}
use Rattle.rig.specs.Seating.{emptied, IsFaithful, IsTrueOf, IsSeating, Seats}
use Rattle.rig.specs.declared.rig.SeatAnswer.TheVariants.{Present}
use Rattle.rig.specs.declared.unit.Row.{Row}
use Rattle.rig.specs.Joins.{IsRowBelow}
use Rattle.rig.specs.Readings.{Reads, Teaches}

-- tallies

with_readings-0 : (ts : List Tally) → with_readings 0 ts ≡ ts
with_readings-0 [] = refl
with_readings-0 (t ∷ []) = ap (λ (n : ℕ). record t { readings = n } ∷ []) (add-zero t.readings)
with_readings-0 (t ∷ u ∷ ts) = ap (λ us. t ∷ us) (with_readings-0 (u ∷ ts))

with_readings-add : (m n : ℕ) (ts : List Tally) → with_readings n (with_readings m ts) ≡ with_readings (m + n) ts
with_readings-add m n [] = refl
with_readings-add m n (t ∷ []) = ap (λ (k : ℕ). record t { readings = k } ∷ []) (add_assoc t.readings m n)
with_readings-add m n (t ∷ u ∷ []) = ap (λ us. t ∷ us) (with_readings-add m n (u ∷ []))
with_readings-add m n (t ∷ u ∷ v ∷ ts) = ap (λ us. t ∷ us) (with_readings-add m n (u ∷ v ∷ ts))

pub counted-0 : (ts : Option (List Tally)) → counted 0 ts ≡ ts
counted-0 None = refl
counted-0 (Some ts) = ap Some (with_readings-0 ts)

pub counted-add : (m n : ℕ) (ts : Option (List Tally)) → counted n (counted m ts) ≡ counted (m + n) ts
counted-add m n None = refl
counted-add m n (Some ts) = ap Some (with_readings-add m n ts)

-- trails

pub Extends-refl : (P : Event → Type 0) (t : Option (List Event)) → Extends P t t
Extends-refl P None = refl
Extends-refl P (Some t) = ([], All-nil P, ap Some (sym (append-nil t)))

pub Extends-trans : (P : Event → Type 0) (s t u : Option (List Event)) → Extends P s t → Extends P t u → Extends P s u
Extends-trans P None t u first second = let Q : Option (List Event) → Type 0 = λ v. Extends P v u in subst Q first second
Extends-trans P (Some s) t u (more, kind, is) second =
    let Q : Option (List Event) → Type 0 = λ v. Extends P v u in
    let rest = subst Q is second in
    (more ++ rest.0, All-append P more rest.0 kind rest.1, rest.2 ∙ ap Some (append_assoc s more rest.0))

pub Extends-recorded : (P : Event → Type 0) (e : Event) (t : Option (List Event)) → P e → Extends P t (recorded e t)
Extends-recorded P e None kind = refl
Extends-recorded P e (Some t) kind = (e ∷ [], All-cons P e [] kind (All-nil P), refl)

-- what holds of the events of a trail holds of those of its beginning, and of its last event
pub Extends-agrees : (P K : Event → Type 0) (s t : Option (List Event)) → Extends K s t → IsSomeAnd t (All P) → IsSomeAnd s (All P)
Extends-agrees P K None t is all = let Q : Option (List Event) → Type 0 = λ v. IsSomeAnd v (All P) in subst Q is all
Extends-agrees P K (Some s) t (more, kind, is) all =
    let Q : Option (List Event) → Type 0 = λ v. IsSomeAnd v (All P) in
    let whole : All P (s ++ more) = subst Q is all in
    λ k d lt. subst P (get_or_append_left s more d k lt) (whole k d (omega (arith, length-append s more)))

recorded-agrees : (P : Event → Type 0) (e : Event) (t : Option (List Event)) → IsSomeAnd (recorded e t) (All P) → P e
recorded-agrees P e None all = absurd all
recorded-agrees P e (Some t) all = subst P (get_or_push t e e (length t) refl) (all (length t) e (omega (arith, length-append t (e ∷ []))))

pub Agrees-before : {old new : RigState} {stop : Option RigStop} (classes : List ℕ) → Reads old new stop → Agrees new classes → Agrees old classes
Agrees-before {old} {new} classes reads agrees = record {
  partition = agrees.partition;
  readings = Extends-agrees (AgreesWith classes) IsReading old.trail new.trail reads.trail agrees.readings;
}

-- any number of readings

pub Reads-none : (s : RigState) → Reads s s None
Reads-none s = record {
  frame = refl;
  cause = record { later = omega arith; rose = λ is. cc };
  no_fault = λ calm. refl;
  told = λ h. h;
  spent = omega arith;
  trail = Extends-refl IsReading s.trail;
  tallies = (0, sym (counted-0 s.tallies));
  answered = sym (counted-0 s.tallies) ∙ ap (λ (n : ℕ). counted n s.tallies) (omega arith);
}

more_answered : (s t u : RigState) (stop : Option RigStop) → s.spent ≤ t.spent → t.spent ≤ u.spent → t.tallies ≡ counted (t.spent - s.spent) s.tallies
    → IfNone stop (u.tallies ≡ counted (u.spent - t.spent) t.tallies) → IfNone stop (u.tallies ≡ counted (u.spent - s.spent) s.tallies)
more_answered s t u None first second before now =
    let sum : (t.spent - s.spent) + (u.spent - t.spent) ≡ u.spent - s.spent = omega arith in
    now ∙ ap (counted (u.spent - t.spent)) before ∙ counted-add (t.spent - s.spent) (u.spent - t.spent) s.tallies ∙ ap (λ (n : ℕ). counted n s.tallies) sum
more_answered s t u (Some e) first second before now = tt

pub Reads-then : {s t u : RigState} {stop : Option RigStop} → Reads s t None → Reads t u stop → Reads s u stop
Reads-then {s} {t} {u} {stop} first second = record {
  frame = second.frame ∙ ap (λ (v : RigState). record v { faults = u.faults; spare = u.spare; spent = u.spent; trail = u.trail; tallies = u.tallies }) first.frame;
  cause = record { later = omega (arith, first.cause.later, second.cause.later); rose = λ is. omega (arith, first.cause.later, second.cause.rose is) };
  no_fault = λ calm. second.no_fault calm ∙ first.no_fault (λ is. cc);
  told = λ h. second.told (first.told h);
  spent = omega arith;
  trail = Extends-trans IsReading s.trail t.trail u.trail first.trail second.trail;
  tallies = (first.tallies.0 + second.tallies.0, second.tallies.1 ∙ ap (counted second.tallies.0) first.tallies.1 ∙ counted-add first.tallies.0 second.tallies.0 s.tallies);
  answered = more_answered s t u stop first.spent second.spent first.answered second.answered;
}

-- the exit of a `?`
pub Reads-refused : {T : Type 0} {s t u : RigState} {e : RigStop} → Reads s t None → Reads t u (Some e) → (result : Result T RigStop) → IsErrAnd result (λ y. y ≡ e) → Reads s u (result_err result)
Reads-refused first second (Ok x) is = absurd is
Reads-refused {T} {s} {t} {u} {e} first second (Err y) is = let P : RigStop → Type 0 = λ z. Reads s u (Some z) in subst P (sym is) (Reads-then first second)

-- the exit of a `?` for want of memory, which no rig answered
pub Reads-no_memory : {T : Type 0} {s t : RigState} → Reads s t None → (result : Result T RigStop) → IsErrAnd result (λ e. e ≡ Memory) → Reads s t (result_err result)
Reads-no_memory reads (Ok x) is = absurd is
Reads-no_memory reads (Err e) is = record {
  frame = reads.frame;
  cause = record { later = reads.cause.later; rose = λ failed. cc };
  no_fault = λ calm. reads.no_fault (λ is. cc);
  told = reads.told;
  spent = reads.spent;
  trail = reads.trail;
  tallies = reads.tallies;
  answered = tt;
}

pub AreGroups-after : {old new : RigState} {stop : Option RigStop} {a b : List ℕ} → Reads old new stop → AreGroups old.points a b → AreGroups new.points a b
AreGroups-after {old} {new} {stop} {a} {b} reads groups = let P : ℕ → Type 0 = λ n. AreGroups n a b in subst P (sym (ap (λ (s : RigState). s.points) reads.frame)) groups

-- one reading

pub Reads-conducts : {old new : RigState} {a b : List ℕ} (result : Result Bool RigStop) → Conducts old new a b result → Reads old new (result_err result)
Reads-conducts {old} {new} {a} {b} (Ok met) call = record {
  frame = call.ok ∙ sym (ap (λ (s : RigState). record old { faults = s.faults; spare = s.spare; spent = s.spent; trail = s.trail; tallies = s.tallies }) call.ok);
  cause = call.called.cause;
  no_fault = call.called.no_fault;
  told = λ h. call.called.told;
  spent = omega (arith, ap (λ (s : RigState). s.spent) call.ok);
  trail = let P : Option (List Event) → Type 0 = λ v. Extends IsReading old.trail v in subst P (sym (ap (λ (s : RigState). s.trail) call.ok)) (Extends-recorded IsReading (Reading a b met) old.trail tt);
  tallies = (1, ap (λ (s : RigState). s.tallies) call.ok);
  answered =
      let one : 1 ≡ new.spent - old.spent = omega (arith, ap (λ (s : RigState). s.spent) call.ok) in
      ap (λ (s : RigState). s.tallies) call.ok ∙ ap (λ (n : ℕ). counted n old.tallies) one;
}
Reads-conducts {old} {new} {a} {b} (Err e) call = record {
  frame = call.err ∙ sym (ap (λ (s : RigState). record old { faults = s.faults; spare = s.spare; spent = s.spent; trail = s.trail; tallies = s.tallies }) call.err);
  cause = call.called.cause;
  no_fault = call.called.no_fault;
  told = λ h. call.called.told;
  spent = call.spent.0;
  trail = let P : Option (List Event) → Type 0 = λ v. Extends IsReading old.trail v in subst P (sym (ap (λ (s : RigState). s.trail) call.err)) (Extends-refl IsReading old.trail);
  tallies = (0, ap (λ (s : RigState). s.tallies) call.err ∙ sym (counted-0 old.tallies));
  answered = tt;
}

pub Teaches-conducts : {old new : RigState} {a b : List ℕ} (result : Result Bool RigStop) → Conducts old new a b result → IfOk result (Teaches old new a b)
Teaches-conducts {old} {new} {a} {b} (Ok met) call = λ classes agrees.
    let P : Option (List Event) → Type 0 = λ v. IsSomeAnd v (All (AgreesWith classes)) in
    (Agrees-before classes (Reads-conducts (Ok met) call) agrees, recorded-agrees (AgreesWith classes) (Reading a b met) old.trail (subst P (ap (λ (s : RigState). s.trail) call.ok) agrees.readings))
Teaches-conducts (Err e) call = tt

-- an honest rig stays faithful

faithful_recorded : (n : ℕ) (e : Event) (truth : Option (List Row)) (trail : Option (List Event)) → IfSome truth (λ rows. IsTrueOf rows n e)
    → IfSome truth (λ rows. IfSome trail (All (IsTrueOf rows n))) → IfSome truth (λ rows. IfSome (recorded e trail) (All (IsTrueOf rows n)))
faithful_recorded n e None trail here before = tt
faithful_recorded n e (Some rows) None here before = tt
faithful_recorded n e (Some rows) (Some events) here before = All-push (IsTrueOf rows n) events e before here

faithful_answer : (n : ℕ) (a b : List ℕ) (met : Bool) (truth : Option (List Row)) → AreGroups n a b → IfSome truth (λ rows. IsTrue met ↔ AreJoined rows a b) → IfSome truth (λ rows. IsTrueOf rows n (Reading a b met))
faithful_answer n a b met None groups is = tt
faithful_answer n a b met (Some rows) groups is = (groups, is)

IsFaithful-conducts : {old new : RigState} {a b : List ℕ} (result : Result Bool RigStop) → AreGroups old.points a b → Conducts old new a b result → IsFaithful old → IsFaithful new
IsFaithful-conducts {old} {new} {a} {b} (Ok met) groups call before =
    subst IsFaithful (sym call.ok) (λ honest. faithful_recorded old.points (Reading a b met) old.truth old.trail (faithful_answer old.points a b met old.truth groups (call.truth honest)) (before honest))
IsFaithful-conducts {old} {new} {a} {b} (Err e) groups call before = subst IsFaithful (sym call.err) before

in_range-frame : (old new : RigState) → new.truth ≡ old.truth → new.points ≡ old.points → IfSome old.truth (All (IsRowBelow old.points)) → IfSome new.truth (All (IsRowBelow new.points))
in_range-frame old new truth points h =
    let P : Option (List Row) → Type 0 = λ o. IfSome o (All (IsRowBelow new.points)) in
    let Q : ℕ → Type 0 = λ n. IfSome old.truth (All (IsRowBelow n)) in
    subst P (sym truth) (subst Q (sym points) h)

none_yet : (n : ℕ) (truth : Option (List Row)) (old : Option (List Event)) → IfSome truth (λ rows. IfSome (emptied old) (All (IsTrueOf rows n)))
none_yet n None old = tt
none_yet n (Some rows) None = tt
none_yet n (Some rows) (Some events) = All-nil (IsTrueOf rows n)

-- a unit that was found is seated
pub IsSeating-seats : {old new : RigState} {serial : List ℕ} {attempt : ℕ} → old.volts ≡ 0 → Seats old new serial attempt (Ok Present) → IsSeating new
IsSeating-seats {old} {new} unpowered call =
    let frame = call.present refl in
    let P : ℕ → Type 0 = λ n. IfSome new.truth (All (IsRowBelow n)) in
    let Q : Option (List Event) → Type 0 = λ trail. IfSome new.truth (λ rows. IfSome trail (All (IsTrueOf rows new.points))) in
    record {
      unit = record {
        seated = ap (λ (s : RigState). s.seated) frame;
        in_range = subst P (sym (ap (λ (s : RigState). s.points) frame)) (call.in_range refl);
        faithful = λ honest. subst Q (sym (ap (λ (s : RigState). s.trail) frame)) (none_yet new.points new.truth old.trail);
      };
      unpowered = ap (λ (s : RigState). s.volts) frame ∙ unpowered;
    }

pub IsSeating-conducts : {old new : RigState} {a b : List ℕ} (result : Result Bool RigStop) → AreGroups old.points a b → Conducts old new a b result → IsSeating old → IsSeating new
IsSeating-conducts {old} {new} result groups call seating =
    let reads = Reads-conducts result call in
    record {
      unit = record {
        seated = subst IsTrue (sym (ap (λ (s : RigState). s.seated) reads.frame)) seating.unit.seated;
        in_range = in_range-frame old new (ap (λ (s : RigState). s.truth) reads.frame) (ap (λ (s : RigState). s.points) reads.frame) seating.unit.in_range;
        faithful = IsFaithful-conducts result groups call seating.unit.faithful;
      };
      unpowered = ap (λ (s : RigState). s.volts) reads.frame ∙ seating.unpowered;
    }

pub Conducts-spent : {old new : RigState} {a b : List ℕ} (result : Result Bool RigStop) → Conducts old new a b result → new.spent ≤ old.spent + 1
Conducts-spent (Ok met) call = omega (arith, ap (λ (s : RigState). s.spent) call.ok)
Conducts-spent (Err e) call = omega (arith, call.spent.1)

pub Conducts-answer : {old new : RigState} {a b : List ℕ} (result : Result Bool RigStop) → Conducts old new a b result → IfOk result (λ met. Conducts old new a b (Ok met))
Conducts-answer (Ok met) call = call
Conducts-answer (Err e) call = tt
