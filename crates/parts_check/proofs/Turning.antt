-- One component more.
use Rattle.std.proofs.Common.{◌≡◌, ℕ, ◌+◌, ◌<◌, List, [], ◌∷◌, ◌++◌, length, map, take, get_or, Option, Some, None, Ok, IsTrue, refl, sym, ◌∙◌, ap, subst, arith, append_assoc, append-nil}
use Rattle.std.specs.Prelude.{All, IfSome}
use Rattle.std.specs.List.{cons_option, enumerate_from, filter_map}
use Rattle.std.proofs.lemmas.List.{length-map, length-take-le, map-append, take_more}
use Rattle.std.proofs.lemmas.Grind.{flat_map-append}
use Rattle.std.proofs.lemmas.List.Elements.{All-nil, All-push, filter_map-append}
use Rattle.wirelist.specs.Ranges.{IsReading}
use Rattle.wirelist.specs.declared.parts.Resistor.{Resistor}
use Rattle.wirelist.specs.declared.parts.Diode.{Diode}
use Rattle.wirelist.specs.declared.faults.PartFault.{PartFault}
use Rattle.rig.specs.declared.event.Event.{Event}
use Rattle.rig.specs.declared.rig.RigStop.{RigStop}
use Rattle.rig.specs.declared.unit.Row.{Row}
use Rattle.rig.specs.Calls.{ReadsJunction, ReadsOhms}
use Rattle.rig.specs.Happened.{Happens}
use Rattle.rig.specs.RigState.{RigState}
use Rattle.rig.specs.Values.{ohms_of, junction_of}
use Rattle.rig.proofs.CallEvents.{Happens-junction, Happens-ohms}
use Rattle.rig.proofs.Happening.{Happens-as, Happens-honest, Happens-none, Happens-points, Happens-then, Happens-truth}
use Rattle.parts_check.specs.PartRule.{diode_fault, numbered_fault, resistor_fault}
use Rattle.parts_check.specs.Probed.{DiodeRead, ResistorRead, diode_faults, junction_events, ohms_event, resistor_faults}
use Rattle.parts_check.specs.Turns.{IsJunction, IsOhms, JunctionFits, OhmsFit, ProbedDiodes, ProbedResistors}

-- numbered items grow at their end
enumerate-push : {X : Type 0} (n : ℕ) (xs : List X) (x : X) → enumerate_from n (xs ++ x ∷ []) ≡ enumerate_from n xs ++ (n + length xs, x) ∷ []
enumerate-push n [] x = ap (λ (k : ℕ). (k, x) ∷ []) (omega arith)
enumerate-push n (y ∷ ys) x = ap (λ zs. (n, y) ∷ zs) (enumerate-push (n + 1) ys x ∙ ap (λ (k : ℕ). enumerate_from (n + 1) ys ++ (k, x) ∷ []) (omega arith))

resistor_faults-push : (n : ℕ) (reads : List ResistorRead) (x : ResistorRead)
    → resistor_faults n (reads ++ x ∷ []) ≡ resistor_faults n reads ++ cons_option (numbered_fault (n + length reads) (resistor_fault x.part x.ohms)) []
resistor_faults-push n reads x =
    let f : ℕ × ResistorRead → Option PartFault = λ y. numbered_fault y.0 (resistor_fault y.1.part y.1.ohms) in
    ap (filter_map f) (enumerate-push n reads x) ∙ filter_map-append f (enumerate_from n reads) ((n + length reads, x) ∷ [])

diode_faults-push : (n : ℕ) (reads : List DiodeRead) (x : DiodeRead)
    → diode_faults n (reads ++ x ∷ []) ≡ diode_faults n reads ++ cons_option (numbered_fault (n + length reads) (diode_fault x.part x.forward x.back)) []
diode_faults-push n reads x =
    let f : ℕ × DiodeRead → Option PartFault = λ y. numbered_fault y.0 (diode_fault y.1.part y.1.forward y.1.back) in
    ap (filter_map f) (enumerate-push n reads x) ∙ filter_map-append f (enumerate_from n reads) ((n + length reads, x) ∷ [])

-- what an honest rig read of the unit, later in the same seating
pub moved : (P : List Row → ℕ → Type 0) {s t : RigState} {es : List Event} {stop : Option RigStop} → Happens s t es stop
    → (IsTrue t.honest → IfSome t.truth (λ rows. P rows t.points))
    → IsTrue s.honest → IfSome s.truth (λ rows. P rows s.points)
moved P {s} {t} h read honest =
    subst (λ (n : ℕ). IfSome s.truth (λ rows. P rows n)) (Happens-points h)
    (subst (λ (o : Option (List Row)). IfSome o (λ rows. P rows t.points)) (Happens-truth h)
    (read (subst IsTrue (sym (Happens-honest h)) honest)))

pub both : {P Q R : List Row → Type 0} (truth : Option (List Row)) → ((rows : List Row) → P rows → Q rows → R rows) → IfSome truth P → IfSome truth Q
    → IfSome truth R
both None f p q = tt
both (Some rows) f p q = f rows p q

-- how many were read
count_read : {X Y : Type 0} (f : X → Y) (reads : List X) (i : ℕ) (parts : List Y) → map f reads ≡ take i parts → i < length parts → length reads ≡ i
count_read f reads i parts is inside = sym (length-map reads f) ∙ ap length is ∙ length-take-le i parts (omega arith)

-- ---- resistors

-- the ends of one of the resistors are points of the rig, whose number stays
pub resistor-inside : {n m : ℕ} (parts : List Resistor) (i : ℕ) (part : Resistor) → All (λ (r : Resistor). (r.a < n) × (r.b < n)) parts → i < length parts
    → part ≡ get_or parts i part → m ≡ n → (part.a < m) × (part.b < m)
resistor-inside {n} {m} parts i part all inside is same =
    let at = subst (λ (r : Resistor). (r.a < n) × (r.b < n)) (sym is) (all i part inside) in
    let one = at.0 in
    let other = at.1 in
    (omega arith, omega arith)

abbrev resistor_of : ResistorRead → Resistor
resistor_of x = x.part

pub resistors-none : (s : RigState) (parts : List Resistor) (before : List PartFault) → ProbedResistors s s (take 0 parts) before before
resistors-none s parts before = record {
  reads = [];
  parts_are = refl;
  happens = Happens-none s;
  faults = sym (append-nil before);
  truth = λ honest. none s.truth;
  fits = All-nil OhmsFit;
}
  where
    none : (truth : Option (List Row)) → IfSome truth (λ rows. All (IsOhms s.points rows) [])
    none None = tt
    none (Some rows) = All-nil (IsOhms s.points rows)

pub resistors-more : {s t u : RigState} {before after : List PartFault} (parts : List Resistor) (i : ℕ) (part : Resistor) (o : Option ℕ)
    → i < length parts → part ≡ get_or parts i part → ProbedResistors s t (take i parts) before after → ReadsOhms t u part.a part.b (Ok o) → IfSome o IsReading
    → ProbedResistors s u (take (i + 1) parts) before (after ++ cons_option (numbered_fault i (resistor_fault part o)) [])
resistors-more {s} {t} {u} {before} {after} parts i part o inside is p call fit =
    let x : ResistorRead = record { part = part; ohms = o } in
    let added : ℕ → List PartFault = λ k. cons_option (numbered_fault k (resistor_fault part o)) [] in
    let count = count_read resistor_of p.reads i parts p.parts_are inside in
    record {
      reads = p.reads ++ x ∷ [];
      parts_are =
          map-append resistor_of p.reads (x ∷ [])
          ∙ ap (λ (ps : List Resistor). ps ++ part ∷ []) p.parts_are
          ∙ ap (λ (r : Resistor). take i parts ++ r ∷ []) is
          ∙ sym (take_more parts i part inside);
      happens = Happens-as (sym (map-append ohms_event p.reads (x ∷ []))) (Happens-then p.happens (Happens-ohms (Ok o) call));
      faults =
          ap (λ (fs : List PartFault). fs ++ added i) p.faults
          ∙ append_assoc before (resistor_faults 0 p.reads) (added i)
          ∙ ap (λ (k : ℕ). before ++ (resistor_faults 0 p.reads ++ added k)) (omega (arith, count))
          ∙ ap (λ (fs : List PartFault). before ++ fs) (sym (resistor_faults-push 0 p.reads x));
      truth = λ honest.
          both {P = λ rows. All (IsOhms s.points rows) p.reads} {Q = λ rows. o ≡ ohms_of rows s.points part.a part.b} {R = λ rows. All
          (IsOhms s.points rows) (p.reads ++ x ∷ [])} s.truth
          (λ rows all one. All-push (IsOhms s.points rows) p.reads x all one) (p.truth honest)
          (moved (λ rows n. o ≡ ohms_of rows n part.a part.b) p.happens call.truth honest);
      fits = All-push OhmsFit p.reads x p.fits fit;
    }

-- ---- diodes

pub diode-inside : {n m : ℕ} (parts : List Diode) (i : ℕ) (part : Diode) → All (λ (d : Diode). (d.from < n) × (d.to < n)) parts → i < length parts
    → part ≡ get_or parts i part → m ≡ n → (part.from < m) × (part.to < m)
diode-inside {n} {m} parts i part all inside is same =
    let at = subst (λ (d : Diode). (d.from < n) × (d.to < n)) (sym is) (all i part inside) in
    let one = at.0 in
    let other = at.1 in
    (omega arith, omega arith)

abbrev diode_of : DiodeRead → Diode
diode_of x = x.part

pub diodes-none : (s : RigState) (first : ℕ) (parts : List Diode) (before : List PartFault) → ProbedDiodes s s first (take 0 parts) before before
diodes-none s first parts before = record {
  reads = [];
  parts_are = refl;
  happens = Happens-none s;
  faults = sym (append-nil before);
  truth = λ honest. none s.truth;
  fits = All-nil JunctionFits;
}
  where
    none : (truth : Option (List Row)) → IfSome truth (λ rows. All (IsJunction s.points rows) [])
    none None = tt
    none (Some rows) = All-nil (IsJunction s.points rows)

pub diodes-more : {s t u w : RigState} {before after : List PartFault} (first : ℕ) (parts : List Diode) (i : ℕ) (part : Diode) (f b : Option ℕ)
    → i < length parts → part ≡ get_or parts i part → ProbedDiodes s t first (take i parts) before after
    → ReadsJunction t u part.from part.to (Ok f) → IfSome f IsReading → ReadsJunction u w part.to part.from (Ok b) → IfSome b IsReading
    → ProbedDiodes s w first (take (i + 1) parts) before (after ++ cons_option (numbered_fault (first + i) (diode_fault part f b)) [])
diodes-more {s} {t} {u} {w} {before} {after} first parts i part f b inside is p forward fit back fits =
    let x : DiodeRead = record { part = part; forward = f; back = b } in
    let added : ℕ → List PartFault = λ k. cons_option (numbered_fault k (diode_fault part f b)) [] in
    let count = count_read diode_of p.reads i parts p.parts_are inside in
    let first_then = Happens-then p.happens (Happens-junction (Ok f) forward) in
    record {
      reads = p.reads ++ x ∷ [];
      parts_are =
          map-append diode_of p.reads (x ∷ [])
          ∙ ap (λ (ps : List Diode). ps ++ part ∷ []) p.parts_are
          ∙ ap (λ (d : Diode). take i parts ++ d ∷ []) is
          ∙ sym (take_more parts i part inside);
      happens =
          Happens-as (sym (flat_map-append junction_events p.reads (x ∷ [])))
          (Happens-then p.happens (Happens-then (Happens-junction (Ok f) forward) (Happens-junction (Ok b) back)));
      faults =
          ap (λ (fs : List PartFault). fs ++ added (first + i)) p.faults
          ∙ append_assoc before (diode_faults first p.reads) (added (first + i))
          ∙ ap (λ (k : ℕ). before ++ (diode_faults first p.reads ++ added (first + k))) (sym count)
          ∙ ap (λ (fs : List PartFault). before ++ fs) (sym (diode_faults-push first p.reads x));
      truth = λ honest.
          both {P = λ rows. All (IsJunction s.points rows) p.reads} {Q = λ rows. IsJunction s.points rows x} {R = λ rows. All (IsJunction s.points rows)
          (p.reads ++ x ∷ [])} s.truth
          (λ rows all one. All-push (IsJunction s.points rows) p.reads x all one) (p.truth honest)
          (both {P = λ rows. f ≡ junction_of rows s.points part.from part.to} {Q = λ rows. b ≡ junction_of rows s.points part.to part.from} {R =
          λ rows. IsJunction s.points rows x} s.truth
          (λ rows one two. (one, two))
          (moved (λ rows n. f ≡ junction_of rows n part.from part.to) p.happens forward.truth honest)
          (moved (λ rows n. b ≡ junction_of rows n part.to part.from) first_then back.truth honest));
      fits = All-push JunctionFits p.reads x p.fits (fit, fits);
    }
