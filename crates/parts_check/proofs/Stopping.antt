-- Where a call was refused.
use Rattle.std.proofs.Common.{◌≡◌, ℕ, List, [], ◌∷◌, ◌++◌, Option, Some, None, Result, Ok, Err, sym, ◌∙◌, ap, subst, append-nil}
use Rattle.std.specs.Prelude.{All, IfErr, IsErrAnd}
use Rattle.std.proofs.lemmas.List.Elements.{All-append, All-cons, All-nil, All-weaker}
use Rattle.wirelist.specs.declared.parts.Diode.{Diode}
use Rattle.wirelist.specs.declared.parts.Resistor.{Resistor}
use Rattle.wirelist.specs.declared.faults.PartFault.{PartFault}
use Rattle.rig.specs.declared.event.Event.{Event}
use Rattle.rig.specs.declared.event.Event.TheVariants.{Reading, Ohms, Junction, Door, Route, Raise, Leak, Zero, Residual, Tick}
use Rattle.rig.specs.declared.rig.RigStop.{RigStop}
use Rattle.rig.specs.declared.rig.RigStop.TheVariants.{Failed, Memory}
use Rattle.rig.specs.Calls.{ReadsJunction, ReadsOhms}
use Rattle.rig.specs.Happened.{Happens, IsDone}
use Rattle.rig.specs.RigState.{RigState}
use Rattle.rig.specs.Trail.{IsProbe}
use Rattle.rig.proofs.CallEvents.{Happens-junction, Happens-ohms}
use Rattle.rig.proofs.Happening.{Happens-as, Happens-then}
use Rattle.parts_check.specs.Checking.{StopsChecking}
use Rattle.parts_check.specs.Probed.{DiodeRead, ResistorRead, diode_probes, junction_events, ohms_event, resistor_probes}
use Rattle.parts_check.specs.Turns.{ProbedDiodes, ProbedResistors}

-- readings of components are such readings, and no call that failed
pub resistor_probes-IsProbe : (reads : List ResistorRead) → All IsProbe (resistor_probes reads)
resistor_probes-IsProbe [] = All-nil IsProbe
resistor_probes-IsProbe (x ∷ xs) = All-cons IsProbe (ohms_event x) (resistor_probes xs) tt (resistor_probes-IsProbe xs)

two-IsProbe : (x : DiodeRead) → All IsProbe (junction_events x)
two-IsProbe x =
    All-cons IsProbe (Junction x.part.from x.part.to x.forward) (Junction x.part.to x.part.from x.back ∷ []) tt
    (All-cons IsProbe (Junction x.part.to x.part.from x.back) [] tt (All-nil IsProbe))

pub diode_probes-IsProbe : (reads : List DiodeRead) → All IsProbe (diode_probes reads)
diode_probes-IsProbe [] = All-nil IsProbe
diode_probes-IsProbe (x ∷ xs) = All-append IsProbe (junction_events x) (diode_probes xs) (two-IsProbe x) (diode_probes-IsProbe xs)

probe_done : (e : Event) → IsProbe e → IsDone e
probe_done (Ohms a b r) is = tt
probe_done (Junction a b d) is = tt
probe_done (Reading a b met) is = absurd is
probe_done (Door closed) is = absurd is
probe_done (Route a b) is = absurd is
probe_done (Raise v done) is = absurd is
probe_done (Leak g) is = absurd is
probe_done (Zero done) is = absurd is
probe_done (Residual v) is = absurd is
probe_done Tick is = absurd is

stops : {s t : RigState} {es : List Event} (e : RigStop) → All IsProbe es → Happens s t es (Some e) → StopsChecking s t e
stops {s} {t} {es} e probes h = record {
  events = es;
  probes = probes;
  happens = h;
  no_fault =
      λ is. h.no_fault (λ failed. let both : Some Memory ≡ Some Failed = ap Some (sym is) ∙ failed in cc) (All-weaker IsProbe IsDone probe_done es probes);
}

-- more was read before
pub stops-after : {s t u : RigState} {es : List Event} {e : RigStop} → All IsProbe es → Happens s t es None → StopsChecking t u e → StopsChecking s u e
stops-after {s} {t} {u} {es} {e} probes first stopped =
    stops e (All-append IsProbe es stopped.events probes stopped.probes) (Happens-then first stopped.happens)

refused : {s t u : RigState} {es : List Event} {e : RigStop} → All IsProbe es → Happens s t es None → Happens t u [] (Some e) → StopsChecking s u e
refused {s} {t} {u} {es} {e} probes first last = stops e probes (Happens-as (append-nil es) (Happens-then first last))

-- the exits of a `?`
passed : {T : Type 0} {s u : RigState} {e : RigStop} → StopsChecking s u e → (result : Result T RigStop) → IsErrAnd result (λ y. y ≡ e)
    → IfErr result (StopsChecking s u)
passed stopped (Ok x) is = absurd is
passed {T} {s} {u} stopped (Err y) is = subst (StopsChecking s u) (sym is) stopped

pub stopped-on : {T : Type 0} {s t u : RigState} {es : List Event} {e : RigStop} → All IsProbe es → Happens s t es None → StopsChecking t u e
    → (result : Result T RigStop) → IsErrAnd result (λ y. y ≡ e) → IfErr result (StopsChecking s u)
stopped-on probes first stopped result is = passed (stops-after probes first stopped) result is

pub no_memory : {T : Type 0} {s t : RigState} {es : List Event} → All IsProbe es → Happens s t es None → (result : Result T RigStop)
    → IsErrAnd result (λ y. y ≡ Memory) → IfErr result (StopsChecking s t)
no_memory {T} {s} {t} {es} probes h result is =
    passed (stops Memory probes (record {
      frame = h.frame;
      cause = record { later = h.cause.later; rose = λ failed. cc };
      no_fault = λ calm done. h.no_fault
          (λ failed. cc) done;
      told = h.told;
    })) result is

-- ---- resistors

module _ {T : Type 0} {s t : RigState} {parts : List Resistor} {before after : List PartFault} (p : ProbedResistors s t parts before after) where
  pub resistors-refused : {u : RigState} {a b : ℕ} {e : RigStop} → ReadsOhms t u a b (Err e) → (result : Result T RigStop) → IsErrAnd result (λ y. y ≡ e)
      → IfErr result (StopsChecking s u)
  resistors-refused {u} {a} {b} {e} call result is = passed (refused (resistor_probes-IsProbe p.reads) p.happens (Happens-ohms (Err e) call)) result is

  -- no memory for the fault of the last one
  pub resistors-no_memory : {u : RigState} {a b : ℕ} {o : Option ℕ} → ReadsOhms t u a b (Ok o) → (result : Result T RigStop)
      → IsErrAnd result (λ y. y ≡ Memory) → IfErr result (StopsChecking s u)
  resistors-no_memory {u} {a} {b} {o} call result is =
      no_memory (All-append IsProbe (resistor_probes p.reads) (Ohms a b o ∷ []) (resistor_probes-IsProbe p.reads)
      (All-cons IsProbe (Ohms a b o) [] tt (All-nil IsProbe)))
      (Happens-then p.happens (Happens-ohms (Ok o) call)) result is

-- ---- diodes

one-IsProbe : (reads : List DiodeRead) (a b : ℕ) (o : Option ℕ) → All IsProbe (diode_probes reads ++ Junction a b o ∷ [])
one-IsProbe reads a b o =
    All-append IsProbe (diode_probes reads) (Junction a b o ∷ []) (diode_probes-IsProbe reads) (All-cons IsProbe (Junction a b o) [] tt (All-nil IsProbe))

module _ {T : Type 0} {s t : RigState} {first : ℕ} {parts : List Diode} {before after : List PartFault} (p : ProbedDiodes s t first parts before after) where
  pub diodes-refused : {u : RigState} {a b : ℕ} {e : RigStop} → ReadsJunction t u a b (Err e) → (result : Result T RigStop) → IsErrAnd result (λ y. y ≡ e)
      → IfErr result (StopsChecking s u)
  diodes-refused {u} {a} {b} {e} call result is = passed (refused (diode_probes-IsProbe p.reads) p.happens (Happens-junction (Err e) call)) result is

  -- the reading back was refused
  pub back-refused : {u w : RigState} {a b c d : ℕ} {o : Option ℕ} {e : RigStop} → ReadsJunction t u a b (Ok o) → ReadsJunction u w c d (Err e)
      → (result : Result T RigStop) → IsErrAnd result (λ y. y ≡ e) → IfErr result (StopsChecking s w)
  back-refused {u} {w} {a} {b} {c} {d} {o} {e} forward back result is =
      passed (refused (one-IsProbe p.reads a b o) (Happens-then p.happens (Happens-junction (Ok o) forward)) (Happens-junction (Err e) back)) result is

  pub diodes-no_memory : {u w : RigState} {a b c d : ℕ} {o v : Option ℕ} → ReadsJunction t u a b (Ok o) → ReadsJunction u w c d (Ok v)
      → (result : Result T RigStop) → IsErrAnd result (λ y. y ≡ Memory) → IfErr result (StopsChecking s w)
  diodes-no_memory {u} {w} {a} {b} {c} {d} {o} {v} forward back result is =
      no_memory (All-append IsProbe (diode_probes p.reads ++ Junction a b o ∷ []) (Junction c d v ∷ []) (one-IsProbe p.reads a b o)
      (All-cons IsProbe (Junction c d v) [] tt (All-nil IsProbe)))
      (Happens-then (Happens-then p.happens (Happens-junction (Ok o) forward)) (Happens-junction (Ok v) back)) result is
