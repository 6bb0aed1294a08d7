-- One application that the unit is to withstand, put together.
use Rattle.std.proofs.Common.{◌≡◌, ℕ, zero, suc, ◌+◌, ◌/◌, true, false, List, [], ◌∷◌, ◌++◌, Option, Some, None, Result, Ok, Err, IsTrue, refl, sym, ◌∙◌, ap, subst, arith, inl, inr, append_assoc, append-nil}
use Rattle.std.specs.Prelude.{All, IfErr, IfOk, IfSome}
use Rattle.std.proofs.lemmas.List.Elements.{All-append, All-cons, All-nil}
use Rattle.partition.specs.Partitions.{Meets}
use Rattle.rig.specs.declared.event.Event.{Event}
use Rattle.rig.specs.declared.event.Event.TheVariants.{Leak, Raise, Residual, Route, Tick, Zero}
use Rattle.rig.specs.declared.event.Leak.{Leak as LeakReading}
use Rattle.rig.specs.declared.rig.RigStop.{RigStop}
use Rattle.rig.specs.declared.rig.RigStop.TheVariants.{Failed}
use Rattle.rig.specs.declared.powered.RaiseStop.{RaiseStop}
use Rattle.rig.specs.declared.powered.RaiseStop.TheVariants.{DoorOpen, Rig as RigFailed, Memory as MemoryRanOut}
use Rattle.rig.specs.declared.unit.Row.{Row}
use Rattle.rig.specs.RigState.{RigState, Groups}
use Rattle.rig.specs.Discharge.{WaitEnds, Waits, waited}
use Rattle.rig.specs.Powered.{GoesDown, IsStuck, stop_cause}
use Rattle.rig.specs.Source.{source_after}
use Rattle.rig.specs.Values.{leak_of}
use Rattle.rig.proofs.Happening.{Happens-honest, Happens-points, Happens-truth}
use Rattle.applications.specs.declared.endurance.Breakdown.{Breakdown}
use Rattle.applications.specs.declared.endurance.Endurance.{Endurance}
use Rattle.applications.specs.declared.stop.HvStop.{HvStop}
use Rattle.applications.specs.declared.stop.HvStop.TheVariants.{InterlockOpen, NotDischarged, RigWhileSafe, RigBefore, NotZero, Memory}
use Rattle.applications.specs.Counting.{Gains}
use Rattle.applications.specs.Holding.{BreaksOff, IsCalm}
use Rattle.applications.specs.Measuring.{FinishStops, Finishes, HvStopped, Runs, Starts, StopsAtRest, StopsOpen, StopsStuck, tick_count}
use Rattle.applications.specs.Enduring.{Breaks, Endures, Held, HoldsBelow, IsNoLeak, LeaksBetween, TellsLeaks}
use Rattle.applications.specs.Standing.{BreaksOnce, Stands, StandsOnce, TellsBetween}
use Rattle.applications.proofs.Allowed.{Leads-append, allowed-append, leak_leads}
use Rattle.applications.proofs.one_application.Climbing.{calm_done, calm_source, one_of}
use Rattle.applications.proofs.Counted.{gain_leak, gain_route, gains-append, gains-less, last_gains, waited_gains, zeros_gains}
use Rattle.applications.proofs.one_by_one.Lasting.{discharged-none, leads-raised, raise-raised}
use Rattle.applications.proofs.one_application.Parts.{within-append}
use Rattle.applications.proofs.Resting.{last-cases, zeros}
use Rattle.applications.proofs.one_application.Together.{Powering, broken-powering, charged-runs, down-runs, open-runs, rests-now, stops-memory, stuck-runs, wait-runs, zeros-split}

-- ---- no leak after the zero calls

zeros-no_leak : (k : ℕ) → All IsNoLeak (zeros k)
zeros-no_leak zero = All-cons IsNoLeak (Zero true) [] tt (All-nil IsNoLeak)
zeros-no_leak (suc k) = All-cons IsNoLeak (Zero false) (zeros k) tt (zeros-no_leak k)

waited-no_leak : (vs : List ℕ) → All IsNoLeak (waited vs)
waited-no_leak [] = All-nil IsNoLeak
waited-no_leak (v ∷ vs) = All-cons IsNoLeak (Residual v) (Tick ∷ waited vs) tt (All-cons IsNoLeak Tick (waited vs) tt (waited-no_leak vs))

last-no_leak : (result : Result (Option ℕ) RigStop) (waits : List ℕ) (last : List Event) → WaitEnds result waits last → All IsNoLeak last
last-no_leak result waits last ends = elim (last-cases result waits last ends) as (λ _. All IsNoLeak last) [
  | inl is ↦ subst (All IsNoLeak) (sym is) (All-nil IsNoLeak)
  | inr is ↦ subst (All IsNoLeak) (sym is.1) (All-cons IsNoLeak (Residual is.0) [] tt (All-nil IsNoLeak))
]

-- ---- what was held

held-powering : {s t : RigState} (test : Endurance) → (held : Held s t test) → Powering s t (held.climb ++ Raise test.volts true ∷ held.dwell) None
held-powering test held = record { happens = held.happens; of_source = calm_source (held.climb ++ Raise test.volts true ∷ held.dwell) held.part.calm; allowed = held.part.leads.allowed; done = λ calm. calm_done (held.climb ++ Raise test.volts true ∷ held.dwell) held.part.calm }

breaks-powering : {s t : RigState} (most nanoamps : ℕ) (broken : Breakdown) → (b : Breaks s t most nanoamps broken) → Powering s t (b.climb ++ Leak broken.leak ∷ []) None
breaks-powering most nanoamps broken b =
    let calm : All IsCalm (b.climb ++ Leak broken.leak ∷ []) = All-append IsCalm b.climb (Leak broken.leak ∷ []) b.part.calm (one_of (Leak broken.leak) (tt, tt)) in
    record {
      happens = b.happens;
      of_source = calm_source (b.climb ++ Leak broken.leak ∷ []) calm;
      allowed = allowed-append (Leak broken.leak ∷ []) b.part.leads (leak_leads broken.volts broken.leak).allowed;
      done = λ still. calm_done (b.climb ++ Leak broken.leak ∷ []) calm;
    }

pub record Powers (old new : RigState) : Type 0 where
  pub events : List Event
  pub powering : Powering old new events None

powers : {s t : RigState} (test : Endurance) (broken : Option Breakdown) → Endures s t test broken → Powers s t
powers test None held = record { events = _; powering = held-powering test held }
powers test (Some broken) b = record { events = _; powering = breaks-powering test.volts test.nanoamps broken b }

-- ---- put together

first-zero : (es : List Event) (z : Event) (zs tail : List Event) → (es ++ z ∷ zs) ++ tail ≡ (es ++ z ∷ []) ++ (zs ++ tail)
first-zero es z zs tail = append_assoc es (z ∷ zs) tail ∙ sym (append_assoc es (z ∷ []) (zs ++ tail))

module _ (bonds a b : List ℕ) (apart : Meets bonds a b → ⊥) {s p : RigState} (q : RigState) (starts : Starts s p a b) where
  tells-groups : (P : (ℕ → LeakReading) → Type 0) → TellsLeaks p P → TellsBetween s a b P
  tells-groups P tells = λ honest.
      let one = starts.happens in
      let Q : Option (List Row) → Option Groups → ℕ → Type 0 = λ o x n. IfSome o (λ rows. IfSome x (λ groups. P (leak_of rows n groups.left groups.right))) in
      subst (λ o. Q o (Some (record { left = a; right = b })) s.points) (Happens-truth one)
      (subst (λ n. Q p.truth (Some (record { left = a; right = b })) n) (Happens-points one)
      (subst (λ x. Q p.truth x p.points) (ap (λ (x : RigState). x.route) one.frame) (tells (subst IsTrue (sym (Happens-honest one)) honest))))

  stood-once : {r w : RigState} (test : Endurance) → Held p q test → GoesDown q r → Waits r w (Ok None) → StandsOnce bonds s w a b test
  stood-once {r} {w} test held down waits =
      let v : ℕ = test.volts in
      let t : ℕ = test.ticks in
      let es : List Event = held.climb ++ Raise v true ∷ held.dwell in
      let tail : List Event = waited waits.waits ++ waits.last in
      let zs = zeros-split down.failed in
      let run : List Event = Route a b ∷ held.climb ++ Raise v true ∷ held.dwell ++ Zero zs.first ∷ [] in
      let whole : (Route a b ∷ es ++ zeros down.failed) ++ tail ≡ run ++ (zs.others ++ tail) =
      ap (λ (ys : List Event). (Route a b ∷ es ++ ys) ++ tail) zs.are ∙ first-zero (Route a b ∷ es) (Zero zs.first) zs.others tail in
      let runs = wait-runs bonds a b apart q starts (held-powering test held) down waits waits.happens tt in
      let counts : Gains 0 0 1 (v / 50) t t ((Route a b ∷ es ++ zeros down.failed) ++ tail) =
      gains-less (omega arith) (omega arith) (omega arith) (omega arith)
      (gains-append (gains-append (gain_route 0 a b) (gains-append held.part.gains (zeros_gains v down.failed)))
      (gains-append (waited_gains 0 waits.waits) (last_gains 0 (Ok None) waits.waits waits.last waits.ends))) in
      record {
        run = run;
        rest = zs.others ++ tail;
        runs = subst (λ (ys : List Event). Runs bonds s w ys None) whole runs;
        standing = record {
          climb = held.climb;
          dwell = held.dwell;
          zeroed = zs.first;
          events = refl;
          no_route = held.no_route;
          no_zero = held.no_zero;
          ticks = let count = held.count [] in let same = ap tick_count (append-nil held.dwell) in omega arith;
          read = subst (LeaksBetween false) (append-nil held.dwell) (held.read [] tt);
          within = (tt, within-append test.nanoamps 0 es (Zero zs.first ∷ []) held.part.within (tt, tt));
        };
        counts = subst (Gains 0 0 1 (v / 50) t t) whole counts;
        truth = tells-groups (λ f. HoldsBelow f test.nanoamps (v + 50)) held.truth;
        discharged =
            discharged-none (Route a b ∷ es) down.failed (down-runs bonds a b apart q starts (held-powering test held) down).happens
            (λ x. raise-raised held.climb v held.dwell (source_after x (Route a b))) waits;
      }

  broke-once : {r w : RigState} (test : Endurance) (broken : Breakdown) → Breaks p q test.volts test.nanoamps broken → GoesDown q r → Waits r w (Ok None) → BreaksOnce bonds s w a b test broken
  broke-once {r} {w} test broken h down waits =
      let v : ℕ = broken.volts in
      let g : LeakReading = broken.leak in
      let es : List Event = h.climb ++ Leak g ∷ [] in
      let tail : List Event = waited waits.waits ++ waits.last in
      record {
        events = (Route a b ∷ es ++ zeros down.failed) ++ tail;
        runs = wait-runs bonds a b apart q starts (breaks-powering test.volts test.nanoamps broken h) down waits waits.happens tt;
        last = record {
          before = [];
          climb = h.climb;
          after = zeros down.failed ++ tail;
          events_are = append_assoc (Route a b ∷ es) (zeros down.failed) tail ∙ append_assoc (Route a b ∷ h.climb) (Leak g ∷ []) (zeros down.failed ++ tail);
          no_route = h.part.no_route;
          volts = h.part.gains.volts;
          no_leak = All-append IsNoLeak (zeros down.failed) tail (zeros-no_leak down.failed) (All-append IsNoLeak (waited waits.waits) waits.last (waited-no_leak waits.waits) (last-no_leak (Ok None) waits.waits waits.last waits.ends));
        };
        is = record { some = h.some; by_fifty = h.by_fifty; at_most = h.at_most; above = h.above };
        counts =
            gains-less (omega arith) (omega arith) (omega arith) (omega arith)
            (gains-append (gains-append (gain_route 0 a b) (gains-append (gains-append h.part.gains (gain_leak v g)) (zeros_gains v down.failed)))
            (gains-append (waited_gains 0 waits.waits) (last_gains 0 (Ok None) waits.waits waits.last waits.ends)));
        truth = tells-groups (λ f. HoldsBelow f test.nanoamps v × (g ≡ f v)) h.truth;
        discharged =
            discharged-none (Route a b ∷ es) down.failed (down-runs bonds a b apart q starts (breaks-powering test.volts test.nanoamps broken h) down).happens
            (λ x. leads-raised (Leads-append h.part.leads (leak_leads v g)) h.some (source_after x (Route a b))) waits;
      }

  -- ---- the exits

  applied : {r w : RigState} (test : Endurance) (broken : Option Breakdown) → Endures p q test broken → GoesDown q r → Waits r w (Ok None) → Stands bonds s w a b test broken
  applied test None held down waits = stood-once test held down waits
  applied test (Some broken) h down waits = broke-once test broken h down waits

  pub stand-ok : {r w : RigState} (test : Endurance) (held : Result (Option Breakdown) RaiseStop) (broken : Option Breakdown) → IfOk held (Endures p q test) → GoesDown q r → Finishes r w held broken → Stands bonds s w a b test broken
  stand-ok test held broken was down finishes =
      applied test broken (subst (λ (h : Result (Option Breakdown) RaiseStop). IfOk h (Endures p q test)) finishes.held_so was) down finishes.waits

  pub stand-stuck : {r : RigState} (test : Endurance) (held : Result (Option Breakdown) RaiseStop) → IfOk held (Endures p q test) → IfErr held (BreaksOff p q) → IsStuck q r → StopsStuck bonds s r
  stand-stuck test (Ok broken) was off stuck = stuck-runs bonds a b apart q starts (powers test broken was).powering stuck
  stand-stuck test (Err stop) was off stuck = stuck-runs bonds a b apart q starts (broken-powering starts.zero off) stuck

  held-off : (held : Result (Option Breakdown) RaiseStop) (stop : RaiseStop) → held ≡ Err stop → IfErr held (BreaksOff p q) → BreaksOff p q stop
  held-off held stop is off = subst (λ (h : Result (Option Breakdown) RaiseStop). IfErr h (BreaksOff p q)) is off

  held-powers : (test : Endurance) (held : Result (Option Breakdown) RaiseStop) (broken : Option Breakdown) → held ≡ Ok broken → IfOk held (Endures p q test) → Powers p q
  held-powers test held broken is was = powers test broken (subst (λ (h : Result (Option Breakdown) RaiseStop). IfOk h (Endures p q test)) is was)

  off-rests : {r : RigState} {stop : RaiseStop} → BreaksOff p q stop → GoesDown q r → StopsAtRest bonds s r (stop_cause stop)
  off-rests off down = record { events = _; runs = down-runs bonds a b apart q starts (broken-powering starts.zero off) down }

  wait-rests : {r w : RigState} {e : RigStop} → Powers p q → GoesDown q r → Waits r w (Err e) → StopsAtRest bonds s w (Some e)
  wait-rests h down waits = record { events = _; runs = wait-runs bonds a b apart q starts h.powering down waits waits.happens tt }

  pub stand-err : {R : Type 0} (state : R → RigState) {r : RigState} (test : Endurance) (held : Result (Option Breakdown) RaiseStop) (stop : HvStop R)
      → IfOk held (Endures p q test) → IfErr held (BreaksOff p q) → GoesDown q r → FinishStops state r held stop → HvStopped state bonds s stop
  stand-err state {r} test held (InterlockOpen safe) was off down f = subst (λ (x : RigState). StopsOpen bonds s x) (sym f.1) (open-runs bonds a b apart q starts (held-off held DoorOpen f.0 off) down)
  stand-err state test held (NotDischarged safe w) was off down f = charged-runs bonds a b apart q starts (held-powers test held f.0 f.1 was).powering down f.2
  stand-err state {r} test held (RigWhileSafe safe) was off down f = elim f as (λ _. StopsAtRest bonds s (state safe.rig) (Some Failed)) [
    | inl x ↦ rests-now x.1 (off-rests (held-off held RigFailed x.0 off) down)
    | inr x ↦ wait-rests (held-powers test held x.0 x.1 was) down x.2
  ]
  stand-err state test held (RigBefore proven) was off down f = absurd f
  stand-err state test held (NotZero stuck) was off down f = absurd f
  stand-err state {r} test held (Memory rig) was off down f = elim f as (λ _. StopsAtRest bonds s (state rig) None) [
    | inl x ↦ rests-now x.1 (stops-memory (off-rests (held-off held MemoryRanOut x.0 off) down))
    | inr x ↦ stops-memory (wait-rests (held-powers test held x.0 x.1 was) down x.2)
  ]
