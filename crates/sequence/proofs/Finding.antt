-- What the test of a unit with an outcome leaves.
use Rattle.std.proofs.Common.{◌≡◌, ◌≤◌, ◌+◌, ◌-◌, ℕ, Bool, true, false, List, [], ◌∷◌, length, Option, Some, None, Ok, refl, sym, ◌∙◌, ap, subst, arith}
use Rattle.std.specs.Prelude.{All, IfSome}
use Rattle.std.proofs.lemmas.Bool.{ltb-false}
use Rattle.std.proofs.lemmas.List.Elements.{All-nil}
use Rattle.partition.specs.Classes.{judged_in}
use Rattle.partition.specs.NetTable.{judged_points, programmed_of}
use Rattle.partition.specs.Partitions.{JoinsAllOf}
use Rattle.difference.specs.Difference.{difference_of}
use Rattle.difference.specs.Measured.{IsMeasured}
use Rattle.difference.specs.Rebuild.{rebuilt}
use Rattle.difference.specs.declared.wiring.Difference.{Difference}
use Rattle.difference.proofs.DifferenceRange.{difference-within}
use Rattle.difference.proofs.EmptyLaw.{difference-programmed, empty-programmed, rebuild-law}
use Rattle.difference.proofs.Judging.{measured-over}
use Rattle.rig.specs.Joins.{truth_of}
use Rattle.rig.specs.RigState.{RigState}
use Rattle.rig.specs.Seating.{Seats}
use Rattle.rig.specs.Trail.{Determines, ReadsAmong}
use Rattle.rig.specs.declared.event.Event.{Event}
use Rattle.rig.specs.declared.event.Tally.{Tally}
use Rattle.rig.specs.declared.rig.SeatAnswer.TheVariants.{Present}
use Rattle.rig.proofs.Happening.{Happens-determines, Happens-none}
use Rattle.wirelist.specs.Programs.{IsProgram}
use Rattle.wirelist.specs.Ranges.{OutcomeInRange, most_points}
use Rattle.wirelist.specs.declared.outcome.Outcome.{Outcome}
use Rattle.wirelist.specs.declared.outcome.Outcome.TheVariants.{Pass, Wiring, Parts, Insulation, Withstand}
use Rattle.wirelist.specs.declared.program.Program.{Program}
use Rattle.learn.specs.Learned.{IsLearned}
use Rattle.unit_outcome.specs.Defined.{charged_of, differs, outcome_of, proven_charge, proven_outcome, unit_difference}
use Rattle.unit_outcome.specs.Enough.{Enough, all_probes, checking_readings, class_count, judged_count, net_classes, no_voltage, probes_for, readings_for, stated_classes, voltage_for}
use Rattle.isolate.specs.Pieces.{most_diagnosing}
use Rattle.unit_outcome.specs.Found.{HasOutcome, found_of, told_by}
use Rattle.unit_outcome.specs.Shown.{Shows}
use Rattle.unit_outcome.specs.Spent.{Checks, Diagnoses, OfRows, Spends}
use Rattle.unit_outcome.specs.Tested.{HasUnit, IsTallyOf, IsTested, Keeps}
use Rattle.sequence.specs.Stages.{Adds, FindsProven, IsNoReading, IsOfProven}
use Rattle.sequence.specs.Whole.{EndsWith}
use Rattle.sequence.specs.Wired.{IsAsProgrammed, IsDifferent, ReadsWiring}
use Rattle.sequence.proofs.Going.{rows-both, rows-each}
use Rattle.sequence.proofs.Judged.{few-points, judged-over_in, judged-programmed_in}
use Rattle.sequence.proofs.stages.Passing.{Passed, counted-tally, passed-judged, passed-keeps, passed-not_charged, passed-unit, read-not_charged, read-order, read-volts, seat-judged, spent-now}
use Rattle.sequence.proofs.Tallying.{adds-none, grows-none}
use Rattle.sequence.proofs.Telling.{Sees, rows-after, sees, told-each}
use Rattle.sequence.proofs.stages.Wirings.{all-over, still-judged}

-- ---- differences

nothing_of : {X : Type 0} (xs : List X) → length xs ≡ 0 → xs ≡ []
nothing_of [] e = refl
nothing_of (x ∷ xs) e = absurd (omega arith)

module _ (p : Program) (ok : IsProgram p) where
  -- a partition that is not the programmed one differs
  differs-other : (m : List ℕ) (d : Difference) → IsMeasured p.nets m → d ≡ difference_of p.nets m → (m ≡ programmed_of p.nets → ⊥) → differs d ≡ true
  differs-other m d measured is other = at (differs d) refl
    where
      at : (b : Bool) → differs d ≡ b → differs d ≡ true
      at true e = e
      at false e =
          let none = ltb-false 0 (length d.opens + length d.shorts + length d.miswires) e in
          absurd (other (empty-programmed p.nets ok.nets m measured
          (sym (ap (λ (x : Difference). x.opens) is) ∙ nothing_of d.opens (omega arith))
          (sym (ap (λ (x : Difference). x.shorts) is) ∙ nothing_of d.shorts (omega arith))
          (sym (ap (λ (x : Difference). x.miswires) is) ∙ nothing_of d.miswires (omega arith))))

  -- what the readings determine is the unit's own partition
  own-partition : {t : RigState} (m : List ℕ) → t.points ≡ p.nets.points → judged_in m ≡ judged_points p.nets → IfSome t.trail (All (ReadsAmong m)) → IsLearned t m
      → OfRows t (λ rows. m ≡ truth_of rows (judged_points p.nets) p.nets.points)
  own-partition {t} m points judged among learned = λ honest told.
      let Q : ℕ → List ℕ → Type 0 = λ n js. IfSome t.truth (λ rows. m ≡ truth_of rows js n) in
      subst (λ (n : ℕ). Q n (judged_points p.nets)) points (subst (λ (js : List ℕ). Q t.points js) judged (learned.truth honest told among))

  of-proven : (o : Outcome) → IsOfProven o → (P : List ℕ → Type 0) → P (programmed_of p.nets) → P (stated_classes p o)
  of-proven Pass h P k = k
  of-proven (Wiring d) h P k = absurd h
  of-proven (Parts faults) h P k = k
  of-proven (Insulation faults) h P k = k
  of-proven (Withstand bit volts leak) h P k = k

  proven-readings : (o : Outcome) → IsOfProven o → readings_for p o ≡ checking_readings p
  proven-readings Pass h = refl
  proven-readings (Wiring d) h = absurd h
  proven-readings (Parts faults) h = refl
  proven-readings (Insulation faults) h = refl
  proven-readings (Withstand bit volts leak) h = refl

  proven-probes : (o : Outcome) → IsOfProven o → probes_for p o ≡ all_probes p
  proven-probes Pass h = refl
  proven-probes (Wiring d) h = absurd h
  proven-probes (Parts faults) h = refl
  proven-probes (Insulation faults) h = refl
  proven-probes (Withstand bit volts leak) h = refl

  proven-spends : (o : Outcome) (old u : RigState) → IsOfProven o → Checks p old u → Spends p o old u
  proven-spends Pass old u h k = k
  proven-spends (Wiring d) old u h k = absurd h
  proven-spends (Parts faults) old u h k = k
  proven-spends (Insulation faults) old u h k = k
  proven-spends (Withstand bit volts leak) old u h k = k

  enough-proven : (o : Outcome) (n : ℕ) (y z : Tally) → IsOfProven o → y.readings ≡ n → n ≡ checking_readings p → Adds (all_probes p) (voltage_for p o) y z → Enough p o z
  enough-proven o n y z h read exact adds =
      let readings = proven-readings o h in
      let probes = proven-probes o h in
      record {
        readings = let same = adds.readings in omega arith;
        probes = let more = adds.more_probes in omega arith;
        routes = let more = adds.more_routes in omega arith;
        raises = let more = adds.more_raises in omega arith;
        ticks = let more = adds.more_ticks in omega arith;
        leaks = let more = adds.more_leaks in omega arith;
      }

module _ (p : Program) (ok : IsProgram p) (serial : List ℕ) (attempt : ℕ) {old s : RigState} (seat : Seats old s serial attempt (Ok Present)) (points : p.nets.points ≡ old.points) (zeroed : old.volts ≡ 0) where
  -- the outcome of a rig that tells its units
  told-outcome : {u : RigState} (o : Outcome) → Keeps old u → HasUnit serial attempt old u → OfRows u (λ rows. (o ≡ outcome_of p rows) × (charged_of p rows ≡ None))
      → IfSome (told_by p old) (λ findings. HasOutcome (findings serial attempt) o)
  told-outcome {u} o keeps unit truth =
      told-each (told_by p old) (Sees p serial attempt (λ rows. (o ≡ outcome_of p rows) × (charged_of p rows ≡ None))) _
      (λ findings seen. let so = seen.so in record { found = found_of p seen.rows; there = seen.there; discharged = so.1; outcome_is = so.0 })
      (sees p serial attempt keeps unit _ truth)

  points-then : {t : RigState} {stop : Option _} → ReadsWiring p s t stop → t.points ≡ p.nets.points
  points-then wiring = ap (λ (v : RigState). v.points) wiring.reads.frame ∙ ap (λ (v : RigState). v.points) (seat.present refl) ∙ sym points

  -- ---- the wiring is as programmed

  pub no-difference-of : {t : RigState} → IsAsProgrammed p (checking_readings p) s t → OfRows t (λ rows. differs (unit_difference p rows) ≡ false)
  no-difference-of {t} wired =
      rows-each t (λ rows. programmed_of p.nets ≡ truth_of rows (judged_points p.nets) p.nets.points) (λ rows. differs (unit_difference p rows) ≡ false)
      (λ rows is. ap differs (ap (difference_of p.nets) (sym is) ∙ difference-programmed p.nets ok.nets (programmed_of p.nets) refl))
      (own-partition p ok (programmed_of p.nets) (points-then wired.wiring) (judged-programmed_in p ok) (still-judged {p = p} (seat-judged p serial attempt seat) wired.wiring) wired.learned)

  module _ {t u : RigState} (o : Outcome) (wired : IsAsProgrammed p (checking_readings p) s t) (found : FindsProven p t u o) where
    abbrev passed : Passed p s u
    passed = record { read = t; first = None; wiring = wired.wiring; events = found.goes.events; last = None; happens = found.goes.happens; no_reading = found.goes.no_reading }

    truth : OfRows u (λ rows. (o ≡ outcome_of p rows) × (charged_of p rows ≡ None))
    truth =
        rows-after _ found.goes.happens
        (rows-both t (λ rows. differs (unit_difference p rows) ≡ false) (λ rows. (o ≡ proven_outcome p rows) × (proven_charge p rows ≡ None)) (λ rows. (o ≡ outcome_of p rows) × (charged_of p rows ≡ None))
        (λ rows h k. (k.0 ∙ sym (rw h refl), rw h k.1)) (no-difference-of wired) found.truth)

    pub tested-proven : IsTested p serial attempt old u o
    tested-proven = record {
      keeps = passed-keeps p serial attempt seat passed;
      unit = passed-unit p serial attempt seat passed;
      truth = truth;
      told = told-outcome o (passed-keeps p serial attempt seat passed) (passed-unit p serial attempt seat passed) truth;
      in_range = found.in_range;
      determined = of-proven p ok o found.of_proven (Determines u) (Happens-determines found.goes.happens (programmed_of p.nets) wired.learned.proven.determines);
      judged = passed-judged p serial attempt seat passed;
      shown = found.shown;
      tally = counted-tally p serial attempt seat (Adds (all_probes p) (voltage_for p o)) (λ tally. IsTallyOf serial attempt tally × Enough p o tally) wired.wiring found.counts
          (λ y z a b c adds. ((adds.serial ∙ a, adds.attempt ∙ b), enough-proven p ok o (t.spent - s.spent) y z found.of_proven c (let exact = wired.spent in omega arith) adds));
      spent = proven-spends p ok o old u found.of_proven
          (let same = spent-now p serial attempt seat passed in let exact = wired.spent in let first = ap (λ (v : RigState). v.spent) (seat.present refl) in omega arith);
      at_zero = found.goes.at_zero;
      order = found.goes.order (read-order p serial attempt seat wired.wiring);
      not_charged = passed-not_charged p serial attempt seat passed found.goes.not_charged;
    }

  -- ---- the wiring differs

  module _ {u : RigState} (d : Difference) (h : IsDifferent p (checking_readings p) s u d) where
    abbrev only-read : Passed p s u
    only-read = record { read = u; first = None; wiring = h.wiring; events = []; last = None; happens = Happens-none u; no_reading = All-nil IsNoReading }

    measured : IsMeasured p.nets h.measured
    measured = measured-over p.nets h.measured h.learned.proven.partition.partition ok.nets (few-points p ok) h.over

    gives-back : rebuilt p.nets d ≡ h.measured
    gives-back = ap (rebuilt p.nets) h.difference_is ∙ rebuild-law p.nets ok.nets h.measured measured

    differing : OfRows u (λ rows. (Wiring d ≡ outcome_of p rows) × (charged_of p rows ≡ None))
    differing =
        rows-both u (λ rows. h.measured ≡ truth_of rows (judged_points p.nets) p.nets.points) (λ rows. h.measured ≡ programmed_of p.nets → ⊥) (λ rows. (Wiring d ≡ outcome_of p rows) × (charged_of p rows ≡ None))
        (λ rows is other.
        let same : d ≡ unit_difference p rows = h.difference_is ∙ ap (difference_of p.nets) is in
        let yes : differs (unit_difference p rows) ≡ true = sym (ap differs same) ∙ differs-other p ok h.measured d measured h.difference_is other in
        (ap (λ (x : Difference). Wiring x) same ∙ sym (rw yes refl), rw yes refl))
        (own-partition p ok h.measured (points-then h.wiring) (judged-over_in p ok h.measured h.learned.proven.partition.partition h.over)
        (all-over h.over u.trail (still-judged {p = p} (seat-judged p serial attempt seat) h.wiring)) h.learned)
        h.faulty

    shown-wiring : (trail : Option (List Event)) → IfSome trail (Shows p (Wiring d))
    shown-wiring None = tt
    shown-wiring (Some es) = record { parts = tt; measured = tt; stood = tt }

    diagnoses : Diagnoses p old u d
    diagnoses = record {
      pieces = h.pieces;
      over = h.of_all;
      of_nets = h.of_nets;
      of_classes = subst (λ (m : List ℕ). JoinsAllOf m h.pieces) (sym gives-back) h.of_classes;
      some = h.some;
      few = h.few;
      at_most = let same = ap class_count gives-back in
          let first = ap (λ (v : RigState). v.spent) (seat.present refl) in
          subst (λ (m : List ℕ). u.spent ≤ old.spent + (checking_readings p + most_diagnosing (judged_count p) (net_classes p) (class_count h.pieces) (class_count m))) (sym gives-back)
          (subst (λ (n : ℕ). u.spent ≤ n + (checking_readings p + most_diagnosing (judged_count p) (net_classes p) (class_count h.pieces) (class_count h.measured))) first h.at_most);
      own = h.own;
    }

    pub tested-different : IsTested p serial attempt old u (Wiring d)
    tested-different = record {
      keeps = passed-keeps p serial attempt seat only-read;
      unit = passed-unit p serial attempt seat only-read;
      truth = differing;
      told = told-outcome (Wiring d) (passed-keeps p serial attempt seat only-read) (passed-unit p serial attempt seat only-read) differing;
      in_range = subst (λ (x : Difference). OutcomeInRange (Wiring x)) (sym h.difference_is) (difference-within p.nets h.measured most_points ok.nets ok.points);
      determined = subst (Determines u) (sym gives-back) h.learned.proven.determines;
      judged = passed-judged p serial attempt seat only-read;
      shown = shown-wiring u.trail;
      tally = counted-tally p serial attempt seat (Adds 0 no_voltage) (λ tally. IsTallyOf serial attempt tally × Enough p (Wiring d) tally) h.wiring (grows-none (Adds 0 no_voltage) {s = u} {t = u} adds-none refl)
          (λ y z a b c adds. (
            (adds.serial ∙ a, adds.attempt ∙ b),
            record {
              readings = let same = ap class_count gives-back in let least = h.at_least in let read = adds.readings in omega arith;
              probes = omega arith;
              routes = omega arith;
              raises = omega arith;
              ticks = omega arith;
              leaks = omega arith;
            },
          ));
      spent = diagnoses;
      at_zero = read-volts p serial attempt seat h.wiring ∙ zeroed;
      order = read-order p serial attempt seat h.wiring;
      not_charged = read-not_charged p serial attempt seat h.wiring;
    }

  pub tested : {u : RigState} (o : Outcome) → EndsWith p s u o → IsTested p serial attempt old u o
  tested Pass h = tested-proven Pass h.wired h.found
  tested (Wiring d) h = tested-different d h
  tested (Parts faults) h = tested-proven (Parts faults) h.wired h.found
  tested (Insulation faults) h = tested-proven (Insulation faults) h.wired h.found
  tested (Withstand bit volts leak) h = tested-proven (Withstand bit volts leak) h.wired h.found
