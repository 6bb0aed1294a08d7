-- The check of components, and high voltage after it.
use Rattle.std.proofs.Common.{◌≡◌, ◌<◌, ◌+◌, get_or, ℕ, true, false, List, [], ◌∷◌, ◌++◌, length, Option, Some, None, refl, sym, ◌∙◌, ap, subst, arith}
use Rattle.std.specs.Prelude.{All, IsSome, unwrap_or, nat_lt, fold}
use Rattle.std.proofs.lemmas.Bool.{lt-ltb}
use Rattle.std.proofs.Math.Path.{fun_ext}
use Rattle.std.proofs.lemmas.List.Sums.{fold-append}
use Rattle.std.proofs.lemmas.List.Elements.{All-append, All-head, All-tail}
use Rattle.rig.specs.Happened.{Happens}
use Rattle.rig.specs.RigState.{RigState}
use Rattle.rig.specs.Trail.{IsOfSource, IsProbe}
use Rattle.rig.specs.declared.event.Event.{Event}
use Rattle.rig.specs.declared.event.Event.TheVariants.{Reading, Ohms, Junction, Door, Route, Raise, Leak, Zero, Residual, Tick}
use Rattle.rig.specs.declared.event.Tally.{Tally}
use Rattle.rig.specs.declared.rig.RigStop.{RigStop}
use Rattle.rig.specs.declared.rig.RigStop.TheVariants.{Failed, Memory as NoMemory}
use Rattle.rig.specs.declared.unit.Row.{Row}
use Rattle.rig.proofs.Happening.{AllSteady, junction_steady, ohms_steady, steady-volts}
use Rattle.wirelist.specs.declared.faults.PartFault.{PartFault}
use Rattle.wirelist.specs.declared.outcome.Outcome.{Outcome}
use Rattle.wirelist.specs.declared.outcome.Outcome.TheVariants as outcome
use Rattle.wirelist.specs.declared.program.Program.{Program}
use Rattle.parts_check.specs.Checking.{ChecksParts, StaysInOrder, StopsChecking, parts_stop_cause, parts_stop_state}
use Rattle.parts_check.specs.PartRule.{part_faults, part_faults_by}
use Rattle.parts_check.specs.PartsRead.{PartsRead, junction_after, last_junction, last_ohms, ohms_after}
use Rattle.parts_check.specs.Probed.{Probed, diode_probes, probes_of, resistor_probes}
use Rattle.parts_check.specs.declared.check.PartsStop.{PartsStop}
use Rattle.parts_check.specs.declared.check.PartsStop.TheVariants as parts
use Rattle.parts_check.proofs.Stopping.{diode_probes-IsProbe, resistor_probes-IsProbe}
use Rattle.applications.proofs.NotCharged.{IsNoResidual}
use Rattle.unit_outcome.specs.Defined.{has_part_fault, proven_charge, proven_outcome, voltage_charge, voltage_outcome}
use Rattle.unit_outcome.specs.Enough.{Voltage, all_probes, no_voltage, voltage_for}
use Rattle.unit_outcome.specs.Shown.{MeasuredShown, PartsShown, Shows, StoodShown}
use Rattle.unit_outcome.specs.Spent.{OfRows}
use Rattle.sequence.specs.Halted.{parts_stop}
use Rattle.sequence.specs.Stages.{Adds, FindsProven, FindsVoltage, Goes, Grows, IsNoReading, IsOfProven, IsOfVoltage, StopsLate}
use Rattle.sequence.proofs.Going.{all-each, goes-then, not_charged-of, rows-before, rows-both, rows-each, stops-later}
use Rattle.sequence.proofs.Tallying.{grows-then}
use Rattle.sequence.proofs.stages.Voltages.{later-trail, trail-both}

-- ---- events of components

probe-no_reading : (e : Event) → IsProbe e → IsNoReading e
probe-no_reading (Ohms a b r) h = tt
probe-no_reading (Junction a b d) h = tt
probe-no_reading _ h = absurd h

probe-no_residual : (e : Event) → IsProbe e → IsNoResidual e
probe-no_residual (Ohms a b r) h = tt
probe-no_residual (Junction a b d) h = tt
probe-no_residual _ h = absurd h

probes-steady : (es : List Event) → All IsProbe es → AllSteady es
probes-steady [] all = tt
probes-steady (Ohms a b r ∷ es) all = (ohms_steady a b r, probes-steady es (All-tail IsProbe (Ohms a b r) es all))
probes-steady (Junction a b d ∷ es) all = (junction_steady a b d, probes-steady es (All-tail IsProbe (Junction a b d) es all))
probes-steady (Reading a b met ∷ es) all = absurd (All-head IsProbe (Reading a b met) es all)
probes-steady (Door closed ∷ es) all = absurd (All-head IsProbe (Door closed) es all)
probes-steady (Route a b ∷ es) all = absurd (All-head IsProbe (Route a b) es all)
probes-steady (Raise v done ∷ es) all = absurd (All-head IsProbe (Raise v done) es all)
probes-steady (Leak g ∷ es) all = absurd (All-head IsProbe (Leak g) es all)
probes-steady (Zero done ∷ es) all = absurd (All-head IsProbe (Zero done) es all)
probes-steady (Residual v ∷ es) all = absurd (All-head IsProbe (Residual v) es all)
probes-steady (Tick ∷ es) all = absurd (All-head IsProbe Tick es all)

all-probes : (probed : Probed) → All IsProbe (probes_of probed)
all-probes probed = All-append IsProbe (resistor_probes probed.resistors) (diode_probes probed.diodes) (resistor_probes-IsProbe probed.resistors) (diode_probes-IsProbe probed.diodes)

abbrev goes-probes : (p : Program) {s t : RigState} (es : List Event) {stop : Option RigStop} → s.volts ≡ 0 → All IsProbe es → Happens s t es stop → StaysInOrder s t → Goes p s t stop
goes-probes p es zeroed all happens order = record {
  events = es;
  happens = happens;
  no_reading = all-each es probe-no_reading all;
  not_charged = not_charged-of es (all-each es probe-no_residual all);
  order = λ h. order _ _ h;
  at_zero = steady-volts happens (probes-steady es all) ∙ zeroed;
}

pub goes-checked : (p : Program) {s t : RigState} {faults : List PartFault} → s.volts ≡ 0 → StaysInOrder s t → ChecksParts p s t faults → Goes p s t None
goes-checked p zeroed order made = goes-probes p (probes_of made.probed) zeroed (all-probes made.probed) made.happens order

-- ---- the readings of components stand behind events of the source

past-ohms : (a b : ℕ) (found : Option (Option ℕ)) (es : List Event) → All IsOfSource es → fold (ohms_after a b) found es ≡ found
past-ohms a b found [] all = refl
past-ohms a b found (e ∷ es) all = ap (λ (o : Option (Option ℕ)). fold (ohms_after a b) o es) (one e (All-head IsOfSource e es all)) ∙ past-ohms a b found es (All-tail IsOfSource e es all)
  where
    one : (e : Event) → IsOfSource e → ohms_after a b found e ≡ found
    one (Ohms p q r) h = absurd h
    one _ h = refl

past-junction : (a b : ℕ) (found : Option (Option ℕ)) (es : List Event) → All IsOfSource es → fold (junction_after a b) found es ≡ found
past-junction a b found [] all = refl
past-junction a b found (e ∷ es) all = ap (λ (o : Option (Option ℕ)). fold (junction_after a b) o es) (one e (All-head IsOfSource e es all)) ∙ past-junction a b found es (All-tail IsOfSource e es all)
  where
    one : (e : Event) → IsOfSource e → junction_after a b found e ≡ found
    one (Junction p q d) h = absurd h
    one _ h = refl

module _ (es : List Event) (all : All IsOfSource es) (trail : List Event) where
  same-ohms : (a b : ℕ) → last_ohms (trail ++ es) a b ≡ last_ohms trail a b
  same-ohms a b = fold-append (ohms_after a b) None trail es ∙ past-ohms a b (last_ohms trail a b) es all

  same-junction : (a b : ℕ) → last_junction (trail ++ es) a b ≡ last_junction trail a b
  same-junction a b = fold-append (junction_after a b) None trail es ∙ past-junction a b (last_junction trail a b) es all

  pub parts-after : (p : Program) (faults : List PartFault) → PartsRead p trail faults → PartsRead p (trail ++ es) faults
  parts-after p faults read = record {
    resistors = λ k d lt. let r = get_or p.resistors k d in subst (λ (o : Option (Option ℕ)). IsSome o) (sym (same-ohms r.a r.b)) (read.resistors k d lt);
    diodes = λ k d lt.
        let x = get_or p.diodes k d in (
          subst (λ (o : Option (Option ℕ)). IsSome o) (sym (same-junction x.from x.to)) (read.diodes k d lt).0,
          subst (λ (o : Option (Option ℕ)). IsSome o) (sym (same-junction x.to x.from)) (read.diodes k d lt).1,
        );
    faults_are =
        ap (λ (f : ℕ → ℕ → Option ℕ). part_faults_by p f (λ a b. unwrap_or (last_junction (trail ++ es) a b) None)) (fun_ext (λ a. fun_ext (λ b. ap (λ (o : Option (Option ℕ)). unwrap_or o None) (same-ohms a b))))
        ∙ ap (λ (f : ℕ → ℕ → Option ℕ). part_faults_by p (λ a b. unwrap_or (last_ohms trail a b) None) f) (fun_ext (λ a. fun_ext (λ b. ap (λ (o : Option (Option ℕ)). unwrap_or o None) (same-junction a b))))
        ∙ read.faults_are;
  }

-- ---- the outcome

more-probes : (p : Program) {s t : RigState} {faults : List PartFault} → ChecksParts p s t faults → Grows (Adds (all_probes p) no_voltage) s t
more-probes p made = record {
  change = λ (y : Tally). record y { probes = y.probes + all_probes p };
  tallies = made.counted;
  so = λ y. record {
    serial = refl;
    attempt = refl;
    readings = refl;
    more_probes = omega arith;
    more_routes = omega arith;
    more_raises = omega arith;
    more_ticks = omega arith;
    more_leaks = omega arith;
  };
}

probes-then : (n : ℕ) (v : Voltage) (x y z : Tally) → Adds n no_voltage x y → Adds 0 v y z → Adds n v x z
probes-then n v x y z first second = record {
  serial = second.serial ∙ first.serial;
  attempt = second.attempt ∙ first.attempt;
  readings = second.readings ∙ first.readings;
  more_probes = let a = first.more_probes in let b = second.more_probes in omega arith;
  more_routes = let a = first.more_routes in let b = second.more_routes in omega arith;
  more_raises = let a = first.more_raises in let b = second.more_raises in omega arith;
  more_ticks = let a = first.more_ticks in let b = second.more_ticks in omega arith;
  more_leaks = let a = first.more_leaks in let b = second.more_leaks in omega arith;
}

of-proven : (o : Outcome) → IsOfVoltage o → IsOfProven o
of-proven outcome.Pass h = tt
of-proven (outcome.Wiring d) h = h
of-proven (outcome.Parts faults) h = tt
of-proven (outcome.Insulation faults) h = tt
of-proven (outcome.Withstand bit volts leak) h = tt

shows-parts : (p : Program) (o : Outcome) (trail : List Event) → IsOfVoltage o → PartsRead p trail [] → PartsShown p o trail
shows-parts p outcome.Pass trail h read = read
shows-parts p (outcome.Wiring d) trail h read = tt
shows-parts p (outcome.Parts faults) trail h read = absurd h
shows-parts p (outcome.Insulation faults) trail h read = read
shows-parts p (outcome.Withstand bit volts leak) trail h read = read

-- where no component is faulty the rest decides
no-fault : (p : Program) (rows : List Row) → [] ≡ part_faults p rows → has_part_fault p rows ≡ false
no-fault p rows is = sym (ap (λ (l : List PartFault). nat_lt 0 (length l)) is)

module _ (p : Program) {s t : RigState} (zeroed : s.volts ≡ 0) (order : StaysInOrder s t) where
  no-faults : ChecksParts p s t [] → OfRows s (λ rows. has_part_fault p rows ≡ false)
  no-faults made = rows-each s (λ rows. [] ≡ part_faults p rows) (λ rows. has_part_fault p rows ≡ false) (λ rows is. no-fault p rows is) (λ honest told. made.truth honest)

  pub proven-then : {u : RigState} (o : Outcome) → ChecksParts p s t [] → FindsVoltage p t u o → FindsProven p s u o
  proven-then {u} o made f = record {
    goes = goes-then (goes-checked p zeroed order made) f.goes;
    of_proven = of-proven o f.of_voltage;
    in_range = f.in_range;
    counts = grows-then _ _ _ (probes-then (all_probes p) (voltage_for p o)) (more-probes p made) f.counts;
    shown = trail-both (λ trail. PartsRead p trail []) (λ trail. MeasuredShown p o trail × StoodShown p o trail) (Shows p o) u.trail
        (λ trail h k. record { parts = shows-parts p o trail f.of_voltage h; measured = k.0; stood = k.1 })
        (later-trail (λ trail. PartsRead p trail []) (λ trail. PartsRead p trail []) (λ trail read. parts-after f.goes.events f.of_source trail p [] read) f.goes.happens made.read) f.shown;
    truth = rows-both s (λ rows. has_part_fault p rows ≡ false) (λ rows. (o ≡ voltage_outcome p rows) × (voltage_charge p rows ≡ None)) (λ rows. (o ≡ proven_outcome p rows) × (proven_charge p rows ≡ None))
        (λ rows h k. (k.0 ∙ sym (rw h refl), rw h k.1)) (no-faults made) (rows-before _ made.happens f.truth);
  }

  pub proven-faults : (faults : List PartFault) → ChecksParts p s t faults → 0 < length faults → FindsProven p s t (outcome.Parts faults)
  proven-faults faults made some = record {
    goes = goes-checked p zeroed order made;
    of_proven = tt;
    in_range = made.in_range some;
    counts = more-probes p made;
    shown = trail-both (λ trail. PartsRead p trail faults) (λ trail. PartsRead p trail faults) (Shows p (outcome.Parts faults)) t.trail (λ trail h k. record { parts = h; measured = tt; stood = tt }) made.read made.read;
    truth = rows-each s (λ rows. faults ≡ part_faults p rows) (λ rows. (outcome.Parts faults ≡ proven_outcome p rows) × (proven_charge p rows ≡ None))
        (λ rows is.
        let has : has_part_fault p rows ≡ true = sym (ap (λ (l : List PartFault). nat_lt 0 (length l)) is) ∙ lt-ltb 0 (length faults) some in
        (ap (λ (l : List PartFault). outcome.Parts l) is ∙ sym (rw has refl), rw has refl))
        (λ honest told. made.truth honest);
  }

  -- a stop at high voltage
  pub proven-stops : {R : Type 0} (state : R → RigState) → ChecksParts p s t [] → (stop : _) → StopsLate state p (voltage_charge p) t stop → StopsLate state p (proven_charge p) s stop
  proven-stops state made stop h =
      stops-later state p (goes-checked p zeroed order made) (proven_charge p) (voltage_charge p)
      (λ v k. rows-both s (λ rows. has_part_fault p rows ≡ false) (λ rows. voltage_charge p rows ≡ Some v) (λ rows. proven_charge p rows ≡ Some v) (λ rows e is. rw e is) (no-faults made) k)
      stop h

-- a stop of the check
pub late-parts : {R : Type 0} (state : R → RigState) (p : Program) (s : RigState) → s.volts ≡ 0 → (stop : PartsStop R) → StopsChecking s (state (parts_stop_state stop).rig) (parts_stop_cause stop)
    → StaysInOrder s (state (parts_stop_state stop).rig) → StopsLate state p (proven_charge p) s (parts_stop stop)
late-parts state p s zeroed (parts.Rig proven) h order = (record { stop = Some Failed; goes = goes-probes p h.events zeroed h.probes h.happens order }, h.happens.cause.rose refl)
late-parts state p s zeroed (parts.Memory proven) h order = record { stop = Some NoMemory; goes = goes-probes p h.events zeroed h.probes h.happens order }
