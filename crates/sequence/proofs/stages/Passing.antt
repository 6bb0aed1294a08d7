-- From before the seat: readings, and then other events.
use Rattle.std.proofs.Common.{◌≡◌, ◌+◌, ◌-◌, ℕ, Bool, true, false, List, [], ◌∷◌, ◌++◌, Option, Some, None, Ok, refl, sym, ◌∙◌, ap, subst, arith, append_assoc, append-nil, zero-add, if◌then◌else◌}
use Rattle.std.specs.Prelude.{All, IfSome, MatchOption, is_some, nat_lt, option_map}
use Rattle.std.proofs.lemmas.List.Elements.{All-append, All-head, All-nil, All-tail}
use Rattle.partition.specs.NetTable.{programmed_of}
use Rattle.rig.specs.Calls.{counted}
use Rattle.rig.specs.Happened.{Happens, happened, happened_all, spent_after, tally_after, tally_all, volts_after, with_last}
use Rattle.rig.specs.HvOrder.{HvOrder, OrderAfter}
use Rattle.rig.specs.Joins.{unit_rows}
use Rattle.rig.specs.RigState.{RigState}
use Rattle.rig.specs.Seating.{Seats, emptied, empty_tally, with_tally}
use Rattle.rig.specs.Source.{Ends, Source, at_rest, source_of}
use Rattle.rig.specs.Trail.{Extends, IsReading, ReadsAmong}
use Rattle.rig.specs.declared.event.Event.{Event}
use Rattle.rig.specs.declared.event.Event.TheVariants.{Reading, Ohms, Junction, Door, Route, Raise, Leak, Zero, Residual, Tick}
use Rattle.rig.specs.declared.event.Tally.{Tally}
use Rattle.rig.specs.declared.rig.RigStop.{RigStop}
use Rattle.rig.specs.declared.rig.SeatAnswer.TheVariants.{Present}
use Rattle.rig.proofs.Happening.{Happens-fixed, Happens-trail, Happens-truth, followed}
use Rattle.rig.proofs.Order.{source_from-append}
use Rattle.rig.proofs.Tallies.{Happens-tallies}
use Rattle.wirelist.specs.Clusters.{cluster_classes}
use Rattle.wirelist.specs.declared.program.Program.{Program}
use Rattle.applications.specs.Measuring.{IsNotCharged}
use Rattle.applications.proofs.NotCharged.{IsNoResidual, charged-append}
use Rattle.unit_outcome.specs.Tested.{AddsTally, HasUnit, IsBegun, IsInOrderOf, IsTallyOf, Keeps}
use Rattle.sequence.specs.Stages.{Grows, IsNoReading}
use Rattle.sequence.specs.Wired.{IsOfJudged, ReadsWiring}
use Rattle.sequence.proofs.Going.{all-each, not_charged-of, opens-kept}
use Rattle.sequence.proofs.Judged.{all-after}
use Rattle.sequence.proofs.Tallying.{with_last-end}

-- ---- events that are no readings

spent-kept : (es : List Event) (s : RigState) → All IsNoReading es → (happened_all es s).spent ≡ s.spent
spent-kept [] s all = refl
spent-kept (e ∷ es) s all = spent-kept es (happened e s) (All-tail IsNoReading e es all) ∙ one e (All-head IsNoReading e es all)
  where
    one : (e : Event) → IsNoReading e → spent_after s.spent e ≡ s.spent
    one (Reading a b met) h = absurd h
    one _ h = refl

not_read-among : (m : List ℕ) (e : Event) → IsNoReading e → ReadsAmong m e
not_read-among m (Reading a b met) h = absurd h
not_read-among m _ h = tt

reading-no_residual : (e : Event) → IsReading e → IsNoResidual e
reading-no_residual (Reading a b met) h = tt
reading-no_residual _ h = absurd h

-- ---- readings alone are in the order

order-readings : (classes bonds : List ℕ) (before es : List Event) → source_of before ≡ at_rest → All IsReading es → OrderAfter classes bonds before es × (source_of (before ++ es) ≡ at_rest)
order-readings classes bonds before [] rest all = (tt, ap source_of (append-nil before) ∙ rest)
order-readings classes bonds before (Reading a b met ∷ es) rest all =
    let e : Event = Reading a b met in
    let next : source_of (before ++ e ∷ []) ≡ at_rest = source_from-append at_rest before (e ∷ []) ∙ rest in
    let more = order-readings classes bonds (before ++ e ∷ []) es next (All-tail IsReading e es all) in
    ((record { source = ap (λ (s : Source). s.volts) rest; readings = tt }, more.0), ap source_of (sym (append_assoc before (e ∷ []) es)) ∙ more.1)
order-readings classes bonds before (Ohms a b r ∷ es) rest all = absurd (All-head IsReading (Ohms a b r) es all)
order-readings classes bonds before (Junction a b d ∷ es) rest all = absurd (All-head IsReading (Junction a b d) es all)
order-readings classes bonds before (Door closed ∷ es) rest all = absurd (All-head IsReading (Door closed) es all)
order-readings classes bonds before (Route a b ∷ es) rest all = absurd (All-head IsReading (Route a b) es all)
order-readings classes bonds before (Raise v done ∷ es) rest all = absurd (All-head IsReading (Raise v done) es all)
order-readings classes bonds before (Leak g ∷ es) rest all = absurd (All-head IsReading (Leak g) es all)
order-readings classes bonds before (Zero done ∷ es) rest all = absurd (All-head IsReading (Zero done) es all)
order-readings classes bonds before (Residual v ∷ es) rest all = absurd (All-head IsReading (Residual v) es all)
order-readings classes bonds before (Tick ∷ es) rest all = absurd (All-head IsReading Tick es all)

-- ---- by whether a trail is told

-- what holds of readings alone
fresh : (P : List Event → Type 0) (o new : Option (List Event)) → ((es : List Event) → All IsReading es → P es) → Extends IsReading (emptied o) new → IfSome new P
fresh P None new f is = let Q : Option (List Event) → Type 0 = λ x. IfSome x P in subst Q (sym is) tt
fresh P (Some old) new f (more, all, is) = let Q : Option (List Event) → Type 0 = λ x. IfSome x P in subst Q (sym is) (f more all)

extends-told : (P : Event → Type 0) (old new : Option (List Event)) → Extends P old new → is_some new ≡ is_some old
extends-told P None new is = ap (λ (o : Option (List Event)). is_some o) is
extends-told P (Some old) new (more, all, is) = ap (λ (o : Option (List Event)). is_some o) is

pub mapped-told : {X Y : Type 0} (f : X → Y) (o : Option X) → is_some (option_map f o) ≡ is_some o
mapped-told f None = refl
mapped-told f (Some x) = refl

followed-told : (es : List Event) (o : Option (List Event)) → is_some (followed es o) ≡ is_some o
followed-told es None = refl
followed-told es (Some t) = refl

-- ---- the tallies

abbrev SameUnit : Tally → Tally → Type 0
SameUnit y z = (z.serial ≡ y.serial) × (z.attempt ≡ y.attempt)

tally-one : (v : ℕ) (e : Event) (y : Tally) → SameUnit y (tally_after v e y)
tally-one v (Reading a b met) y = (refl, refl)
tally-one v (Ohms a b r) y = (refl, refl)
tally-one v (Junction a b d) y = (refl, refl)
tally-one v (Door closed) y = (refl, refl)
tally-one v (Route a b) y = (refl, refl)
tally-one v (Raise w true) y = (refl, refl)
tally-one v (Raise w false) y = (refl, refl)
tally-one v (Leak g) y = (refl, refl)
tally-one v (Zero done) y = (refl, refl)
tally-one v (Residual w) y = (refl, refl)
tally-one v Tick y = at (nat_lt 0 v)
  where
    at : (b : Bool) → SameUnit y (if b then record y { ticks = y.ticks + 1 } else y)
    at true = (refl, refl)
    at false = (refl, refl)

tally-of : (v : ℕ) (es : List Event) (y : Tally) → SameUnit y (tally_all v es y)
tally-of v [] y = (refl, refl)
tally-of v (e ∷ es) y =
    let one = tally-one v e y in
    let more = tally-of (volts_after v e) es (tally_after v e y) in
    (more.0 ∙ one.0, more.1 ∙ one.1)

-- the last tally of a seating after readings and a change
added : (serial : List ℕ) (attempt n : ℕ) (f : Tally → Tally) (P : Tally → Type 0) (old s read u : Option (List Tally)) → s ≡ with_tally serial attempt old → read ≡ counted n s → u ≡ option_map (with_last f) read
    → ((y : Tally) → y.serial ≡ serial → y.attempt ≡ attempt → y.readings ≡ n → P (f y)) → MatchOption old (u ≡ None) (λ tallies. (tally : Tally) × (u ≡ Some (tallies ++ tally ∷ [])) × P tally)
added serial attempt n f P None s read u is more last g = last ∙ ap (option_map (with_last f)) (more ∙ ap (counted n) is)
added serial attempt n f P (Some list) s read u is more last g =
    let y : Tally = record (empty_tally serial attempt) { readings = n } in
    let first : read ≡ Some (list ++ y ∷ []) = more ∙ ap (counted n) is ∙ ap Some (with_last-end (λ tally. record tally { readings = tally.readings + n }) list (empty_tally serial attempt)) ∙ ap (λ (k : ℕ). Some (list ++ record (empty_tally serial attempt) { readings = k } ∷ [])) (zero-add n) in
    (f y, last ∙ ap (option_map (with_last f)) first ∙ ap Some (with_last-end f list y), g y refl refl refl)

-- ---- the whole

-- Readings of the wiring, and then other events.
pub record Passed (p : Program) (s u : RigState) : Type 0 where
  pub read : RigState
  pub first : Option RigStop
  pub wiring : ReadsWiring p s read first
  pub events : List Event
  pub last : Option RigStop
  pub happens : Happens read u events last
  pub no_reading : All IsNoReading events

module _ (p : Program) (serial : List ℕ) (attempt : ℕ) {old s : RigState} (seat : Seats old s serial attempt (Ok Present)) where
  pub seat-trail : s.trail ≡ emptied old.trail
  seat-trail = ap (λ (v : RigState). v.trail) (seat.present refl)

  pub seat-judged : IsOfJudged p s
  seat-judged = let Q : Option (List Event) → Type 0 = λ x. IfSome x (All (ReadsAmong (programmed_of p.nets))) in subst Q (sym seat-trail) (nil old.trail)
    where
      nil : (o : Option (List Event)) → IfSome (emptied o) (All (ReadsAmong (programmed_of p.nets)))
      nil None = tt
      nil (Some es) = All-nil (ReadsAmong (programmed_of p.nets))

  -- readings alone
  read-trail : {t : RigState} {stop : Option RigStop} (P : List Event → Type 0) → ((es : List Event) → All IsReading es → P es) → ReadsWiring p s t stop → IfSome t.trail P
  read-trail {t} P f wiring = fresh P old.trail t.trail f (subst (λ (o : Option (List Event)). Extends IsReading o t.trail) seat-trail wiring.reads.trail)

  pub read-order : {t : RigState} {stop : Option RigStop} → ReadsWiring p s t stop → IsInOrderOf p t
  read-order wiring =
      read-trail (λ trail. HvOrder (programmed_of p.nets) (cluster_classes p) trail × Ends trail)
      (λ es all. let order = order-readings (programmed_of p.nets) (cluster_classes p) [] es refl all in (order.0, ap (λ (x : Source). x.ended) order.1)) wiring

  pub read-not_charged : {t : RigState} {stop : Option RigStop} → ReadsWiring p s t stop → IfSome t.trail IsNotCharged
  read-not_charged wiring = read-trail IsNotCharged (λ es all. not_charged-of es (all-each es reading-no_residual all)) wiring

  pub read-volts : {t : RigState} {stop : Option RigStop} → ReadsWiring p s t stop → t.volts ≡ old.volts
  read-volts wiring = ap (λ (v : RigState). v.volts) wiring.reads.frame ∙ ap (λ (v : RigState). v.volts) (seat.present refl)

  module _ {u : RigState} (passed : Passed p s u) where
    pub spent-now : u.spent ≡ passed.read.spent
    spent-now = ap (λ (v : RigState). v.spent) passed.happens.frame ∙ spent-kept passed.events passed.read passed.no_reading

    pub passed-keeps : Keeps old u
    passed-keeps =
        let frame = seat.present refl in
        let reads = passed.wiring.reads in
        let same = Happens-fixed passed.happens in
        record {
          points = ap (λ (v : RigState). v.points) same ∙ ap (λ (v : RigState). v.points) reads.frame ∙ ap (λ (v : RigState). v.points) frame;
          honest = ap (λ (v : RigState). v.honest) same ∙ ap (λ (v : RigState). v.honest) reads.frame ∙ ap (λ (v : RigState). v.honest) frame;
          units = ap (λ (v : RigState). v.units) same ∙ ap (λ (v : RigState). v.units) reads.frame ∙ ap (λ (v : RigState). v.units) frame;
          states = ap (λ (v : RigState). v.states) same ∙ ap (λ (v : RigState). v.states) reads.frame ∙ ap (λ (v : RigState). v.states) frame;
          most_faults = ap (λ (v : RigState). v.most_faults) same ∙ ap (λ (v : RigState). v.most_faults) reads.frame ∙ ap (λ (v : RigState). v.most_faults) frame;
          most_opens = ap (λ (v : RigState). v.most_opens) same ∙ ap (λ (v : RigState). v.most_opens) reads.frame ∙ ap (λ (v : RigState). v.most_opens) frame;
          trail =
              ap (λ (o : Option (List Event)). is_some o) (Happens-trail passed.happens) ∙ followed-told passed.events passed.read.trail
              ∙ extends-told IsReading s.trail passed.read.trail reads.trail ∙ ap (λ (o : Option (List Event)). is_some o) seat-trail ∙ mapped-told _ old.trail;
          tallies =
              ap (λ (o : Option (List Tally)). is_some o) (Happens-tallies passed.happens) ∙ mapped-told _ passed.read.tallies
              ∙ ap (λ (o : Option (List Tally)). is_some o) reads.tallies.1 ∙ mapped-told _ s.tallies
              ∙ ap (λ (v : RigState). is_some v.tallies) frame ∙ mapped-told _ old.tallies;
          faults = omega (arith, seat.called.cause.later, reads.cause.later, passed.happens.cause.later);
          opens =
              let a = opens-kept passed.happens in
              let b = ap (λ (v : RigState). v.opens) reads.frame in
              let c = ap (λ (v : RigState). v.opens) frame in
              omega arith;
          spent = omega (arith, spent-now, reads.spent, ap (λ (v : RigState). v.spent) frame);
          seats =
              let a = ap (λ (v : RigState). v.seats) same in
              let b = ap (λ (v : RigState). v.seats) reads.frame in
              let c = seat.seats (λ is. cc) in
              omega arith;
          told = passed.happens.told (reads.told seat.called.told);
        }

    pub passed-unit : HasUnit serial attempt old u
    passed-unit = at old.units (seat.unit refl)
      where
        same : u.truth ≡ s.truth
        same = Happens-truth passed.happens ∙ ap (λ (v : RigState). v.truth) passed.wiring.reads.frame

        at : (o : Option _) → IfSome o (λ units. (rows : _) × (unit_rows units serial attempt ≡ Some rows) × (s.truth ≡ Some rows)) → IfSome o (λ units. (rows : _) × (unit_rows units serial attempt ≡ Some rows) × (u.truth ≡ Some rows))
        at None h = tt
        at (Some units) h = (h.0, h.1, same ∙ h.2)

    pub passed-judged : IfSome u.trail (All (ReadsAmong (programmed_of p.nets)))
    passed-judged =
        let before = all-after (ReadsAmong (programmed_of p.nets)) s.trail passed.read.trail seat-judged passed.wiring.judged in
        let Q : Option (List Event) → Type 0 = λ o. IfSome o (All (ReadsAmong (programmed_of p.nets))) in
        subst Q (sym (Happens-trail passed.happens)) (at passed.read.trail before)
      where
        at : (o : Option (List Event)) → IfSome o (All (ReadsAmong (programmed_of p.nets))) → IfSome (followed passed.events o) (All (ReadsAmong (programmed_of p.nets)))
        at None h = tt
        at (Some t) h = All-append (ReadsAmong (programmed_of p.nets)) t passed.events h (all-each passed.events (not_read-among (programmed_of p.nets)) passed.no_reading)

    -- a trail that was not charged before, and these events
    pub passed-not_charged : IsNotCharged passed.events → IfSome u.trail IsNotCharged
    passed-not_charged more =
        let Q : Option (List Event) → Type 0 = λ o. IfSome o IsNotCharged in
        subst Q (sym (Happens-trail passed.happens)) (at passed.read.trail (read-not_charged passed.wiring))
      where
        at : (o : Option (List Event)) → IfSome o IsNotCharged → IfSome (followed passed.events o) IsNotCharged
        at None h = tt
        at (Some t) h = charged-append t passed.events h more

    pub passed-tally : AddsTally (IsTallyOf serial attempt) old u
    passed-tally =
        let reads = passed.wiring.reads in
        added serial attempt reads.tallies.0 (tally_all passed.read.volts passed.events) (IsTallyOf serial attempt) old.tallies s.tallies passed.read.tallies u.tallies
        (ap (λ (v : RigState). v.tallies) (seat.present refl)) reads.tallies.1 (Happens-tallies passed.happens)
        (λ y a b c. let same = tally-of passed.read.volts passed.events y in (same.0 ∙ a, same.1 ∙ b))

    pub passed-begun : IsBegun p serial attempt old u
    passed-begun = record { unit = passed-unit; judged = passed-judged; tally = passed-tally }

  -- what the tally counts where no reading was refused
  pub counted-tally : {t u : RigState} (P : Tally → Tally → Type 0) (R : Tally → Type 0) → ReadsWiring p s t None → Grows P t u → ((y z : Tally) → y.serial ≡ serial → y.attempt ≡ attempt → y.readings ≡ t.spent - s.spent → P y z → R z) → AddsTally R old u
  counted-tally {t} {u} P R wiring grows f =
      added serial attempt (t.spent - s.spent) grows.change R old.tallies s.tallies t.tallies u.tallies (ap (λ (v : RigState). v.tallies) (seat.present refl)) wiring.reads.answered grows.tallies
      (λ y a b c. f y (grows.change y) a b c (grows.so y))
