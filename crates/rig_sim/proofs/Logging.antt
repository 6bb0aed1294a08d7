-- One more event.
use Rattle.std.proofs.Common.{◌≡◌, ℕ, ◌+◌, ◌-◌, ◌^◌, ◌<◌, ◌≤◌, Bool, true, false, cond, List, [], ◌∷◌, ◌++◌, length, get_or, refl, sym, ◌∙◌, ap, subst, arith}
use Rattle.std.specs.Prelude.{nat_lt}
use Rattle.std.proofs.lemmas.List.{length-append, get_or_default, get_or_push}
use Rattle.std.proofs.lemmas.List.Sums.{fold-append}
use Rattle.rig.specs.declared.event.Event.{Event}
use Rattle.rig.specs.declared.event.Event.TheVariants.{Reading, Ohms, Junction, Door, Route, Raise, Leak, Zero, Residual, Tick}
use Rattle.rig.specs.declared.event.Tally.{Tally}
use Rattle.rig.specs.Happened.{LastCanCount, tally_after, with_last}
use Rattle.rig.specs.Seating.{empty_tally}
use Rattle.rig.specs.Source.{Source, at_rest, source_after, source_from, source_of}
use Rattle.rig.specs.EventRoom.{EventRoom}
use Rattle.rig_sim.specs.declared.meter.Meter.{Meter}
use Rattle.rig_sim.specs.Meters.{meter_after, raised_after, ticks_after}
use Rattle.rig_sim.specs.Logs.{Logged, with_event, last_event, IsTallyWithin, LastWithin, IsLog}

-- ---- the source

source_of-push : (events : List Event) (event : Event) → source_of (events ++ (event ∷ [])) ≡ source_after (source_of events) event
source_of-push events event = fold-append source_after at_rest events (event ∷ [])

raised_of : (s : Source) (event : Event) → (source_after s event).raised ≡ raised_after s.raised event
raised_of s (Reading a b met) = refl
raised_of s (Ohms a b r) = refl
raised_of s (Junction a b d) = refl
raised_of s (Door true) = refl
raised_of s (Door false) = refl
raised_of s (Route a b) = refl
raised_of s (Raise v done) = refl
raised_of s (Leak g) = refl
raised_of s (Zero true) = refl
raised_of s (Zero false) = refl
raised_of s (Residual w) = refl
raised_of s Tick = refl

ticks_of : (s : Source) (event : Event) → (source_after s event).ticks ≡ ticks_after s.ticks event
ticks_of s (Reading a b met) = refl
ticks_of s (Ohms a b r) = refl
ticks_of s (Junction a b d) = refl
ticks_of s (Door true) = refl
ticks_of s (Door false) = refl
ticks_of s (Route a b) = refl
ticks_of s (Raise v done) = refl
ticks_of s (Leak g) = refl
ticks_of s (Zero true) = refl
ticks_of s (Zero false) = refl
ticks_of s (Residual w) = refl
ticks_of s Tick = refl

pub raised-push : (events : List Event) (event : Event) (raised : Bool) → raised ≡ (source_of events).raised → raised_after raised event ≡ (source_of (events ++ (event ∷ []))).raised
raised-push events event raised is = ap (λ r. raised_after r event) is ∙ sym (raised_of (source_of events) event) ∙ sym (ap (λ (s : Source). s.raised) (source_of-push events event))

pub ticks-push : (events : List Event) (event : Event) (ticks : ℕ) → ticks ≡ (source_of events).ticks → ticks_after ticks event ≡ (source_of (events ++ (event ∷ []))).ticks
ticks-push events event ticks is = ap (λ n. ticks_after n event) is ∙ sym (ticks_of (source_of events) event) ∙ sym (ap (λ (s : Source). s.ticks) (source_of-push events event))

one_tick : (n : ℕ) (event : Event) → ticks_after n event ≤ n + 1
one_tick n (Reading a b met) = omega arith
one_tick n (Ohms a b r) = omega arith
one_tick n (Junction a b d) = omega arith
one_tick n (Door closed) = omega arith
one_tick n (Route a b) = omega arith
one_tick n (Raise v done) = omega arith
one_tick n (Leak g) = omega arith
one_tick n (Zero true) = omega arith
one_tick n (Zero false) = omega arith
one_tick n (Residual w) = omega arith
one_tick n Tick = omega arith

ticks_from : (s : Source) (events : List Event) → (source_from s events).ticks ≤ s.ticks + length events
ticks_from s [] = omega arith
ticks_from s (event ∷ events) =
    let rest = ticks_from (source_after s event) events in
    let here = one_tick s.ticks event in
    let same = ticks_of s event in omega arith

-- no more ticks than events
pub ticks_within : (events : List Event) → (source_of events).ticks ≤ length events
ticks_within events = let h = ticks_from at_rest events in omega arith

-- ---- tallies

grown : (n : ℕ) (y : Tally) → IsTallyWithin n y → IsTallyWithin (n + 1) y
grown n y h = record {
  readings = let k = h.readings in omega arith;
  probes = let k = h.probes in omega arith;
  routes = let k = h.routes in omega arith;
  raises = let k = h.raises in omega arith;
  ticks = let k = h.ticks in omega arith;
  leaks = let k = h.leaks in omega arith;
}

tally_within : (n v : ℕ) (event : Event) (y : Tally) → IsTallyWithin n y → IsTallyWithin (n + 1) (tally_after v event y)
tally_within n v (Reading a b met) y h = let g = grown n y h in record { readings = let k = h.readings in omega arith; probes = g.probes; routes = g.routes; raises = g.raises; ticks = g.ticks; leaks = g.leaks }
tally_within n v (Ohms a b r) y h = let g = grown n y h in record { readings = g.readings; probes = let k = h.probes in omega arith; routes = g.routes; raises = g.raises; ticks = g.ticks; leaks = g.leaks }
tally_within n v (Junction a b d) y h = let g = grown n y h in record { readings = g.readings; probes = let k = h.probes in omega arith; routes = g.routes; raises = g.raises; ticks = g.ticks; leaks = g.leaks }
tally_within n v (Door closed) y h = grown n y h
tally_within n v (Route a b) y h = let g = grown n y h in record { readings = g.readings; probes = g.probes; routes = let k = h.routes in omega arith; raises = g.raises; ticks = g.ticks; leaks = g.leaks }
tally_within n v (Raise w true) y h = let g = grown n y h in record { readings = g.readings; probes = g.probes; routes = g.routes; raises = let k = h.raises in omega arith; ticks = g.ticks; leaks = g.leaks }
tally_within n v (Raise w false) y h = grown n y h
tally_within n v (Leak l) y h = let g = grown n y h in record { readings = g.readings; probes = g.probes; routes = g.routes; raises = g.raises; ticks = g.ticks; leaks = let k = h.leaks in omega arith }
tally_within n v (Zero done) y h = grown n y h
tally_within n v (Residual w) y h = grown n y h
tally_within n v Tick y h = go (nat_lt 0 v)
  where
    go : (b : Bool) → IsTallyWithin (n + 1) (cond b (record y { ticks = y.ticks + 1 }) y)
    go true = let g = grown n y h in record { readings = g.readings; probes = g.probes; routes = g.routes; raises = g.raises; ticks = let k = h.ticks in omega arith; leaks = g.leaks }
    go false = grown n y h

pub LastWithin-after : (n v : ℕ) (event : Event) (tallies : List Tally) → LastWithin n tallies → LastWithin (n + 1) (with_last (tally_after v event) tallies)
LastWithin-after n v event [] h = tt
LastWithin-after n v event (y ∷ []) h = tally_within n v event y h
LastWithin-after n v event (y ∷ z ∷ ys) h = last_of y z ys (LastWithin-after n v event (z ∷ ys) h)
  where
    last_of : (y z : Tally) (ys : List Tally) → LastWithin (n + 1) (with_last (tally_after v event) (z ∷ ys)) → LastWithin (n + 1) (y ∷ with_last (tally_after v event) (z ∷ ys))
    last_of y z [] h = h
    last_of y z (w ∷ ys) h = h

pub can_count : (n : ℕ) (tallies : List Tally) → n < 2 ^ 64 - 1 → LastWithin n tallies → LastCanCount tallies
can_count n [] few h = tt
can_count n (y ∷ []) few h = record {
  readings = let k = h.readings in omega arith;
  probes = let k = h.probes in omega arith;
  routes = let k = h.routes in omega arith;
  raises = let k = h.raises in omega arith;
  ticks = let k = h.ticks in omega arith;
  leaks = let k = h.leaks in omega arith;
}
can_count n (y ∷ z ∷ ys) few h = can_count n (z ∷ ys) few h

-- a command to zero is not tallied
pub zero_tallied : (v : ℕ) (done : Bool) (tallies : List Tally) → with_last (tally_after v (Zero done)) tallies ≡ tallies
zero_tallied v done [] = refl
zero_tallied v done (y ∷ []) = refl
zero_tallied v done (y ∷ z ∷ ys) = ap (λ (ts : List Tally). y ∷ ts) (zero_tallied v done (z ∷ ys))

-- a new tally has counted nothing
pub LastWithin-new : (n : ℕ) (tallies : List Tally) (serial : List ℕ) (attempt : ℕ) → LastWithin n (tallies ++ (empty_tally serial attempt ∷ []))
LastWithin-new n [] serial attempt = record { readings = omega arith; probes = omega arith; routes = omega arith; raises = omega arith; ticks = omega arith; leaks = omega arith }
LastWithin-new n (y ∷ []) serial attempt = record { readings = omega arith; probes = omega arith; routes = omega arith; raises = omega arith; ticks = omega arith; leaks = omega arith }
LastWithin-new n (y ∷ z ∷ ys) serial attempt = LastWithin-new n (z ∷ ys) serial attempt

-- ---- the last event

pub last_event-push : (events list : List Event) (event : Event) → list ≡ events ++ (event ∷ []) → last_event list ≡ event
last_event-push events list event is =
    ap last_event is ∙ get_or_push events event Tick (length (events ++ (event ∷ [])) - 1) (omega (arith, length-append events (event ∷ [])))

pub seen_last : (list : List Event) (seen : Event) (place : ℕ) → 0 < length list → place ≡ length list - 1 → seen ≡ get_or list place seen → seen ≡ last_event list
seen_last list seen place some place_is at = at ∙ ap (λ k. get_or list k seen) place_is ∙ get_or_default list (length list - 1) seen Tick (omega arith)

-- ---- the log

pub log_next : (log : Logged) (event : Event) (spare : ℕ) → IsLog log → IsLog (with_event event spare log)
log_next log event spare kept = record {
  raised = raised-push log.trail.list event log.meter.raised kept.raised;
  ticks = ticks-push log.trail.list event log.meter.ticks kept.ticks;
  tallied = λ seated.
      subst (λ n. LastWithin n (with_last (tally_after log.meter.volts event) log.tallies)) (sym (length-append log.trail.list (event ∷ [])))
      (LastWithin-after (length log.trail.list) log.meter.volts event log.tallies (kept.tallied seated));
}

-- what counting the last event asks
pub length-push : (list events : List Event) (event : Event) → list ≡ events ++ (event ∷ []) → length list ≡ length events + 1
length-push list events event is = ap length is ∙ length-append events (event ∷ [])

-- the log with an event that was counted as the last of its trail
pub counted_log : (log : Logged) (event : Event) (spare : ℕ) (trail : EventRoom) (tallies : List Tally) (meter : Meter) → trail ≡ record { list = log.trail.list ++ (event ∷ []); spare = spare } →
    tallies ≡ with_last (tally_after log.meter.volts (last_event trail.list)) log.tallies → meter ≡ meter_after (last_event trail.list) log.meter → IsLog log →
    IsLog (record { seated = log.seated; trail = trail; tallies = tallies; meter = meter })
counted_log log event spare trail tallies meter trail_is tallies_are meter_is kept =
    let last = last_event-push log.trail.list trail.list event (ap (λ (r : EventRoom). r.list) trail_is) in
    let tallies_is : tallies ≡ with_last (tally_after log.meter.volts event) log.tallies = tallies_are ∙ ap (λ (e : Event). with_last (tally_after log.meter.volts e) log.tallies) last in
    let meter_so : meter ≡ meter_after event log.meter = meter_is ∙ ap (λ (e : Event). meter_after e log.meter) last in
    let next = log_next log event spare kept in
    rw trail_is (rw tallies_is (rw meter_so next))

pub zero_log : (log : Logged) (done : Bool) (spare : ℕ) (trail : EventRoom) (meter : Meter) → trail ≡ record { list = log.trail.list ++ (Zero done ∷ []); spare = spare } → meter ≡ meter_after (Zero done) log.meter → IsLog log →
    IsLog (record { seated = log.seated; trail = trail; tallies = log.tallies; meter = meter })
zero_log log done spare trail meter trail_is meter_is kept =
    let next = log_next log (Zero done) spare kept in
    rw trail_is (rw meter_is (subst (λ (ts : List Tally). IsLog (record (with_event (Zero done) spare log) { tallies = ts })) (zero_tallied log.meter.volts done log.tallies) next))

pub begun_log : (log : Logged) (trail : EventRoom) (tallies : List Tally) (meter : Meter) (serial : List ℕ) (attempt : ℕ) → trail ≡ record { list = []; spare = log.trail.spare } →
    tallies ≡ log.tallies ++ (empty_tally serial attempt ∷ []) → meter ≡ record log.meter { closed_now = false; raised = false; ticks = 0 } →
    IsLog (record { seated = true; trail = trail; tallies = tallies; meter = meter })
begun_log log trail tallies meter serial attempt trail_is tallies_are meter_is =
    rw trail_is (rw tallies_are (rw meter_is (record { raised = refl; ticks = refl; tallied = λ seated. LastWithin-new 0 log.tallies serial attempt })))

pub zero_is : (log : Logged) (done : Bool) (spare : ℕ) (trail : EventRoom) (meter : Meter) → trail ≡ record { list = log.trail.list ++ (Zero done ∷ []); spare = spare } → meter ≡ meter_after (Zero done) log.meter →
    record log { trail = trail; meter = meter } ≡ with_event (Zero done) spare log
zero_is log done spare trail meter trail_is meter_is =
    rw trail_is (rw meter_is (ap (λ (ts : List Tally). record (with_event (Zero done) spare log) { tallies = ts }) (sym (zero_tallied log.meter.volts done log.tallies))))
