-- What the stages add to the last tally, one after the other.
use Rattle.std.proofs.Common.{◌≡◌, ◌+◌, ◌≤◌, ℕ, List, [], ◌∷◌, ◌++◌, Option, Some, None, refl, sym, ◌∙◌, ap, arith}
use Rattle.std.specs.Prelude.{option_map}
use Rattle.rig.specs.declared.event.Tally.{Tally}
use Rattle.rig.specs.Happened.{with_last}
use Rattle.rig.specs.RigState.{RigState}
use Rattle.applications.specs.Counting.{TalliesMore}
use Rattle.unit_outcome.specs.Enough.{Voltage, both, no_voltage}
use Rattle.sequence.specs.Stages.{Adds, Grows}

with_last-twice : (f g : Tally → Tally) (ts : List Tally) → with_last g (with_last f ts) ≡ with_last (λ y. g (f y)) ts
with_last-twice f g [] = refl
with_last-twice f g (t ∷ []) = refl
with_last-twice f g (t ∷ u ∷ []) = refl
with_last-twice f g (t ∷ u ∷ v ∷ ts) = ap (λ (xs : List Tally). t ∷ xs) (with_last-twice f g (u ∷ v ∷ ts))

with_last-same : (ts : List Tally) → with_last (λ y. y) ts ≡ ts
with_last-same [] = refl
with_last-same (t ∷ []) = refl
with_last-same (t ∷ u ∷ ts) = ap (λ (xs : List Tally). t ∷ xs) (with_last-same (u ∷ ts))

-- the last one stands at the end
pub with_last-end : (f : Tally → Tally) (ts : List Tally) (y : Tally) → with_last f (ts ++ y ∷ []) ≡ ts ++ f y ∷ []
with_last-end f [] y = refl
with_last-end f (t ∷ []) y = refl
with_last-end f (t ∷ u ∷ ts) y = ap (λ (xs : List Tally). t ∷ xs) (with_last-end f (u ∷ ts) y)

twice : (f g : Tally → Tally) (o : Option (List Tally)) → option_map (with_last g) (option_map (with_last f) o) ≡ option_map (with_last (λ y. g (f y))) o
twice f g None = refl
twice f g (Some ts) = ap Some (with_last-twice f g ts)

same : (o : Option (List Tally)) → o ≡ option_map (with_last (λ y. y)) o
same None = refl
same (Some ts) = ap Some (sym (with_last-same ts))

pub grows-then : (P Q S : Tally → Tally → Type 0) {s t u : RigState} → ((x y z : Tally) → P x y → Q y z → S x z) → Grows P s t → Grows Q t u → Grows S s u
grows-then P Q S {s} {t} {u} f first second = record {
  change = λ y. second.change (first.change y);
  tallies = second.tallies ∙ ap (option_map (with_last second.change)) first.tallies ∙ twice first.change second.change s.tallies;
  so = λ y. f y (first.change y) (second.change (first.change y)) (first.so y) (second.so (first.change y));
}

pub grows-none : (P : Tally → Tally → Type 0) {s t : RigState} → ((y : Tally) → P y y) → t.tallies ≡ s.tallies → Grows P s t
grows-none P {s} {t} each is = record { change = λ y. y; tallies = is ∙ same s.tallies; so = each }

pub grows-weaken : (P Q : Tally → Tally → Type 0) {s t : RigState} → ((x y : Tally) → P x y → Q x y) → Grows P s t → Grows Q s t
grows-weaken P Q f first = record { change = first.change; tallies = first.tallies; so = λ y. f y (first.change y) (first.so y) }

-- ---- counts

pub adds-none : (y : Tally) → Adds 0 no_voltage y y
adds-none y = record {
  serial = refl;
  attempt = refl;
  readings = refl;
  more_probes = omega arith;
  more_routes = omega arith;
  more_raises = omega arith;
  more_ticks = omega arith;
  more_leaks = omega arith;
}

pub adds-then : (m n : ℕ) (v w : Voltage) (x y z : Tally) → Adds m v x y → Adds n w y z → Adds (m + n) (both v w) x z
adds-then m n v w x y z first second = record {
  serial = second.serial ∙ first.serial;
  attempt = second.attempt ∙ first.attempt;
  readings = second.readings ∙ first.readings;
  more_probes = let a = first.more_probes in let b = second.more_probes in omega arith;
  more_routes = let a = first.more_routes in let b = second.more_routes in omega arith;
  more_raises = let a = first.more_raises in let b = second.more_raises in omega arith;
  more_ticks = let a = first.more_ticks in let b = second.more_ticks in omega arith;
  more_leaks = let a = first.more_leaks in let b = second.more_leaks in omega arith;
}

-- no more at high voltage than before
pub record AtMost (v w : Voltage) : Type 0 where
  pub routes : v.route_count ≤ w.route_count
  pub raises : v.raise_count ≤ w.raise_count
  pub ticks : v.tick_count ≤ w.tick_count
  pub leaks : v.leak_count ≤ w.leak_count

pub adds-less : (m : ℕ) (v w : Voltage) (x y : Tally) → AtMost v w → Adds m w x y → Adds m v x y
adds-less m v w x y less adds = record {
  serial = adds.serial;
  attempt = adds.attempt;
  readings = adds.readings;
  more_probes = adds.more_probes;
  more_routes = let a = less.routes in let b = adds.more_routes in omega arith;
  more_raises = let a = less.raises in let b = adds.more_raises in omega arith;
  more_ticks = let a = less.ticks in let b = adds.more_ticks in omega arith;
  more_leaks = let a = less.leaks in let b = adds.more_leaks in omega arith;
}

abbrev pub counts_of : ℕ → ℕ → ℕ → ℕ → Voltage
counts_of routes raises ticks leaks = record { route_count = routes; raise_count = raises; tick_count = ticks; leak_count = leaks }

pub more-adds : (routes raises ticks leaks : ℕ) {s t : RigState} → TalliesMore routes raises ticks leaks s t → Grows (Adds 0 (counts_of routes raises ticks leaks)) s t
more-adds routes raises ticks leaks more = record {
  change = more.change;
  tallies = more.tallies;
  so = λ y.
      let h = more.counts y in
      record {
        serial = h.serial;
        attempt = h.attempt;
        readings = h.readings;
        more_probes = let same = h.probes in omega arith;
        more_routes = h.more_routes;
        more_raises = h.more_raises;
        more_ticks = h.more_ticks;
        more_leaks = h.more_leaks;
      };
}
