-- Readings of the wiring, put together.
use Rattle.std.proofs.Common.{◌≡◌, ◌≤◌, ◌+◌, ◌-◌, ℕ, List, Option, Some, None, Result, Ok, Err, sym, ◌∙◌, ap, subst, arith}
use Rattle.std.specs.Prelude.{All, IfErr, IfOk, IfSome}
use Rattle.partition.specs.Classes.{judged_in}
use Rattle.partition.specs.Digits.{digits_of}
use Rattle.partition.specs.NetTable.{judged_points, programmed_of}
use Rattle.partition.specs.Partitions.{IsOver}
use Rattle.difference.specs.Difference.{difference_of}
use Rattle.difference.specs.declared.wiring.Difference.{Difference}
use Rattle.rig.specs.declared.event.Event.{Event}
use Rattle.rig.specs.declared.event.Event.TheVariants.{Reading}
use Rattle.rig.specs.Joins.{truth_of}
use Rattle.rig.specs.Readings.{Reads}
use Rattle.rig.specs.RigState.{RigState}
use Rattle.rig.specs.Seating.{IsSeated}
use Rattle.rig.specs.Trail.{Agrees, ReadsAmong}
use Rattle.rig.specs.declared.rig.RigStop.{RigStop}
use Rattle.rig.specs.declared.unit.Row.{Row}
use Rattle.rig.proofs.Reading.{Agrees-before, Extends-trans, Reads-then}
use Rattle.rig.proofs.TruthLaw.{truth_agrees}
use Rattle.wirelist.specs.Programs.{IsProgram}
use Rattle.wirelist.specs.declared.program.Program.{Program}
use Rattle.learn.specs.Learned.{IsLearned}
use Rattle.isolate.specs.Counts.{ReadsJudged}
use Rattle.isolate.specs.Pieces.{AreMeetings, IsDiagnosed}
use Rattle.isolate.proofs.JudgedCounts.{heads-programmed}
use Rattle.unit_outcome.specs.Enough.{class_count, judged_count, net_classes}
use Rattle.unit_outcome.specs.Spent.{OfRows}
use Rattle.unit_outcome.specs.declared.run.UnitStop.{UnitStop}
use Rattle.unit_outcome.specs.declared.run.UnitStop.TheVariants.{Empty, InterlockOpen, NotDischarged, RigFault, NotZero, Memory}
use Rattle.sequence.specs.declared.wiring.Wiring.{Wiring}
use Rattle.sequence.specs.declared.wiring.Wiring.TheVariants.{AsProgrammed, Differs}
use Rattle.sequence.specs.Wired.{Contradicts, IsAsProgrammed, IsDifferent, IsOfJudged, ReadsWiring, ShowsDifference, StopsReading, Wires}
use Rattle.sequence.proofs.Judged.{all-after, few-points, judged-programmed_in}

-- ---- one after the other

pub wiring-then : {p : Program} {s t u : RigState} {stop : Option RigStop} → ReadsWiring p s t None → ReadsWiring p t u stop → ReadsWiring p s u stop
wiring-then {p} {s} {t} {u} first second = record {
  reads = Reads-then first.reads second.reads;
  judged = Extends-trans (ReadsAmong (programmed_of p.nets)) s.trail t.trail u.trail first.judged second.judged;
}

pub still-judged : {p : Program} {s t : RigState} {stop : Option RigStop} → IsOfJudged p s → ReadsWiring p s t stop → IsOfJudged p t
still-judged {p} {s} {t} before wiring = all-after (ReadsAmong (programmed_of p.nets)) s.trail t.trail before wiring.judged

-- the points of the rig stay
pub still-points : {s t : RigState} {stop : Option RigStop} → Reads s t stop → t.points ≡ s.points
still-points reads = ap (λ (v : RigState). v.points) reads.frame

pub as_programmed-then : {p : Program} (a b c : ℕ) {s t u : RigState} → ReadsWiring p s t None → t.spent ≡ s.spent + a → a + b ≡ c → IsAsProgrammed p b t u → IsAsProgrammed p c s u
as_programmed-then a b c first spent sum second = record { wiring = wiring-then first second.wiring; learned = second.learned; spent = let more = second.spent in omega arith }

pub different-then : {p : Program} (a b c : ℕ) {s t u : RigState} {d : Difference} → ReadsWiring p s t None → t.spent ≤ s.spent + a → a + b ≤ c → IsDifferent p b t u d → IsDifferent p c s u d
different-then {p} a b c {s} {t} {u} first spent sum second = record {
  wiring = wiring-then first second.wiring;
  measured = second.measured;
  learned = second.learned;
  over = second.over;
  difference_is = second.difference_is;
  at_least = let grown = first.reads.spent in let least = second.at_least in omega arith;
  pieces = second.pieces;
  of_all = second.of_all;
  of_nets = second.of_nets;
  of_classes = second.of_classes;
  some = second.some;
  few = second.few;
  at_most = let most = second.at_most in omega arith;
  own = second.own;
  faulty = second.faulty;
}

module _ {R : Type 0} (state : R → RigState) (p : Program) {s t : RigState} (first : ReadsWiring p s t None) where
  pub wires-then : (a b c : ℕ) → t.spent ≡ s.spent + a → a + b ≡ c → (w : Wiring R) → Wires state p b t w → Wires state p c s w
  wires-then a b c spent sum (AsProgrammed proven) h = (h.0, as_programmed-then a b c first spent sum h.1)
  wires-then a b c spent sum (Differs rig d) h = different-then a b c first (omega arith) (omega arith) h

  -- a difference, after no more readings than are counted
  pub differs-then : (a c : ℕ) → t.spent ≤ s.spent + a → a ≤ c → (w : Wiring R) → ShowsDifference state p t w → Wires state p c s w
  differs-then a c spent sum (AsProgrammed proven) h = absurd h
  differs-then a c spent sum (Differs rig d) h = different-then a 0 c first spent (omega arith) h

  pub stops-then : (stop : UnitStop R) → StopsReading state p t stop → StopsReading state p s stop
  stops-then (Empty rig) h = h
  stops-then (InterlockOpen rig) h = h
  stops-then (NotDischarged rig volts) h = h
  stops-then (RigFault rig) h = wiring-then first h
  stops-then (NotZero stuck) h = h
  stops-then (Memory rig) h = (h.0, wiring-then first h.1)

pub when_ok : {T E : Type 0} (r : Result T E) (P Q : T → Type 0) → ((x : T) → P x → Q x) → IfOk r P → IfOk r Q
when_ok (Ok x) P Q f h = f x h
when_ok (Err e) P Q f h = tt

pub when_err : {T E : Type 0} (r : Result T E) (P Q : E → Type 0) → ((x : E) → P x → Q x) → IfErr r P → IfErr r Q
when_err (Ok x) P Q f h = tt
when_err (Err e) P Q f h = f e h

-- ---- counts

module _ (p : Program) (ok : IsProgram p) where
  -- the readings of continuity that all conduct
  pub continuity-count : (s t : RigState) → t.spent + net_classes p ≡ s.spent + judged_count p → t.spent ≡ s.spent + (judged_count p - net_classes p)
  continuity-count s t count = let few = heads-programmed p.nets ok.nets (few-points p ok) in omega arith

  pub continuity-bound : (s t : RigState) → t.spent + net_classes p ≤ s.spent + judged_count p → t.spent ≤ s.spent + (judged_count p - net_classes p)
  continuity-bound s t bound = omega arith

-- readings of points that count in a partition that is the programmed one
pub wiring-of : {p : Program} {m : List ℕ} {s t : RigState} {stop : Option RigStop} → m ≡ programmed_of p.nets → Reads s t stop → ReadsJudged m s t → ReadsWiring p s t stop
wiring-of {p} {m} {s} {t} same reads judged = record { reads = reads; judged = subst (λ (x : List ℕ). ReadsJudged x s t) same judged }

-- a proof of isolation
pub isolated : {p : Program} {m : List ℕ} {s t : RigState} → m ≡ programmed_of p.nets → Reads s t None → ReadsJudged m s t → IsLearned t m → t.spent ≡ s.spent + digits_of (class_count m - 1)
    → IsAsProgrammed p (digits_of (net_classes p - 1)) s t
isolated {p} {m} {s} {t} same reads judged learned spent = record {
  wiring = record { reads = reads; judged = subst (λ (x : List ℕ). ReadsJudged x s t) same judged };
  learned = subst (IsLearned t) same learned;
  spent = subst (λ (x : List ℕ). t.spent ≡ s.spent + digits_of (class_count x - 1)) same spent;
}

-- points that count in the nets count in a partition over them
among-over : {nets m : List ℕ} → IsOver nets m → (e : Event) → ReadsAmong nets e → ReadsAmong m e
among-over over (Reading a b met) (in_a, in_b) = (λ k d lt. (over.judged _).1 (in_a k d lt), λ k d lt. (over.judged _).1 (in_b k d lt))
among-over over _ is = tt

pub all-over : {nets m : List ℕ} → IsOver nets m → (trail : Option (List Event)) → IfSome trail (All (ReadsAmong nets)) → IfSome trail (All (ReadsAmong m))
all-over over None h = tt
all-over over (Some es) h = λ k d lt. among-over over _ (h k d lt)

second : (A B : List Row → Type 0) (truth : Option (List Row)) → IfSome truth (λ rows. A rows × B rows) → IfSome truth B
second A B None h = tt
second A B (Some rows) h = h.1

-- ---- the difference

module _ (p : Program) (ok : IsProgram p) {s t : RigState} (points : p.nets.points ≡ s.points) (judged : IsOfJudged p s) (contradicts : Contradicts p s) (seated : IsSeated t) (wiring : ReadsWiring p s t None) where
  points-now : t.points ≡ p.nets.points
  points-now = still-points wiring.reads ∙ sym points

  -- what an honest rig says of its unit
  of_rows : (m : List ℕ) → judged_in m ≡ judged_points p.nets → (P : List ℕ → Type 0) → (truth : Option (List Row)) → IfSome truth (λ rows. P (truth_of rows (judged_in m) t.points))
      → IfSome truth (λ rows. P (truth_of rows (judged_points p.nets) p.nets.points))
  of_rows m is P None h = tt
  of_rows m is P (Some rows) h =
      subst (λ (n : ℕ). P (truth_of rows (judged_points p.nets) n)) points-now (subst (λ (js : List ℕ). P (truth_of rows js t.points)) is h)

  not-programmed : (m : List ℕ) → IsLearned t m → IsOver (programmed_of p.nets) m → OfRows t (λ rows. m ≡ programmed_of p.nets → ⊥)
  not-programmed m learned over = λ honest told.
      let among = still-judged judged wiring in
      let among_m = all-over over t.trail among in
      at t.truth (truth_agrees t m seated learned.proven.partition honest told among_m) (learned.truth honest told among_m)
    where
      at : (truth : Option (List Row)) → IfSome truth (λ rows. Agrees t (truth_of rows (judged_in m) t.points) × IsOver m (truth_of rows (judged_in m) t.points))
          → IfSome truth (λ rows. m ≡ truth_of rows (judged_in m) t.points) → IfSome truth (λ rows. m ≡ programmed_of p.nets → ⊥)
      at None h k = tt
      at (Some rows) h k = λ same.
          contradicts (Agrees-before (programmed_of p.nets) wiring.reads (subst (Agrees t) (sym k ∙ same) h.0))

  pub different : (m : List ℕ) (d : Difference) → IsLearned t m → IsOver (programmed_of p.nets) m → d ≡ difference_of p.nets m
      → s.spent + judged_count p ≤ t.spent + class_count m → IsDiagnosed s t (programmed_of p.nets) (judged_count p) m → IsDifferent p 0 s t d
  different m d learned over is least diagnosed = record {
    wiring = wiring;
    measured = m;
    learned = learned;
    over = over;
    difference_is = is;
    at_least = least;
    pieces = diagnosed.pieces;
    of_all = diagnosed.over;
    of_nets = diagnosed.of_nets;
    of_classes = diagnosed.of_classes;
    some = diagnosed.some;
    few = diagnosed.few;
    at_most = let most = diagnosed.at_most in omega arith;
    own = λ honest told.
        let both = diagnosed.own honest told (still-judged judged wiring) in
        of_rows (programmed_of p.nets) (judged-programmed_in p ok) (λ own. AreMeetings (programmed_of p.nets) own diagnosed.pieces) t.truth (second _ _ t.truth both);
    faulty = not-programmed m learned over;
  }
