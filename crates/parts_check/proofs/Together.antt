-- The resistors and then the diodes of a program.
use Rattle.std.proofs.Common.{◌≡◌, ◌≢◌, ℕ, ◌+◌, ◌*◌, ◌<◌, List, [], ◌∷◌, ◌++◌, map, length, Option, Some, None, refl, sym, ◌∙◌, ap, subst, inl, inr, arith}
use Rattle.std.specs.Prelude.{All, IfSome, IsSome, unwrap_or}
use Rattle.std.proofs.lemmas.List.{length-map}
use Rattle.std.proofs.lemmas.List.Elements.{All-append, All-map, All-weaker}
use Rattle.partition.specs.NetTable.{judged_points, net_at, programmed_of}
use Rattle.partition.proofs.classes.ClassLaws.{length-classes_by}
use Rattle.partition.proofs.InTurn.{All-from_In, InTurn, InTurn-from_AllPairs, InTurn-weaken}
use Rattle.partition.proofs.Members.{In, In-append_left, In-append_right, In-map}
use Rattle.partition.proofs.tables.NetLaws.{In-index, judged-below}
use Rattle.wirelist.specs.Ranges.{PartFaultsInRange}
use Rattle.rig.specs.Trail.{IsProbe}
use Rattle.wirelist.specs.Clusters.{IsJudged, component_links, diode_link, resistor_link}
use Rattle.wirelist.specs.Programs.{IsProgram, SameLink}
use Rattle.wirelist.specs.declared.program.Program.{Program}
use Rattle.wirelist.specs.declared.parts.Resistor.{Resistor}
use Rattle.wirelist.specs.declared.parts.Diode.{Diode}
use Rattle.wirelist.specs.declared.faults.PartFault.{PartFault}
use Rattle.rig.specs.declared.event.Event.{Event}
use Rattle.rig.specs.declared.unit.Row.{Row}
use Rattle.rig.specs.Happened.{Happens}
use Rattle.rig.specs.RigState.{RigState}
use Rattle.rig.specs.States.{IsOfRig}
use Rattle.rig.specs.Values.{junction_of, ohms_of}
use Rattle.rig.proofs.Happening.{Happens-then, Happens-trail, followed}
use Rattle.rig.specs.declared.rig.RigStop.{RigStop}
use Rattle.parts_check.specs.Checking.{ChecksParts, StaysInOrder, StopsChecking}
use Rattle.parts_check.proofs.Order.{StaysInOrder-probes}
use Rattle.parts_check.specs.PartRule.{part_faults}
use Rattle.parts_check.specs.PartsRead.{PartsRead, last_junction, last_ohms}
use Rattle.parts_check.specs.Probed.{DiodeRead, Probed, ResistorRead, diode_faults, diode_probes, faults_of, probes_of, resistor_faults, resistor_probes}
use Rattle.parts_check.specs.Turns.{IsJunction, IsOhms, ProbedDiodes, ProbedResistors}
use Rattle.parts_check.proofs.Counted.{counted-probes, length-probes}
use Rattle.parts_check.proofs.Ranging.{faults-in_range}
use Rattle.parts_check.proofs.LastReads.{Apart, DiodesApart, NoneOf, ResistorsApart, back_of, ends_of, last-back, last-forward, last-ohms, ways_of}
use Rattle.parts_check.proofs.SameFaults.{same_faults}
use Rattle.parts_check.proofs.Stopping.{diode_probes-IsProbe, resistor_probes-IsProbe}
use Rattle.parts_check.proofs.Turning.{both, moved}

abbrev resistor_of : ResistorRead → Resistor
resistor_of x = x.part

abbrev diode_of : DiodeRead → Diode
diode_of x = x.part

-- ---- lists in turn

InTurn-left : {X : Type 0} (R : X → X → Type 0) (xs ys : List X) → InTurn R (xs ++ ys) → InTurn R xs
InTurn-left R [] ys turn = tt
InTurn-left R (x ∷ xs) ys turn = (λ y i. turn.0 y (In-append_left y xs ys i), InTurn-left R xs ys turn.1)

InTurn-right : {X : Type 0} (R : X → X → Type 0) (xs ys : List X) → InTurn R (xs ++ ys) → InTurn R ys
InTurn-right R [] ys turn = turn
InTurn-right R (x ∷ xs) ys turn = InTurn-right R xs ys turn.1

InTurn-unmap : {X Y : Type 0} (f : X → Y) (R : Y → Y → Type 0) (xs : List X) → InTurn R (map f xs) → InTurn (λ x y. R (f x) (f y)) xs
InTurn-unmap f R [] turn = tt
InTurn-unmap f R (x ∷ xs) turn = (λ y i. turn.0 (f y) (In-map f y xs i), InTurn-unmap f R xs turn.1)

All-In : {X : Type 0} (P : X → Type 0) (xs : List X) (x : X) → All P xs → In x xs → P x
All-In P xs x all i = let k = In-index x xs i in let within = k.1 in subst P (k.2 x) (all k.0 x within)

-- ---- the components of a program

abbrev LinksApart : ℕ × ℕ → ℕ × ℕ → Type 0
LinksApart x y = SameLink x y → ⊥

module _ (p : Program) (ok : IsProgram p) where
  links : InTurn LinksApart (map (resistor_link p.nets) p.resistors ++ map (diode_link p.nets) p.diodes)
  links = InTurn-from_AllPairs LinksApart (component_links p) ok.components.apart

  across : (d : Diode) → In d p.diodes → net_at p.nets d.from ≢ net_at p.nets d.to
  across d i =
      All-In (λ (link : ℕ × ℕ). link.0 ≢ link.1) (component_links p) (diode_link p.nets d) ok.components.across
      (In-append_right (diode_link p.nets d) (map (resistor_link p.nets) p.resistors) (map (diode_link p.nets) p.diodes)
      (In-map (diode_link p.nets) d p.diodes i))

  pub resistors-apart : (reads : List ResistorRead) → map resistor_of reads ≡ p.resistors → ResistorsApart reads
  resistors-apart reads is =
      let linked = InTurn-left LinksApart (map (resistor_link p.nets) p.resistors) (map (diode_link p.nets) p.diodes) links in
      let parts = InTurn-unmap (resistor_link p.nets) LinksApart p.resistors linked in
      let R : Resistor → Resistor → Type 0 = λ x y. LinksApart (resistor_link p.nets x) (resistor_link p.nets y) in
      InTurn-weaken (λ x y. R x.part y.part) (λ x y. Apart (ends_of y) (ends_of x)) reads
      (λ x y i j apart same. apart (inl (ap (net_at p.nets) (sym same.0), ap (net_at p.nets) (sym same.1))))
      (InTurn-unmap resistor_of R reads (subst (InTurn R) (sym is) parts))

  pub diodes-apart : (reads : List DiodeRead) → map diode_of reads ≡ p.diodes → DiodesApart reads
  diodes-apart reads is =
      let linked = InTurn-right LinksApart (map (resistor_link p.nets) p.resistors) (map (diode_link p.nets) p.diodes) links in
      let parts = InTurn-unmap (diode_link p.nets) LinksApart p.diodes linked in
      let R : Diode → Diode → Type 0 = λ x y. LinksApart (diode_link p.nets x) (diode_link p.nets y) in
      let n = net_at p.nets in
      record {
        others =
            InTurn-weaken (λ x y. R x.part y.part) (λ x y. NoneOf y (ways_of x) × NoneOf y (back_of x)) reads
            (λ x y i j apart. (
              record {
                forward = λ same. apart (inl (ap n (sym same.0), ap n (sym same.1)));
                back = λ same. apart
                    (inr (ap n (sym same.0), ap n (sym same.1)));
              },
              record {
                forward = λ same. apart (inr (ap n (sym same.1), ap n (sym same.0)));
                back = λ same. apart
                    (inl (ap n (sym same.1), ap n (sym same.0)));
              },
            ))
            (InTurn-unmap diode_of R reads (subst (InTurn R) (sym is) parts));
        itself = λ x i same. across x.part (subst (In x.part) is (In-map diode_of x reads i)) (ap n same);
      }

-- ---- the trail shows the faults

is_some : {X : Type 0} (o : Option X) (x : X) → o ≡ Some x → IsSome o
is_some {X} o x is = subst IsSome (sym is) refl

module _ (p : Program) (ok : IsProgram p) (probed : Probed) (rs : map resistor_of probed.resistors ≡ p.resistors)
    (ds : map diode_of probed.diodes ≡ p.diodes) where
  parts-read : (trail : List Event) → PartsRead p (trail ++ probes_of probed) (faults_of probed)
  parts-read trail =
      let whole = trail ++ probes_of probed in
      let ohms = last-ohms trail probed (resistors-apart p ok probed.resistors rs) in
      let forward = last-forward trail probed (diodes-apart p ok probed.diodes ds) in
      let back = last-back trail probed (diodes-apart p ok probed.diodes ds) in
      let P : Resistor → Type 0 = λ part. IsSome (last_ohms whole part.a part.b) in
      let Q : Diode → Type 0 = λ part. IsSome (last_junction whole part.from part.to) × IsSome (last_junction whole part.to part.from) in
      record {
        resistors = subst (All P) rs (All-map P resistor_of probed.resistors (All-from_In (λ x. P x.part) probed.resistors (λ x i. is_some _ _ (ohms x i))));
        diodes =
            subst (All Q) ds
            (All-map Q diode_of probed.diodes (All-from_In (λ x. Q x.part) probed.diodes (λ x i. (is_some _ _ (forward x i), is_some _ _ (back x i)))));
        faults_are =
            same_faults (λ a b. unwrap_or (last_ohms whole a b) None) (λ a b. unwrap_or (last_junction whole a b) None) p probed rs ds
            (λ x i. ap (λ (o : Option (Option ℕ)). unwrap_or o None) (ohms x i))
            (λ x i. (ap (λ (o : Option (Option ℕ)). unwrap_or o None) (forward x i), ap (λ (o : Option (Option ℕ)). unwrap_or o None) (back x i)));
      }

  shown : (trail : Option (List Event)) → IfSome (followed (probes_of probed) trail) (λ t. PartsRead p t (faults_of probed))
  shown None = tt
  shown (Some trail) = parts-read trail

  -- where the readings are those of a unit, so are the faults
  true-faults : (rows : List Row) → All (IsOhms p.nets.points rows) probed.resistors → All (IsJunction p.nets.points rows) probed.diodes
      → faults_of probed ≡ part_faults p rows
  true-faults rows ohms drops = sym (
      same_faults (ohms_of rows p.nets.points) (junction_of rows p.nets.points) p probed rs ds
      (λ x i. sym (All-In (IsOhms p.nets.points rows) probed.resistors x ohms i))
      (λ x i. let read = All-In (IsJunction p.nets.points rows) probed.diodes x drops i in (sym read.0, sym read.1))
      )

-- ---- the check

-- the points of the rig are those of the program
pub same-points : {s : RigState} {classes : List ℕ} (p : Program) → IsOfRig s classes → classes ≡ programmed_of p.nets → s.points ≡ p.nets.points
same-points {s} {classes} p of_rig is = sym of_rig.points ∙ ap length is ∙ length-classes_by (judged_points p.nets) p.nets.points (net_at p.nets)

-- and components lie between them
pub resistors-inside : (p : Program) (n : ℕ) → IsProgram p → n ≡ p.nets.points → All (λ (r : Resistor). (r.a < n) × (r.b < n)) p.resistors
resistors-inside p n ok is =
    All-weaker (λ (r : Resistor). IsJudged p.nets r.a × IsJudged p.nets r.b) (λ (r : Resistor). (r.a < n) × (r.b < n))
    (λ r inside. let one = judged-below p.nets r.a inside.0 in let other = judged-below p.nets r.b inside.1 in (omega arith, omega arith))
    p.resistors ok.components.inside.resistors_in

pub diodes-inside : (p : Program) (n : ℕ) → IsProgram p → n ≡ p.nets.points → All (λ (d : Diode). (d.from < n) × (d.to < n)) p.diodes
diodes-inside p n ok is =
    All-weaker (λ (d : Diode). IsJudged p.nets d.from × IsJudged p.nets d.to) (λ (d : Diode). (d.from < n) × (d.to < n))
    (λ d inside. let one = judged-below p.nets d.from inside.0 in let other = judged-below p.nets d.to inside.1 in (omega arith, omega arith))
    p.diodes ok.components.inside.diodes_in

checks : {s t u : RigState} {found faults : List PartFault} (p : Program) → IsProgram p → s.points ≡ p.nets.points
    → ProbedResistors s t p.resistors [] found → ProbedDiodes t u (length p.resistors) p.diodes found faults → ChecksParts p s u faults
checks {s} {t} {u} {found} {faults} p ok points first second =
    let probed : Probed = record { resistors = first.reads; diodes = second.reads } in
    let count : length first.reads ≡ length p.resistors = sym (length-map first.reads resistor_of) ∙ ap length first.parts_are in
    let drops : length second.reads ≡ length p.diodes = sym (length-map second.reads diode_of) ∙ ap length second.parts_are in
    let are : faults ≡ faults_of probed =
    second.faults ∙ ap (λ (fs : List PartFault). fs ++ diode_faults (length p.resistors) second.reads) first.faults
    ∙ ap (λ (n : ℕ). resistor_faults 0 first.reads ++ diode_faults n second.reads) (sym count) in
    let happens : Happens s u (probes_of probed) None = Happens-then first.happens second.happens in
    let few = ok.components.few in
    record {
      probed = probed;
      resistors = first.parts_are;
      diodes = second.parts_are;
      happens = happens;
      faults_are = are;
      truth = λ honest.
          both {P = λ rows. All (IsOhms s.points rows) first.reads} {Q = λ rows. All (IsJunction s.points rows) second.reads} {R =
          λ rows. faults ≡ part_faults p rows} s.truth
          (λ rows read back.
          are
          ∙ true-faults p ok probed first.parts_are second.parts_are rows
          (subst (λ (n : ℕ). All (IsOhms n rows) first.reads) points read)
          (subst (λ (n : ℕ). All (IsJunction n rows) second.reads) points back))
          (first.truth honest)
          (moved (λ rows n. All (IsJunction n rows) second.reads) first.happens second.truth honest);
      read =
          let P : Option (List Event) → Type 0 = λ o. IfSome o (λ trail. PartsRead p trail faults) in
          subst P (sym (Happens-trail happens))
          (subst (λ (fs : List PartFault). IfSome (followed (probes_of probed) s.trail) (λ trail. PartsRead p trail fs)) (sym are)
          (shown p ok probed first.parts_are second.parts_are s.trail));
      counted =
          counted-probes (length p.resistors + 2 * length p.diodes) (let many = length-probes probed in omega arith)
          (All-append IsProbe (resistor_probes first.reads) (diode_probes second.reads) (resistor_probes-IsProbe first.reads)
          (diode_probes-IsProbe second.reads)) happens;
      in_range =
          λ some. subst PartFaultsInRange (sym are) (faults-in_range probed (omega arith) first.fits second.fits (let same = ap length are in omega arith));
    }

-- with the lists under other names
pub checks-parts : {s t u : RigState} {none found faults : List PartFault} {n : ℕ} {rs : List Resistor} {ds : List Diode} (p : Program) → IsProgram p
    → s.points ≡ p.nets.points
    → rs ≡ p.resistors → ds ≡ p.diodes → n ≡ length rs → none ≡ [] → ProbedResistors s t rs none found → ProbedDiodes t u n ds found faults
    → ChecksParts p s u faults
checks-parts {s} {t} {u} {none} {found} {faults} {n} {rs} {ds} p ok points resistors diodes number empty first second =
    checks p ok points
    (subst (λ (xs : List Resistor). ProbedResistors s t xs [] found) resistors (subst (λ (fs : List PartFault). ProbedResistors s t rs fs found) empty first))
    (subst (λ (xs : List Diode). ProbedDiodes t u (length p.resistors) xs found faults) diodes
    (subst (λ (m : ℕ). ProbedDiodes t u m ds found faults) (number ∙ ap length resistors) second))

-- ---- the order of high voltage

pub order-checks : {s t : RigState} {faults : List PartFault} {p : Program} → ChecksParts p s t faults → StaysInOrder s t
order-checks done =
    let rs = done.probed.resistors in
    let ds = done.probed.diodes in
    StaysInOrder-probes (All-append IsProbe (resistor_probes rs) (diode_probes ds) (resistor_probes-IsProbe rs) (diode_probes-IsProbe ds)) done.happens

pub order-stops : {s t : RigState} {stop : RigStop} → StopsChecking s t stop → StaysInOrder s t
order-stops stopped = StaysInOrder-probes stopped.probes stopped.happens
