use Rattle.std.proofs.Common.{◌≡◌, ◌+◌, ℕ, Bool, List, true, Vec, Global, sym, ◌∙◌, ap, subst, arith}
use Rattle.partition.specs.Classes.{has}
use Rattle.partition.specs.NetTable.{judged_points, net_at}
use Rattle.difference.specs.Measured.{AreMixed}
use Rattle.difference.proofs.MeasuredLemmas.{class_below, class_judged, counts_judged, measured_size, mixed_more, mixed_own, mixed_skip, none_judged}
use Rattle.difference.proofs.measure.mixed_classes.Goals as goal
use Rattle.difference.proofs.measure.mixed_classes.Goals.{then-judges+then-net_of, then-judges+else-net_of, else-judges}

pub judges-requires : goal.judges-requires
judges-requires c = let size = measured_size c.args.nets.now c.args.measured.now c.requires in omega arith

pub net_of-requires : goal.net_of-requires
net_of-requires c =
    let points = c.points.ensures.points in
    let small = c.points.type_inv in
    counts_judged c.args.nets.now c.args.measured.now c.requires (omega arith) c.loop-p.p (c.judges.ensures.judged c.if-judges.true)

pub net_of-requires-then-judges : goal.net_of-requires-then-judges
net_of-requires-then-judges c =
    let points = c.points.ensures.points in
    let small = c.points.type_inv in
    let counts = counts_judged c.args.nets.now c.args.measured.now c.requires (omega arith) c.loop-p.p (c.judges.ensures.judged c.if-judges.true) in
    subst (λ (p : ℕ). has (judged_points c.args.nets.now) p ≡ true) (sym c.class_of-class.ensures) (class_judged c.args.nets.now c.args.measured.now c.requires c.loop-p.p counts)

pub index_mut-requires : goal.index_mut-requires
index_mut-requires c =
    let points = c.points.ensures.points in
    let small = c.points.type_inv in
    let counts = counts_judged c.args.nets.now c.args.measured.now c.requires (omega arith) c.loop-p.p (c.judges.ensures.judged c.if-judges.true) in
    omega (arith, class_below c.args.nets.now c.args.measured.now c.requires c.loop-p.p counts, c.loop-p.invariant.size, c.loop-p.mixed.ok)

pub loop-p-preserved : goal.loop-p-preserved
loop-p-preserved c =
    let points = c.points.ensures.points in
    let small = c.points.type_inv in
    let t = c.args.nets.now in
    let m = c.args.measured.now in
    elim c.if-judges.branch [
      | then-judges+then-net_of w ↦
          let counts = counts_judged t m c.requires (omega arith) c.loop-p.p (c.judges.ensures.judged w.if-judges.true) in
          let class = w.index.ensures.same ∙ w.class_of-class.ensures in
          let other = λ (e : net_at t c.loop-p.p ≡ net_at t w.index.result). w.if-net_of.true (w.net_of.ensures.number ∙ e ∙ ap (net_at t) w.index.ensures.same ∙ sym w.net_of-then-judges.ensures.number) in
          mixed_more t m c.loop-p.p w.index.result c.loop-p.mixed.items c.if-judges.mixed.items c.loop-p.invariant counts class
          (omega (arith, class, class_below t m c.requires c.loop-p.p counts)) other (ap (λ (v : Vec Bool Global). v.items) w.mixed-is)
      | then-judges+else-net_of w ↦
          let same = sym w.net_of.ensures.number ∙ w.if-net_of.false ∙ w.net_of-then-judges.ensures.number ∙ ap (net_at t) w.class_of-class.ensures in
          subst (λ (xs : List Bool). AreMixed t m (c.loop-p.p + 1) xs) (sym (ap (λ (v : Vec Bool Global). v.items) w.mixed-is)) (mixed_own t m c.loop-p.p c.loop-p.mixed.items c.loop-p.invariant same)
      | else-judges w ↦
          let none = none_judged t m c.requires (omega arith) c.loop-p.p (c.judges.ensures.none w.if-judges.false) in
          subst (λ (xs : List Bool). AreMixed t m (c.loop-p.p + 1) xs) (sym (ap (λ (v : Vec Bool Global). v.items) w.mixed-is)) (mixed_skip t m c.loop-p.p c.loop-p.mixed.items c.loop-p.invariant none)
    ]
