use Rattle.std.proofs.Common.{◌<◌, ℕ, List, length, get_or, refl, sym, ◌∙◌, ap, subst, arith, Vec, Global}
use Rattle.partition.specs.Classes.{class_at}
use Rattle.difference.specs.declared.wiring.Short.{Short}
use Rattle.difference.proofs.MeasuredLemmas.{class_below, homed_read, judged_inside, shorts_all, shorts_alone, shorts_other, shorts_push}
use Rattle.difference.proofs.shorts.shorts.Goals as goal
use Rattle.difference.proofs.shorts.shorts.Goals.{then-homed-gt-LONE+then-homed-i+in_ok-nets+in_ok-push, else-homed-gt-LONE, else-homed-gt-LONE-via-then-homed-gt-LONE+else-homed-i, else-homed-gt-LONE-via-else-homed-gt-LONE}

pub class_of-requires : goal.class_of-requires
class_of-requires c = judged_inside c.args.nets.now c.args.measured.now c.requires c.head-class.result c.head-class.ensures.judged

pub index-requires-in-loop-i : goal.index-requires-in-loop-i
index-requires-in-loop-i c =
    omega (arith, c.index.ensures.same, c.class_of.ensures, class_below c.args.nets.now c.args.measured.now c.requires c.head-class.result c.head-class.ensures.judged, c.in_ok-homes.ensures.size, c.in_ok-homes.homes.ok)

pub loop-i-preserved : goal.loop-i-preserved
loop-i-preserved c =
    let t = c.args.nets.now in
    let m = c.args.measured.now in
    let home = c.index.ensures.same ∙ c.class_of.ensures ∙ ap (class_at m) c.head-class.ensures.head in
    let low = class_below t m c.requires c.head-class.result c.head-class.ensures.judged in
    let below : c.index.result < t.points = omega (arith, c.index.ensures.same, c.class_of.ensures) in
    let homed = homed_read t m c.in_ok-homes.homes.items _ c.loop-i.i c.index.result c.index-in-loop-i.result.now c.as_slice-homed.result.now c.in_ok-homes.ensures refl home below c.index-in-loop-i.ensures
    c.as_slice-homed.ensures in
    elim c.if-homed-gt-LONE.branch [
      | then-homed-gt-LONE+then-homed-i+in_ok-nets+in_ok-push w ↦
          ap (λ (v : Vec Short Global). v.items) w.shorts-is
          ∙ shorts_push t m c.loop-i.shorts.items w.push.new.self.items c.loop-i.i c.head-class.result w.in_ok-nets.nets c.loop-i.invariant c.head-class.ensures.head (w.in_ok-nets.ensures ∙ homed)
          (subst (λ (xs : List ℕ). 1 < length xs) (sym w.in_ok-nets.ensures) w.if-homed-gt-LONE.true) (ap (λ (xs : List ℕ). get_or xs 0 0) w.in_ok-nets.ensures ∙ w.if-homed-i.true) w.in_ok-push.ensures.items
      | else-homed-gt-LONE w ↦
          ap (λ (v : Vec Short Global). v.items) w.shorts-is
          ∙ elim w.else-homed-gt-LONE.branch [
            | else-homed-gt-LONE-via-then-homed-gt-LONE+else-homed-i v ↦
                shorts_other t m c.loop-i.shorts.items c.loop-i.i c.as_slice-homed.result.now c.loop-i.invariant homed v.if-homed-gt-LONE.true v.if-homed-i.false
            | else-homed-gt-LONE-via-else-homed-gt-LONE v ↦
                shorts_alone t m c.loop-i.shorts.items c.loop-i.i c.as_slice-homed.result.now c.loop-i.invariant homed v.if-homed-gt-LONE.false
          ]
    ]

pub returns : goal.returns
returns c = c.from_vec.ensures ∙ shorts_all c.args.nets.now c.args.measured.now c.loop-i.shorts.items c.loop-i.i c.loop-i.invariant (omega (arith, c.count-i-end.ensures.count))
