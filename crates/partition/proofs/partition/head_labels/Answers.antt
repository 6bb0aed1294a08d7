use Rattle.std.proofs.Common.{◌≡◌, ℕ, ◌∙◌, ap, arith, map}
use Rattle.partition.specs.Classes.{points_below}
use Rattle.partition.specs.Claims.{head_class}
use Rattle.partition.proofs.tables.NetClasses.{class_more}
use Rattle.partition.proofs.partition.head_labels.Goals as goal

pub loop-p-preserved : goal.loop-p-preserved
loop-p-preserved c = class_more c.args.nets.now _ _ c.loop-p.p c.class_by_nets.result c.loop-p.invariant c.class_by_nets.ensures c.in_ok-push.ensures.items

pub returns : goal.returns
returns c =
    let last : c.loop-p.p ≡ c.args.nets.now.points = omega (arith, c.points-p-end.ensures.points) in
    record {
      labels = c.loop-p.invariant ∙ ap (λ (n : ℕ). map (head_class c.args.nets.now) (points_below n)) last;
      valid = c.points-p-end.ensures.valid;
      few = let small = c.points-p-end.type_inv in omega (arith, c.points-p-end.ensures.points);
    }
