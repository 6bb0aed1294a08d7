use Rattle.std.proofs.Common.{◌≡◌, get_or, set, sym, subst, arith}
use Rattle.std.proofs.lemmas.Grind.{common_steps}
use Rattle.harness.specs.Forest.{Climbs}
use Rattle.harness.proofs.Trees.{climb_step}
use Rattle.harness.proofs.forest.Forest.root.Goals as goal

pub loop-self-preserved : goal.loop-self-preserved
loop-self-preserved c =
    let ps = c.loop-self.self.parents.items in
    let parent_is : c.index-parent.result.now ≡ get_or ps c.loop-self.at 0 = grind (arith, common_steps) in
    let above_is : c.index-above.result.now ≡ get_or ps c.index-parent.result.now 0 = grind (arith, common_steps) in
    record {
      climbs = subst (λ k. Climbs c.args.self.now.parents.items (set ps k c.index-above.result.now) c.args.point c.index-above.result.now) (sym c.index-in-loop-self-4.ensures.same)
          (climb_step c.args.self.now.parents.items ps c.args.point c.loop-self.at c.index-parent.result.now c.index-above.result.now c.loop-self.invariant.climbs parent_is above_is);
      moved = c.loop-self.invariant.moved;
    }
