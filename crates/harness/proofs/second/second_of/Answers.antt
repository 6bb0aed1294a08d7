use Rattle.std.proofs.Common.{ℕ, length, sym, subst, arith}
use Rattle.partition.specs.Classes.{class_at}
use Rattle.std.specs.Prelude.{All, ◌≤◌}
use Rattle.rig.specs.Joins.{IsRowBelow, joined_classes}
use Rattle.harness.specs.Forest.{IsForest}
use Rattle.harness.specs.Pairs.{IsFirstRepeat}
use Rattle.harness.proofs.Trees.{classes_small}
use Rattle.harness.proofs.second.second_of.Goals as goal

pub first_repeat-requires : goal.first_repeat-requires
first_repeat-requires c =
    let rows = c.args.rows.now in
    let n = length c.args.forest.now.parents.items in
    let size = c.in_ok-link_all.ensures.size in (
      subst (λ k. IsForest c.link_all.new.self.parents.items (joined_classes rows k)) (sym size) c.in_ok-link_all.ensures.forest,
      (
        subst (λ k. (p : ℕ) → class_at (joined_classes rows k) p ≤ 65535) (sym size) (classes_small rows n (let few = c.requires.few in omega arith) c.requires.below),
        (c.in_ok-link_all.ensures.listed, (subst (λ k. All (IsRowBelow k) rows) (sym size) c.requires.below, let few = c.requires.few in omega arith)),
      ),
    )

pub returns-clause-found : goal.returns-clause-found
returns-clause-found c =
    subst (λ k. IsFirstRepeat (joined_classes c.args.rows.now k) c.args.rows.now c.in_ok-found.found) c.in_ok-link_all.ensures.size c.in_ok-found.ensures.found
