use Rattle.std.proofs.Common.{◌≡◌, ℕ, List, length, refl, sym, ◌∙◌, ap, subst, arith}
use Rattle.std.specs.Prelude.{All, IfOk, Result, Ok, Err}
use Rattle.std.proofs.lemmas.List.FromFn.{length-range_with_len}
use Rattle.base.specs.declared.memory.Memory.{Memory}
use Rattle.partition.specs.Classes.{points_below}
use Rattle.partition.proofs.classes.JoinedPartition.{joined_by-own}
use Rattle.rig.specs.Joins.{IsRowBelow, joins_of, joined_classes}
use Rattle.rig.proofs.RowsBelow.{joins_below}
use Rattle.harness.specs.Forest.{IsForest}
use Rattle.harness.proofs.Trees.{labels_below, labels_back}
use Rattle.harness.proofs.forest.join.Goals as goal

size_of : (ps : List ℕ) (n : ℕ) → ps ≡ points_below n → length ps ≡ n
size_of ps n is = ap length is ∙ length-range_with_len 0 n

pub link_all-requires-clause-alone : goal.link_all-requires-clause-alone
link_all-requires-clause-alone c =
    let is = c.in_ok-forest.ensures.parents in
    is ∙ ap points_below (sym (size_of c.in_ok-forest.forest.parents.items c.args.points is))

pub link_all-requires-clause-below : goal.link_all-requires-clause-below
link_all-requires-clause-below c =
    subst (λ n. All (IsRowBelow n) c.args.rows.now) (sym (size_of c.in_ok-forest.forest.parents.items c.args.points c.in_ok-forest.ensures.parents)) c.requires

labels : (ps flat shown : List ℕ) (n m : ℕ) (joined : ℕ → List ℕ) → ps ≡ points_below n → m ≡ length ps → ((classes : List ℕ) → IsForest flat classes → shown ≡ classes) → IsForest flat (joined m) → shown ≡ joined n
labels ps flat shown n m joined alone m_is back forest = back (joined m) forest ∙ ap joined (m_is ∙ size_of ps n alone)

pub by_labels-requires-clause-few : goal.by_labels-requires-clause-few
by_labels-requires-clause-few c =
    let is = c.as_slice.ensures.value ∙ labels c.in_ok-forest.forest.parents.items c.link_all.new.self.parents.items c.flatten.new.self.parents.items c.args.points _ (joined_classes c.args.rows.now) c.in_ok-forest.ensures.parents refl c.flatten.ensures c.in_ok-link_all.ensures.forest in
    let own = joined_by-own (joins_of c.args.rows.now) c.args.points (joins_below c.args.points c.args.rows.now c.requires) in
    omega (arith, ap length is, own.1, c.ranges.points)

pub by_labels-requires-clause-labels : goal.by_labels-requires-clause-labels
by_labels-requires-clause-labels c =
    let is = c.as_slice.ensures.value ∙ labels c.in_ok-forest.forest.parents.items c.link_all.new.self.parents.items c.flatten.new.self.parents.items c.args.points _ (joined_classes c.args.rows.now) c.in_ok-forest.ensures.parents refl c.flatten.ensures c.in_ok-link_all.ensures.forest in
    labels_below c.args.rows.now c.args.points c.requires c.as_slice.result.now is

of_result : (r : Result (List ℕ) Memory) (given wanted : List ℕ) → given ≡ wanted → IfOk r (λ p. p ≡ given) → IfOk r (λ p. p ≡ wanted)
of_result (Ok p) given wanted same is = is ∙ same
of_result (Err e) given wanted same is = tt

pub returns : goal.returns
returns c =
    let is = c.as_slice.ensures.value ∙ labels c.in_ok-forest.forest.parents.items c.link_all.new.self.parents.items c.flatten.new.self.parents.items c.args.points _ (joined_classes c.args.rows.now) c.in_ok-forest.ensures.parents refl c.flatten.ensures c.in_ok-link_all.ensures.forest in
    of_result c.by_labels.result _ (joined_classes c.args.rows.now c.args.points) (labels_back c.args.rows.now c.args.points (omega (arith, c.ranges.points)) c.requires c.as_slice.result.now is ∙ is) c.by_labels.ensures
