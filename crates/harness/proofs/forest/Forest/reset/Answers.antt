use Rattle.std.proofs.Common.{◌≡◌, ◌<◌, ℕ, List, [], ◌∷◌, refl, length, arith}
use Rattle.harness.proofs.Trees.{alone_again}
use Rattle.harness.proofs.forest.Forest.reset.Goals as goal

nothing : (xs : List ℕ) → (0 < length xs → ⊥) → xs ≡ []
nothing [] empty = refl
nothing (x ∷ xs) empty = absurd (empty (omega arith))

pub returns : goal.returns
returns c =
    let empty : 0 < length c.loop-point.self.moved.items → ⊥ = λ h. let v = c.in_default.ensures.variant.1 (omega arith) in cc in
    let none : c.loop-point.self.moved.items ≡ [] = nothing c.loop-point.self.moved.items empty in
    record { parents = alone_again c.loop-point.self.parents.items c.loop-point.self.moved.items (length c.args.self.now.parents.items) c.loop-point.invariant.size none c.loop-point.invariant.listed }
