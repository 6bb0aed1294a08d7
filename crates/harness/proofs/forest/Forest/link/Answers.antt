use Rattle.std.proofs.Common.{◌≡◌, ◌++◌, ◌∷◌, [], List, ℕ, set, sym, ◌∙◌, ap, subst}
use Rattle.harness.specs.Forest.{Links}
use Rattle.harness.proofs.Trees.{link_all_of}
use Rattle.harness.proofs.forest.Forest.link.Goals as goal

pub returns : goal.returns
returns c =
    let low = c.in_order-low.result.0 in
    let high = c.in_order-low.result.1 in
    let old = c.args.self.now.parents.items in
    let moved = c.args.self.now.moved.items in
    let ps = c.root-other.new.self.parents.items in
    let grown : c.push.new.self.items ≡ moved ++ (high ∷ []) = c.in_ok-push.ensures.items ∙ ap (λ (ms : List ℕ). ms ++ (high ∷ [])) (c.root-other.ensures.moved ∙ c.root-one.ensures.moved) in
    subst (λ (ms : List ℕ). Links old (set ps c.index.result low) moved ms c.args.a c.args.b) (sym grown)
    (subst (λ k. Links old (set ps k low) moved (moved ++ (high ∷ [])) c.args.a c.args.b) (sym c.index.ensures.same)
    (link_all_of old c.root-one.new.self.parents.items ps moved c.args.a c.args.b c.root-one.result c.root-other.result low high
    c.root-one.ensures.climbs c.root-one.ensures.root c.root-other.ensures.climbs c.root-other.ensures.root c.in_order-low.ensures.low c.in_order-low.ensures.high))
