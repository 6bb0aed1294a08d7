use Rattle.std.proofs.Common.{ℕ, List, sym, ◌∙◌, subst}
use Rattle.std.specs.Prelude.{IsTrue, Contains, ◌↔◌}
use Rattle.std.proofs.lemmas.Map.Views.{btree_set_contains_iff}
use Rattle.std.proofs.lemmas.Map.Lookups.{exact_unsigned}
use Rattle.std.proofs.lemmas.Cmp.{nat_cmp_total}
use Rattle.harness.proofs.numbers.CallNumbers.contains.Goals as goal

pub returns : goal.returns
returns c =
    let told = btree_set_contains_iff nat_cmp_total exact_unsigned c.self.inside.numbers c.args.number in
    let is = c.contains.ensures in
    subst (λ (ks : List ℕ). IsTrue c.contains.result ↔ Contains ks c.args.number) c.self.view_is ((λ yes. told.0 (sym is ∙ yes)), (λ h. is ∙ told.1 h))
