use Rattle.std.proofs.Common.{◌≡◌, ℕ, true, sym, ◌∙◌, ap, subst}
use Rattle.partition.specs.Classes.{has}
use Rattle.partition.specs.NetTable.{head_of, judged_points}
use Rattle.partition.proofs.tables.NetClasses.{head_first, head_judged}
use Rattle.partition.proofs.nets.Nets.head.Goals as goal

pub returns-clause-head : goal.returns-clause-head
returns-clause-head c = head_first c.net.result.now c.index-net-0.result c.net.ensures.some c.net.ensures.ascending c.index-net-0.is ∙ ap head_of c.net.ensures.net

pub returns-clause-judged : goal.returns-clause-judged
returns-clause-judged c =
    let is = head_first c.net.result.now c.index-net-0.result c.net.ensures.some c.net.ensures.ascending c.index-net-0.is ∙ ap head_of c.net.ensures.net in
    subst (λ (p : ℕ). has (judged_points c.args.self.now) p ≡ true) (sym is) (head_judged c.args.self.now c.net.ensures.valid c.args.i c.requires)
