use Rattle.std.proofs.Common.{◌≡◌, ℕ, [], length, arith, sym, ◌∙◌, ap, subst}
use Rattle.std.specs.List.{flat_map}
use Rattle.std.proofs.lemmas.Bool.{eqb-false}
use Rattle.std.proofs.lemmas.Result.{on_ok_weaker, IfErr-weaker}
use Rattle.partition.specs.Classes.{points_below}
use Rattle.partition.specs.NetFaults.{listed, net_faults}
use Rattle.partition.proofs.tables.ClaimLemmas.{nets_below, claimed_net, net_first}
use Rattle.partition.proofs.nets.claim_net.Goals as goal

pub overflow_cast-result : goal.overflow_cast-result
overflow_cast-result c =
    let inside = c.requires.inside in
    let few = nets_below c.args.lists.now c.args.i c.args.owners.now c.requires.before (omega arith) in
    let small = c.requires.small in
    omega arith

pub returns-clause-ok : goal.returns-clause-ok
returns-clause-ok c =
    let some = eqb-false (length c.net.result.now) 0 (sym c.is_empty.ensures ∙ c.if-is_empty.false) in
    let here : length c.net.result.now ≡ length (listed c.args.lists.now c.args.i) = ap length c.net.ensures in
    let before = subst (λ (n : ℕ). flat_map (net_faults n c.args.lists.now) (points_below c.args.i) ≡ []) (sym c.claim.auto.owners) c.requires.before.faultless in
    on_ok_weaker c.claim.result (claimed_net c.args.lists.now c.args.i c.claim.new.owners (omega arith) before) c.claim.ensures.ok

pub returns-clause-err : goal.returns-clause-err
returns-clause-err c =
    let some = eqb-false (length c.net.result.now) 0 (sym c.is_empty.ensures ∙ c.if-is_empty.false) in
    let here : length c.net.result.now ≡ length (listed c.args.lists.now c.args.i) = ap length c.net.ensures in
    IfErr-weaker c.claim.result _ _ (λ e. net_first c.args.lists.now c.args.i c.args.owners.now (length c.args.owners.now) e (omega arith)) c.claim.ensures.err
