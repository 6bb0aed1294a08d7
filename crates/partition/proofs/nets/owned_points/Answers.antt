use Rattle.std.proofs.Common.{◌≡◌, ◌<◌, ◌++◌, ◌∷◌, [], ℕ, List, length, sym, ◌∙◌, ap, arith, get_or, filter, eqb}
use Rattle.std.proofs.lemmas.List.{get_or_default}
use Rattle.std.proofs.lemmas.Bool.{eq-eqb, ne_eqb}
use Rattle.partition.specs.Classes.{points_below}
use Rattle.partition.specs.Claims.{nobody, owner_at}
use Rattle.partition.proofs.tables.AloneLemmas.{points_yes, points_no}
use Rattle.partition.proofs.nets.owned_points.Goals as goal
use Rattle.partition.proofs.nets.owned_points.Goals.{then-other-owner+in_ok-push, else-other-owner}

pub loop-p-preserved : goal.loop-p-preserved
loop-p-preserved c =
    let inside : c.loop-p.p < length c.args.owners.now = omega arith in
    let own : owner_at c.args.owners.now c.loop-p.p ≡ get_or c.args.owners.now c.loop-p.p 0 = get_or_default c.args.owners.now c.loop-p.p nobody 0 inside in
    let test = λ (q : ℕ). eqb (owner_at c.args.owners.now q) c.args.owner in
    elim c.if-other-owner.branch [
      | then-other-owner+in_ok-push w ↦
          w.list-is ∙ w.in_ok-push.ensures.ok ∙ ap (λ (xs : List ℕ). xs ++ c.loop-p.p ∷ []) c.loop-p.invariant
          ∙ sym (points_yes test c.loop-p.p (eq-eqb (owner_at c.args.owners.now c.loop-p.p) c.args.owner (own ∙ w.if-other-owner.true)))
      | else-other-owner w ↦
          w.list-is ∙ c.loop-p.invariant
          ∙ sym (points_no test c.loop-p.p (ne_eqb (owner_at c.args.owners.now c.loop-p.p) c.args.owner (λ e. w.if-other-owner.false (sym own ∙ e))))
    ]

pub returns : goal.returns
returns c =
    let last : c.loop-p.p ≡ length c.args.owners.now = omega arith in
    c.loop-p.invariant ∙ ap (λ (n : ℕ). filter (λ q. eqb (owner_at c.args.owners.now q) c.args.owner) (points_below n)) last
