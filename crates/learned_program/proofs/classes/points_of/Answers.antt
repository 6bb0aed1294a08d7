use Rattle.std.proofs.Common.{◌∙◌, ap, sym, List, ℕ, ◌++◌, ◌∷◌, []}
use Rattle.std.proofs.lemmas.Bool.{eqb-true, eqb-false}
use Rattle.learned_program.proofs.ClassLemmas.{point_taken, point_left}
use Rattle.learned_program.proofs.classes.points_of.Goals as goal
use Rattle.learned_program.proofs.classes.points_of.Goals.{then-eq+in_ok-push, else-eq}

pub loop-p-preserved : goal.loop-p-preserved
loop-p-preserved c =
    elim c.if-eq.branch [
      | then-eq+in_ok-push w ↦
          w.list-is ∙ w.in_ok-push.ensures.ok
          ∙ ap (λ (points : List ℕ). points ++ c.loop-p.p ∷ []) c.loop-p.invariant
          ∙ sym (point_taken c.args.partition.now c.args.class c.loop-p.p (sym c.class_of.ensures ∙ eqb-true _ _ (sym c.eq.ensures ∙ w.if-eq.true)))
      | else-eq w ↦
          w.list-is ∙ c.loop-p.invariant
          ∙ sym (point_left c.args.partition.now c.args.class c.loop-p.p (λ same. eqb-false _ _ (sym c.eq.ensures ∙ w.if-eq.false) (c.class_of.ensures ∙ same)))
    ]
