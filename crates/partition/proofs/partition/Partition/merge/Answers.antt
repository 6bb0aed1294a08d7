use Rattle.std.proofs.Common.{◌≡◌, ℕ, List, sym, ◌∙◌, ap, subst, arith, take, drop, length, ◌++◌, map, cond, eqb}
use Rattle.partition.specs.Classes.{merged}
use Rattle.partition.specs.Partitions.{IsOver, IsPartitionValue, JoinsBesides}
use Rattle.partition.proofs.classes.JudgedPartition.{merged-over}
use Rattle.partition.proofs.classes.MergeLemmas.{merged-joins, merged-valid, merged-is, written-back}
use Rattle.partition.proofs.partition.Partition.merge.Goals as goal

made : (c : goal.After-self-1) → take c.self.inside.classes.len (c.relabel.new.classes ++ drop (length c.relabel.new.classes) c.self.inside.classes.items) ≡ merged c.args.self.now c.args.a c.args.b
made c =
    written-back c.relabel.new.classes c.self.inside.classes.items c.self.inside.classes.len (omega (arith, c.relabel.auto.classes, c.deref_mut.ensures.len, ap length c.deref_mut.ensures.value)) (omega (arith, c.deref_mut.ensures.len, ap length c.deref_mut.ensures.value))
    ∙ merged-is c.args.self.now c.relabel.new.classes c.args.a c.args.b c.class_of-one.result c.class_of-other.result c.ordered-low.result.0 c.ordered-low.result.1
    c.class_of-one.ensures c.class_of-other.ensures c.ordered-low.ensures.low c.ordered-low.ensures.high
    (c.relabel.ensures ∙ ap (map (λ x. cond (eqb x c.ordered-low.result.1) c.ordered-low.result.0 x)) (c.deref_mut.ensures.value ∙ c.self.view_is))

pub invariant_of-self : goal.invariant_of-self
invariant_of-self c = subst IsPartitionValue (sym (made c)) (merged-valid c.args.self.now c.args.a c.args.b c.requires.a c.requires.b (subst IsPartitionValue c.self.view_is c.self.invariant))

pub returns-clause-merged : goal.returns-clause-merged
returns-clause-merged c = made c

pub returns-clause-over : goal.returns-clause-over
returns-clause-over c =
    subst (IsOver c.args.self.now) (sym (made c)) (merged-over c.args.self.now c.args.a c.args.b c.requires.a c.requires.b (subst IsPartitionValue c.self.view_is c.self.invariant).partition)

pub returns-clause-together : goal.returns-clause-together
returns-clause-together c =
    subst (λ (new : List ℕ). JoinsBesides c.args.self.now new c.args.a c.args.b) (sym (made c)) (merged-joins c.args.self.now c.args.a c.args.b c.requires.a c.requires.b)
