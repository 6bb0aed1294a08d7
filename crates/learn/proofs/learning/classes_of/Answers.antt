use Rattle.std.proofs.Common.{Ok, ◌∙◌, ap, arith}
use Rattle.rig.proofs.Reading.{Reads-none, Reads-then, Reads-refused, Reads-no_memory}
use Rattle.learn.proofs.Learnt.{Learning-start, Learning-asks, Learning-stopped, Learning-new, Learning-joined, Learning-proven, Learning-class, Learning-member, OnErr-any}
use Rattle.learn.proofs.learning.classes_of.Goals as goal
use Rattle.learn.proofs.learning.classes_of.Goals.{in-Some, in-None+in_ok-push-in-None}

pub returns-in_err-classes-clause-reads : goal.returns-in_err-classes-clause-reads
returns-in_err-classes-clause-reads g c = Reads-no_memory (Reads-none _) _ c.from_residual.ensures.1

pub loop-i-init : goal.loop-i-init
loop-i-init g c = rw (c.in_ok-classes.ensures, c.new-heads.ensures) (Learning-start _ _ c.points.ensures.points c.points.ensures.some (omega arith))

pub head_of-requires : goal.head_of-requires
head_of-requires g c = record { groups = rw c.as_slice.ensures (Learning-asks c.loop-i.invariant (omega arith)) }

pub returns-in_err-head-clause-reads : goal.returns-in_err-head-clause-reads
returns-in_err-head-clause-reads g c = Reads-refused c.loop-i.invariant.reads c.in_err-head.ensures.reads _ c.from_residual-in_err-head.ensures.1

pub returns-in_err-head-clause-refused : goal.returns-in_err-head-clause-refused
returns-in_err-head-clause-refused g c = OnErr-any _ (Learning-stopped c.loop-i.invariant (omega arith)
    (rw c.as_slice.ensures at c.in_err-head.ensures.at_most))

pub merge-requires-clause-a : goal.merge-requires-clause-a
merge-requires-clause-a g c =
    let head = rw c.in-Some.is at c.in_ok-head.ensures.head in
    Learning-class c.loop-i.invariant _ (Learning-member c.loop-i.invariant (omega arith) (rw c.as_slice.ensures at head.0))

pub merge-requires-clause-b : goal.merge-requires-clause-b
merge-requires-clause-b g c = Learning-class c.loop-i.invariant _ (omega arith)

pub returns-clause-all : goal.returns-clause-all
returns-clause-all g c = c.loop-i.invariant.partition

pub returns-in_err-push-in-None-clause-reads : goal.returns-in_err-push-in-None-clause-reads
returns-in_err-push-in-None-clause-reads g c = Reads-no_memory
    (Reads-then c.loop-i.invariant.reads c.in_ok-head.ensures.reads) _ c.from_residual-in_err-push-in-None.ensures.1

pub returns-in_err-push-in-None-clause-refused : goal.returns-in_err-push-in-None-clause-refused
returns-in_err-push-in-None-clause-refused g c = OnErr-any _ (Learning-stopped c.loop-i.invariant (omega arith)
    (rw c.as_slice.ensures at c.in_ok-head.ensures.at_most))

pub loop-i-preserved : goal.loop-i-preserved
loop-i-preserved g c = elim c.match-branch-3.branch [
  | in-Some w ↦
      let head = rw w.in-Some.is at c.in_ok-head.ensures.head in
      rw w.heads-is (Learning-joined c.loop-i.invariant (omega arith) c.in_ok-head.ensures.reads (rw c.as_slice.ensures at head.0) head.1
      (rw w.in-Some.is at c.in_ok-head.ensures.spent) (rw c.as_slice.ensures at c.in_ok-head.ensures.at_most) (w.classes-is ∙ w.merge.ensures.merged))
  | in-None+in_ok-push-in-None w ↦
      let apart = c.in_ok-head.ensures.none (ap Ok w.in-None.is) in
      let spent = rw c.as_slice.ensures at (c.in_ok-head.ensures.none_spent (ap Ok w.in-None.is)) in
      rw w.classes-is (Learning-new c.loop-i.invariant (omega arith) c.in_ok-head.ensures.reads (rw c.as_slice.ensures at apart) (omega (arith, spent))
      (w.heads-is ∙ w.in_ok-push-in-None.ensures.ok))
]

pub returns-clause-proven : goal.returns-clause-proven
returns-clause-proven g c = Learning-proven c.loop-i.invariant (omega arith)
