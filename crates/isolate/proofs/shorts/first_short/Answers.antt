use Rattle.std.proofs.Common.{◌≡◌, ◌∙◌, ap, arith, length, List, ℕ, ◌+◌, ◌-◌}
use Rattle.partition.specs.Heads.{heads}
use Rattle.partition.specs.Digits.{digits_of}
use Rattle.partition.proofs.classes.HeadLemmas.{heads_le, heads_of_some}
use Rattle.partition.proofs.DigitLaws.{digits_least}
use Rattle.rig.specs.Trail.{ReadsAmong}
use Rattle.rig.proofs.Reading.{Reads-none, Reads-then, Reads-refused, Reads-no_memory, Extends-refl}
use Rattle.isolate.proofs.Separating.{Separating-start, Separating-asks, Separating-among, Separating-apart, Separating-proven}
use Rattle.isolate.proofs.shorts.first_short.Goals as goal

pub returns-in_err-list-clause-reads : goal.returns-in_err-list-clause-reads
returns-in_err-list-clause-reads g c = Reads-no_memory (Reads-none _) _ c.from_residual.ensures.1

pub returns-in_err-list-clause-judged : goal.returns-in_err-list-clause-judged
returns-in_err-list-clause-judged g c = Extends-refl (ReadsAmong _) _

pub returns-in_err-differ_and_conduct-clause-judged : goal.returns-in_err-differ_and_conduct-clause-judged
returns-in_err-differ_and_conduct-clause-judged g c =
    let heads_are : c.as_slice-heads.result.now ≡ heads c.args.unit.now.partition = c.as_slice-heads.ensures ∙ c.in_ok-list.ensures.heads
    ∙ ap heads c.programmed.ensures.same in
    Separating-among c.loop-bit.invariant
    (g.R.Rig.state c.differ_and_conduct.new.unit.rig) c.as_slice-heads.result.now heads_are c.in_err-differ_and_conduct.ensures.points

pub returns-then-branch-clause-judged : goal.returns-then-branch-clause-judged
returns-then-branch-clause-judged g c =
    let heads_are : c.as_slice-heads.result.now ≡ heads c.args.unit.now.partition = c.as_slice-heads.ensures ∙ c.in_ok-list.ensures.heads
    ∙ ap heads c.programmed.ensures.same in
    Separating-among c.loop-bit.invariant
    (g.R.Rig.state c.differ_and_conduct.new.unit.rig) c.as_slice-heads.result.now heads_are c.in_ok-differ_and_conduct.ensures.points

pub overflow_cast-heads : goal.overflow_cast-heads
overflow_cast-heads g c = omega (
  arith,
  ap length (c.as_slice-heads.ensures
      ∙ c.in_ok-list.ensures.heads),
  heads_le c.programmed.result.now,
  c.programmed.ensures.partition.few,
)

pub overflow_sub-heads : goal.overflow_sub-heads
overflow_sub-heads g c = omega (
  arith,
  ap length (c.as_slice-heads.ensures
      ∙ c.in_ok-list.ensures.heads),
  heads_of_some c.programmed.result.now c.programmed.ensures.partition.partition c.programmed.ensures.partition.some.0 c.programmed.ensures.partition.some.1,
)

pub loop-bit-init : goal.loop-bit-init
loop-bit-init g c = Separating-start _ _ _ c.programmed.ensures.same c.programmed.ensures.partition c.programmed.ensures.forces

pub differ_and_conduct-requires-clause-bit : goal.differ_and_conduct-requires-clause-bit
differ_and_conduct-requires-clause-bit g c =
    let size = ap length (c.as_slice-heads.ensures ∙ c.in_ok-list.ensures.heads) in
    omega (
      arith,
      c.loop-bit-test.true,
      c.digits-bit-end.ensures,
      digits_least (length c.as_slice-heads.result.now - 1) 32
          (omega (arith, size, heads_le c.programmed.result.now, c.programmed.ensures.partition.few)),
    )

pub differ_and_conduct-requires-clause-groups : goal.differ_and_conduct-requires-clause-groups
differ_and_conduct-requires-clause-groups g c =
    let heads_are : c.as_slice-heads.result.now ≡ heads c.args.unit.now.partition = c.as_slice-heads.ensures ∙ c.in_ok-list.ensures.heads
    ∙ ap heads c.programmed.ensures.same in
    Separating-asks c.loop-bit.invariant _ heads_are (omega (
      arith,
      c.loop-bit-test.true,
      c.digits-bit-end.ensures,
      ap
          (λ (l : List ℕ). digits_of (length l - 1)) heads_are,
    ))

pub returns-in_err-differ_and_conduct-clause-reads : goal.returns-in_err-differ_and_conduct-clause-reads
returns-in_err-differ_and_conduct-clause-reads g c = Reads-refused c.loop-bit.invariant.reads c.in_err-differ_and_conduct.ensures.reads _ c.from_residual-in_err-differ_and_conduct.ensures.1

pub returns-then-branch-clause-reads : goal.returns-then-branch-clause-reads
returns-then-branch-clause-reads g c = Reads-then c.loop-bit.invariant.reads c.in_ok-differ_and_conduct.ensures.reads

pub loop-bit-preserved : goal.loop-bit-preserved
loop-bit-preserved g c =
    let heads_are : c.as_slice-heads.result.now ≡ heads c.args.unit.now.partition = c.as_slice-heads.ensures ∙ c.in_ok-list.ensures.heads
    ∙ ap heads c.programmed.ensures.same in
    Separating-apart c.loop-bit.invariant _ heads_are c.in_ok-differ_and_conduct.ensures.partition c.in_ok-differ_and_conduct.ensures.points
    (rw c.if-branch.false at c.in_ok-differ_and_conduct.ensures.call)

pub returns : goal.returns
returns g c =
    let heads_are : c.as_slice-heads.result.now ≡ heads c.args.unit.now.partition = c.as_slice-heads.ensures ∙ c.in_ok-list.ensures.heads
    ∙ ap heads c.programmed.ensures.same in
    let whole : c.loop-bit.bit ≡ digits_of (length (heads c.args.unit.now.partition) - 1) = omega
    (arith, c.loop-bit.auto.bit-end, c.loop-bit-test.false, c.digits-bit-end.ensures, ap (λ (l : List ℕ). digits_of (length l - 1)) heads_are) in
    record {
      reads = c.loop-bit.invariant.reads;
      judged = c.loop-bit.invariant.among;
      partition = c.loop-bit.invariant.same;
      proven = λ _. Separating-proven c.loop-bit.invariant whole;
      spent = λ _. c.loop-bit.invariant.spent ∙ ap (λ (n : ℕ). (g.R.Rig.state c.args.unit.now.rig).spent + n) whole;
      at_most = omega (arith, c.loop-bit.invariant.spent, whole);
      short = tt;
    }
