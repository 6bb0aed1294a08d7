use Rattle.std.proofs.Common.{◌≡◌, ◌∙◌, ◌-◌, ◌<◌, ℕ, List, Ok, ap, arith, length, get_or}
use Rattle.std.proofs.lemmas.List.{get_or_default}
use Rattle.partition.specs.Digits.{digits_of}
use Rattle.partition.specs.Heads.{heads}
use Rattle.partition.proofs.DigitLaws.{digits_least}
use Rattle.partition.proofs.classes.HeadLemmas.{heads_le, heads_of_some}
use Rattle.rig.specs.Trail.{ReadsAmong}
use Rattle.rig.proofs.Reading.{Reads-none, Reads-refused, Reads-no_memory, Extends-refl}
use Rattle.learn.proofs.Learnt.{OnErr-any}
use Rattle.isolate.proofs.Locating.{Locating-start, Locating-inside, Locating-asks, Locating-class, Locating-fewer, Locating-among, Locating-stopped, Locating-none, Locating-merged, Locating-proven}
use Rattle.isolate.proofs.merges.merged_classes.Goals as goal

pub returns-in_err-list-clause-reads : goal.returns-in_err-list-clause-reads
returns-in_err-list-clause-reads g c = Reads-no_memory (Reads-none _) _ c.from_residual.ensures.1

pub loop-bit-init : goal.loop-bit-init
loop-bit-init g c = Locating-start _ _ c.requires.partition c.requires.forces

pub overflow_cast-codes : goal.overflow_cast-codes
overflow_cast-codes g c = omega (arith, ap length (c.as_slice-codes.ensures ∙ c.in_ok-list.ensures.heads), heads_le c.args.within, c.requires.partition.few)

pub overflow_sub-codes : goal.overflow_sub-codes
overflow_sub-codes g c = omega (
  arith,
  ap length (c.as_slice-codes.ensures
      ∙ c.in_ok-list.ensures.heads),
  heads_of_some c.args.within c.requires.partition.partition c.requires.partition.some.0 c.requires.partition.some.1,
)

pub joined_pair-requires-clause-bit : goal.joined_pair-requires-clause-bit
joined_pair-requires-clause-bit g c =
    let size = ap length (c.as_slice-codes.ensures ∙ c.in_ok-list.ensures.heads) in
    omega (
      arith,
      c.loop-bit-test.true,
      c.digits.ensures,
      digits_least (length c.as_slice-codes.result.now - 1) 32
          (omega (arith, size, heads_le c.args.within, c.requires.partition.few)),
    )

pub joined_pair-requires-clause-inside : goal.joined_pair-requires-clause-inside
joined_pair-requires-clause-inside g c = λ k d less.
    let codes_are : c.as_slice-codes.result.now ≡ heads c.args.within = c.as_slice-codes.ensures ∙ c.in_ok-list.ensures.heads in
    let inside : k < length (heads c.args.within) = omega (arith, less, ap length codes_are) in
    let at = ap (λ (l : List ℕ). get_or l k d) codes_are ∙ get_or_default (heads c.args.within) k d 0 inside in
    omega (arith, at, Locating-inside c.loop-bit.invariant k inside)

pub joined_pair-requires-clause-groups : goal.joined_pair-requires-clause-groups
joined_pair-requires-clause-groups g c =
    let codes_are : c.as_slice-codes.result.now ≡ heads c.args.within = c.as_slice-codes.ensures ∙ c.in_ok-list.ensures.heads in
    rw codes_are (Locating-asks c.loop-bit.invariant)

pub returns-in_err-pair-clause-reads : goal.returns-in_err-pair-clause-reads
returns-in_err-pair-clause-reads g c = Reads-refused c.loop-bit.invariant.reads c.in_err-pair.ensures.reads _ c.from_residual-in_err-pair.ensures.1

pub returns-in_err-pair-clause-refused : goal.returns-in_err-pair-clause-refused
returns-in_err-pair-clause-refused g c =
    let codes_are : c.as_slice-codes.result.now ≡ heads c.args.within = c.as_slice-codes.ensures ∙ c.in_ok-list.ensures.heads in
    OnErr-any _ (Locating-stopped c.loop-bit.invariant _ (omega (
      arith,
      c.loop-bit-test.true,
      c.digits.ensures,
      ap
          (λ (l : List ℕ). digits_of (length l - 1)) codes_are,
    )) (rw codes_are at c.in_err-pair.ensures.at_most))

pub returns-in_err-list-clause-judged : goal.returns-in_err-list-clause-judged
returns-in_err-list-clause-judged g c = Extends-refl (ReadsAmong _) _

pub returns-in_err-pair-clause-judged : goal.returns-in_err-pair-clause-judged
returns-in_err-pair-clause-judged g c =
    let codes_are : c.as_slice-codes.result.now ≡ heads c.args.within = c.as_slice-codes.ensures ∙ c.in_ok-list.ensures.heads in
    Locating-among c.loop-bit.invariant (g.R.Rig.state c.joined_pair.new.seat) (rw codes_are at c.in_err-pair.ensures.points)

pub merge-requires-clause-a : goal.merge-requires-clause-a
merge-requires-clause-a g c =
    let codes_are : c.as_slice-codes.result.now ≡ heads c.args.within = c.as_slice-codes.ensures ∙ c.in_ok-list.ensures.heads in
    Locating-class c.loop-bit.invariant 0 (rw codes_are at (rw c.in-Some.is at c.in_ok-pair.ensures.left))

pub merge-requires-clause-b : goal.merge-requires-clause-b
merge-requires-clause-b g c =
    let codes_are : c.as_slice-codes.result.now ≡ heads c.args.within = c.as_slice-codes.ensures ∙ c.in_ok-list.ensures.heads in
    Locating-class c.loop-bit.invariant 1 (rw codes_are at (rw c.in-Some.is at c.in_ok-pair.ensures.right))

pub loop-bit-smaller-in-Some : goal.loop-bit-smaller-in-Some
loop-bit-smaller-in-Some g c =
    let codes_are : c.as_slice-codes.result.now ≡ heads c.args.within = c.as_slice-codes.ensures ∙ c.in_ok-list.ensures.heads in
    let fewer = Locating-fewer c.loop-bit.invariant (rw codes_are at (rw c.in-Some.is at c.in_ok-pair.ensures.left))
    (rw codes_are at (rw c.in-Some.is at c.in_ok-pair.ensures.right)) in
    omega (arith, fewer, ap (λ (m : List ℕ). length (heads m)) c.merge.ensures.merged)

pub loop-bit-preserved-in-Some : goal.loop-bit-preserved-in-Some
loop-bit-preserved-in-Some g c =
    let codes_are : c.as_slice-codes.result.now ≡ heads c.args.within = c.as_slice-codes.ensures ∙ c.in_ok-list.ensures.heads in
    let more : c.loop-bit.bit < digits_of (length (heads c.args.within) - 1) = omega
    (arith, c.loop-bit-test.true, c.digits.ensures, ap (λ (l : List ℕ). digits_of (length l - 1)) codes_are) in
    Locating-merged c.loop-bit.invariant more c.in_ok-pair.ensures.reads (rw codes_are at c.in_ok-pair.ensures.points)
    (rw codes_are at (rw c.in-Some.is at c.in_ok-pair.ensures.left)) (rw codes_are at (rw c.in-Some.is at c.in_ok-pair.ensures.right))
    (rw c.in-Some.is at c.in_ok-pair.ensures.joined) (rw c.in-Some.is at c.in_ok-pair.ensures.spent)
    (rw codes_are at c.in_ok-pair.ensures.at_most) c.merge.ensures.merged

pub loop-bit-preserved : goal.loop-bit-preserved
loop-bit-preserved g c =
    let codes_are : c.as_slice-codes.result.now ≡ heads c.args.within = c.as_slice-codes.ensures ∙ c.in_ok-list.ensures.heads in
    let more : c.loop-bit.bit < digits_of (length (heads c.args.within) - 1) = omega
    (arith, c.loop-bit-test.true, c.digits.ensures, ap (λ (l : List ℕ). digits_of (length l - 1)) codes_are) in
    let none = c.in_ok-pair.ensures.none (ap Ok c.in-None.is) in
    Locating-none c.loop-bit.invariant more c.in_ok-pair.ensures.reads (rw codes_are at c.in_ok-pair.ensures.points) (rw codes_are at none)
    (c.in_ok-pair.ensures.none_at_most (ap Ok c.in-None.is))

pub returns-clause-proven : goal.returns-clause-proven
returns-clause-proven g c =
    let codes_are : c.as_slice-codes.result.now ≡ heads c.args.within = c.as_slice-codes.ensures ∙ c.in_ok-list.ensures.heads in
    Locating-proven c.loop-bit.invariant (omega (arith, c.loop-bit-test.false, c.digits.ensures, ap (λ (l : List ℕ). digits_of (length l - 1)) codes_are))
