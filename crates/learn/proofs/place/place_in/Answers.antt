use Rattle.std.proofs.Common.{Ok, ◌∙◌, ap, subst, sym}
use Rattle.std.specs.List.Sorted.{IsStrictlyIncreasing}
use Rattle.rig.proofs.Reading.{Reads-none, Reads-no_memory}
use Rattle.learn.proofs.Placing.{Placing-asks, Placing-none, Placing-place}
use Rattle.learn.proofs.place.place_in.Goals as goal

pub returns-in_err-heads-clause-reads : goal.returns-in_err-heads-clause-reads
returns-in_err-heads-clause-reads g c = Reads-no_memory (Reads-none _) _ c.from_residual.ensures.1

pub head_of-requires : goal.head_of-requires
head_of-requires g c = record { groups = λ some. rw (c.as_slice.ensures ∙ c.in_ok-heads.ensures) (Placing-asks c.requires.groups) }

pub returns-in_err-head-clause-points : goal.returns-in_err-head-clause-points
returns-in_err-head-clause-points g c = rw (c.as_slice.ensures ∙ c.in_ok-heads.ensures) at c.in_err-head.ensures.points

pub place_of-requires-clause-ascending : goal.place_of-requires-clause-ascending
place_of-requires-clause-ascending g c = subst IsStrictlyIncreasing (sym (c.as_slice-in-Some.ensures ∙ c.in_ok-heads.ensures)) c.requires.groups.order

pub returns-in-Some-clause-points : goal.returns-in-Some-clause-points
returns-in-Some-clause-points g c = rw (c.as_slice.ensures ∙ c.in_ok-heads.ensures) at c.in_ok-head.ensures.points

pub returns-in-Some-clause-place : goal.returns-in-Some-clause-place
returns-in-Some-clause-place g c =
    let head = rw c.in-Some.is at c.in_ok-head.ensures.head in
    Placing-place c.requires.groups c.requires.whole c.in_ok-head.ensures.reads c.place_of.result c.in-Some.head
    (rw (c.as_slice-in-Some.ensures ∙ c.in_ok-heads.ensures) at c.place_of.ensures.inside)
    (rw (c.as_slice-in-Some.ensures ∙ c.in_ok-heads.ensures) at c.place_of.ensures.here) head.1

pub returns-clause-points : goal.returns-clause-points
returns-clause-points g c = rw (c.as_slice.ensures ∙ c.in_ok-heads.ensures) at c.in_ok-head.ensures.points

pub returns-clause-none : goal.returns-clause-none
returns-clause-none g c = λ _. Placing-none c.requires.groups c.requires.whole c.in_ok-head.ensures.reads
    (rw (c.as_slice.ensures ∙ c.in_ok-heads.ensures) at (c.in_ok-head.ensures.none (ap Ok c.in-None.is)))
