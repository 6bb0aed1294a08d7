use Rattle.sequence.proofs.Judged.{few-points}
use Rattle.sequence.proofs.stages.Wirings.{different}
use Rattle.difference.proofs.Judging.{measured-over}
use Rattle.sequence.proofs.wiring.read_difference.Goals as goal

pub difference-requires : goal.difference-requires
difference-requires g c =
    let p = c.args.p.now in
    measured-over p.nets c.in-Ok.field-0.partition c.in-Ok.ensures.learned.proven.partition.partition c.requires.program.nets (few-points p c.requires.program) c.in-Ok.ensures.over

pub returns-in-Ok-difference-clause-ok : goal.returns-in-Ok-difference-clause-ok
returns-in-Ok-difference-clause-ok g c =
    different c.args.p.now c.requires.program c.requires.points c.requires.judged c.requires.contradiction c.points-point_count.ensures.seating.unit
    (record { reads = c.in-Ok.ensures.reads; judged = c.in-Ok.ensures.judged })
    c.in-Ok.field-0.partition c.in-Ok-difference.difference c.in-Ok.ensures.learned c.in-Ok.ensures.over c.in-Ok-difference.ensures c.in-Ok.ensures.at_least c.in-Ok.ensures.diagnosed
