use Rattle.std.proofs.Common.{length, arith}
use Rattle.partition.specs.NetTable.{judged_points}
use Rattle.rig.proofs.Reading.{Reads-then}
use Rattle.learn.specs.Stops.{rig_after}
use Rattle.isolate.proofs.Meetings.{IfOk-map, diagnosed-answer, judged-over, over-then, refused-answer}
use Rattle.isolate.proofs.diagnosis.diagnose.Goals as goal

pub returns-clause-reads : goal.returns-clause-reads
returns-clause-reads g c = Reads-then c.in_ok-seat.ensures.reads c.locate.ensures.reads

pub returns-clause-judged : goal.returns-clause-judged
returns-clause-judged g c = judged-over (g.R.Rig.state c.args.seat) (g.R.Rig.state c.in_ok-seat.field-0.seat)
    (g.R.Rig.state (rig_after c.locate.result)) c.in_ok-seat.ensures.pieces.over c.in_ok-seat.ensures.judged c.locate.ensures.judged

pub returns-clause-over : goal.returns-clause-over
returns-clause-over g c = IfOk-map c.locate.result (λ unit over. over-then c.in_ok-seat.ensures.pieces.over over) c.locate.ensures.over

pub returns-clause-diagnosed : goal.returns-clause-diagnosed
returns-clause-diagnosed g c =
    let parted = c.in_ok-seat.ensures in
    diagnosed-answer g.R.Rig.state (g.R.Rig.state c.args.seat)
    (length (judged_points c.args.nets.now)) parted.pieces parted.some parted.few parted.at_most c.locate.result
    c.locate.ensures.reads c.locate.ensures.seating c.locate.ensures.learned c.locate.ensures.over c.locate.ensures.joins c.locate.ensures.at_most

pub returns-clause-at_least : goal.returns-clause-at_least
returns-clause-at_least g c =
    let parted = c.in_ok-seat.ensures in
    IfOk-map c.locate.result (λ unit least. omega (arith, least, parted.at_least, parted.some)) c.locate.ensures.at_least

pub returns-clause-refused : goal.returns-clause-refused
returns-clause-refused g c =
    let parted = c.in_ok-seat.ensures in
    refused-answer g.R.Rig.state (g.R.Rig.state c.args.seat)
    (length (judged_points c.args.nets.now)) parted.pieces parted.some parted.few parted.at_most c.locate.result c.locate.ensures.refused
