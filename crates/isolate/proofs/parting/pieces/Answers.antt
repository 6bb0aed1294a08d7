use Rattle.partition.specs.NetTable.{programmed_of}
use Rattle.isolate.proofs.Meetings.{pieces-own}
use Rattle.isolate.proofs.parting.pieces.Goals as goal

pub returns-in-Ok-clause-own : goal.returns-in-Ok-clause-own
returns-in-Ok-clause-own g c = pieces-own (g.R.Rig.state c.piece_classes.new.seat)
    (programmed_of c.args.nets.now) c.in-Ok.partition c.points-in-Ok.ensures.seating.unit c.in-Ok.ensures.pieces
