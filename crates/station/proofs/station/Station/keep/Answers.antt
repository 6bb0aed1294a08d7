use Rattle.wirelist.specs.declared.outcome.Outcome.TheVariants.{Pass}
use Rattle.station.specs.Step.{record_of}
use Rattle.station.proofs.Applying.{storing_lost}
use Rattle.station.proofs.station.Station.keep.Goals as goal

pub returns-in-Err-clause-storing : goal.returns-in-Err-clause-storing
returns-in-Err-clause-storing g c =
    let s = c.args.self in
    storing_lost g.R.Rig.state g.D.Disk.state (record_of s.program c.args.moment 0 Pass c.args.c.now) s c.into_parts-rig.result.0 c.into_parts-rig.result.1 c.into_parts-rig.ensures.rig c.into_parts-rig.ensures.disk
