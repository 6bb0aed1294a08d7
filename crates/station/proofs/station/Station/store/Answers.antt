use Rattle.std.proofs.Common.{refl, Err, subst}
use Rattle.station.specs.declared.stops.StepStop.TheVariants.{Memory}
use Rattle.station.specs.Applied.{Storing, station_of}
use Rattle.station.specs.View.{StationState}
use Rattle.station.proofs.Applying.{storing_stopped}
use Rattle.station.proofs.station.Station.store.Goals as goal

pub returns-in-Err-Memory-clause-storing : goal.returns-in-Err-Memory-clause-storing
returns-in-Err-Memory-clause-storing g c = rw c.in-Err-Memory.field-0-is
    (let e = rw c.in-Err-Memory.field-0-is at c.in-Err-Memory.ensures in
    let s = station_of (g.R.Rig.state c.self.inside.rig) c.self.inside.ledger c.self.inside.program in
    subst (λ (t : StationState). Storing g.R.Rig.state g.D.Disk.state c.args.r t (Err (Memory c.self.inside.rig c.in-Err-Memory.disk))) c.self.view_is
    (storing_stopped g.R.Rig.state g.D.Disk.state c.args.r s c.self.inside.rig c.in-Err-Memory.disk refl e.stop e.any_moment e.limit e.later))
