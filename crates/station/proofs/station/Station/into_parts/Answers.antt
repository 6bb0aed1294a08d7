use Rattle.std.proofs.Common.{subst}
use Rattle.disk_edge.specs.Disk.{EachImage}
use Rattle.ledger.specs.Kept.{IsImageOf}
use Rattle.station.specs.View.{StationState}
use Rattle.station.proofs.station.Station.into_parts.Goals as goal

pub returns-clause-images : goal.returns-clause-images
returns-clause-images g c = subst (λ (s : StationState). EachImage (g.D.Disk.state c.into_disk.result) (IsImageOf s.records)) c.self.view_is c.into_disk.ensures.images
