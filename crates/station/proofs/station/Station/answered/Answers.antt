use Rattle.std.proofs.Common.{subst}
use Rattle.station.specs.View.{IsStanding}
use Rattle.station.proofs.station.Station.answered.Goals as goal

pub returns-clause-standing : goal.returns-clause-standing
returns-clause-standing g c =
    let stored = c.records-records.ensures.stored in
    subst IsStanding c.self.view_is (record {
      manned = record { unpowered = c.self.invariant.unpowered; program = c.self.invariant.program; fits = c.self.invariant.fits };
      in_range = stored.in_range;
      few = stored.few;
      room = stored.room;
      images = stored.images;
    })
