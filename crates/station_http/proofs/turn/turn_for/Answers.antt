use Rattle.std.proofs.Common.{refl}
use Rattle.http_exchange.specs.declared.request.Request.TheVariants as asks
use Rattle.http_exchange.specs.Replies.{refusal_reply}
use Rattle.station_http.proofs.turn.turn_for.Goals as goal

pub returns-in-Refused : goal.returns-in-Refused
returns-in-Refused g c =
    rw c.in-Refused.is (c.replied.ensures c.args.station (asks.Refused c.in-Refused.refusal) _ _ (refusal_reply c.in-Refused.refusal) c.refusal_reply-reply.ensures c.status.ensures (refl, record { station = refl; clock = refl }))

pub returns-in-Unit : goal.returns-in-Unit
returns-in-Unit g c = rw c.in-Unit.is (c.unit_turn.ensures (g.C.Clock.moments c.args.clock.now))

pub returns-in-Lot : goal.returns-in-Lot
returns-in-Lot g c = rw c.in-Lot.is (c.lot_turn.ensures (g.C.Clock.moments c.args.clock.now))
