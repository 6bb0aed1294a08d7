use Rattle.station_http.proofs.TurnLemmas.{halts-turn}
use Rattle.station_http.proofs.turn.stopped.Goals as goal

pub returns : goal.returns
returns g c = λ old command moments moments' now named ticks halted.
    halts-turn _ _ old command c.args.id moments moments' now c.args.stop c.last_reply-reply.result named ticks halted c.last_reply-reply.ensures
