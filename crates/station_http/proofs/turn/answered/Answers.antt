use Rattle.std.proofs.Common.{◌∙◌, ap, List, ℕ}
use Rattle.station.specs.AnswerText.{answer_line}
use Rattle.station.specs.Step.{answered}
use Rattle.http_exchange.specs.declared.reply.AnswerKind.{AnswerKind}
use Rattle.http_exchange.specs.declared.request.Request.TheVariants as asks
use Rattle.http_exchange.specs.Replies.{answer_reply}
use Rattle.station_http.specs.Expected.{said_reply}
use Rattle.station_http.proofs.turn.answered.Goals as goal

pub returns : goal.returns
returns g c = λ old command moments moments' now named ticks done.
    let id = c.args.id in
    let answer = c.args.answer in
    let status = c.status.ensures (answer_line answer id) ∙ ap (λ (k : AnswerKind). (answer_reply k (answer_line answer id)).status) c.kind_of-kind.ensures in
    c.replied.ensures old (asks.Command command) moments moments' (said_reply id (answered answer)) c.said_reply-reply.ensures status
    (record { now = now; ticks = ticks; answer = answer; reply_is = ap (λ (i : List ℕ). said_reply i (answered answer)) named; done = done })
