use Rattle.std.proofs.Common.{◌∙◌, ap, inl, List, ℕ}
use Rattle.http_exchange.specs.declared.reply.AnswerKind.TheVariants.{Gateway}
use Rattle.http_exchange.specs.Replies.{reply_bytes, answer_reply}
use Rattle.station_http.proofs.turn.stuck_reply.Goals as goal

pub returns-in-Ok-answer_reply : goal.returns-in-Ok-answer_reply
returns-in-Ok-answer_reply c =
    inl (c.in-Ok-answer_reply.ensures ∙ ap (λ (line : List ℕ). reply_bytes (answer_reply Gateway line)) (c.as_str.ensures.value ∙ c.in-Ok.ensures))
