use Rattle.std.proofs.Common.{◌≡◌, ◌∙◌, subst, codes, IfOk, None}
use Rattle.http_exchange.specs.Replies.{Reply, reply_bytes, answer_reply}
use Rattle.http_exchange.proofs.ReplyLemmas.{same-reply, answer-allowed, answer-kind, answer-body}
use Rattle.http_exchange.proofs.reply.answer_reply.Goals as goal

pub returns : goal.returns
returns c =
    let line = c.args.line.now in
    let built : Reply = record { status = c.status.result; phrase = c.phrase.result.now; allowed = None; kind = codes "application/json"; body = c.as_str.result.now } in
    let body = c.as_str.ensures.value ∙ c.in_ok-body.ensures ∙ answer-body c.args.kind line in
    let same = same-reply built (answer_reply c.args.kind line) (c.status.ensures line) (c.phrase.ensures line) (answer-allowed c.args.kind line) (answer-kind c.args.kind line) body in
    subst (λ (r : Reply). IfOk c.reply_text.result (λ text. text ≡ reply_bytes r)) same c.reply_text.ensures
