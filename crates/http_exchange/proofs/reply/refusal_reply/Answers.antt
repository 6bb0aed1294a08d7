use Rattle.std.proofs.Common.{◌≡◌, ◌∙◌, ap, subst, codes, IfOk}
use Rattle.http_exchange.specs.Replies.{Reply, reply_bytes, json_text, refusal_reply}
use Rattle.http_exchange.proofs.ReplyLemmas.{same-reply, refusal-kind, refusal-body}
use Rattle.http_exchange.proofs.reply.refusal_reply.Goals as goal

pub returns : goal.returns
returns c =
    let why = c.args.refusal in
    let built : Reply = record { status = c.status.result; phrase = c.phrase.result.now; allowed = c.allowed.result; kind = codes "application/json"; body = c.as_str.result.now } in
    let body = c.as_str.ensures.value ∙ c.in_ok-body.ensures ∙ ap (json_text (codes "error")) c.word.ensures ∙ refusal-body why in
    let same = same-reply built (refusal_reply why) c.status.ensures c.phrase.ensures c.allowed.ensures (refusal-kind why) body in
    subst (λ (r : Reply). IfOk c.reply_text.result (λ text. text ≡ reply_bytes r)) same c.reply_text.ensures
