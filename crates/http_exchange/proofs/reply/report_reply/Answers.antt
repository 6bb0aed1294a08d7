use Rattle.std.proofs.Common.{◌≡◌, refl, subst, codes, IfOk, [], None}
use Rattle.http_exchange.specs.Replies.{Reply, reply_bytes, report_reply}
use Rattle.http_exchange.proofs.ReplyLemmas.{same-reply}
use Rattle.http_exchange.proofs.reply.report_reply.Goals as goal

pub returns : goal.returns
returns c =
    let report = report_reply c.args.report.now in
    let built : Reply = record { status = c.status.result; phrase = codes "OK"; allowed = None; kind = codes "text/plain"; body = c.args.report.now } in
    let same = same-reply built report (c.status.ensures []) refl refl refl refl in
    subst (λ (r : Reply). IfOk c.reply_text.result (λ text. text ≡ reply_bytes r)) same c.reply_text.ensures
