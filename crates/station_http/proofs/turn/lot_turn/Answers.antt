use Rattle.std.proofs.Common.{◌≡◌, ◌∙◌, ap, refl, subst, IfOk, List, ℕ, []}
use Rattle.report.specs.LotText.{lot_text}
use Rattle.http_exchange.specs.declared.request.Request.TheVariants as asks
use Rattle.http_exchange.specs.Replies.{reply_bytes, report_reply}
use Rattle.station_http.proofs.turn.lot_turn.Goals as goal

pub returns-in-Ok : goal.returns-in-Ok
returns-in-Ok g c = λ moments.
    let R = c.args.station.records in
    let report = c.as_str.ensures ∙ c.in-Ok.ensures ∙ ap lot_text c.records.ensures.records in
    let made = subst (λ (text : List ℕ). IfOk c.report_reply-reply.result (λ t. t ≡ reply_bytes (report_reply text))) report c.report_reply-reply.ensures in
    c.replied.ensures c.args.station asks.Lot moments moments (report_reply (lot_text R)) made (c.status.ensures []) (refl, record { station = refl; clock = refl })

pub returns-in-Err : goal.returns-in-Err
returns-in-Err g c = λ moments.
    c.without_memory.ensures c.args.station asks.Lot moments moments (report_reply (lot_text c.args.station.records)) (refl, record { station = refl; clock = refl })
