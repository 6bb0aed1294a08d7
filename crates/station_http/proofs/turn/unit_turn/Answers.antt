use Rattle.std.proofs.Common.{◌≡◌, ◌∙◌, ap, refl, subst, IfOk, List}
use Rattle.report.specs.UnitText.{unit_text}
use Rattle.records.specs.declared.record.StationRecord.{StationRecord}
use Rattle.http_exchange.specs.declared.request.Request.TheVariants as asks
use Rattle.http_exchange.specs.Replies.{Reply, reply_bytes}
use Rattle.station_http.specs.Expected.{report_or_none, unit_reply}
use Rattle.station_http.proofs.turn.unit_turn.Goals as goal

pub returns-in-Ok : goal.returns-in-Ok
returns-in-Ok g c = λ moments.
    let R = c.args.station.records in
    let report = c.in-Ok.ensures ∙ ap (λ (records : List StationRecord). unit_text records c.args.serial) c.records.ensures.records in
    let same : report_or_none c.in-Ok.report ≡ unit_reply R c.args.serial = ap report_or_none report in
    let made = subst (λ (r : Reply). IfOk c.unit_reply-reply.result (λ t. t ≡ reply_bytes r)) same c.unit_reply-reply.ensures in
    let status = c.unit_status-status.ensures ∙ ap (λ (r : Reply). r.status) same in
    c.replied.ensures c.args.station (asks.Unit c.args.serial) moments moments (unit_reply R c.args.serial) made status (refl, record { station = refl; clock = refl })

pub returns-in-Err : goal.returns-in-Err
returns-in-Err g c = λ moments.
    c.without_memory.ensures c.args.station (asks.Unit c.args.serial) moments moments (unit_reply c.args.station.records c.args.serial) (refl, record { station = refl; clock = refl })
