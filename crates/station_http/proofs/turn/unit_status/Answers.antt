use Rattle.std.proofs.Common.{◌∙◌, sym, []}
use Rattle.station_http.proofs.ReportLemmas.{status-there, status-none}
use Rattle.station_http.proofs.turn.unit_status.Goals as goal

pub returns-in-true : goal.returns-in-true
returns-in-true c = c.status.ensures [] ∙ status-there c.args.report.now (sym c.is_some.ensures ∙ c.in-true.is)

pub returns-in-false : goal.returns-in-false
returns-in-false c = c.status-in-false.ensures ∙ status-none c.args.report.now (sym c.is_some.ensures ∙ c.in-false.is)
