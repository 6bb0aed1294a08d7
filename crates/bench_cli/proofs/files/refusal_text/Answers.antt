use Rattle.std.proofs.Common.{◌∙◌, sym}
use Rattle.bench_cli.proofs.ways.TakingLemmas.{refusal_line-is}
use Rattle.bench_cli.proofs.files.refusal_text.Goals as goal

pub returns-in_ok-format-in-Some : goal.returns-in_ok-format-in-Some
returns-in_ok-format-in-Some c =
    refusal_line-is c.args.refusal _ c.unwrap_or-number.result c.number.result _ c.in_ok-format-in-Some.ensures.ok c.unwrap_or-number.ensures c.number.ensures (sym c.in-Some.is ∙ c.line.ensures)

pub returns-in_ok-format-in-None : goal.returns-in_ok-format-in-None
returns-in_ok-format-in-None c =
    refusal_line-is c.args.refusal _ c.unwrap_or-number.result c.number.result _ c.in_ok-format-in-None.ensures.ok c.unwrap_or-number.ensures c.number.ensures (sym c.in-None.is ∙ c.line.ensures)
