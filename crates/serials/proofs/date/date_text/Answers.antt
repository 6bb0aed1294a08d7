use Rattle.std.proofs.Common.{◌∙◌}
use Rattle.serials.proofs.CivilDays.{date_text-day_text}
use Rattle.serials.proofs.date.date_text.Goals as goal

pub returns : goal.returns
returns c = c.from_string.ensures ∙ (c.in_ok-text.ensures.ok ∙ date_text-day_text c.date_of.result c.args.day c.requires c.date_of.ensures)
