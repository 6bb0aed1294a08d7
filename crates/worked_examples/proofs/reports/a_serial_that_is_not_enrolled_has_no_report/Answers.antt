use Rattle.std.proofs.Common.{refl}
use Rattle.report.specs.UnitText.{unit_text}
use Rattle.worked_examples.proofs.reports.a_serial_that_is_not_enrolled_has_no_report.Goals as goal

pub returns : goal.returns
unfolding unit_text
returns c = refl
