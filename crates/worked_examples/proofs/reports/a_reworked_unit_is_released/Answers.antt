use Rattle.std.proofs.Common.{refl}
use Rattle.std.specs.Fmt.{digits}
use Rattle.outcome_lines.specs.Labels.{net_label}
use Rattle.outcome_lines.specs.OutcomeLines.{outcome_lines, wiring_lines}
use Rattle.report.specs.UnitText.{body_lines, unit_text}
use Rattle.worked_examples.proofs.reports.a_reworked_unit_is_released.Goals as goal

pub returns : goal.returns
unfolding unit_text body_lines outcome_lines wiring_lines net_label digits
returns c = refl
