use Rattle.std.proofs.Common.{refl}
use Rattle.std.specs.Fmt.{digits}
use Rattle.outcome_lines.specs.OutcomeLines.{outcome_lines}
use Rattle.report.specs.UnitText.{body_lines, unit_text}
use Rattle.report.specs.ResultText.{result_text}
use Rattle.worked_examples.proofs.reports.a_test_names_its_staff.Goals as goal

pub returns-clause-unit : goal.returns-clause-unit
unfolding unit_text body_lines outcome_lines digits
returns-clause-unit c = refl

pub returns-clause-results : goal.returns-clause-results
unfolding result_text digits
returns-clause-results c = refl
