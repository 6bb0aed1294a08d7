use Rattle.std.proofs.Common.{refl}
use Rattle.std.specs.Fmt.{digits}
use Rattle.report.specs.ResultText.{result_text}
use Rattle.worked_examples.proofs.reports.each_test_has_a_row.Goals as goal

pub returns : goal.returns
unfolding result_text digits
returns c = refl
