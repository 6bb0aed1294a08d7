use Rattle.std.proofs.Common.{refl}
use Rattle.std.specs.Fmt.{digits}
use Rattle.report.specs.LotText.{lot_text}
use Rattle.worked_examples.proofs.reports.a_lot_counts_its_serials_and_tests.Goals as goal

pub returns-clause-cable : goal.returns-clause-cable
unfolding lot_text digits
returns-clause-cable c = refl

pub returns-clause-nothing : goal.returns-clause-nothing
unfolding lot_text digits
returns-clause-nothing c = refl
