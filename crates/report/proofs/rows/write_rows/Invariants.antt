use Rattle.std.proofs.Common.{Some, take}
use Rattle.std.specs.Prelude.{filter_map}
use Rattle.std.specs.List.{flat_map}
use Rattle.wirelist.specs.Canonical.{line_of}
use Rattle.report.specs.UnitText.{numbered_records}
use Rattle.report.specs.ResultText.{result_row}
use Rattle.report.specs.Writing.{Adds}
use Rattle.report.proofs.rows.write_rows.Given as goal

abbrev pub invariant-loop-place : goal.invariant-loop-place
invariant-loop-place l = Adds (λ v. Some v.items) l.fn.rows l.rows (flat_map line_of (filter_map (result_row l.with_staff) (take l.place (numbered_records l.records))))
