use Rattle.std.proofs.Common.{Bool, Some, OnOk, sym, subst}
use Rattle.wirelist.specs.Canonical.{line_of}
use Rattle.report.specs.ResultText.{columns}
use Rattle.report.specs.Writing.{Adds}
use Rattle.report.proofs.rows.write_columns.Goals as goal

pub returns-then-with_staff : goal.returns-then-with_staff
returns-then-with_staff c =
    subst (λ (b : Bool). OnOk c.write_row.result (Adds (λ v. Some v.items) c.args.rows.now c.write_row.new.rows (line_of (columns b)))) (sym c.if-with_staff.true) c.write_row.ensures

pub returns-else-with_staff : goal.returns-else-with_staff
returns-else-with_staff c =
    subst (λ (b : Bool). OnOk c.write_row-else-with_staff.result (Adds (λ v. Some v.items) c.args.rows.now c.write_row-else-with_staff.new.rows (line_of (columns b)))) (sym c.if-with_staff.false)
    c.write_row-else-with_staff.ensures
