use Rattle.std.proofs.Common.{ℕ, List, Bool, Some, OnOk, sym, subst}
use Rattle.wirelist.specs.Canonical.{line_of}
use Rattle.report.specs.Cells.{cell_fields}
use Rattle.report.specs.Writing.{Adds}
use Rattle.report.proofs.CellLemmas.{eight, two_more}
use Rattle.report.proofs.rows.write_test.Goals as goal

pub returns-then-with_staff : goal.returns-then-with_staff
returns-then-with_staff c =
    let front =
    eight c.as_bytes.ensures c.as_bytes-then-with_staff.ensures c.bytes.ensures.bytes c.as_bytes-then-with_staff-2.ensures (λ i. c.args.verdict.now) c.as_bytes-then-with_staff-3.ensures
    c.as_bytes-then-with_staff-4.ensures c.as_bytes-then-with_staff-5.ensures in
    let fields = two_more front c.operator.ensures c.fixture.ensures in
    subst (λ (b : Bool). OnOk c.write_row.result (Adds (λ v. Some v.items) c.args.rows.now c.write_row.new.rows (line_of (cell_fields b c.args.cells.now c.args.verdict.now)))) (sym c.if-with_staff.true)
    (subst (λ (fs : List (List ℕ)). OnOk c.write_row.result (Adds (λ v. Some v.items) c.args.rows.now c.write_row.new.rows (line_of fs))) fields c.write_row.ensures)

pub returns-else-with_staff : goal.returns-else-with_staff
returns-else-with_staff c =
    let fields =
    eight c.as_bytes-else-with_staff.ensures c.as_bytes-else-with_staff-2.ensures c.bytes-else-with_staff.ensures.bytes c.as_bytes-else-with_staff-3.ensures (λ i. c.args.verdict.now)
    c.as_bytes-else-with_staff-4.ensures c.as_bytes-else-with_staff-5.ensures c.as_bytes-else-with_staff-6.ensures in
    subst (λ (b : Bool). OnOk c.write_row-else-with_staff.result (Adds (λ v. Some v.items) c.args.rows.now c.write_row-else-with_staff.new.rows (line_of (cell_fields b c.args.cells.now c.args.verdict.now))))
    (sym c.if-with_staff.false)
    (subst (λ (fs : List (List ℕ)). OnOk c.write_row-else-with_staff.result (Adds (λ v. Some v.items) c.args.rows.now c.write_row-else-with_staff.new.rows (line_of fs))) fields c.write_row-else-with_staff.ensures)
