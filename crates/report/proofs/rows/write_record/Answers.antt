use Rattle.std.proofs.Common.{ℕ, ◌/◌, List, ◌++◌, Some, OnOk, sym, ◌∙◌, ap, subst}
use Rattle.wirelist.specs.Canonical.{line_of}
use Rattle.records.specs.RecordRanges.{IsBody}
use Rattle.serials.specs.Dates.{civil_of}
use Rattle.report.specs.ResultText.{staff_fields}
use Rattle.report.specs.Writing.{Adds, IsPlain}
use Rattle.report.proofs.CellLemmas.{eight, row_of_test, staff_plain, word_plain}
use Rattle.report.proofs.PlainRows.{date_plain, name_plain}
use Rattle.report.proofs.rows.write_record.Goals as goal

pub write_test-requires : goal.write_test-requires
write_test-requires c =
    let test = subst IsBody c.in-Tested.is c.requires.body in
    let staff = staff_plain c.in-Tested.staff test.staff in
    record {
      number = c.in_ok-digits.ensures.plain;
      date = subst (λ (l : List ℕ). IsPlain l) (sym c.in_ok-date_of.ensures) (date_plain (civil_of (c.args.noted.now.moment / 86400)));
      serial = name_plain c.in-Tested.serial test.serial;
      attempt = c.in_ok-digits-2.ensures.plain;
      verdict = subst (λ (l : List ℕ). IsPlain l) (sym c.verdict_word.ensures) (word_plain c.in-Tested.outcome);
      opens = c.in_ok-of.ensures.plain.0;
      shorts = c.in_ok-of.ensures.plain.1;
      miswires = c.in_ok-of.ensures.plain.2;
      operator = staff.0;
      fixture = staff.1;
    }

pub returns : goal.returns
returns c =
    let fields =
    eight c.in_ok-digits.ensures.digits c.in_ok-date_of.ensures (λ i. c.in-Tested.serial) c.in_ok-digits-2.ensures.digits c.verdict_word.ensures c.in_ok-of.ensures.opens c.in_ok-of.ensures.shorts
    c.in_ok-of.ensures.miswires in
    let row = row_of_test c.args.with_staff c.args.number c.args.noted.now c.in-Tested.serial c.in-Tested.attempt c.in-Tested.staff c.in-Tested.outcome c.in-Tested.is in
    subst (λ (l : List ℕ). OnOk c.write_test.result (Adds (λ v. Some v.items) c.args.rows.now c.write_test.new.rows l))
    (ap (λ (fs : List (List ℕ)). line_of (fs ++ staff_fields c.args.with_staff c.in-Tested.staff)) fields ∙ sym row)
    c.write_test.ensures
