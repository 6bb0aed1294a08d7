use Rattle.std.proofs.Common.{ℕ, ◌+◌, List, Option, ◌++◌, sym, ◌∙◌, ap, subst, take, arith, append_assoc}
use Rattle.std.specs.Prelude.{IfSome, option_copied}
use Rattle.std.specs.List.{flat_map}
use Rattle.std.proofs.lemmas.List.{take_all}
use Rattle.std.proofs.lemmas.List.Elements.{All-take}
use Rattle.wirelist.specs.declared.program.Program.{Program}
use Rattle.records.specs.RecordRanges.{IsRecord}
use Rattle.records.specs.declared.record.StationRecord.{StationRecord}
use Rattle.serials.specs.Scan.{last_program}
use Rattle.outcome_lines.specs.Labels.{HasLabels}
use Rattle.report.specs.UnitText.{noted_lines, numbered_records, record_lines}
use Rattle.report.proofs.Adopted.{copied_some, program_labels, program_more}
use Rattle.report.proofs.RecordLines.{lines_more, numbered_all}
use Rattle.report.proofs.unit.write_records.Goals as goal

pub write_noted-requires-clause-labels : goal.write_noted-requires-clause-labels
write_noted-requires-clause-labels c =
    copied_some HasLabels c.loop-place.program
    (subst (λ (o : Option Program). IfSome o HasLabels) (sym c.loop-place.invariant.program)
    (program_labels (take c.loop-place.place c.args.records.now) (All-take IsRecord c.loop-place.place c.args.records.now c.requires.in_range)))

pub loop-place-preserved : goal.loop-place-preserved
loop-place-preserved c =
    let R = c.args.records.now in
    let k = c.loop-place.place in
    let r = c.index-records-place.result in
    let serial = c.args.serial.now in
    let before = flat_map (record_lines R serial) (take k (numbered_records R)) in
    let lines = noted_lines (last_program (take k R)) serial (k + 1) r in
    record {
      program =
          program_more R k r c.loop-place-test.true c.index-records-place.is (option_copied c.loop-place.program) (option_copied c.adopted_after-program.result) c.loop-place.invariant.program c.adopted_after-program.ensures;
      text =
          c.in_ok-write_noted.ensures
          ∙ ap (λ (o : Option Program). c.loop-place.out ++ noted_lines o serial (k + 1) r) c.loop-place.invariant.program
          ∙ ap (λ (l : List ℕ). l ++ lines) c.loop-place.invariant.text
          ∙ append_assoc c.args.out.now before lines
          ∙ ap (λ (l : List ℕ). c.args.out.now ++ l) (sym (lines_more R serial k r c.loop-place-test.true c.index-records-place.is));
    }

pub returns : goal.returns
returns c =
    let R = c.args.records.now in
    c.loop-place.invariant.text
    ∙ ap (λ (ns : List (ℕ × StationRecord)). c.args.out.now ++ flat_map (record_lines R c.args.serial.now) ns)
    (take_all c.loop-place.place (numbered_records R) (omega (arith, numbered_all R, c.loop-place-test.false)))
