use Rattle.std.proofs.Common.{List, ℕ, ◌∙◌, sym, ap, arith, ◌+◌, ◌++◌, Option}
use Rattle.std.specs.Prelude.{option_to_list}
use Rattle.serials.specs.declared.command.Command.{Command}
use Rattle.import_rows.specs.Rows.{asked_by}
use Rattle.import_rows.proofs.Numbered.{asked_more, asked_all}
use Rattle.import_rows.proofs.read.asked_rows.Goals as goal

pub loop-place-preserved : goal.loop-place-preserved
loop-place-preserved c =
    c.in_ok-keep_row.ensures.kept
    ∙ ap (λ (before : List (ℕ × Option Command)). before ++ option_to_list (asked_by (c.loop-place.place + 1, c.index-read-place.result))) c.loop-place.invariant
    ∙ sym (asked_more c.args.read.now c.loop-place.place c.index-read-place.result c.loop-place-test.true c.index-read-place.is)

pub returns-clause-rows : goal.returns-clause-rows
returns-clause-rows c = c.loop-place.invariant ∙ asked_all c.args.read.now c.loop-place.place (omega (arith, c.loop-place-test.false))
