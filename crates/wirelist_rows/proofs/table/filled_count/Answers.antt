use Rattle.std.proofs.Common.{◌∙◌, sym, rules}
use Rattle.csv.specs.Records.{fields_of}
use Rattle.wirelist_rows.proofs.FilledLemmas.{filled_step_empty, filled_step_more}
use Rattle.wirelist_rows.proofs.table.filled_count.Goals as goal
use Rattle.wirelist_rows.proofs.table.filled_count.Goals.{then-not-is_empty, else-not-is_empty}

pub loop-place-preserved : goal.loop-place-preserved
loop-place-preserved c =
    elim c.if-not-is_empty.branch [
      | then-not-is_empty w ↦ rw w.count-is (sym (filled_step_more (fields_of c.args.read.now) c.loop-place.place (search rules) (search rules)))
      | else-not-is_empty w ↦ rw w.count-is (c.loop-place.invariant ∙ sym (filled_step_empty (fields_of c.args.read.now) c.loop-place.place (search rules) (search rules)))
    ]
