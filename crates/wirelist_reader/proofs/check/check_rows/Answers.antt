use Rattle.std.proofs.Common.{◌<◌, inl, inr, length, rules}
use Rattle.partition.proofs.tables.ClaimLemmas.{none_more}
use Rattle.wirelist_reader.specs.Refusals.{row_faults}
use Rattle.wirelist_reader.proofs.CheckFacts.{first_row_fault}
use Rattle.wirelist_reader.proofs.check.check_rows.Goals as goal

pub returns-in-Err : goal.returns-in-Err
returns-in-Err c =
    let inside : c.loop-i.i < length c.args.rows.now = search rules in
    elim c.in-Err.ensures.finds [
      | inl memory ↦ inl memory
      | inr first ↦ inr (first_row_fault c.args.rows.now c.loop-i.i c.in-Err.refusal inside c.loop-i.invariant.0 first)
    ]

pub loop-i-preserved : goal.loop-i-preserved
loop-i-preserved c =
    (none_more (row_faults c.args.rows.now) c.loop-i.i c.loop-i.invariant.0 c.in_default.ensures.finds, c.in_default.ensures.seen)
