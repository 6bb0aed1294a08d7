use Rattle.records.proofs.Bodies.{mark_found, mark_not}
use Rattle.records.proofs.Decoding.{at_end, not_at_end}
use Rattle.records.proofs.body.mark_of.Goals as goal

pub returns-then-not-is_empty : goal.returns-then-not-is_empty
returns-then-not-is_empty c = mark_not c.args.fields.now (not_at_end c.args.fields.now c.is_empty.result c.is_empty.ensures c.if-not-is_empty.true)

pub returns : goal.returns
returns c = mark_found c.args.fields.now (at_end c.args.fields.now c.is_empty.result c.is_empty.ensures c.if-not-is_empty.false)
