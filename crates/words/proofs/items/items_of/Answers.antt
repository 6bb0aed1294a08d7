use Rattle.std.proofs.Common.{◌∙◌, sym, map, string_bytes, arith}
use Rattle.words.specs.Steps.{item_of}
use Rattle.words.proofs.OneStep.{no_more, waits}
use Rattle.words.proofs.items.items_of.Goals as goal

pub returns-in-Some : goal.returns-in-Some
returns-in-Some c = sym (c.loop-i.invariant ∙ waits string_bytes c.loop-i.i c.args.words.now (map item_of c.loop-i.items.items) c.loop-i.waiting _ (omega arith) c.in-Some.is)

pub returns : goal.returns
returns c = sym (c.loop-i.invariant ∙ no_more string_bytes c.loop-i.i c.args.words.now (map item_of c.loop-i.items.items) c.loop-i.waiting (omega arith) c.in-None-waiting.is)
