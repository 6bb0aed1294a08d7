use Rattle.std.proofs.Common.{◌≡◌, ◌-◌}
use Rattle.records.specs.Reading.{items_at}
use Rattle.records.proofs.Items.{with_front}
use Rattle.records.proofs.item.items_of.Given as goal

abbrev pub invariant-loop : goal.invariant-loop
invariant-loop g l = with_front l.items.items (items_at g.T.Item.reading (l.count - l.counter) l.rest) ≡ items_at g.T.Item.reading l.count l.bytes
