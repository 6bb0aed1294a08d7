use Rattle.std.proofs.Common.{◌≡◌, ◌++◌, length, take}
use Rattle.std.specs.List.{flat_map}
use Rattle.records.specs.RecordBytes.{two_bytes}
use Rattle.records.proofs.item.write_counted.Given as goal

abbrev pub invariant-loop-item : goal.invariant-loop-item
invariant-loop-item g l = l.out ≡ l.fn.out ++ (two_bytes (length l.items) ++ flat_map g.T.Item.spelling (take l.item-index l.items))
