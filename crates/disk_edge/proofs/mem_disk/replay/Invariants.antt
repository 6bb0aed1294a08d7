use Rattle.std.proofs.Common.{◌≡◌, take}
use Rattle.disk_edge.specs.MemDisk.{after_calls}
use Rattle.disk_edge.proofs.mem_disk.replay.Given as goal

abbrev pub invariant-loop-call : goal.invariant-loop-call
invariant-loop-call l = l.all.items ≡ (after_calls l.first (take l.call-index l.calls)).bytes
