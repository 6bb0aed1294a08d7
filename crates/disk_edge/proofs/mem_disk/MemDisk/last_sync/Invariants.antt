use Rattle.std.proofs.Common.{take}
use Rattle.disk_edge.specs.Since.{IsLastSync}
use Rattle.disk_edge.proofs.mem_disk.MemDisk.last_sync.Given as goal

abbrev pub invariant-loop-i : goal.invariant-loop-i
invariant-loop-i l = IsLastSync l.self.first (take l.i l.call-items) l.number
