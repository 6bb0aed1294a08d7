use Rattle.std.proofs.Common.{◌≡◌, take}
use Rattle.disk_edge.specs.MemDisk.{longest_read_of}
use Rattle.disk_edge.proofs.mem_disk.MemDisk.longest_read.Given as goal

abbrev pub invariant-loop-call : goal.invariant-loop-call
invariant-loop-call l = l.longest ≡ longest_read_of (take l.call-index l.call-items)
