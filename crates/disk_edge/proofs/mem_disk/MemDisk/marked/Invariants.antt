use Rattle.std.proofs.Common.{◌+◌, take}
use Rattle.disk_edge.specs.Image.{IsMarked}
use Rattle.disk_edge.specs.MemDisk.{after_calls}
use Rattle.disk_edge.proofs.mem_disk.MemDisk.marked.Given as goal

abbrev pub invariant-loop-call : goal.invariant-loop-call
invariant-loop-call l = IsMarked l.mark (after_calls l.self.first (take (l.from + l.call-index) l.self.calls.items)).present.written l.self.bytes.items l.image.items
