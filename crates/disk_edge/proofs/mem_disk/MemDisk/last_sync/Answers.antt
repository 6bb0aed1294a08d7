use Rattle.std.proofs.Common.{sym, subst}
use Rattle.disk_edge.specs.Since.{IsLastSync}
use Rattle.disk_edge.proofs.SinceCalls.{step_done, step_other}
use Rattle.disk_edge.proofs.mem_disk.MemDisk.last_sync.Goals as goal
use Rattle.disk_edge.proofs.mem_disk.MemDisk.last_sync.Goals.{then-is_done_sync, else-is_done_sync}

pub loop-i-preserved : goal.loop-i-preserved
loop-i-preserved c =
    let first = c.args.self.now.first in
    let calls = c.deref-call-items.result.now in
    let i = c.loop-i.i in
    let call = c.call-item.result in
    elim c.if-is_done_sync.branch [
      | then-is_done_sync w ↦ step_done first calls i c.if-is_done_sync.number call c.loop-i-test.true c.call-item.is (c.is_done_sync.ensures.0 w.if-is_done_sync.true) w.number-is
      | else-is_done_sync w ↦ subst (IsLastSync first _) (sym w.number-is) (step_other first calls i c.loop-i.number call c.loop-i-test.true c.call-item.is (λ is. let yes = c.is_done_sync.ensures.1 is in cc) c.loop-i.invariant)
    ]
