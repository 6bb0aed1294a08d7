use Rattle.std.proofs.Common.{ℕ, ◌+◌, Vec, take, sym, subst}
use Rattle.std.specs.declared.alloc.Global.{Global}
use Rattle.disk_edge.specs.Image.{IsMarked}
use Rattle.disk_edge.specs.MemDisk.{after_calls}
use Rattle.disk_edge.proofs.Marks.{mark_write, mark_other}
use Rattle.disk_edge.proofs.mem_disk.MemDisk.marked.Goals as goal
use Rattle.disk_edge.proofs.mem_disk.MemDisk.marked.Goals.{in-Write, in_default}

pub loop-call-preserved : goal.loop-call-preserved
loop-call-preserved c =
    let self = c.args.self.now in
    let calls = self.calls.items in
    let from = c.last_sync-from.result in
    let k = c.loop-call.call-index in
    let old = c.loop-call.image.items in
    let bytes = self.bytes.items in
    let ranges = (after_calls self.first (take (from + (k + 1)) calls)).present.written in
    elim c.match-call.branch [
      | in-Write w ↦ subst (λ (v : Vec ℕ Global). IsMarked c.args.mark ranges bytes v.items) (sym w.image-is)
          (mark_write self.first calls c.deref.result.now from k c.args.mark c.call-item.result c.deref.ensures.value c.loop-call-test.true c.call-item.is
          w.in-Write.at w.len.result w.in-Write.bytes w.in-Write.done bytes old w.fill.new.all.items w.in-Write.is w.len.ensures c.loop-call.invariant w.fill.ensures.long w.fill.ensures.outside w.fill.ensures.inside)
      | in_default w ↦ subst (λ (v : Vec ℕ Global). IsMarked c.args.mark ranges bytes v.items) (sym w.image-is)
          (mark_other self.first calls c.deref.result.now from k c.args.mark c.call-item.result c.deref.ensures.value c.loop-call-test.true c.call-item.is
          bytes old c.last_sync-from.ensures w.in_default.not-Write c.loop-call.invariant)
    ]
