use Rattle.std.proofs.Common.{◌≡◌, ℕ, Vec, sym, ◌∙◌, ap, subst}
use Rattle.std.specs.declared.alloc.Global.{Global}
use Rattle.disk_edge.specs.Disk.{IsImage}
use Rattle.disk_edge.specs.MemDisk.{after_calls}
use Rattle.disk_edge.specs.MemDiskLaws.{reads_image}
use Rattle.disk_edge.proofs.Marks.{marked_image, synced_image}
use Rattle.disk_edge.proofs.mem_disk.MemDisk.image.Goals as goal
use Rattle.disk_edge.proofs.mem_disk.MemDisk.image.Goals.{in-0+in_ok-items-in-0, in-2+in_ok-items-in-2, in-3+in_ok-items-in-3, in_default+in_ok-items-in_default}

pub returns-clause-left : goal.returns-clause-left
returns-clause-left c =
    let self = c.args.self.now in
    let s = after_calls self.first self.calls.items in
    let reads : IsImage s.present self.bytes.items = subst (IsImage s.present) (sym self.current) (reads_image self.first self.calls.items) in
    let given : c.match-pick.items.items ≡ c.from_vec.result = sym c.from_vec.ensures in
    subst (IsImage s.present) given (elim c.match-pick.branch [
      | in-0+in_ok-items-in-0 w ↦ synced_image s.present self.bytes.items c.match-pick.items.items reads (ap (λ (v : Vec ℕ Global). v.items) w.items-is ∙ w.in_ok-items-in-0.ensures)
      | in-2+in_ok-items-in-2 w ↦ marked_image 1 s.present self.bytes.items c.match-pick.items.items reads (rw w.items-is w.in_ok-items-in-2.ensures)
      | in-3+in_ok-items-in-3 w ↦ marked_image 255 s.present self.bytes.items c.match-pick.items.items reads (rw w.items-is w.in_ok-items-in-3.ensures)
      | in_default+in_ok-items-in_default w ↦ subst (IsImage s.present) (sym (ap (λ (v : Vec ℕ Global). v.items) w.items-is ∙ w.in_ok-items-in_default.ensures)) reads
    ])
