use Rattle.std.proofs.Common.{◌≡◌, [], ◌∷◌, ◌++◌, true, arith}
use Rattle.std.proofs.lemmas.Grind.{common_steps}
use Rattle.disk_edge.specs.declared.mem_disk.Call.TheVariants.{Sync}
use Rattle.disk_edge.proofs.MemDiskCalls.{synced_less}
use Rattle.disk_edge.proofs.mem_disk.MemDiskDisk.sync.Goals as goal

-- after a sync a crash leaves no more than before it
pub returns-then-done-clause-crash : goal.returns-then-done-clause-crash
returns-then-done-clause-crash c =
    let now = c.args.self.now in
    let calls : c.push.new.self.items ≡ now.calls.items ++ Sync true ∷ [] = grind (arith, common_steps) in
    synced_less now.first now.calls.items c.push.new.self.items now.faults now.faults calls
