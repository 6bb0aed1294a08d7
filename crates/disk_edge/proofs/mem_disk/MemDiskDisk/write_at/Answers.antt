use Rattle.std.proofs.Common.{◌≡◌, [], ◌∷◌, ◌++◌, length, true, false, arith}
use Rattle.std.proofs.lemmas.Grind.{common_steps}
use Rattle.disk_edge.specs.declared.mem_disk.Call.TheVariants.{Write}
use Rattle.disk_edge.proofs.MemDiskCalls.{wrote}
use Rattle.disk_edge.proofs.mem_disk.MemDiskDisk.write_at.Goals as goal

pub returns-then-done-2-clause-crash : goal.returns-then-done-2-clause-crash
returns-then-done-2-clause-crash c =
    let now = c.args.self.now in
    let calls : c.push.new.self.items ≡ now.calls.items ++ Write c.args.at c.in_ok-copy.copy true ∷ [] = grind (arith, common_steps) in
    let long : length c.in_ok-copy.copy ≡ length c.args.bytes.now = grind (arith, common_steps) in
    wrote now.first now.calls.items c.push.new.self.items now.faults now.faults c.args.at c.in_ok-copy.copy true (length c.args.bytes.now) calls long

pub returns-clause-crash : goal.returns-clause-crash
returns-clause-crash c =
    let now = c.args.self.now in
    let calls : c.push.new.self.items ≡ now.calls.items ++ Write c.args.at c.in_ok-copy.copy false ∷ [] = grind (arith, common_steps) in
    let long : length c.in_ok-copy.copy ≡ length c.args.bytes.now = grind (arith, common_steps) in
    wrote now.first now.calls.items c.push.new.self.items now.faults c.saturating_add-self.result c.args.at c.in_ok-copy.copy false (length c.args.bytes.now) calls long
