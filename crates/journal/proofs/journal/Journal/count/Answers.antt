use Rattle.std.proofs.Common.{◌≡◌, length, arith}
use Rattle.std.proofs.lemmas.Grind.{common_steps}
use Rattle.journal.proofs.writing.Places.{told_count}
use Rattle.journal.proofs.journal.Journal.count.Goals as goal

pub returns-clause-told : goal.returns-clause-told
returns-clause-told g c bodies tells =
    let self = c.args.self.now in
    let all : c.len.result ≡ length self.gates.items = grind (arith, common_steps) in
    omega (arith, all, told_count (g.D.Disk.state self.disk) self.gates.items bodies self.kept tells)
