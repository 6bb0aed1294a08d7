use Rattle.std.proofs.Common.{◌≡◌, ◌↔◌, ℕ, IsTrue, ◌∙◌, subst}
use Rattle.journal.specs.Format.{end_after, IsFull}
use Rattle.journal.proofs.writing.Places.{told_end}
use Rattle.journal.proofs.journal.Journal.full.Goals as goal

pub returns-clause-told : goal.returns-clause-told
returns-clause-told g c bodies tells =
    let self = c.args.self.now in
    let end : c.end.result ≡ end_after bodies = c.end.ensures ∙ told_end (g.D.Disk.state self.disk) self.gates.items bodies self.kept tells in
    subst (λ (n : ℕ). IsTrue c.has_no_room.result ↔ IsFull n) end c.has_no_room.ensures
