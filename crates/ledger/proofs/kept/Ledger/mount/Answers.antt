use Rattle.journal.specs.Append.{state_of}
use Rattle.ledger.specs.Opening.{found}
use Rattle.ledger.proofs.Opens.{then_no_memory}
use Rattle.ledger.proofs.kept.Ledger.mount.Goals as goal

pub returns-in-Err-of : goal.returns-in-Err-of
returns-in-Err-of g c =
    rw c.into_disk.ensures (record { opens = then_no_memory (g.D.Disk.state c.args.disk) (state_of c.in-Ok.loaded.journal) (found c.in-Ok.loaded.records) c.in-Ok.ensures.opens })
