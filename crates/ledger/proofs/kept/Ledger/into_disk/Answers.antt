use Rattle.journal.specs.Append.{state_of, count_of}
use Rattle.ledger.proofs.Keeping.{stored_images}
use Rattle.ledger.proofs.kept.Ledger.into_disk.Goals as goal

pub returns-clause-images : goal.returns-clause-images
returns-clause-images g c =
    rw (c.into_disk.ensures, ← c.self.view_is) (stored_images (state_of c.self.inside.journal) (count_of c.self.inside.journal) c.self.inside.book c.self.invariant)
