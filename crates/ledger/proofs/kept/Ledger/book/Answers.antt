use Rattle.std.proofs.Common.{◌∙◌, sym, arith, subst}
use Rattle.journal.specs.Append.{state_of, count_of, end_of}
use Rattle.ledger.specs.Ledger.{IsStored}
use Rattle.ledger.proofs.Keeping.{stored_images, full_is, told_full}
use Rattle.ledger.proofs.kept.Ledger.book.Goals as goal

pub returns-clause-stored : goal.returns-clause-stored
returns-clause-stored g c =
    let booked = c.self.invariant in
    let room = c.full-full.ensures in
    subst IsStored c.self.view_is (record {
      in_range = booked.in_range;
      few = omega (arith, booked.counted, c.count-count.ensures.count, c.count-count.type_inv);
      room = λ tells. sym (full_is (end_of c.self.inside.journal) c.full-full.result room.end)
          ∙ told_full (state_of c.self.inside.journal) (count_of c.self.inside.journal) c.self.inside.book c.full-full.result booked room.told tells;
      images = stored_images (state_of c.self.inside.journal) (count_of c.self.inside.journal) c.self.inside.book booked;
    })
