use Rattle.std.proofs.Common.{List, ℕ, ◌-◌, length, ap}
use Rattle.journal.specs.Append.{state_of, count_of}
use Rattle.ledger.proofs.Opens.{refused_opens, opens_found, booked_first, opens_wrong, opens_failed, opens_no_memory}
use Rattle.ledger.proofs.loading.load.Goals as goal

pub returns-in-Err-clause-opens : goal.returns-in-Err-clause-opens
returns-in-Err-clause-opens g c =
    let e = c.in-Err.ensures in
    rw c.of_journal.ensures (refused_opens g.D.Disk.state (g.D.Disk.state c.args.disk) c.in-Err.stop e.stop e.later e.any_moment e.limit e.untouched)

pub returns-in-Ok-read_records-clause-opens : goal.returns-in-Ok-read_records-clause-opens
returns-in-Ok-read_records-clause-opens g c =
    let e = c.in-Ok.ensures in
    let r = c.in-Ok-read_records.ensures in
    opens_found (g.D.Disk.state c.args.disk) (state_of c.in-Ok.journal) (state_of c.read_records.new.journal) e.found e.entries e.each_image e.any_moment e.limit e.later r.same r.later
    c.in-Ok-read_records.records r.spelled r.in_range

pub returns-in-Ok-read_records-clause-loaded : goal.returns-in-Ok-read_records-clause-loaded
returns-in-Ok-read_records-clause-loaded g c =
    let e = c.in-Ok.ensures in
    let r = c.in-Ok-read_records.ensures in
    record {
      booked = booked_first (g.D.Disk.state c.args.disk) (state_of c.in-Ok.journal) (state_of c.read_records.new.journal) e.found e.entries e.each_image e.any_moment e.limit e.later r.same r.later
          c.in-Ok-read_records.records r.spelled r.in_range (count_of c.in-Ok.journal) (count_of c.read_records.new.journal) r.counted (ap (λ (l : List ℕ). length l - 1) r.gates);
      few = r.few;
    }

pub returns-in-Err-NoRecord-clause-opens : goal.returns-in-Err-NoRecord-clause-opens
returns-in-Err-NoRecord-clause-opens g c =
    let e = c.in-Ok.ensures in
    let r = rw c.in-Err-NoRecord.field-0-is at c.in-Err-NoRecord.ensures in
    rw (c.into_disk.ensures)
    (opens_wrong (g.D.Disk.state c.args.disk) (state_of c.in-Ok.journal) (state_of c.read_records.new.journal) e.found e.entries e.each_image e.any_moment e.limit e.later r.same r.later
    c.in-Err-NoRecord.number c.in-Err-NoRecord.place r.wrong)

pub returns-in-Err-Disk-clause-opens : goal.returns-in-Err-Disk-clause-opens
returns-in-Err-Disk-clause-opens g c =
    let e = c.in-Ok.ensures in
    let r = rw c.in-Err-Disk.field-0-is at c.in-Err-Disk.ensures in
    rw c.into_disk-in-Err-Disk.ensures
    (opens_failed (g.D.Disk.state c.args.disk) (state_of c.in-Ok.journal) (state_of c.read_records.new.journal) e.found e.entries e.each_image e.any_moment e.limit e.later r.same r.later r.cause)

pub returns-in-Err-Memory-clause-opens : goal.returns-in-Err-Memory-clause-opens
returns-in-Err-Memory-clause-opens g c =
    let e = c.in-Ok.ensures in
    let r = rw c.in-Err-Memory.field-0-is at c.in-Err-Memory.ensures in
    rw c.into_disk-in-Err-Memory.ensures
    (opens_no_memory (g.D.Disk.state c.args.disk) (state_of c.in-Ok.journal) (state_of c.read_records.new.journal) e.found e.entries e.each_image e.any_moment e.limit e.later r.same r.later)
