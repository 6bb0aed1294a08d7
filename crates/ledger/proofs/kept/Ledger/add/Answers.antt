use Rattle.std.proofs.Common.{◌≡◌, ◌++◌, ◌∷◌, [], ◌∙◌, ℕ, List, Bool, true, false, refl, sym, ap, subst, inr}
use Rattle.disk_edge.specs.Disk.{DiskState, LeavesOnly}
use Rattle.journal.specs.Append.{state_of, count_of, end_of}
use Rattle.journal.specs.Gates.{last_gate}
use Rattle.records.specs.declared.record.StationRecord.{StationRecord}
use Rattle.ledger.specs.Kept.{IsImageOfEither, is_full}
use Rattle.ledger.specs.Ledger.{LedgerState, Tells, is_full_at}
use Rattle.ledger.specs.Adding.{HadRoom}
use Rattle.ledger.proofs.Keeping.{either_leaves, booked_more, had_room}
use Rattle.ledger.proofs.kept.Ledger.add.Goals as goal

pub invariant_of-result : goal.invariant_of-result
invariant_of-result g c =
    rw (c.in-Ok-add.ensures.ok, c.in-Ok-append.ensures.count)
    (booked_more (state_of c.self.inside.journal) (state_of c.in-Ok-append.journal) (count_of c.self.inside.journal) c.self.inside.book c.args.r c.as_slice.result.now (c.as_slice.ensures ∙ c.in-Ok.ensures.spelling) c.self.invariant c.requires c.in-Ok-append.ensures.entries c.in-Ok-append.ensures.each_image)

pub returns-in-Ok-add-clause-any_moment : goal.returns-in-Ok-add-clause-any_moment
returns-in-Ok-add-clause-any_moment g c =
    subst (λ (l : LedgerState). LeavesOnly l.disk (state_of c.in-Ok-append.journal) (IsImageOfEither l.records (l.records ++ c.args.r ∷ []))) c.self.view_is
    (either_leaves (state_of c.self.inside.journal) (state_of c.in-Ok-append.journal) (count_of c.self.inside.journal) c.self.inside.book c.args.r c.as_slice.result.now (c.as_slice.ensures ∙ c.in-Ok.ensures.spelling) c.self.invariant c.requires c.in-Ok-append.ensures.any_moment)

pub returns-in-Ok-append-clause-any_moment : goal.returns-in-Ok-append-clause-any_moment
returns-in-Ok-append-clause-any_moment g c =
    rw c.into_disk-in-Err.ensures
    (subst (λ (l : LedgerState). LeavesOnly l.disk (state_of c.in-Ok-append.journal) (IsImageOfEither l.records (l.records ++ c.args.r ∷ []))) c.self.view_is
    (either_leaves (state_of c.self.inside.journal) (state_of c.in-Ok-append.journal) (count_of c.self.inside.journal) c.self.inside.book c.args.r c.as_slice.result.now (c.as_slice.ensures ∙ c.in-Ok.ensures.spelling) c.self.invariant c.requires c.in-Ok-append.ensures.any_moment))

pub returns-in-Err-Disk-clause-any_moment : goal.returns-in-Err-Disk-clause-any_moment
returns-in-Err-Disk-clause-any_moment g c =
    subst (λ (l : LedgerState). LeavesOnly l.disk (g.D.Disk.state c.in-Err-Disk.disk) (IsImageOfEither l.records (l.records ++ c.args.r ∷ []))) c.self.view_is
    (either_leaves (state_of c.self.inside.journal) (g.D.Disk.state c.in-Err-Disk.disk) (count_of c.self.inside.journal) c.self.inside.book c.args.r c.as_slice.result.now (c.as_slice.ensures ∙ c.in-Ok.ensures.spelling) c.self.invariant c.requires (rw c.in-Err-Disk.field-0-is at c.in-Err-Disk.ensures).any_moment)

pub returns-in-Err-DiskMemory-clause-any_moment : goal.returns-in-Err-DiskMemory-clause-any_moment
returns-in-Err-DiskMemory-clause-any_moment g c =
    subst (λ (l : LedgerState). LeavesOnly l.disk (g.D.Disk.state c.in-Err-DiskMemory.disk) (IsImageOfEither l.records (l.records ++ c.args.r ∷ []))) c.self.view_is
    (either_leaves (state_of c.self.inside.journal) (g.D.Disk.state c.in-Err-DiskMemory.disk) (count_of c.self.inside.journal) c.self.inside.book c.args.r c.as_slice.result.now (c.as_slice.ensures ∙ c.in-Ok.ensures.spelling) c.self.invariant c.requires (rw c.in-Err-DiskMemory.field-0-is at c.in-Err-DiskMemory.ensures).any_moment)

room : (old : LedgerState) (disk : DiskState) (records : List StationRecord) (full : Bool) → record { disk = disk; records = records; full = full } ≡ old
    → (false ≡ full) × (Tells disk → false ≡ is_full records) → HadRoom old
room old disk records full same had = subst HadRoom same (sym had.0, λ tells. sym (had.1 tells))

pub returns-in-Ok-add-clause-room : goal.returns-in-Ok-add-clause-room
returns-in-Ok-add-clause-room g c =
    let e = c.in-Ok-append.ensures in
    room c.args.self (state_of c.self.inside.journal) c.self.inside.book (is_full_at (end_of c.self.inside.journal)) c.self.view_is
    (had_room (state_of c.self.inside.journal) (count_of c.self.inside.journal) (end_of c.self.inside.journal) c.self.inside.book false c.self.invariant e.full e.full_told)

pub returns-in-Ok-append-clause-stop : goal.returns-in-Ok-append-clause-stop
returns-in-Ok-append-clause-stop g c =
    let e = c.in-Ok-append.ensures in
    inr (room c.args.self (state_of c.self.inside.journal) c.self.inside.book (is_full_at (end_of c.self.inside.journal)) c.self.view_is
    (had_room (state_of c.self.inside.journal) (count_of c.self.inside.journal) (end_of c.self.inside.journal) c.self.inside.book false c.self.invariant e.full e.full_told))

no_room : (old now : LedgerState) (disk disk' : DiskState) (records : List StationRecord) (end end' : ℕ) → record { disk = disk; records = records; full = is_full_at end } ≡ old
    → disk' ≡ disk → end' ≡ end → now ≡ record { disk = disk'; records = records; full = is_full_at end' } → (true ≡ is_full_at end) × (Tells disk → true ≡ is_full records) → (now ≡ old) × (old.full ≡ true) × (Tells old.disk → is_full old.records ≡ true)
no_room old now disk disk' records end end' same disks ends is had =
    let here : now ≡ record { disk = disk; records = records; full = is_full_at end } =
    is ∙ ap (λ (d : DiskState). record { disk = d; records = records; full = is_full_at end' }) disks ∙ ap (λ (n : ℕ). record { disk = disk; records = records; full = is_full_at n }) ends in
    subst (λ (l : LedgerState). (now ≡ l) × (l.full ≡ true) × (Tells l.disk → is_full l.records ≡ true)) same (here, sym had.0, λ tells. sym (had.1 tells))

pub returns-in-Err-Full-clause-stop : goal.returns-in-Err-Full-clause-stop
returns-in-Err-Full-clause-stop g c =
    let e = rw c.in-Err-Full.field-0-is at c.in-Err-Full.ensures in
    no_room c.args.self _ (state_of c.self.inside.journal) (state_of c.in-Err-Full.journal) c.self.inside.book (end_of c.self.inside.journal) (end_of c.in-Err-Full.journal) c.self.view_is
    (ap g.D.Disk.state e.stop.disk) (ap last_gate e.stop.gates) refl
    (had_room (state_of c.self.inside.journal) (count_of c.self.inside.journal) (end_of c.self.inside.journal) c.self.inside.book true c.self.invariant e.full e.full_told)
