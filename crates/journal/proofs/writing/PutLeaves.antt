-- A write and a sync.
use Rattle.std.proofs.Common.{◌≡◌, ℕ, ◌≤◌, IsTrue, List, length, Result, Ok, Err, OnOk, sym, ◌∙◌, subst}
use Rattle.std.specs.Option.{ForSome}
use Rattle.disk_edge.specs.Disk.{Content, IsImage, DiskState, may_leave, LeavesOnly, Becomes, IsDurable, settled, touched}
use Rattle.disk_edge.specs.declared.disk.DiskStop.{DiskStop}
use Rattle.journal.specs.Journal.{IsTornFrom}
use Rattle.disk_edge.proofs.Moments.{and_then, weaker}
use Rattle.disk_edge.proofs.Images.{torn_settled}

torn_from : (old : DiskState) (at n : ℕ) → ForSome old.reads_as (λ file. at ≤ length file) → IsTrue old.honest → (image : List ℕ) → IsImage (touched old.present at n) image → IsTornFrom old at n image
torn_from old at n within honest image left durable file told =
    torn_settled file image at n (within file told) (subst (λ (c : Content). IsImage (touched c at n) image) (durable honest file told) left)

pub write_leaves : (old mid : DiskState) (at n : ℕ) → ForSome old.reads_as (λ file. at ≤ length file) → LeavesOnly old mid (IsImage (touched old.present at n)) → LeavesOnly old mid (IsTornFrom old at n)
write_leaves old mid at n within crash =
    weaker old mid (IsImage (touched old.present at n)) (IsTornFrom old at n) (λ honest _ image left. torn_from old at n within honest image left) crash

pub put_leaves : (old mid new : DiskState) (at n : ℕ) → ForSome old.reads_as (λ file. at ≤ length file) → LeavesOnly old mid (IsImage (touched old.present at n)) → (IsTrue old.honest → mid.present ≡ touched old.present at n) → LeavesOnly mid new (may_leave mid) → LeavesOnly old new (IsTornFrom old at n)
put_leaves old mid new at n within crash content synced =
    and_then old mid new (IsTornFrom old at n) (write_leaves old mid at n within crash)
    (weaker mid new (may_leave mid) (IsTornFrom old at n)
    (λ honest _ image left.
    let was_honest : IsTrue old.honest = sym crash.honest ∙ honest in
    torn_from old at n within was_honest image (subst (λ (c : Content). IsImage c image) (content was_honest) left))
    synced)

pub synced_durable : {T : Type 0} (r : Result T DiskStop) (mid new : DiskState) → new.honest ≡ mid.honest → OnOk r (new.reads_as ≡ mid.reads_as) → ForSome mid.reads_as (λ all. Becomes mid r (settled all) new) → OnOk r (IsDurable new)
synced_durable (Ok x) mid new honest same content = λ is_honest all told. content all (sym same ∙ told) (sym honest ∙ is_honest)
synced_durable (Err e) mid new honest same content = tt
