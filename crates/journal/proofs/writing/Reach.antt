-- How far the writes of a journal reach.
use Rattle.std.proofs.Common.{◌≡◌, ⊎_elim, ℕ, ◌+◌, ◌≤◌, IsTrue, Some, List, length, sym, subst, arith}
use Rattle.std.specs.Option.{ForSome}
use Rattle.disk_edge.specs.Disk.{Content, DiskState, IsImage, LeavesOnly, IsDurable, overwritten}
use Rattle.disk_edge.specs.MemDiskLaws.{length-overwritten, settled_image}
use Rattle.disk_edge.proofs.Moments.{weaker, and_then}
use Rattle.journal.specs.declared.TheConstants.{LONGEST_FILE}
use Rattle.journal.specs.Format.{IsSound}
use Rattle.journal.specs.Gates.{IsKept}
use Rattle.journal.specs.Journal.{IsTornFrom, ReachesTo, KeepsLimit}
use Rattle.journal.specs.Opening.{MayOpen}
use Rattle.journal.proofs.writing.Entries.{told_by}

pub reach_of_one : (old mid : DiskState) (at n to : ℕ) → at + n ≤ to → LeavesOnly old mid (IsTornFrom old at n) → LeavesOnly old mid (ReachesTo old to)
reach_of_one old mid at n to le torn = weaker old mid (IsTornFrom old at n) (ReachesTo old to) (λ _ _ image left durable file told. omega (arith, le, (left durable file told).no_longer)) torn

pub reach_of_two : (old mid new : DiskState) (at at' n' to : ℕ) (bytes : List ℕ) → at + length bytes ≤ to → at' + n' ≤ to → LeavesOnly old mid (IsTornFrom old at (length bytes))
    → ForSome old.reads_as (λ file. mid.reads_as ≡ Some (overwritten file at bytes)) → IsDurable mid → LeavesOnly mid new (IsTornFrom mid at' n') → LeavesOnly old new (ReachesTo old to)
reach_of_two old mid new at at' n' to bytes le le' torn put mid_durable torn' = and_then old mid new (ReachesTo old to) (reach_of_one old mid at (length bytes) to le torn)
    (weaker mid new (IsTornFrom mid at' n') (ReachesTo old to) (λ _ _ image left durable file told.
    let after = left mid_durable (overwritten file at bytes) (put file told) in
    omega (arith, le, le', after.no_longer, (length-overwritten file at bytes).1)) torn')

pub append_limit : (old new : DiskState) (gates : List ℕ) (to : ℕ) → IsKept old gates → to ≤ LONGEST_FILE → LeavesOnly old new (ReachesTo old to) → LeavesOnly old new (KeepsLimit old)
append_limit old new gates to kept le reach = weaker old new (ReachesTo old to) (KeepsLimit old) (λ honest tells image left within.
    let known = told_by old.reads_as tells in
    let file = known.0 in
    let is_image = subst (λ (c : Content). IsImage c file) (sym (kept.durable honest file known.1)) (settled_image file) in
    omega (arith, le, left kept.durable file known.1, within honest file known.1 file is_image)) reach

pub mount_limit : (old new : DiskState) → ((all : List ℕ) → IsTrue old.honest → old.reads_as ≡ Some all → IsImage old.present all) → LeavesOnly old new (MayOpen old) → LeavesOnly old new (λ image. ForSome old.reads_as IsSound → KeepsLimit old image)
mount_limit old new law may_open = weaker old new (MayOpen old) (λ (image : List ℕ). ForSome old.reads_as IsSound → KeepsLimit old image) (λ honest tells image may sound within.
    let known = told_by old.reads_as tells in
    let file = known.0 in
    ⊎_elim
    (λ short. omega (arith, short.1))
    (λ made. omega (arith, made.4, within honest file known.1 file (law file honest known.1)))
    (may file known.1 (sound file known.1))) may_open
