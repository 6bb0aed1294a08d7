-- What is known of a disk, what a crash may leave of it, and what its calls do.
use Rattle.std.specs.Prelude.{◌≡◌, ◌⊎◌, ℕ, ◌+◌, ◌-◌, ◌<◌, ◌≤◌, max, Bool, IsTrue, Option, is_some, Result, MatchResult, List, [], ◌∷◌, ◌++◌, length}
use Rattle.std.specs.Prelude.{take, drop, slice_index}
use Rattle.std.specs.List.{AllByRecursion}
use Rattle.std.specs.Option.{ForSome}
use Rattle.disk_edge.specs.declared.disk.DiskStop.{DiskStop}

-- the bytes at from, from + 1, .., to - 1
pub record Range : Type 0 where
  pub from : ℕ
  pub to : ℕ

-- this place lies outside the range
abbrev pub IsOutside : ℕ → Range → Type 0
IsOutside place range = (place < range.from) ⊎ (range.to ≤ place)

-- What stood at the last sync, and what was written or tried since.
pub record Content : Type 0 where
  pub synced : List ℕ
  pub written : List Range
  pub longest : ℕ

-- A crash may leave any bytes in each written range and past the synced end. The other bytes stay.
pub record IsImage (content : Content) (image : List ℕ) : Type 0 where
  pub no_shorter : length content.synced ≤ length image
  pub no_longer : length image ≤ content.longest
  pub elsewhere : (place : ℕ) → place < length content.synced → AllByRecursion (IsOutside place) content.written
      → slice_index image place ≡ slice_index content.synced place

-- after a sync
abbrev pub settled : List ℕ → Content
settled bytes = record { synced = bytes; written = []; longest = length bytes }

-- after a write of n bytes, done or only tried
abbrev pub touched : Content → ℕ → ℕ → Content
touched content at n = record {
  synced = content.synced;
  written = record { from = at; to = at + n } ∷ content.written;
  longest = max content.longest (at + n);
}

-- What a disk means. The past has one content for each moment before this one, the newest first.
pub record DiskState : Type 0 where
  pub reads_as : Option (List ℕ)
  pub present : Content
  pub past : List Content
  pub honest : Bool
  pub faults : ℕ

-- what a crash now may leave
abbrev pub may_leave : DiskState → List ℕ → Type 0
may_leave disk image = IsImage disk.present image

-- the number of this moment
abbrev pub now : DiskState → ℕ
now disk = length disk.past

-- a crash at one of these moments may leave it
abbrev pub IsImageOfSome : List Content → List ℕ → Type 0
IsImageOfSome [] image = ⊥
IsImageOfSome (content ∷ contents) image = IsImage content image ⊎ IsImageOfSome contents image

-- what a crash at some moment from that one on might have left
abbrev pub might_have_left_since : DiskState → ℕ → List ℕ → Type 0
might_have_left_since disk moment image = IsImageOfSome (take (now disk + 1 - moment) (disk.present ∷ disk.past)) image

-- Each image that the disk might have left since old has P, or might have been left before.
-- In a run that began earlier this holds from each earlier moment on. It is said of a disk that is honest and tells.
pub record LeavesOnly (old new : DiskState) (P : List ℕ → Type 0) : Type 0 where
  pub honest : new.honest ≡ old.honest
  pub tells : is_some new.reads_as ≡ is_some old.reads_as
  pub later : now old ≤ now new
  pub each : IsTrue old.honest → IsTrue (is_some old.reads_as) → (moment : ℕ) (image : List ℕ) → moment ≤ now old
      → might_have_left_since new moment image → might_have_left_since old moment image ⊎ P image

-- After a call a crash may leave what this content allows. One that was refused may have left the content as it was.
abbrev pub Becomes : {T : Type 0} → DiskState → Result T DiskStop → Content → DiskState → Type 0
Becomes old result content new =
    IsTrue old.honest → MatchResult result (λ _. new.present ≡ content) (λ _. (new.present ≡ content) ⊎ (new.present ≡ old.present))

-- what it reads as was made sure of, so a crash leaves nothing else
abbrev pub IsDurable : DiskState → Type 0
IsDurable disk = IsTrue disk.honest → ForSome disk.reads_as (λ all. disk.present ≡ settled all)

-- all is as it was, but for the faults
pub record IsAsBefore (old new : DiskState) : Type 0 where
  pub reads_as : new.reads_as ≡ old.reads_as
  pub present : new.present ≡ old.present
  pub past : new.past ≡ old.past
  pub honest : new.honest ≡ old.honest

-- old with these bytes at this place
abbrev pub overwritten : List ℕ → ℕ → List ℕ → List ℕ
overwritten old at bytes = take at old ++ bytes ++ drop (at + length bytes) old

-- old but for n bytes at this place, which may be any, and may be fewer past the old end
pub record IsTorn (at n : ℕ) (old new : List ℕ) : Type 0 where
  pub before : take at new ≡ take at old
  pub after : drop (at + n) new ≡ drop (at + n) old
  pub no_shorter : length old ≤ length new
  pub no_longer : length new ≤ max (length old) (at + n)

-- where it is honest and tells, each image that a crash now may leave has P
abbrev pub EachImage : DiskState → (List ℕ → Type 0) → Type 0
EachImage disk P = IsTrue disk.honest → ForSome disk.reads_as (λ _. (image : List ℕ) → may_leave disk image → P image)
