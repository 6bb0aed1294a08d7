-- What a journal's disk holds, and what its calls hand back.
use Rattle.std.specs.Prelude.{◌≡◌, ℕ, ◌≤◌, max, IsSomeAnd, List, [], ◌∷◌, ◌++◌, length}
use Rattle.std.specs.Option.{ForSome}
use Rattle.disk_edge.specs.Disk.{DiskState, IsDurable, IsTorn, EachImage}
use Rattle.journal.specs.Format.{written, entry, Fits, AtRest}
use Rattle.journal.specs.declared.TheConstants.{LONGEST_FILE}

-- Where all that it read was made sure of: the file as it read, but for n bytes at this place.
abbrev pub IsTornFrom : DiskState → ℕ → ℕ → List ℕ → Type 0
IsTornFrom disk at n image = IsDurable disk → ForSome disk.reads_as (λ file. IsTorn at n file image)

-- where it tells, the disk reads as these entries at rest
abbrev pub HasEntries : DiskState → List (List ℕ) → Type 0
HasEntries disk bodies = ForSome disk.reads_as (λ file. AtRest file bodies)

-- it tells, and reads as these entries at rest
abbrev pub TellsEntries : DiskState → List (List ℕ) → Type 0
TellsEntries disk bodies = IsSomeAnd disk.reads_as (λ file. AtRest file bodies)

-- no image that a crash now may leave is longer than a journal may be
abbrev pub IsWithinLimit : DiskState → Type 0
IsWithinLimit disk = EachImage disk (λ image. length image ≤ LONGEST_FILE)

-- where no image was longer, this one is not
abbrev pub KeepsLimit : DiskState → List ℕ → Type 0
KeepsLimit disk image = IsWithinLimit disk → length image ≤ LONGEST_FILE

-- Where all that it read was made sure of: no longer than the file, or than up to this place.
abbrev pub ReachesTo : DiskState → ℕ → List ℕ → Type 0
ReachesTo disk to image = IsDurable disk → ForSome disk.reads_as (λ file. length image ≤ max (length file) to)

-- these bytes are an entry of this body and a closed gate, and its own gate stands closed at the end of these entries
pub record IsNext (disk : DiskState) (end : ℕ) (bytes : List ℕ) (bodies : List (List ℕ)) (body : List ℕ) : Type 0 where
  pub durable : IsDurable disk
  pub entries : HasEntries disk bodies
  pub place : ForSome disk.reads_as (λ _. end ≡ length (written bodies))
  pub spelled : bytes ≡ entry body ++ 0 ∷ []
  pub fits : Fits body
