-- What an opening finds, and what it may make of a file.
use Rattle.std.specs.Prelude.{◌≡◌, ◌≢◌, ◌⊎◌, ℕ, ◌+◌, ◌<◌, ◌≤◌, List, [], ◌∷◌, ◌++◌, length, take, drop, slice_index}
use Rattle.std.specs.Option.{ForSome}
use Rattle.disk_edge.specs.Disk.{DiskState, IsDurable}
use Rattle.journal.specs.Format.{sized, entry, Fits, AllFit, written, magic, IsClosed, IsRead, Holds, Covers, IsSound, IsBeforeOrAfter}
use Rattle.journal.specs.Gates.{places}
use Rattle.journal.specs.declared.opening.Behind.{Behind}
use Rattle.journal.specs.declared.opening.Behind.TheVariants.{Closed, Whole, Cut}
use Rattle.journal.specs.declared.TheConstants.{LONGEST_FILE}

-- an open gate over less than a whole entry
pub record IsCut (rest : List ℕ) : Type 0 where
  pub tail : List ℕ
  pub open_gate : rest ≡ 1 ∷ tail
  pub no_entry : (body after : List ℕ) → Fits body → tail ≡ sized body ++ after → ⊥

-- an open gate over a whole entry, and the place of the next gate
pub record IsWhole (rest : List ℕ) (gate next : ℕ) : Type 0 where
  pub body : List ℕ
  pub after : List ℕ
  pub bytes : rest ≡ entry body ++ after
  pub fits : Fits body
  pub place : next ≡ gate + 5 + length body

-- what stands at a gate
abbrev pub Stands : List ℕ → ℕ → Behind → Type 0
Stands rest gate Closed = IsClosed rest
Stands rest gate (Whole next) = IsWhole rest gate next
Stands rest gate Cut = IsCut rest

-- these entries up to this gate, and what is not read yet
pub record IsReadTo (file gates : List ℕ) (gate : ℕ) : Type 0 where
  pub bodies : List (List ℕ)
  pub bytes : file ≡ written bodies ++ drop gate file
  pub fit : AllFit bodies
  pub are : gates ++ gate ∷ [] ≡ places 8 bodies
  pub end : gate ≡ length (written bodies)

-- all entries, and the places of their gates
pub record AreRead (file gates : List ℕ) : Type 0 where
  pub bodies : List (List ℕ)
  pub read : IsRead file bodies
  pub are : gates ≡ places 8 bodies

-- another beginning than the magic, and its first bytes
pub record IsForeign (file first : List ℕ) : Type 0 where
  pub long : 9 < length file
  pub within : length file ≤ LONGEST_FILE
  pub begins : first ≡ take 8 file
  pub other : first ≢ magic

-- the entry of this number is cut, behind whole ones
pub record IsBad (file : List ℕ) (number place : ℕ) : Type 0 where
  pub long : 9 < length file
  pub within : length file ≤ LONGEST_FILE
  pub bodies : List (List ℕ)
  pub rest : List ℕ
  pub bytes : file ≡ written bodies ++ rest
  pub fit : AllFit bodies
  pub cut : IsCut rest
  pub counts : number ≡ length bodies + 1
  pub stands : place ≡ length (written bodies)

-- What an opening makes of a sound file, wherever it is stopped: a file of at most 9 bytes stays one, and a covered entry may come to the others.
abbrev pub MayMake : List ℕ → List ℕ → Type 0
MayMake file image =
    ((length file ≤ 9) × (length image ≤ 9))
    ⊎ ((bodies : List (List ℕ)) × (body : List ℕ) × Covers file bodies body × IsBeforeOrAfter bodies body image × (length image ≡ length file))

-- an open gate stands there
abbrev pub IsOpen : List ℕ → ℕ → Type 0
IsOpen file gate = (gate < length file) × (slice_index file gate ≡ 1)

-- a gate of 0 stands there
abbrev pub IsShut : List ℕ → ℕ → Type 0
IsShut file end = (end < length file) × (slice_index file end ≡ 0)

-- the entries that end at this place have P
abbrev pub EndsAt : List ℕ → ℕ → (List (List ℕ) → Type 0) → Type 0
EndsAt file end P = (bodies : List (List ℕ)) → IsRead file bodies → end ≡ length (written bodies) → P bodies

-- what a closing may make of a file that was made sure of
abbrev pub MayClose : DiskState → ℕ → List ℕ → Type 0
MayClose disk end image = IsDurable disk → ForSome disk.reads_as (λ file. EndsAt file end (λ _. IsSound file → MayMake file image))

-- what an opening may make of a file, where it is sound
abbrev pub MayOpen : DiskState → List ℕ → Type 0
MayOpen disk image = ForSome disk.reads_as (λ file. IsSound file → MayMake file image)

-- a file that is opened: it is not too long, and holds a list of entries
abbrev pub IsJournal : List ℕ → Type 0
IsJournal file = (length file ≤ LONGEST_FILE) × ((bodies : List (List ℕ)) × Holds file bodies)
