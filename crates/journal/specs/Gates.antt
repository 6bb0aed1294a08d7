-- The places of the gates.
use Rattle.std.specs.Prelude.{◌≡◌, ℕ, ◌+◌, ◌-◌, ◌*◌, ◌<◌, ◌≤◌, List, [], ◌∷◌, ◌++◌, length, drop, slice_index, slice_range}
use Rattle.std.specs.Option.{ForSome}
use Rattle.journal.specs.declared.TheConstants.{LONGEST_BODY, LONGEST_FILE}
use Rattle.disk_edge.specs.Disk.{DiskState, IsDurable}
use Rattle.journal.specs.Format.{written, AllFit}

-- from this place on, the places of the gates of these entries, the closed one last
abbrev pub places : ℕ → List (List ℕ) → List ℕ
places at [] = at ∷ []
places at (body ∷ bodies) = at ∷ places (at + 5 + length body) bodies

-- the bytes of each entry between the gates
abbrev pub bodies_behind : List ℕ → ℕ → List ℕ → List (List ℕ)
bodies_behind file gate [] = []
bodies_behind file gate (next ∷ gates) = slice_range file (gate + 5) next ∷ bodies_behind file next gates

abbrev pub bodies_between : List ℕ → List ℕ → List (List ℕ)
bodies_between file [] = []
bodies_between file (gate ∷ gates) = bodies_behind file gate gates

abbrev pub last_gate : List ℕ → ℕ
last_gate gates = slice_index gates (length gates - 1)

-- whatever the disk is, the gates stand in order within the limits
pub record AreInOrder (gates : List ℕ) : Type 0 where
  pub some : 1 ≤ length gates
  pub steps : (k : ℕ) → k + 1 < length gates
      → (slice_index gates k + 5 ≤ slice_index gates (k + 1)) × (slice_index gates (k + 1) ≤ slice_index gates k + 5 + LONGEST_BODY)
  pub few : 5 * length gates ≤ last_gate gates + 5
  pub within : last_gate gates ≤ LONGEST_FILE

-- the file is at rest, and these are the places of its gates
pub record IsAt (file : List ℕ) (gates : List ℕ) : Type 0 where
  pub bytes : file ≡ written (bodies_between file gates) ++ 0 ∷ drop (length (written (bodies_between file gates)) + 1) file
  pub fit : AllFit (bodies_between file gates)
  pub places : gates ≡ places 8 (bodies_between file gates)

-- where it tells, the disk reads so, and a crash leaves nothing else
pub record IsKept (disk : DiskState) (gates : List ℕ) : Type 0 where
  pub reads : ForSome disk.reads_as (λ file. IsAt file gates)
  pub durable : IsDurable disk
