-- What is written of a line.
use Rattle.std.specs.Prelude.{◌≡◌, ◌⊎◌, ℕ, ◌≤◌, List, [], ◌∷◌, ◌++◌, length, take, Option, Result, Ok, Err}
use Rattle.std.specs.Io.KnownBytes.{Appends}
use Rattle.base.specs.declared.memory.Memory.{Memory}
use Rattle.script.specs.Closing.{closing_line, not_at_zero}

-- a front of the line was written, perhaps all of it
pub record WritesFront (line : List ℕ) (old new : Option (List ℕ)) : Type 0 where
  pub count : ℕ
  pub within : count ≤ length line
  pub wrote : Appends old new (take count line)

-- the line and its LF were written
abbrev pub Says : Result (List ℕ) Memory → Option (List ℕ) → Option (List ℕ) → Type 0
Says (Ok line) old new = Appends old new (line ++ 10 ∷ [])
Says (Err e) old new = ⊥

-- a front of the line was written, and of a line for which memory ran out nothing
abbrev pub SaysPart : Result (List ℕ) Memory → Option (List ℕ) → Option (List ℕ) → Type 0
SaysPart (Ok line) old new = WritesFront line old new
SaysPart (Err e) old new = Appends old new []

-- the line was not written whole, since a write failed or memory ran out
abbrev pub SaysNot : Result (List ℕ) Memory → Option (List ℕ) → Option (List ℕ) → ℕ → Type 0
SaysNot line old new status = ((status ≡ 7) ⊎ (status ≡ 9)) × SaysPart line old new

-- the line was written whole and behind it a front of the closing line, or it was not written whole
abbrev pub SaysLast : Result (List ℕ) Memory → Option (List ℕ) → Option (List ℕ) → Type 0
SaysLast line old new = ((mid : Option (List ℕ)) × Says line old mid × WritesFront (closing_line not_at_zero) mid new) ⊎ SaysPart line old new
