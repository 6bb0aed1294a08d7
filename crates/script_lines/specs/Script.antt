-- The lines of a script.
use Rattle.std.specs.Prelude.{◌≡◌, ℕ, ◌+◌, ◌<◌, Bool, false, ◌||◌, nat_lt, List, [], ◌∷◌, ◌++◌, length, slice_index, Option, Some, None, if◌then◌else◌}
use Rattle.lines.specs.Lines.{is_lf, between_lfs, without_cr}
use Rattle.lines.specs.Words.{is_passed_over}

-- no byte of it is an LF
abbrev pub NoLf : List ℕ → Type 0
NoLf bytes = (i : ℕ) → i < length bytes → is_lf (slice_index bytes i) ≡ false

-- a line of this number has more than 200 bytes, or is number 100,001
abbrev pub is_too_long : ℕ → List ℕ → Bool
is_too_long number line = nat_lt 200 (length line) || nat_lt 100000 number

-- a line that asks something: its number, and its text without the CR at the end
pub record CommandLine : Type 0 where
  pub number : ℕ
  pub text : List ℕ

-- the line of this number, unless it is passed over: it has no word, or its first word begins with `#`
unfoldable pub asking : ℕ → List ℕ → List CommandLine
asking number line = if is_passed_over (without_cr line) then [] else record { number = number; text = without_cr line } ∷ []

-- the command lines among lines that are numbered from this number on, up to the first that is too long
abbrev pub commands_from : ℕ → List (List ℕ) → List CommandLine
commands_from number [] = []
commands_from number (line ∷ lines) = if is_too_long number line then [] else asking number line ++ commands_from (number + 1) lines

-- the number of the first line that is too long
abbrev pub too_long_from : ℕ → List (List ℕ) → Option ℕ
too_long_from number [] = None
too_long_from number (line ∷ lines) = if is_too_long number line then Some number else too_long_from (number + 1) lines

-- the command lines of a script, up to the first line that is too long
abbrev pub command_lines : List ℕ → List CommandLine
command_lines script = commands_from 1 (between_lfs script)

-- the number of its first line that is too long
abbrev pub too_long_at : List ℕ → Option ℕ
too_long_at script = too_long_from 1 (between_lfs script)
