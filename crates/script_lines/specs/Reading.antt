-- How a script is read, line by line.
use Rattle.std.specs.Prelude.{◌≡◌, ◌≢◌, ℕ, ◌<◌, ◌≤◌, true, false, List, [], ◌∷◌, ◌++◌, length, Option, Some, ⊤}
use Rattle.base.specs.Causes.{Rose}
use Rattle.lines.specs.Lines.{between_lfs}
use Rattle.script_lines.specs.declared.reader.NextLine.{NextLine}
use Rattle.script_lines.specs.declared.reader.NextLine.TheVariants.{Line, Last, End}
use Rattle.script_lines.specs.declared.reader.LineStop.{LineStop}
use Rattle.script_lines.specs.declared.reader.LineStop.TheVariants.{Failed, TooLong, Memory}
use Rattle.script_lines.specs.Script.{NoLf, is_too_long}

-- The line ends with an LF. Of what was to come, what is pending was read behind it, and the rest is left.
pub record ReadsWhole (to_come : List ℕ) (number : ℕ) (line pending : List ℕ) (left : Option (List ℕ)) : Type 0 where
  pub behind : List ℕ
  pub left_is : left ≡ Some behind
  pub split : to_come ≡ line ++ 10 ∷ (pending ++ behind)
  pub no_lf : NoLf line
  pub short : is_too_long number line ≡ false

-- the line is the last one, and all that was to come
pub record ReadsLast (to_come : List ℕ) (number : ℕ) (line : List ℕ) (left : Option (List ℕ)) : Type 0 where
  pub left_is : left ≡ Some []
  pub all : to_come ≡ line
  pub some : 0 < length line
  pub no_lf : NoLf line
  pub short : is_too_long number line ≡ false

-- the next line of what was to come
abbrev pub ReadsNext : List ℕ → ℕ → NextLine → List ℕ → Option (List ℕ) → Type 0
ReadsNext to_come number (Line line) pending left = ReadsWhole to_come number line pending left
ReadsNext to_come number (Last line) pending left = ReadsLast to_come number line left
ReadsNext to_come number End pending left = (left ≡ Some []) × (to_come ≡ [])

-- a read failed: what was read and not given is pending, and has no LF
pub record ReadsNoLine (to_come pending : List ℕ) (left : Option (List ℕ)) : Type 0 where
  pub behind : List ℕ
  pub left_is : left ≡ Some behind
  pub split : to_come ≡ pending ++ behind
  pub no_lf : NoLf pending

-- the next line is too long
pub record ReadsTooLong (to_come : List ℕ) (number : ℕ) : Type 0 where
  pub line : List ℕ
  pub more : List (List ℕ)
  pub lines : between_lfs to_come ≡ line ∷ more
  pub long : is_too_long number line ≡ true

-- why there is no next line
abbrev pub ReadsNot : List ℕ → ℕ → LineStop → List ℕ → Option (List ℕ) → Type 0
ReadsNot to_come number Failed pending left = ReadsNoLine to_come pending left
ReadsNot to_come number TooLong pending left = ReadsTooLong to_come number
ReadsNot to_come number Memory pending left = ⊤

-- What is pending and what is left after a stop is what was to come; want of memory may have lost bytes between the two.
pub record KeepsPending (to_come : List ℕ) (stop : LineStop) (pending : List ℕ) (left : Option (List ℕ)) : Type 0 where
  pub lost : List ℕ
  pub behind : List ℕ
  pub left_is : left ≡ Some behind
  pub split : to_come ≡ pending ++ (lost ++ behind)
  pub none_lost : stop ≢ Memory → lost ≡ []

-- a read is answered as failed only where the source's count of failed reads rose
abbrev pub StopCause : ℕ → ℕ → LineStop → Type 0
StopCause before now Failed = Rose before now
StopCause before now TooLong = ⊤
StopCause before now Memory = ⊤

-- a line that ends with an LF is one of the first 100,000
abbrev pub IsFew : ℕ → NextLine → Type 0
IsFew number (Line line) = number ≤ 100000
IsFew number (Last line) = ⊤
IsFew number End = ⊤
