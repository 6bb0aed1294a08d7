-- What is printed of a refusal.
use Rattle.std.specs.Prelude.{ℕ, Option, Some, None}
use Rattle.harness.specs.declared.refusal.HarnessRefusal.{HarnessRefusal}
use Rattle.harness.specs.declared.refusal.HarnessRefusal.TheVariants.{BadLine, PointRange, SecondElement, SameUnit, NoEnd, TooMany, TooLong, Memory}

-- its number
abbrev pub number_of : HarnessRefusal → Option ℕ
number_of (BadLine line) = Some 1
number_of (PointRange line) = Some 2
number_of (SecondElement line) = Some 3
number_of (SameUnit line) = Some 4
number_of NoEnd = Some 5
number_of (TooMany line) = Some 6
number_of TooLong = Some 7
number_of Memory = None

-- its line
abbrev pub line_of : HarnessRefusal → Option ℕ
line_of (BadLine line) = Some line
line_of (PointRange line) = Some line
line_of (SecondElement line) = Some line
line_of (SameUnit line) = Some line
line_of NoEnd = None
line_of (TooMany line) = Some line
line_of TooLong = None
line_of Memory = None
