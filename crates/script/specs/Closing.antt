-- What ends a script, its status and its closing line.
use Rattle.std.specs.Prelude.{ℕ, List, [], ◌∷◌, ◌++◌, codes, decimal}
use Rattle.script_lines.specs.declared.reader.LineStop.{LineStop}
use Rattle.script_lines.specs.declared.reader.LineStop.TheVariants as stop

-- what ended the call
pub data Closing : Type 0 where
  none : Closing
  read_fault : Closing
  write_fault : Closing
  disk_fault : Closing
  memory : Closing
  not_at_zero : Closing
  line_too_long : ℕ → Closing

-- the status that it ends with
abbrev pub status_of : Closing → ℕ
status_of none = 0
status_of read_fault = 6
status_of write_fault = 7
status_of disk_fault = 8
status_of memory = 9
status_of not_at_zero = 10
status_of (line_too_long n) = 12

-- the line, or nothing
abbrev pub closing_line : Closing → List ℕ
closing_line none = []
closing_line read_fault = codes "read fault" ++ 10 ∷ []
closing_line write_fault = []
closing_line disk_fault = codes "disk fault" ++ 10 ∷ []
closing_line memory = []
closing_line not_at_zero = codes "source not at zero" ++ 10 ∷ []
closing_line (line_too_long n) = (codes "input too long line " ++ decimal n) ++ 10 ∷ []

-- what ends a script where there is no next line to read
abbrev pub closing_for : LineStop → ℕ → Closing
closing_for stop.Failed number = read_fault
closing_for stop.TooLong number = line_too_long number
closing_for stop.Memory number = memory
