-- The lines that tell of connections, and the closing lines.
use Rattle.std.specs.Prelude.{ℕ, List, [], ◌++◌, codes, Option, Some, None, Result, Ok, Err}
use Rattle.std.specs.Fmt.{decimal}
use Rattle.std.specs.Io.KnownBytes.{Appends}
use Rattle.base.specs.declared.memory.Memory.{Memory}
use Rattle.bench_edge.specs.declared.stream.EdgeStop.{EdgeStop}
use Rattle.bench_edge.specs.declared.stream.EdgeStop.TheVariants as stop
use Rattle.bench_edge.specs.Whole.{WroteFront}

-- the status of its reply, or that it was cut
abbrev pub status_word : Option ℕ → List ℕ
status_word None = codes "cut"
status_word (Some status) = decimal status

-- `conn K STATUS` or `conn K cut`
unfoldable pub conn_line : ℕ → Option ℕ → List ℕ
conn_line number status = codes "conn " ++ decimal number ++ codes " " ++ status_word status ++ codes "\n"

-- what ends the serving, beside that all connections were served
pub data Closing : Type 0 where
  write_fault : Closing
  disk_fault : Closing
  memory : Closing
  not_at_zero : Closing
  network_fault : Closing

-- the status that it ends with
abbrev pub status_of : Closing → ℕ
status_of write_fault = 7
status_of disk_fault = 8
status_of memory = 9
status_of not_at_zero = 10
status_of network_fault = 11

-- the closing line, or nothing
abbrev pub closing_line : Closing → List ℕ
closing_line write_fault = []
closing_line disk_fault = codes "disk fault\n"
closing_line memory = []
closing_line not_at_zero = codes "source not at zero\n"
closing_line network_fault = codes "network fault\n"

-- what ends the serving where the door refuses
abbrev pub closed_as : EdgeStop → Closing
closed_as stop.Failed = network_fault
closed_as stop.Memory = memory

-- and where a line is not written
abbrev pub unwritten_as : EdgeStop → Closing
unwritten_as stop.Failed = write_fault
unwritten_as stop.Memory = memory

-- the line was written
abbrev pub Says : Result (List ℕ) Memory → Option (List ℕ) → Option (List ℕ) → Type 0
Says (Ok line) old new = Appends old new line
Says (Err e) old new = ⊥

-- a front of the line was written, and of a line for which memory ran out nothing
abbrev pub SaysPart : Result (List ℕ) Memory → Option (List ℕ) → Option (List ℕ) → Type 0
SaysPart (Ok line) old new = WroteFront old new line
SaysPart (Err e) old new = Appends old new []
