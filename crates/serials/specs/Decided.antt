-- What holds of each decision, whatever the records are.
use Rattle.std.specs.Prelude.{◌≤◌, List, length, ⊤}
use Rattle.wirelist.specs.declared.program.Program.{Program}
use Rattle.records.specs.declared.record.StationRecord.{StationRecord}
use Rattle.serials.specs.declared.command.Command.{Command}
use Rattle.serials.specs.declared.command.Command.TheVariants as command
use Rattle.serials.specs.declared.decision.Decision.{Decision}
use Rattle.serials.specs.declared.decision.Decision.TheVariants as decision

-- the command is a test
abbrev pub IsTest : Command → Type 0
IsTest (command.Test id serial staff) = ⊤
IsTest others = ⊥

-- the command is no test
abbrev pub IsNoTest : Command → Type 0
IsNoTest (command.Test id serial staff) = ⊥
IsNoTest others = ⊤

-- A record that is named is there. A test is tested and nothing else is, and its attempt is one of the program's.
abbrev pub IsDecided : List StationRecord → Command → Program → Decision → Type 0
IsDecided R c p decision.Keep = IsNoTest c
IsDecided R c p (decision.Test attempt) = IsTest c × (1 ≤ attempt) × (attempt ≤ p.attempts)
IsDecided R c p (decision.Same number) = (1 ≤ number) × (number ≤ length R)
IsDecided R c p (decision.No rule) = ⊤
