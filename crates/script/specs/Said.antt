-- What is said to a line.
use Rattle.std.specs.Prelude.{ℕ, Bool, true, false, List, [], ◌∷◌, ◌++◌, map, codes, decimal, Option}
use Rattle.serials.specs.declared.command.Command.{Command}
use Rattle.serials.specs.Commands.{read_command}
use Rattle.station.specs.AnswerText.{answer_line}
use Rattle.station.specs.Step.{Reply, answered, not_at_zero}
use Rattle.script_lines.specs.Script.{CommandLine, command_lines}

-- a line or a row that asks for something: its number, and the command that it is, if it is one
abbrev pub Asked : Type 0
Asked = ℕ × Option Command

-- what a command line of a script asks
abbrev pub asks : CommandLine → Asked
asks line = (line.number, read_command line.text)

-- what a script asks, line by line, up to the first line that is too long
abbrev pub asked_by_script : List ℕ → List Asked
asked_by_script script = map asks (command_lines script)

-- what is said to it: that it is no command, or the command's id and its reply
pub data Said : Type 0 where
  no_command : ℕ → Said
  replied : List ℕ → Reply → Said

-- the line of a reply, without its LF
abbrev pub reply_line : List ℕ → Reply → List ℕ
reply_line id (answered a) = answer_line a id
reply_line id not_at_zero = codes "NO E21 " ++ id

-- the line that is said, without its LF
unfoldable pub said_line : Said → List ℕ
said_line (no_command number) = codes "NO E01 line " ++ decimal number
said_line (replied id reply) = reply_line id reply

-- the line with its LF
abbrev pub written : Said → List ℕ
written said = said_line said ++ 10 ∷ []

-- the command's three zero calls failed
abbrev pub is_stuck : Said → Bool
is_stuck (no_command number) = false
is_stuck (replied id (answered a)) = false
is_stuck (replied id not_at_zero) = true
