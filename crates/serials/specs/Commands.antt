-- The commands of a script.
--     read_command line    the command that a line is, without the CR at its end
use Rattle.std.specs.Prelude.{ℕ, ◌&&◌, List, [], ◌∷◌, codes, Option, Some, None, option_map, bytes_eq, if◌then◌else◌}
use Rattle.partition.specs.Names.{is_name}
use Rattle.lines.specs.Words.{words_of}
use Rattle.serials.specs.Dates.{read_date}
use Rattle.serials.specs.declared.command.Command.{Command}
use Rattle.serials.specs.declared.command.Command.TheVariants.{Adopt, Enrol, Calibrate, Mark, Test, Rework, Release, Scrap}

-- the id of a command
abbrev pub id_of : Command → List ℕ
id_of (Adopt id) = id
id_of (Enrol id serial) = id
id_of (Calibrate id day) = id
id_of (Mark id) = id
id_of (Test id serial staff) = id
id_of (Rework id serial) = id
id_of (Release id serial) = id
id_of (Scrap id serial) = id

-- `adopt ID` and `mark ID`
abbrev pub read_alone : List ℕ → List ℕ → Option Command
read_alone word id =
    if bytes_eq word (codes "adopt") then Some (Adopt id)
    else if bytes_eq word (codes "mark") then Some (Mark id)
    else None

-- a command of a serial
abbrev pub read_of_serial : List ℕ → List ℕ → List ℕ → Option Command
read_of_serial word id serial =
    if bytes_eq word (codes "enrol") then Some (Enrol id serial)
    else if bytes_eq word (codes "test") then Some (Test id serial None)
    else if bytes_eq word (codes "rework") then Some (Rework id serial)
    else if bytes_eq word (codes "release") then Some (Release id serial)
    else if bytes_eq word (codes "scrap") then Some (Scrap id serial)
    else None

-- `calibrate ID DATE`, and the commands of a serial that is a name
abbrev pub read_with : List ℕ → List ℕ → List ℕ → Option Command
read_with word id last =
    if bytes_eq word (codes "calibrate") then option_map (λ day. Calibrate id day) (read_date last)
    else if is_name last then read_of_serial word id last
    else None

-- `test ID SERIAL OPERATOR FIXTURE`
abbrev pub read_staffed : List ℕ → List ℕ → List ℕ → List ℕ → List ℕ → Option Command
read_staffed word id serial operator fixture =
    if bytes_eq word (codes "test") && (is_name serial && (is_name operator && is_name fixture))
    then Some (Test id serial (Some (record { operator = operator; fixture = fixture })))
    else None

-- the command that the words are: what is done, the id, and what it is done to
abbrev pub command_of : List (List ℕ) → Option Command
command_of (word ∷ id ∷ []) = if is_name id then read_alone word id else None
command_of (word ∷ id ∷ last ∷ []) = if is_name id then read_with word id last else None
command_of (word ∷ id ∷ serial ∷ operator ∷ fixture ∷ []) = if is_name id then read_staffed word id serial operator fixture else None
command_of others = None

-- the command that a line is
unfoldable pub read_command : List ℕ → Option Command
read_command line = command_of (words_of line)
