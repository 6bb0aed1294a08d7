-- The command of a body, by the reading of `serde_json`.
--     value_of body          the value that a body is: it is UTF-8, and the crate reads it
--     command_in s d      the command of a value
--     command_of s body   the command of a body
use Rattle.std.specs.Prelude.{ℕ, List, codes, Option, Some, None, option_map, option_and_then, if◌then◌else◌, ⊤}
use Rattle.std.specs.Str.{is_utf8}
use Rattle.serde_json.specs.Data.{Data}
use Rattle.serde_json.specs.Read.{read}
use Rattle.serde_json.specs.Find.{as_str, get}
use Rattle.partition.specs.Names.{is_name}
use Rattle.records.specs.declared.record.Staff.{Staff}
use Rattle.serials.specs.declared.command.Command.{Command}
use Rattle.serials.specs.declared.command.Command.TheVariants as command
use Rattle.http_exchange.specs.declared.page.Submission.{Submission}
use Rattle.http_exchange.specs.declared.page.Submission.TheVariants.{Tests, Rework, Release, Scrap}

-- the value of a body
abbrev pub value_of : List ℕ → Option Data
value_of body = if is_utf8 body then read body else None

-- a text that is a name
abbrev pub as_name : List ℕ → Option (List ℕ)
as_name text = if is_name text then Some text else None

-- a value that is a string, and a name
abbrev pub name_of : Data → Option (List ℕ)
name_of d = option_and_then as_name (as_str d)

-- the member of an object under this key, where it is a string and a name
abbrev pub name_in : List ℕ → Data → Option (List ℕ)
name_in key d = option_and_then name_of (get key d)

-- two names
abbrev pub staff_named : Option (List ℕ) → Option (List ℕ) → Option (Option Staff)
staff_named None fixture = None
staff_named (Some operator) None = None
staff_named (Some operator) (Some fixture) = Some (Some (record { operator = operator; fixture = fixture }))

-- both are there and are names, or neither is there
abbrev pub staff_of : Option Data → Option Data → Option (Option Staff)
staff_of None None = Some None
staff_of None (Some fixture) = None
staff_of (Some operator) None = None
staff_of (Some operator) (Some fixture) = staff_named (name_of operator) (name_of fixture)

-- the members `operator` and `fixture`
abbrev pub staff_in : Data → Option (Option Staff)
staff_in d = staff_of (get (codes "operator") d) (get (codes "fixture") d)

-- what is submitted of a unit; who made it and where is read of a test alone
abbrev pub submitted : Submission → Data → List ℕ → List ℕ → Option Command
submitted Tests d id serial = option_map (λ staff. command.Test id serial staff) (staff_in d)
submitted Rework d id serial = Some (command.Rework id serial)
submitted Release d id serial = Some (command.Release id serial)
submitted Scrap d id serial = Some (command.Scrap id serial)

-- with an id and a serial, if they are there
abbrev pub submitted_with : Submission → Data → Option (List ℕ) → Option (List ℕ) → Option Command
submitted_with s d None serial = None
submitted_with s d (Some id) None = None
submitted_with s d (Some id) (Some serial) = submitted s d id serial

-- the command of a value, by its members `id` and `serial`
abbrev pub command_in : Submission → Data → Option Command
command_in s d = submitted_with s d (name_in (codes "id") d) (name_in (codes "serial") d)

-- the command of a body
unfoldable pub command_of : Submission → List ℕ → Option Command
command_of s body = option_and_then (command_in s) (value_of body)

-- it can be submitted
abbrev pub IsSubmitted : Command → Type 0
IsSubmitted (command.Test id serial staff) = ⊤
IsSubmitted (command.Rework id serial) = ⊤
IsSubmitted (command.Release id serial) = ⊤
IsSubmitted (command.Scrap id serial) = ⊤
IsSubmitted (command.Adopt id) = ⊥
IsSubmitted (command.Enrol id serial) = ⊥
IsSubmitted (command.Calibrate id day) = ⊥
IsSubmitted (command.Mark id) = ⊥
