-- The words that are a command.
--     Asks words command         they are this command
--     IsCommand words            they are a command
--
-- Words fall into options with their values and other words (specs/Items.antt): no word is `--`; an option is `--NAME VALUE` or
-- `--NAME=VALUE`, in any place, and a value of its own does not begin with a dash. They are a command where one word is no option and
-- is the command's, and the options are exactly the command's, each once, with values in their ranges. A new command has a line each in
-- word_of, options_of and IsInRange.
use Rattle.std.specs.Prelude.{◌≡◌, ◌⊎◌, ◌≤◌, ℕ, List, [], ◌∷◌, reverse, Some, None, codes, decimal, ⊤}
use Rattle.partition.specs.Names.{IsName}
use Rattle.words.specs.Items.{Text, Item, read, plains, options}
use Rattle.words.specs.declared.command.Command.{Command}
use Rattle.words.specs.declared.command.Command.TheVariants.{Continuity, Learn, Run, Import, Serve, Report, Unit, Export, Soak}
use Rattle.words.specs.declared.command.Service.{Service}
use Rattle.words.specs.declared.command.UnitName.{UnitName}

abbrev pub word_of : Command → Text
word_of (Continuity unit) = codes "continuity"
word_of (Learn unit) = codes "learn"
word_of Run = codes "run"
word_of Import = codes "import"
word_of (Serve service) = codes "serve"
word_of Report = codes "report"
word_of (Unit serial) = codes "unit"
word_of Export = codes "export"
word_of (Soak size) = codes "soak"

abbrev pub unit_options : UnitName → List (Text × Text)
unit_options unit = (codes "serial", unit.serial) ∷ (codes "attempt", decimal unit.attempt) ∷ []

abbrev pub service_options : Service → List (Text × Text)
service_options service = (codes "port", decimal service.port) ∷ (codes "count", decimal service.count) ∷ []

-- the options of a command, with their values
abbrev pub options_of : Command → List (Text × Text)
options_of (Continuity unit) = unit_options unit
options_of (Learn unit) = unit_options unit
options_of Run = []
options_of Import = []
options_of (Serve service) = service_options service
options_of Report = []
options_of (Unit serial) = (codes "serial", serial) ∷ []
options_of Export = []
options_of (Soak size) = (codes "size", decimal size) ∷ []

pub record IsUnitName (unit : UnitName) : Type 0 where
  pub named : IsName unit.serial
  pub not_below : 1 ≤ unit.attempt
  pub not_above : unit.attempt ≤ 9

pub record IsService (service : Service) : Type 0 where
  pub port_not_below : 1 ≤ service.port
  pub port_not_above : service.port ≤ 65535
  pub count_not_below : 1 ≤ service.count
  pub count_not_above : service.count ≤ 1000000

pub record IsSize (size : ℕ) : Type 0 where
  pub not_below : 4 ≤ size
  pub not_above : size ≤ 4096

abbrev pub IsInRange : Command → Type 0
IsInRange (Continuity unit) = IsUnitName unit
IsInRange (Learn unit) = IsUnitName unit
IsInRange Run = ⊤
IsInRange Import = ⊤
IsInRange (Serve service) = IsService service
IsInRange Report = ⊤
IsInRange (Unit serial) = IsName serial
IsInRange Export = ⊤
IsInRange (Soak size) = IsSize size

-- in either order; no command has more than two options
abbrev pub InAnyOrder : List (Text × Text) → List (Text × Text) → Type 0
InAnyOrder given wanted = (given ≡ wanted) ⊎ (given ≡ reverse wanted)

pub record Asks (words : List Text) (command : Command) : Type 0 where
  pub items : List Item
  pub falls : read None words ≡ Some items
  pub word : plains items ≡ word_of command ∷ []
  pub settings : InAnyOrder (options items) (options_of command)
  pub in_range : IsInRange command

-- they are a command
abbrev pub IsCommand : List Text → Type 0
IsCommand words = (command : Command) × Asks words command
