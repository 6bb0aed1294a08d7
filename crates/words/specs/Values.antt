-- The values of a command's options, as `clap` has them. A new command has a line here.
use Rattle.std.specs.Prelude.{◌≡◌, ℕ, Option, Some, codes, decimal, ⊤}
use Rattle.partition.specs.Names.{IsName}
use Rattle.words.specs.Items.{Text}
use Rattle.words.specs.Words.{IsUnitName, IsService, IsSize}
use Rattle.words.specs.declared.forms.Verb.{Verb}
use Rattle.words.specs.declared.forms.Verb.TheVariants as verb
use Rattle.words.specs.declared.command.Command.{Command}
use Rattle.words.specs.declared.command.Command.TheVariants.{Continuity, Learn, Run, Import, Serve, Report, Unit, Export, Soak}
use Rattle.words.specs.declared.command.Service.{Service}
use Rattle.words.specs.declared.command.UnitName.{UnitName}

-- the values name the unit
pub record NamesUnit (value : Text → Option Text) (unit : UnitName) : Type 0 where
  pub serial : value (codes "serial") ≡ Some unit.serial
  pub attempt : value (codes "attempt") ≡ Some (decimal unit.attempt)
  pub in_range : IsUnitName unit

-- the values name the service
pub record NamesService (value : Text → Option Text) (service : Service) : Type 0 where
  pub port : value (codes "port") ≡ Some (decimal service.port)
  pub count : value (codes "count") ≡ Some (decimal service.count)
  pub in_range : IsService service

-- the value is the serial
pub record NamesSerial (value : Text → Option Text) (serial : Text) : Type 0 where
  pub serial_is : value (codes "serial") ≡ Some serial
  pub named : IsName serial

-- the value is the size
pub record NamesSize (value : Text → Option Text) (size : ℕ) : Type 0 where
  pub size_is : value (codes "size") ≡ Some (decimal size)
  pub in_range : IsSize size

-- the values are those of this command
abbrev pub HasValues : Verb → (Text → Option Text) → Command → Type 0
HasValues verb.Continuity value (Continuity unit) = NamesUnit value unit
HasValues verb.Learn value (Learn unit) = NamesUnit value unit
HasValues verb.Run value Run = ⊤
HasValues verb.Import value Import = ⊤
HasValues verb.Serve value (Serve service) = NamesService value service
HasValues verb.Report value Report = ⊤
HasValues verb.Unit value (Unit serial) = NamesSerial value serial
HasValues verb.Export value Export = ⊤
HasValues verb.Soak value (Soak size) = NamesSize value size
HasValues verb value other = ⊥
