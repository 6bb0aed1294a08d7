-- What the definitions mean.
use Rattle.std.specs.Prelude.{◌≡◌, ◌⊎◌, ◌↔◌, ℕ, ◌≤◌, List, Some}
use Rattle.records.specs.RecordRanges.{last_day}
use Rattle.wirelist.specs.declared.program.Program.{Program}
use Rattle.records.specs.declared.record.StationRecord.{StationRecord}
use Rattle.serials.specs.declared.command.Command.{Command}
use Rattle.serials.specs.declared.decision.Rule.TheVariants.{IdTaken}
use Rattle.serials.specs.declared.decision.Decision.TheVariants.{Same, No}
use Rattle.serials.specs.Commands.{id_of}
use Rattle.serials.specs.Dates.{day_text, read_date}
use Rattle.serials.specs.Scan.{by_id}
use Rattle.serials.specs.Decide.{decide}

-- a command whose id some record has is the same, or is refused with that record's number
abbrev pub TakenIdLaw : Type 0
TakenIdLaw =
    (R : List StationRecord) (c : Command) (moment : ℕ) (p : Program) (number : ℕ) → by_id R (id_of c) ≡ Some number
    → (decide R c moment p ≡ Same number) ⊎ (decide R c moment p ≡ No (IdTaken number))

-- a text is read as a day exactly where it is the date of a day up to 9999-12-31
abbrev pub DateLaw : Type 0
DateLaw = (text : List ℕ) (day : ℕ) → (read_date text ≡ Some day) ↔ ((day ≤ last_day) × (text ≡ day_text day))
