-- What the step means.
use Rattle.std.specs.Prelude.{◌≡◌, ◌⊎◌, ℕ, List, Some}
use Rattle.wirelist.specs.declared.program.Program.{Program}
use Rattle.unit_outcome.specs.Found.{Findings}
use Rattle.records.specs.declared.record.StationRecord.{StationRecord}
use Rattle.serials.specs.declared.command.Command.{Command}
use Rattle.serials.specs.declared.decision.Rule.TheVariants.{IdTaken}
use Rattle.serials.specs.Commands.{id_of}
use Rattle.serials.specs.Scan.{by_id}
use Rattle.station.specs.declared.answer.Answer.TheVariants.{Same, No}
use Rattle.station.specs.declared.answer.Refused.TheVariants.{Rule}
use Rattle.station.specs.Step.{Reply, answered, verdict_at, Step}

-- the first record with the command's id is told, and the records stay
abbrev pub RepeatLaw : Type 0
RepeatLaw =
    (findings : Findings) (p : Program) (R : List StationRecord) (c : Command) (now number : ℕ) (reply : Reply) (after : List StationRecord)
    → by_id R (id_of c) ≡ Some number → Step findings p R c now reply after
    → ((reply ≡ answered (Same number (verdict_at R number))) ⊎ (reply ≡ answered (No (Rule (IdTaken number))))) × (after ≡ R)
