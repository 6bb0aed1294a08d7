-- What a list of lines makes of the records, one after another.
use Rattle.std.specs.Prelude.{◌≡◌, ℕ, List, [], ◌∷◌, Some, None}
use Rattle.wirelist.specs.declared.program.Program.{Program}
use Rattle.records.specs.declared.record.StationRecord.{StationRecord}
use Rattle.serials.specs.declared.command.Command.{Command}
use Rattle.serials.specs.Commands.{id_of}
use Rattle.unit_outcome.specs.Found.{Findings}
use Rattle.station.specs.Step.{Reply, Step}
use Rattle.bench_edge.specs.Clocks.{first_moment, later_moments}
use Rattle.script.specs.Said.{Asked, Said, no_command, replied}

-- a command is answered by a step
pub record Replies (findings : Findings) (p : Program) (R : List StationRecord) (c : Command) (now : ℕ) (said : Said)
    (after : List StationRecord) : Type 0 where
  pub reply : Reply
  pub said_is : said ≡ replied (id_of c) reply
  pub step : Step findings p R c now reply after

-- what may be said to one line, and the records behind it: what is no command leaves the records
abbrev pub Answers : Findings → Program → List StationRecord → Asked → ℕ → Said → List StationRecord → Type 0
Answers findings p R (number, None) now said after = (said ≡ no_command number) × (after ≡ R)
Answers findings p R (number, Some c) now said after = Replies findings p R c now said after

-- these are what may be said to the lines, one after another, and the records behind them
abbrev pub After : Findings → Program → List StationRecord → List Asked → List ℕ → List Said → List StationRecord → Type 0
After findings p R [] moments [] after = after ≡ R
After findings p R (asked ∷ lines) moments (said ∷ more) after =
    (mid : List StationRecord) × Answers findings p R asked (first_moment moments) said mid × After findings p mid lines (later_moments moments) more after
After findings p R [] moments (said ∷ more) after = ⊥
After findings p R (asked ∷ lines) moments [] after = ⊥
