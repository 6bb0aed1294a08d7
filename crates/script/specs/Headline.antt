-- What one call of a script promises.
use Rattle.std.specs.Prelude.{◌≡◌, ◌⊎◌, ℕ, Bool, true, false, ◌||◌, ◌==◌, List, [], ◌∷◌, ◌++◌, map, flat_map, Option, Some, None, option_to_list, IsTrue}
use Rattle.std.specs.List.{AllByRecursion}
use Rattle.disk_edge.specs.Disk.{DiskState, LeavesOnly, EachImage}
use Rattle.lines.specs.Laws.{with_lfs}
use Rattle.wirelist.specs.declared.program.Program.{Program}
use Rattle.unit_outcome.specs.Found.{Findings}
use Rattle.records.specs.declared.record.StationRecord.{StationRecord}
use Rattle.serials.specs.declared.command.Command.{Command}
use Rattle.serials.specs.Commands.{id_of}
use Rattle.serials.specs.Scan.{by_id}
use Rattle.station.specs.Step.{Reply, Step}
use Rattle.ledger.specs.Kept.{IsImageOf, IsImageOfEither}
use Rattle.station.specs.View.{StationState}
use Rattle.script_lines.specs.Script.{NoLf, commands_from, too_long_at}
use Rattle.script.specs.Closing.{Closing, status_of, closing_line, line_too_long}
use Rattle.script.specs.Said.{Asked, Said, said_line, written, is_stuck, asks, asked_by_script}
use Rattle.script.specs.After.{After}
use Rattle.script.specs.Scene.{Scene}
use Rattle.script.specs.Growth.{IsPrefix, IsGrown, KeepsBetween}

-- How far a call came.
pub record Progress : Type 0 where
  -- the lines whose answers were written whole, what was said to them, and the records behind them
  pub answered : List Asked
  pub said : List Said
  pub records : List StationRecord
  -- the line that was under way, if there was one, what is said to it, and the records behind it
  pub under_way : Option Asked
  pub next : Option Said
  pub later : List StationRecord
  -- what stands behind the answers, and what ended the call
  pub rest : List ℕ
  pub closing : Closing

-- behind the whole lines stands a front of the next answer, or of the closing line
abbrev pub IsRest : Progress → Type 0
IsRest g = ((said : Said) × (g.next ≡ Some said) × IsPrefix g.rest (said_line said)) ⊎ IsPrefix g.rest (closing_line g.closing)

-- The answers are those of the steps, line by line, and nothing else is written but the closing line.
pub record AnswersInOrder (scene : Scene) (began : StationState) (asked : List Asked) (g : Progress) (status : ℕ) (got : Option (List ℕ)) : Type 0 where
  pub lines : IsPrefix (g.answered ++ option_to_list g.under_way) asked
  pub said : After scene.findings began.program began.records g.answered scene.moments g.said g.records
  pub next : After scene.findings began.program began.records (g.answered ++ option_to_list g.under_way) scene.moments (g.said ++ option_to_list g.next) g.later
  pub written : got ≡ Some ((scene.got ++ flat_map written g.said) ++ g.rest)
  pub rest : IsRest g
  pub status_is : status ≡ status_of g.closing

-- Stopped at any moment, within any write too, the call leaves what might have been left before it, or a sound image that keeps the
-- records found and a front of those that were added.
abbrev pub StoppedAnywhere : DiskState → DiskState → List StationRecord → Progress → Type 0
StoppedAnywhere began ended first g = LeavesOnly began ended (KeepsBetween first g.later)

-- with these statuses no command was under way
abbrev pub is_at_rest : ℕ → Bool
is_at_rest status = status == 0 || status == 6 || status == 10 || status == 12

-- At the exit each image keeps the records of the lines that were answered, or those and the next; and those alone where no command was under way.
pub record Acknowledged (g : Progress) (status : ℕ) (ended : DiskState) : Type 0 where
  pub kept : EachImage ended (IsImageOfEither g.records g.later)
  pub at_rest : IsTrue (is_at_rest status) → EachImage ended (IsImageOf g.records)

-- The clauses of a call that answers these lines, from a station whose disk keeps its records.
pub record KeepsItsWord (scene : Scene) (began : StationState) (asked : List Asked) (g : Progress) (status : ℕ) (ended : DiskState)
    (got : Option (List ℕ)) : Type 0 where
  pub answers : AnswersInOrder scene began asked g status got
  pub stopped : StoppedAnywhere began.disk ended began.records g
  pub acknowledged : Acknowledged g status ended
  pub recorded : IsGrown scene.findings began.records g.later

-- none of these says that three zero calls failed
abbrev pub NoneStuck : List Said → Type 0
NoneStuck said = AllByRecursion (λ s. is_stuck s ≡ false) said

-- all that is said, the last perhaps not written whole
abbrev pub all_said : Progress → List Said
all_said g = g.said ++ option_to_list g.next

-- all that is said but for the last, which says that three zero calls failed
pub record EndsStuck (said : List Said) : Type 0 where
  pub before : List Said
  pub last : Said
  pub are : said ≡ before ++ last ∷ []
  pub none_before : NoneStuck before
  pub stuck : is_stuck last ≡ true

-- With 10 the last command's three zero calls failed, and with every other status no command's did.
pub record EndsAtZero (g : Progress) (status : ℕ) : Type 0 where
  pub stuck : status ≡ 10 → EndsStuck (all_said g)
  pub at_zero : (status ≡ 10 → ⊥) → NoneStuck (all_said g)

-- what was read: whole lines, which were answered, and a rest without an LF
pub record ReadWhole (script : List ℕ) (left : Option (List ℕ)) (answered : List Asked) : Type 0 where
  pub lines : List (List ℕ)
  pub rest : List ℕ
  pub behind : List ℕ
  pub left_is : left ≡ Some behind
  pub script_is : script ≡ with_lfs lines ++ (rest ++ behind)
  pub no_lf : NoLf rest
  pub asked : answered ≡ map asks (commands_from 1 lines)

-- How each status ends a script.
pub record EndsScript (script : List ℕ) (left : Option (List ℕ)) (g : Progress) (status : ℕ) : Type 0 where
  -- 0: all command lines are answered, nothing follows, and the input was read to its end
  pub done : status ≡ 0 → (g.answered ≡ asked_by_script script) × (g.rest ≡ []) × (too_long_at script ≡ None) × (left ≡ Some [])
  -- 12: all command lines before the line that is too long
  pub too_long : status ≡ 12 → (line : ℕ) × (too_long_at script ≡ Some line) × (g.closing ≡ line_too_long line) × (g.answered ≡ asked_by_script script)
  -- 6: all command lines whose LF was read
  pub read_fault : status ≡ 6 → ReadWhole script left g.answered
  pub zero : EndsAtZero g status

-- by the steps of the program a command whose id some record has adds nothing
abbrev pub RepeatsAddNothing : Findings → Program → Type 0
RepeatsAddNothing findings p =
    (R : List StationRecord) (c : Command) (now number : ℕ) (reply : Reply) (after : List StationRecord)
    → by_id R (id_of c) ≡ Some number → Step findings p R c now reply after → after ≡ R

-- The headline of a script, from a station whose disk keeps its records.
pub record ScriptHeadline (scene : Scene) (began : StationState) (script : List ℕ) (left : Option (List ℕ)) (status : ℕ) (ended : DiskState)
    (got : Option (List ℕ)) : Type 0 where
  pub progress : Progress
  pub word : KeepsItsWord scene began (asked_by_script script) progress status ended got
  pub ends : EndsScript script left progress status
  pub repeated : RepeatsAddNothing scene.findings began.program
