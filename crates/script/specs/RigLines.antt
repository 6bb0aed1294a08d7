-- The lines that say what became of the rig, and the order of high voltage at the exit.
--     fault_lines said, door_lines said    how many lines say that the rig failed, and that the door was open
--     LinesWithin said began rig           there are no more of them than the rig's counts rose by, and than it tells
--     InOrderAt p status rig               the order of high voltage at the exit
use Rattle.std.specs.Prelude.{◌≡◌, ◌⊎◌, ℕ, ◌+◌, ◌≤◌, Bool, true, false, List, ◌++◌, flat_map, count_by, Option, IfSome}
use Rattle.std.specs.Io.KnownBytes.{Appends}
use Rattle.partition.specs.NetTable.{programmed_of}
use Rattle.rig.specs.Happened.{IsTold, IsBelowLast}
use Rattle.rig.specs.RigState.{RigState}
use Rattle.wirelist.specs.Clusters.{cluster_classes}
use Rattle.wirelist.specs.declared.program.Program.{Program}
use Rattle.applications.specs.Ordered.{IsStuckInOrder}
use Rattle.unit_outcome.specs.Tested.{IsInOrderOf}
use Rattle.station.specs.declared.answer.Answer.{Answer}
use Rattle.station.specs.declared.answer.Answer.TheVariants as answer
use Rattle.station.specs.declared.answer.Refused.{Refused}
use Rattle.station.specs.declared.answer.Refused.TheVariants as refused
use Rattle.station.specs.Step.{answered, not_at_zero}
use Rattle.script.specs.Closing.{Closing, status_of, closing_line}
use Rattle.script.specs.Said.{Said, no_command, replied, said_line, written}
use Rattle.script.specs.Growth.{IsPrefix}

-- ---- lines

-- the refusal that the rig failed
abbrev pub is_fault : Refused → Bool
is_fault refused.RigFault = true
is_fault (refused.Rule r) = false
is_fault refused.Full = false
is_fault refused.Empty = false
is_fault refused.Door = false
is_fault (refused.Charged volts) = false

-- the refusal that the door was open
abbrev pub is_door : Refused → Bool
is_door refused.Door = true
is_door (refused.Rule r) = false
is_door refused.Full = false
is_door refused.Empty = false
is_door (refused.Charged volts) = false
is_door refused.RigFault = false

-- an answer that is such a refusal
abbrev pub refuses_by : (Refused → Bool) → Answer → Bool
refuses_by is_such (answer.Stored number v) = false
refuses_by is_such (answer.Same number v) = false
refuses_by is_such (answer.No why) = is_such why

-- E20, that the rig failed, and E21, that three zero calls failed
abbrev pub is_fault_line : Said → Bool
is_fault_line (no_command number) = false
is_fault_line (replied id (answered a)) = refuses_by is_fault a
is_fault_line (replied id not_at_zero) = true

-- E16, that the door was open
abbrev pub is_door_line : Said → Bool
is_door_line (no_command number) = false
is_door_line (replied id (answered a)) = refuses_by is_door a
is_door_line (replied id not_at_zero) = false

abbrev pub fault_lines : List Said → ℕ
fault_lines said = count_by is_fault_line said

abbrev pub door_lines : List Said → ℕ
door_lines said = count_by is_door_line said

-- The output got these lines, and behind them a front of one more line, or of the closing line of the status.
pub record WroteLines (got got' : Option (List ℕ)) (said : List Said) (status : ℕ) : Type 0 where
  pub rest : List ℕ
  pub wrote : Appends got got' (flat_map written said ++ rest)
  pub closing : Closing
  pub status_is : status ≡ status_of closing
  pub rest_is : ((next : Said) × IsPrefix rest (said_line next)) ⊎ IsPrefix rest (closing_line closing)

-- Each line that says that the rig failed, or that the door was open, comes of a command in which that count rose. So there are no more
-- of them than it rose by, and no more than the rig tells, where the counts do not stand at the last value of their counter.
pub record LinesWithin (said : List Said) (began rig : RigState) : Type 0 where
  pub faults : IsBelowLast rig.faults → began.faults + fault_lines said ≤ rig.faults
  pub opens : IsBelowLast rig.opens → began.opens + door_lines said ≤ rig.opens
  pub most_faults : IfSome rig.most_faults (λ most. IsBelowLast rig.faults → IsBelowLast rig.spent → IsBelowLast rig.seats → fault_lines said ≤ most)
  pub most_opens : IfSome rig.most_opens (λ most. IsBelowLast rig.opens → door_lines said ≤ most)

-- ---- the rig

-- The trail is in the order of high voltage and ended at zero; with status 10 it is in this order, and ended with three zero calls that failed.
pub record InOrderAt (p : Program) (status : ℕ) (rig : RigState) : Type 0 where
  pub at_zero : (status ≡ 10 → ⊥) → IsInOrderOf p rig
  pub stuck : status ≡ 10 → IsStuckInOrder (programmed_of p.nets) (cluster_classes p) rig

-- what the rig told of itself it still tells, and what it tells is so, where it was
pub record StillTells (began rig : RigState) : Type 0 where
  pub most_faults : rig.most_faults ≡ began.most_faults
  pub most_opens : rig.most_opens ≡ began.most_opens
  pub told : IsTold began → IsTold rig
