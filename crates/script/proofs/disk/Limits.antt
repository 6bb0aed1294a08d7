-- The length of what a script leaves.
use Rattle.std.proofs.Common.{◌≡◌, ⊎_elim, ℕ, ◌≤◌, List, [], ◌∷◌, length, Option, sym, ap, subst}
use Rattle.disk_edge.specs.Disk.{DiskState, LeavesOnly}
use Rattle.disk_edge.proofs.Moments.{weaker, and_then, none_images, each_after}
use Rattle.journal.specs.Journal.{IsWithinLimit, KeepsLimit}
use Rattle.journal.specs.declared.TheConstants.{LONGEST_FILE}
use Rattle.rig.specs.RigState.{RigState}
use Rattle.station.specs.View.{StationState}
use Rattle.script.specs.Said.{Asked}
use Rattle.script.specs.Ends.{EndsIn}
use Rattle.script.proofs.answers.History.{Turn, IsHistory}

-- where no image was longer before, none is after
within_after : (a b : DiskState) → LeavesOnly a b (KeepsLimit a) → IsWithinLimit a → IsWithinLimit b
within_after a b leaves within honest file told image left =
    ⊎_elim (λ was. was) (λ keeps. keeps within) (each_after a b (KeepsLimit a) (λ i. length i ≤ LONGEST_FILE) leaves within honest file told image left)

pub limit_and : (a b c : DiskState) → LeavesOnly a b (KeepsLimit a) → LeavesOnly b c (KeepsLimit b) → LeavesOnly a c (KeepsLimit a)
limit_and a b c first second = and_then a b c (KeepsLimit a) first (weaker b c (KeepsLimit b) (KeepsLimit a) (λ honest tells image keeps within. keeps (within_after a b first within)) second)

pub limit_same : (a b : DiskState) → b ≡ a → LeavesOnly a b (KeepsLimit a)
limit_same a b is = subst (λ (d : DiskState). LeavesOnly a d (KeepsLimit a)) (sym is) (none_images a (KeepsLimit a))

pub limit_all : (turns : List Turn) (s t : StationState) → IsHistory s turns t → LeavesOnly s.disk t.disk (KeepsLimit s.disk)
limit_all [] s t is = limit_same s.disk t.disk (ap (λ (x : StationState). x.disk) is)
limit_all (turn ∷ turns) s t (one, history) = limit_and s.disk turn.after.disk t.disk one.disk.limit (limit_all turns turn.after t history)

pub limit_ends : (s : StationState) (a : Asked) (status : ℕ) (rig : RigState) (disk : DiskState) (got got' moments moments' : Option (List ℕ)) → EndsIn s a status rig disk got got' moments moments' → LeavesOnly s.disk disk (KeepsLimit s.disk)
limit_ends s a status rig disk got got' moments moments' ends = ⊎_elim
    (λ unsaid. subst (λ (d : DiskState). LeavesOnly s.disk d (KeepsLimit s.disk)) (sym unsaid.disk_is) unsaid.turn.disk.limit)
    (⊎_elim (λ lost. lost.disk_goes_on.limit) (λ stuck. stuck.disk_goes_on.limit))
    ends.how
