-- Where no count rose, the serving ended well, or memory ran out.
use Rattle.std.proofs.Common.{◌≡◌, ◌⊎◌, ⊎_elim, inl, inr, ℕ}
use Rattle.disk_edge.specs.Disk.{DiskState}
use Rattle.rig.specs.RigState.{RigState}
use Rattle.serving.specs.Completes.{NoneRose, Completes}
use Rattle.serving.specs.Keeping.{Counts, Causes}
use Rattle.serving.specs.Lines.{Closing, write_fault, disk_fault, memory, not_at_zero, network_fault, status_of}
use Rattle.serving.specs.Visits.{Stage, Left, Serves}

by_closing : (before now : Counts) (status : ℕ) (closing : Closing) → status ≡ status_of closing → Causes before now status → NoneRose before now → (status ≡ 0) ⊎ (status ≡ 9)
by_closing before now status write_fault is causes none = absurd (none.out (causes.write_fault is))
by_closing before now status disk_fault is causes none = absurd (none.disk (causes.disk_fault is))
by_closing before now status memory is causes none = inr is
by_closing before now status not_at_zero is causes none = absurd (none.rig (causes.not_at_zero is))
by_closing before now status network_fault is causes none = absurd (none.door (causes.network_fault is))

pub serving_completes : {R D : Type 0} (rig_state : R → RigState) (disk_state : D → DiskState) (count : ℕ) (first : Stage) (status : ℕ) (left : Left) → Serves rig_state disk_state count first status left
    → (before now : Counts) → Causes before now status → Completes before now status
serving_completes rig_state disk_state count first status left serves before now causes = λ none.
    ⊎_elim (λ all. inl all.1.status_is) (λ stopped. by_closing before now status stopped.1.closing stopped.1.status_is causes none) serves.ends
