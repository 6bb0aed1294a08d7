-- Counts of faults, and the statuses that come only where one rose.
use Rattle.std.specs.Prelude.{◌≡◌, ◌⊎◌, ℕ, ◌≤◌}
use Rattle.base.specs.Causes.{Rose}

-- how often a read of the input, a write of the output, the disk and the rig failed
pub record Counts : Type 0 where
  pub input : ℕ
  pub out : ℕ
  pub disk : ℕ
  pub rig : ℕ

abbrev pub counts : ℕ → ℕ → ℕ → ℕ → Counts
counts input out disk rig = record { input = input; out = out; disk = disk; rig = rig }

-- no count fell
pub record NoneFell (before now : Counts) : Type 0 where
  pub input : before.input ≤ now.input
  pub out : before.out ≤ now.out
  pub disk : before.disk ≤ now.disk
  pub rig : before.rig ≤ now.rig

-- No count fell, and each of these statuses comes only where its count rose.
pub record Causes (before now : Counts) (status : ℕ) : Type 0 where
  pub later : NoneFell before now
  pub read_fault : status ≡ 6 → Rose before.input now.input
  pub write_fault : status ≡ 7 → Rose before.out now.out
  pub disk_fault : status ≡ 8 → Rose before.disk now.disk
  pub not_at_zero : status ≡ 10 → Rose before.rig now.rig

-- no count rose
pub record NoneRose (before now : Counts) : Type 0 where
  pub input : Rose before.input now.input → ⊥
  pub out : Rose before.out now.out → ⊥
  pub disk : Rose before.disk now.disk → ⊥
  pub rig : Rose before.rig now.rig → ⊥

-- Where no count rose the call was done, but for want of memory and a line that is too long.
abbrev pub Completes : Counts → Counts → ℕ → Type 0
Completes before now status = NoneRose before now → (status ≡ 0) ⊎ (status ≡ 9) ⊎ (status ≡ 12)
