-- The serving comes to its end, where nothing failed.
use Rattle.std.specs.Prelude.{◌≡◌, ◌⊎◌, ℕ}
use Rattle.base.specs.Causes.{Rose}
use Rattle.serving.specs.Keeping.{Counts}

-- no write of the lines, no disk, no rig and no door failed
pub record NoneRose (before now : Counts) : Type 0 where
  pub out : ¬ Rose before.out now.out
  pub disk : ¬ Rose before.disk now.disk
  pub rig : ¬ Rose before.rig now.rig
  pub door : ¬ Rose before.door now.door

-- then all were served, or memory ran out
abbrev pub Completes : Counts → Counts → ℕ → Type 0
Completes before now status = NoneRose before now → (status ≡ 0) ⊎ (status ≡ 9)
