-- What a check of continuity has read and written so far.
use Rattle.std.specs.Prelude.{◌≡◌, ◌↔◌, ◌+◌, ◌<◌, ◌++◌, [], ◌∷◌, ℕ, List, All, IsTrue, IfSome, map, flat_map, option_map}
use Rattle.rig.specs.declared.unit.Row.{Row}
use Rattle.rig.specs.Joins.{Joined}
use Rattle.rig.specs.RigState.{RigState}
use Rattle.continuity_check.specs.Compared.{Compared, Trial, reading_of, lines_of, open_count}

-- the lines of the open points, and how many these are
pub record SheetView : Type 0 where
  pub lines : List ℕ
  pub opens : ℕ

-- no line yet
abbrev pub empty_sheet : SheetView
empty_sheet = record { lines = []; opens = 0 }

-- a point conducts with its head exactly where the unit's joins link them
abbrev pub IsRight : List Row → Trial → Type 0
IsRight rows t = IsTrue t.met ↔ Joined rows t.compared.head t.compared.point

-- the two points are points of the rig
abbrev pub IsBelow : ℕ → Trial → Type 0
IsBelow n t = (t.compared.head < n) × (t.compared.point < n)

-- These points were compared, in order: for each the trail has one reading more and the sheet its line.
-- An honest rig that tells its unit answers each rightly.
pub record Compares (old new : RigState) (before after : SheetView) (compared : List Compared) : Type 0 where
  pub trials : List Trial
  pub of_these : map (λ (t : Trial). t.compared) trials ≡ compared
  pub trail : new.trail ≡ option_map (λ events. events ++ map reading_of trials) old.trail
  pub below : All (IsBelow old.points) trials
  pub right : IsTrue old.honest → IfSome old.truth (λ rows. All (IsRight rows) trials)
  pub lines : after.lines ≡ before.lines ++ flat_map lines_of trials
  pub opens : after.opens ≡ before.opens + open_count trials

-- A reading failed, and no call was made after it. The points before it were compared, in order, and the failed reading, which is that
-- of the next point, is in no trail.
pub record StopsAt (old new : RigState) (before : SheetView) (compared : List Compared) : Type 0 where
  pub done : List Compared
  pub next : Compared
  pub rest : List Compared
  pub sheet : SheetView
  pub split : compared ≡ done ++ (next ∷ rest)
  pub compares : Compares old new before sheet done
