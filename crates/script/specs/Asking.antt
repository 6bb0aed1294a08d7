-- How a line's text is answered.
use Rattle.std.specs.Prelude.{◌≡◌, ◌⊎◌, ℕ, List, [], ◌∷◌, Option}
use Rattle.disk_edge.specs.Disk.{DiskState}
use Rattle.rig.specs.RigState.{RigState}
use Rattle.station.specs.View.{StationState}
use Rattle.script.specs.Said.{Asked}
use Rattle.script.specs.Turns.{IsAnswered}
use Rattle.script.specs.Ends.{EndsIn}

-- a text that asks nothing leaves all as it was
pub record PassedOver (old new : StationState) (got got' moments moments' : Option (List ℕ)) : Type 0 where
  pub station : new ≡ old
  pub got_is : got' ≡ got
  pub moments_are : moments' ≡ moments

-- nothing is asked, or one thing is, and answered
abbrev pub Passes : List Asked → StationState → StationState → Option (List ℕ) → Option (List ℕ) → Option (List ℕ) → Option (List ℕ) → Type 0
Passes asked old new got got' moments moments' =
    ((asked ≡ []) × PassedOver old new got got' moments moments')
    ⊎ ((a : Asked) × (asked ≡ a ∷ []) × IsAnswered old a new got got' moments moments')

-- one thing is asked, and the call ends in it
abbrev pub EndsAsking : List Asked → StationState → ℕ → RigState → DiskState → Option (List ℕ) → Option (List ℕ) → Option (List ℕ) → Option (List ℕ) → Type 0
EndsAsking asked old status rig disk got got' moments moments' = (a : Asked) × (asked ≡ a ∷ []) × EndsIn old a status rig disk got got' moments moments'
