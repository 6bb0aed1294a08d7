-- How records grow.
use Rattle.std.specs.Prelude.{◌≡◌, ℕ, List, ◌++◌, ⊤}
use Rattle.std.specs.List.{AllByRecursion}
use Rattle.records.specs.declared.record.Body.{Body}
use Rattle.records.specs.declared.record.Body.TheVariants.{Tested}
use Rattle.records.specs.declared.record.StationRecord.{StationRecord}
use Rattle.ledger.specs.Kept.{IsImageOf}
use Rattle.unit_outcome.specs.Found.{Findings, HasOutcome}

-- the second list begins with the first
pub record IsPrefix {A : Type 0} (front whole : List A) : Type 0 where
  pub behind : List A
  pub is : whole ≡ front ++ behind

-- a test states the outcome that the harness and the program give its serial and attempt, and its unit stays not charged
abbrev pub StatesOutcome : Findings → Body → Type 0
StatesOutcome findings (Tested serial attempt staff outcome) = HasOutcome (findings serial attempt) outcome
StatesOutcome findings others = ⊤

-- Records were added behind these, and each test among them states that outcome.
pub record IsGrown (findings : Findings) (before after : List StationRecord) : Type 0 where
  pub added : List StationRecord
  pub is : after ≡ before ++ added
  pub states : AllByRecursion (λ (r : StationRecord). StatesOutcome findings r.body) added

-- a sound image that keeps the first records, and a front of those that were added
pub record KeepsBetween (first last : List StationRecord) (image : List ℕ) : Type 0 where
  pub R : List StationRecord
  pub from : IsPrefix first R
  pub to : IsPrefix R last
  pub keeps : IsImageOf R image
