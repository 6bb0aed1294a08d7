-- What is told as lines are answered.
use Rattle.std.specs.Prelude.{◌≡◌, ℕ, List, Option, Some}
use Rattle.unit_outcome.specs.Found.{Findings}
use Rattle.station.specs.View.{StationState, IsTold}

-- what the harness says of each unit, what the output got so far, and the moments to come
pub record Scene : Type 0 where
  pub findings : Findings
  pub got : List ℕ
  pub moments : List ℕ

-- these are told by the station, the output and the clock
pub record IsScene (s : StationState) (got moments : Option (List ℕ)) (scene : Scene) : Type 0 where
  pub station : IsTold s scene.findings
  pub got_is : got ≡ Some scene.got
  pub moments_are : moments ≡ Some scene.moments
