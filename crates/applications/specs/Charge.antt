-- A charge that outlasts a discharge.
--     lasting charge             its volts, where these are above 30 for more than 100 ticks
--     HasLasting state volts     what lasts on the unit of an honest rig
use Rattle.std.specs.Prelude.{◌≡◌, ℕ, ◌&&◌, nat_lt, Option, Some, None, IsTrue, IsSome, IfSome, if◌then◌else◌}
use Rattle.rig.specs.Discharge.{discharged_volts, most_waits}
use Rattle.rig.specs.RigState.{RigState}
use Rattle.rig.specs.Values.{charge_of}

-- the volts of a charge, where these are above 30 for more than 100 ticks
abbrev pub lasting : Option (ℕ × ℕ) → Option ℕ
lasting None = None
lasting (Some charge) = if nat_lt discharged_volts charge.0 && nat_lt most_waits charge.1 then Some charge.0 else None

-- where an honest rig tells its events and the seated unit, so many volts of the unit's charge last, or none do
abbrev pub HasLasting : RigState → Option ℕ → Type 0
HasLasting state volts = IsTrue state.honest → IsSome state.trail → IfSome state.truth (λ rows. lasting (charge_of rows) ≡ volts)
