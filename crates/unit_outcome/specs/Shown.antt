-- What the trail of a seating shows for an outcome.
--     PartsShown p outcome trail      the readings of components
--     MeasuredShown p outcome trail   the applications of the test of insulation, and their leaks
--     StoodShown p outcome trail      those of the test of withstand, or the leak that ended it
use Rattle.std.specs.Prelude.{◌≡◌, List, [], IfSome, IsSomeAnd, ⊤}
use Rattle.rig.specs.declared.event.Event.{Event}
use Rattle.rig.specs.declared.event.Leak.{Leak}
use Rattle.wirelist.specs.declared.faults.LeakFault.{LeakFault}
use Rattle.wirelist.specs.declared.outcome.Outcome.{Outcome}
use Rattle.wirelist.specs.declared.outcome.Outcome.TheVariants.{Pass, Wiring, Parts, Insulation, Withstand}
use Rattle.wirelist.specs.declared.program.Insulation.{Insulation as InsulationTest}
use Rattle.wirelist.specs.declared.program.Program.{Program}
use Rattle.parts_check.specs.PartsRead.{PartsRead}
use Rattle.hv.specs.Insulating.{Measured, faults_from}
use Rattle.hv.specs.Withstanding.{EndsFailed, Stood}

-- each component was read; the last readings give the faults that are stated, and none where none is
abbrev pub PartsShown : Program → Outcome → List Event → Type 0
PartsShown p (Wiring d) trail = ⊤
PartsShown p (Parts faults) trail = PartsRead p trail faults
PartsShown p Pass trail = PartsRead p trail []
PartsShown p (Insulation faults) trail = PartsRead p trail []
PartsShown p (Withstand bit volts leak) trail = PartsRead p trail []

-- each cluster was measured, and the leaks that were read give these faults
pub record LeaksGive (p : Program) (trail : List Event) (faults : List LeakFault) (test : InsulationTest) : Type 0 where
  pub leaks : List Leak
  pub measured : Measured p test leaks trail
  pub faults_are : faults ≡ faults_from test.megohms 0 leaks

abbrev pub MeasuredShown : Program → Outcome → List Event → Type 0
MeasuredShown p (Wiring d) trail = ⊤
MeasuredShown p (Parts faults) trail = ⊤
MeasuredShown p (Insulation faults) trail = IsSomeAnd p.insulation (LeaksGive p trail faults)
MeasuredShown p Pass trail = IfSome p.insulation (LeaksGive p trail [])
MeasuredShown p (Withstand bit volts leak) trail = IfSome p.insulation (LeaksGive p trail [])

-- each bit stood; or the last leak of the trail, under the route of the stated bit at the stated volts, is the stated one
abbrev pub StoodShown : Program → Outcome → List Event → Type 0
StoodShown p (Wiring d) trail = ⊤
StoodShown p (Parts faults) trail = ⊤
StoodShown p (Insulation faults) trail = ⊤
StoodShown p Pass trail = IfSome p.withstand (λ test. Stood p test trail)
StoodShown p (Withstand bit volts leak) trail = IsSomeAnd p.withstand (λ test. EndsFailed p (record { bit = bit; volts = volts; leak = leak }) trail)

-- all of it
pub record Shows (p : Program) (outcome : Outcome) (trail : List Event) : Type 0 where
  pub parts : PartsShown p outcome trail
  pub measured : MeasuredShown p outcome trail
  pub stood : StoodShown p outcome trail
