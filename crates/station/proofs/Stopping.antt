-- The test of a unit that has no outcome.
use Rattle.std.proofs.Common.{◌≡◌, inr, ⊎_elim, ℕ, List, Option, Some, None, refl, sym, ◌∙◌, Ok, Err}
use Rattle.disk_edge.specs.Disk.{DiskState, EachImage}
use Rattle.rig.specs.RigState.{RigState}
use Rattle.wirelist.specs.declared.program.Program.{Program}
use Rattle.wirelist.specs.declared.outcome.Outcome.{Outcome}
use Rattle.wirelist.specs.declared.outcome.Outcome.TheVariants.{Pass}
use Rattle.unit_outcome.specs.Found.{Found, Findings, StopsSo, told_by}
use Rattle.unit_outcome.specs.Tested.{IsStopped, IsCutOff}
use Rattle.unit_outcome.specs.declared.run.UnitStop.{UnitStop}
use Rattle.unit_outcome.specs.declared.run.UnitStop.TheVariants as stop
use Rattle.unit_outcome.proofs.Told.{told_stays}
use Rattle.records.specs.declared.record.StationRecord.{StationRecord}
use Rattle.ledger.specs.Kept.{IsImageOf}
use Rattle.ledger.specs.Ledger.{LedgerState}
use Rattle.station.specs.declared.answer.Answer.TheVariants as answer
use Rattle.station.specs.declared.answer.Refused.TheVariants as refused
use Rattle.station.specs.declared.station.StepDone.{StepDone}
use Rattle.station.specs.declared.stops.StepStop.TheVariants.{NotZero, Memory}
use Rattle.station.specs.Applied.{Applied, LeavesManned, station_of}
use Rattle.station.specs.View.{IsManned, IsStanding}
use Rattle.station.specs.Step.{Reply, answered, not_at_zero, tests, Tests}
use Rattle.station.proofs.Ending.{Chosen, chosen, says_empty, says_door, says_charged, says_rig_fault, says_not_at_zero, says_any}
use Rattle.station.proofs.Applying.{answers_with, runs_out, sticks}

cut_at_zero : (p : Program) (serial : List ℕ) (attempt : ℕ) (old new : RigState) → IsCutOff p serial attempt old new → new.volts ≡ 0
cut_at_zero p serial attempt old new cut = ⊎_elim (λ refused. refused.1) (λ stops. stops.at_zero) cut

pub manned_after : {R : Type 0} (rs : R → RigState) (p : Program) (serial : List ℕ) (attempt : ℕ) (old : RigState) (s : UnitStop R) → IsManned old p → IsStopped rs p serial attempt old s → LeavesManned rs p s
manned_after rs p serial attempt old (stop.Empty rig) manned stopped = record { unpowered = stopped.cause.1; program = manned.program; fits = manned.fits ∙ sym stopped.keeps.points }
manned_after rs p serial attempt old (stop.InterlockOpen rig) manned stopped = record { unpowered = stopped.cause.stops.at_zero; program = manned.program; fits = manned.fits ∙ sym stopped.keeps.points }
manned_after rs p serial attempt old (stop.NotDischarged rig volts) manned stopped = record { unpowered = stopped.cause.at_zero; program = manned.program; fits = manned.fits ∙ sym stopped.keeps.points }
manned_after rs p serial attempt old (stop.RigFault rig) manned stopped = record { unpowered = cut_at_zero p serial attempt old (rs rig) stopped.cause.0; program = manned.program; fits = manned.fits ∙ sym stopped.keeps.points }
manned_after rs p serial attempt old (stop.NotZero rig) manned stopped = tt
manned_after rs p serial attempt old (stop.Memory rig) manned stopped = record { unpowered = cut_at_zero p serial attempt old (rs rig) stopped.cause; program = manned.program; fits = manned.fits ∙ sym stopped.keeps.points }

module _ {R D : Type 0} (rs : R → RigState) (ds : D → DiskState) (ledger : LedgerState) (p : Program) (old : RigState) (serial : List ℕ) (attempt : ℕ) (made : Outcome → StationRecord) where
  abbrev pub Of : (List ℕ → ℕ → Type 0) → Type 0
  Of P = P serial attempt

  abbrev pub Allowed : Findings → Reply → List StationRecord → Type 0
  Allowed f = Tests ledger.records made (f serial attempt)

  -- findings by which it stops so, and what it then comes to
  picks : (s : UnitStop R) (reply : Reply) → IsStopped rs p serial attempt old s → (example : Option Found) → StopsSo example s → ((unit : Option Found) → StopsSo unit s → Tests ledger.records made unit reply ledger.records)
      → Chosen (told_by p old) (λ f. Allowed f reply ledger.records)
  picks s reply stopped example holds says =
      let ch = chosen (told_by p old) serial attempt (λ unit. StopsSo unit s) stopped.told example holds in
      record { findings = ch.findings; are_told = ch.are_told; holds = says (ch.findings serial attempt) ch.holds }

  abbrev pub plain : Option ℕ → Option Found
  plain charged = Some (record { outcome = Pass; charged = charged })

  module _ (done : StepDone R D) (rig : R) (station : done.station ≡ station_of (rs rig) ledger p) (standing : IsStanding done.station) where
    pub empties : done.answer ≡ answer.No refused.Empty → IsStopped rs p serial attempt old (stop.Empty rig) → Applied rs ds Of Allowed (station_of old ledger p) (Ok done)
    empties says stopped = answers_with rs ds Of Allowed (station_of old ledger p) done (answer.No refused.Empty) (rs rig) tt says station standing
        (λ tells. picks (stop.Empty rig) (answered (answer.No refused.Empty)) stopped None refl (λ unit is. says_empty ledger.records made unit is))
        stopped.cause.0 (told_stays p stopped.keeps) (inr stopped.keeps)

    pub opens : done.answer ≡ answer.No refused.Door → IsStopped rs p serial attempt old (stop.InterlockOpen rig) → Applied rs ds Of Allowed (station_of old ledger p) (Ok done)
    opens says stopped = answers_with rs ds Of Allowed (station_of old ledger p) done (answer.No refused.Door) (rs rig) tt says station standing
        (λ tells. picks (stop.InterlockOpen rig) (answered (answer.No refused.Door)) stopped (plain None) (record { outcome = Pass; charged = None }, refl) (λ unit there. says_door ledger.records made unit there))
        stopped.cause (told_stays p stopped.keeps) (inr stopped.keeps)

    pub charges : (volts : ℕ) → done.answer ≡ answer.No (refused.Charged volts) → IsStopped rs p serial attempt old (stop.NotDischarged rig volts) → Applied rs ds Of Allowed (station_of old ledger p) (Ok done)
    charges volts says stopped = answers_with rs ds Of Allowed (station_of old ledger p) done (answer.No (refused.Charged volts)) (rs rig) tt says station standing
        (λ tells. picks (stop.NotDischarged rig volts) (answered (answer.No (refused.Charged volts))) stopped (plain (Some volts)) (record { outcome = Pass; charged = Some volts }, refl, refl)
        (λ unit charged. says_charged ledger.records made unit volts charged))
        stopped.cause (told_stays p stopped.keeps) (inr stopped.keeps)

    pub faults : done.answer ≡ answer.No refused.RigFault → IsStopped rs p serial attempt old (stop.RigFault rig) → Applied rs ds Of Allowed (station_of old ledger p) (Ok done)
    faults says stopped = answers_with rs ds Of Allowed (station_of old ledger p) done (answer.No refused.RigFault) (rs rig) tt says station standing
        (λ tells. picks (stop.RigFault rig) (answered (answer.No refused.RigFault)) stopped None tt (λ unit any. says_rig_fault ledger.records made unit))
        stopped.cause (told_stays p stopped.keeps) (inr stopped.keeps)

  module _ (rig : R) (disk : D) (same : ds disk ≡ ledger.disk) where
    pub sticks_so : EachImage (ds disk) (IsImageOf ledger.records) → IsStopped rs p serial attempt old (stop.NotZero rig) → Applied rs ds Of Allowed (station_of old ledger p) (Err (NotZero rig disk))
    sticks_so images stopped = sticks rs ds Of Allowed (station_of old ledger p) rig disk same images
        (picks (stop.NotZero rig) not_at_zero stopped (plain None) (record { outcome = Pass; charged = None }, refl) (λ unit there. says_not_at_zero ledger.records made unit there))
        stopped.cause stopped.keeps

    pub runs_out_so : IsStopped rs p serial attempt old (stop.Memory rig) → Applied rs ds Of Allowed (station_of old ledger p) (Err (Memory rig disk))
    runs_out_so stopped = runs_out rs ds Of Allowed (station_of old ledger p) rig disk same (cut_at_zero p serial attempt old (rs rig) stopped.cause)
        (λ f. ((tests ledger.records made (f serial attempt)).0, (tests ledger.records made (f serial attempt)).1, says_any ledger.records made (f serial attempt)))
        (inr stopped.cause) (inr stopped.keeps)
