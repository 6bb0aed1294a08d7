use Rattle.std.proofs.Common.{◌≡◌, ℕ, List, sym, subst, false}
use Rattle.wirelist.specs.declared.outcome.Outcome.{Outcome}
use Rattle.records.specs.declared.record.StationRecord.{StationRecord}
use Rattle.records.specs.declared.record.Body.TheVariants.{Tested}
use Rattle.unit_outcome.specs.Tested.{IsTested, IsStopped}
use Rattle.ledger.specs.Kept.{is_full}
use Rattle.ledger.specs.Ledger.{Tells}
use Rattle.station.specs.Applied.{Applied, station_of}
use Rattle.station.specs.Step.{Tests}
use Rattle.station.specs.View.{StationState}
use Rattle.station.proofs.Applying.{tests_applied}
use Rattle.serials.specs.declared.decision.Decision.TheVariants.{Test}
use Rattle.station.proofs.station.Station.test.Goals as goal

pub returns-in-Ok-clause-applied : goal.returns-in-Ok-clause-applied
returns-in-Ok-clause-applied g c = rw (← c.named-id.ensures.same, ← c.named-serial.ensures.same, ← c.named_staff-staff.ensures.same)
    (let run = rw c.in-Ok.field-0-is at c.in-Ok.ensures in
    let s = station_of (g.R.Rig.state c.self.inside.rig) c.self.inside.ledger c.self.inside.program in
    let tested : IsTested c.self.inside.program c.named-serial.result c.args.attempt (g.R.Rig.state c.self.inside.rig) (g.R.Rig.state c.in-Ok.field-0.rig) c.in-Ok.field-0.outcome =
    subst (λ (serial : List ℕ). IsTested c.self.inside.program serial c.args.attempt (g.R.Rig.state c.self.inside.rig) (g.R.Rig.state c.in-Ok.field-0.rig) c.in-Ok.field-0.outcome) c.text.ensures.bytes run in
    subst (λ (t : StationState). Applied g.R.Rig.state g.D.Disk.state (λ P. P c.named-serial.result c.args.attempt)
    (λ findings. Tests t.records (λ outcome. record { id = c.named-id.result; moment = c.args.moment; body = Tested c.named-serial.result c.args.attempt c.named_staff-staff.result outcome }) (findings c.named-serial.result c.args.attempt)) t c.store.result) c.self.view_is
    (tests_applied g.R.Rig.state g.D.Disk.state s c.named-id.result c.named-serial.result c.named_staff-staff.result c.args.attempt c.args.moment c.in-Ok.field-0.outcome (g.R.Rig.state c.in-Ok.field-0.rig)
    (subst (λ (t : StationState). t.full ≡ false) (sym c.self.view_is) c.requires.room) (subst (λ (t : StationState). Tells t.disk → is_full t.records ≡ false) (sym c.self.view_is) c.requires.told_room)
    tested c.store.result c.store.ensures.storing))

pub returns-in-Err-clause-applied : goal.returns-in-Err-clause-applied
returns-in-Err-clause-applied g c = rw (← c.named-id.ensures.same, ← c.named-serial.ensures.same, ← c.named_staff-staff.ensures.same)
    (let made : Outcome → StationRecord = λ outcome. record { id = c.named-id.result; moment = c.args.moment; body = Tested c.named-serial.result c.args.attempt c.named_staff-staff.result outcome } in
    subst (λ (t : StationState). Applied g.R.Rig.state g.D.Disk.state (λ P. P c.named-serial.result c.args.attempt) (λ findings. Tests t.records made (findings c.named-serial.result c.args.attempt)) t c.stopped.result) c.self.view_is
    (c.stopped.ensures.applied (g.R.Rig.state c.self.inside.rig) c.named-serial.result c.args.attempt made c.self.invariant.fits
    (subst (λ (serial : List ℕ). IsStopped g.R.Rig.state c.self.inside.program serial c.args.attempt (g.R.Rig.state c.self.inside.rig) c.in-Err.stop) c.text.ensures.bytes c.in-Err.ensures)))

pub returns-in-Err-clause-decided : goal.returns-in-Err-clause-decided
returns-in-Err-clause-decided g c = c.stopped.ensures.decided (Test c.args.attempt) tt
