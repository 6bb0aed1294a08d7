-- What a run on one unit promises, whatever is done with the unit.
use Rattle.std.proofs.Common.{◌≡◌, ◌⊎◌, inl, inr, ◌∷◌, [], ℕ, List, Option, None, Some, Ok, refl, sym, ◌∙◌, ap, subst, arith}
use Rattle.std.specs.Prelude.{Contains}
use Rattle.rig.specs.declared.unit.Row.{Row}
use Rattle.rig.specs.declared.rig.SeatAnswer.TheVariants.{Present}
use Rattle.rig.specs.RigState.{RigState}
use Rattle.rig.specs.Seating.{Seats}
use Rattle.rig.specs.Joins.{unit_rows}
use Rattle.harness.specs.declared.row.HarnessRow.{HarnessRow}
use Rattle.harness.specs.declared.row.HarnessRow.TheVariants.{Fault}
use Rattle.harness.specs.Units.{units_of, AreFaults}
use Rattle.rig_sim.specs.SimRig.{SimState}
use Rattle.words.specs.declared.command.UnitName.{UnitName}
use Rattle.bench_cli.specs.Run.{Run, TakesHarness}
use Rattle.bench_cli.specs.Told.{FindsUnit, Undisturbed, Is}
use Rattle.bench_cli.specs.UnitWork.{WorksOn, LacksUnit, CountsFault}
use Rattle.bench_cli.proofs.ways.FileWays.{harness_told, same_rows}
use Rattle.bench_cli.proofs.ways.RunWays.{IsOwn}
use Rattle.bench_cli.proofs.ways.SeatedLemmas.{is_seated, seat_holds, readings_hold, seat_counts, readings_count, none_there}
use Rattle.bench_cli.proofs.ways.UnitWays.{UnitWay, unit_way, at_absent, at_fault}
use Rattle.bench_cli.proofs.ways.UnitWays.UnitWay.{done, cut, absent, no_seat, no_reading, memory as unit_memory}

pub own_0 : {status : ℕ} → status ≡ 0 → IsOwn status
own_0 at = (λ e. omega arith, λ e. omega arith, λ e. omega arith, λ e. omega arith, λ e. omega arith, λ e. omega arith)

pub own_7 : {status : ℕ} → status ≡ 7 → IsOwn status
own_7 at = (λ e. omega arith, λ e. omega arith, λ e. omega arith, λ e. omega arith, λ e. omega arith, λ e. omega arith)

pub own_14 : {status : ℕ} → status ≡ 14 → IsOwn status
own_14 at = (λ e. omega arith, λ e. omega arith, λ e. omega arith, λ e. omega arith, λ e. omega arith, λ e. omega arith)

pub own_15 : {status : ℕ} → status ≡ 15 → IsOwn status
own_15 at = (λ e. omega arith, λ e. omega arith, λ e. omega arith, λ e. omega arith, λ e. omega arith, λ e. omega arith)

-- no call fails where no row says so
no_failing : (rows : List HarnessRow) (failing : List ℕ) → AreFaults rows failing → ((k : ℕ) → Contains rows (Fault k) → ⊥) → failing ≡ []
no_failing rows [] are none = refl
no_failing rows (k ∷ failing) are none = absurd (none k ((are.listed k).0 (0, omega arith, refl)))

module _ {Finds : RigState → RigState → List ℕ → Type 0} {Stops : RigState → RigState → Type 0} {unit : UnitName} {sim : SimState} (run : Run) (status : ℕ) (rig : Option SimState)
    (takes : TakesHarness run.files.harness sim) (work : WorksOn Finds Stops unit sim run.sunk status rig) where
  pub the_way : UnitWay Finds Stops sim.state work.final.state unit.serial unit.attempt run.sunk status
  the_way = unit_way Finds Stops sim.state work.final.state unit.serial unit.attempt run.sunk status work.ends

  pub lacks_unit : status ≡ 14 → LacksUnit unit run
  lacks_unit at =
      let absent = at_absent the_way at in
      record { rows = takes.rows; harness = harness_told takes; none = none_there takes.rows sim takes.is_new work.final.state unit.serial unit.attempt absent.0; line = absent.1 }

  pub counts_fault : status ≡ 15 → CountsFault run rig
  counts_fault at =
      let fault = at_fault the_way at in
      record {
        sim = work.final;
        handed = work.handed;
        counted = elim fault.0 [
          | inl seats ↦ seat_counts takes.rows sim takes.is_new work.final.state unit.serial unit.attempt seats
          | inr reading ↦ readings_count takes.rows sim takes.is_new reading.0 work.final.state reading.2
        ];
        line = fault.1;
      }

  -- ---- where the harness is told and in form

  module _ (rows : List HarnessRow) (found : Option (List Row)) (form : FindsUnit unit run.files rows found) where
    rows_are : takes.rows ≡ rows
    rows_are = same_rows takes form.harness.file rows form.harness.told form.harness.is_harness

    unit_is : unit_rows (units_of takes.rows) unit.serial unit.attempt ≡ found
    unit_is = ap (λ (r : List HarnessRow). unit_rows (units_of r) unit.serial unit.attempt) rows_are ∙ form.unit_is

    failing_none : Undisturbed run rows rig → sim.calls.listed ≡ []
    failing_none calm =
        no_failing takes.rows sim.calls.listed takes.is_new.faults
        (λ k there. calm.no_fault_row k (subst (λ (r : List HarnessRow). Contains r (Fault k)) rows_are there))

  module _ (rows : List HarnessRow) (form : FindsUnit unit run.files rows None) where
    not_seated : {middle : RigState} → Seats sim.state middle unit.serial unit.attempt (Ok Present) → ⊥
    not_seated {middle} seats =
        let there = is_seated takes.rows sim takes.is_new middle unit.serial unit.attempt seats in
        let both : Some there.elements ≡ None = sym there.unit ∙ unit_is rows None form in
        cc

    empty_by : UnitWay Finds Stops sim.state work.final.state unit.serial unit.attempt run.sunk status → Is 14 status ⊎ (status ≡ 15)
    empty_by (done is middle text seats finds wrote) = absurd (not_seated seats)
    empty_by (cut is middle text seats finds rose wrote) = absurd (not_seated seats)
    empty_by (absent is seats line) = inl (inl is)
    empty_by (no_seat is seats line) = inr is
    empty_by (no_reading is middle seats reads stops line) = inr is
    empty_by (unit_memory is quiet) = inl (inr is)

    pub empty_ends : Is 14 status ⊎ (status ≡ 15)
    empty_ends = empty_by the_way

  module _ (rows : List HarnessRow) (elements : List Row) (form : FindsUnit unit run.files rows (Some elements)) (calm : Undisturbed run rows rig) where
    complete_by : UnitWay Finds Stops sim.state work.final.state unit.serial unit.attempt run.sunk status → Is 0 status
    complete_by (done is middle text seats finds wrote) = inl is
    complete_by (cut is middle text seats finds rose wrote) = absurd (calm.written rose)
    complete_by (absent is seats line) =
        let both : None ≡ Some elements = sym (none_there takes.rows sim takes.is_new work.final.state unit.serial unit.attempt seats) ∙ unit_is rows (Some elements) form in
        cc
    complete_by (no_seat is seats line) =
        let room = calm.counts work.final work.handed in
        absurd (seat_holds takes.rows sim takes.is_new work.final.state unit.serial unit.attempt (failing_none rows (Some elements) form calm) seats room.0 room.1)
    complete_by (no_reading is middle seats reads stops line) =
        let room = calm.counts work.final work.handed in
        absurd (readings_hold takes.rows sim takes.is_new middle work.final.state unit.serial unit.attempt (failing_none rows (Some elements) form calm) seats reads room.0 room.1)
    complete_by (unit_memory is quiet) = inr is

    pub complete_ends : Is 0 status
    complete_ends = complete_by the_way
