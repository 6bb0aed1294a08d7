-- The outcome of a program and a unit: the first of Wiring, Parts, Insulation, Withstand and Pass that applies. It knows no calls.
--     unit_difference p rows        by what the unit's joins differ from the nets
--     insulation_found p rows       the clusters that arc or leak too much, if the program has a test of that
--     withstand_found p rows        the first bit and in it the first step that arcs or leaks too much, if the program has a test of that
--     outcome_of p rows             the outcome
--     charged_of p rows             the volts that outlast the discharge of a unit that is tested at high voltage
use Rattle.std.specs.Prelude.{ℕ, ◌+◌, ◌*◌, ◌/◌, ◌&&◌, ◌||◌, Bool, nat_lt, nat_le, List}
use Rattle.std.specs.Prelude.{[], map, flat_map, find, length, Option, Some, None, is_some, option_map, if◌then◌else◌}
use Rattle.partition.specs.Classes.{points_below}
use Rattle.partition.specs.NetTable.{judged_points}
use Rattle.difference.specs.Difference.{difference_of}
use Rattle.difference.specs.declared.wiring.Difference.{Difference}
use Rattle.rig.specs.Joins.{truth_of}
use Rattle.rig.specs.Values.{charge_of}
use Rattle.rig.specs.declared.unit.Row.{Row}
use Rattle.wirelist.specs.Clusters.{cluster_count}
use Rattle.wirelist.specs.declared.faults.LeakFault.{LeakFault}
use Rattle.wirelist.specs.declared.outcome.Outcome.{Outcome}
use Rattle.wirelist.specs.declared.outcome.Outcome.TheVariants as outcome
use Rattle.wirelist.specs.declared.program.Insulation.{Insulation}
use Rattle.wirelist.specs.declared.program.Program.{Program}
use Rattle.wirelist.specs.declared.program.Withstand.{Withstand}
use Rattle.parts_check.specs.PartRule.{part_faults}
use Rattle.applications.specs.Charge.{lasting}
use Rattle.applications.specs.Enduring.{breaks_down}
use Rattle.hv.specs.declared.withstanding.WithstandFault.{WithstandFault}
use Rattle.hv.specs.Insulating.{insulation_faults}
use Rattle.hv.specs.Routes.{tested_bits}
use Rattle.hv.specs.Stated.{stated_leak}
use Rattle.hv.specs.Withstanding.{side_leak}

-- ---- what is found of a unit

-- the difference of a unit's joins from the nets
abbrev pub unit_difference : Program → List Row → Difference
unit_difference p rows = difference_of p.nets (truth_of rows (judged_points p.nets) p.nets.points)

-- each cluster that arcs or leaks too much against all other judged points
abbrev pub insulation_found_by : Program → List Row → Option Insulation → List LeakFault
insulation_found_by p rows None = []
insulation_found_by p rows (Some test) = insulation_faults p rows test

abbrev pub insulation_found : Program → List Row → List LeakFault
insulation_found p rows = insulation_found_by p rows p.insulation

-- 50, 100, .. up to the volts of a test
abbrev pub test_steps : ℕ → List ℕ
test_steps volts = map (λ i. 50 * (i + 1)) (points_below (volts / 50))

-- each bit with each step, the bits first
abbrev pub bits_and_steps : Program → Withstand → List (ℕ × ℕ)
bits_and_steps p test = flat_map (λ j. map (λ v. (j, v)) (test_steps test.volts)) (points_below (tested_bits (cluster_count p)))

-- whether the two sides of a bit arc or leak too much at a step
abbrev pub breaks_at : Program → List Row → Withstand → ℕ × ℕ → Bool
breaks_at p rows test at = breaks_down test.nanoamps at.1 (side_leak p rows at.0 at.1)

-- the fault of a bit at a step
abbrev pub fault_at : Program → List Row → ℕ × ℕ → WithstandFault
fault_at p rows at = record { bit = at.0; volts = at.1; leak = stated_leak (side_leak p rows at.0 at.1) }

-- the first bit and in it the first step that breaks down
abbrev pub first_breakdown : Program → List Row → Withstand → Option WithstandFault
first_breakdown p rows test = option_map (fault_at p rows) (find (breaks_at p rows test) (bits_and_steps p test))

abbrev pub withstand_found_by : Program → List Row → Option Withstand → Option WithstandFault
withstand_found_by p rows None = None
withstand_found_by p rows (Some test) = first_breakdown p rows test

abbrev pub withstand_found : Program → List Row → Option WithstandFault
withstand_found p rows = withstand_found_by p rows p.withstand

-- ---- the outcome

-- some open, short or miswire
abbrev pub differs : Difference → Bool
differs d = nat_lt 0 (length d.opens + length d.shorts + length d.miswires)

-- some faulty component
abbrev pub has_part_fault : Program → List Row → Bool
has_part_fault p rows = nat_lt 0 (length (part_faults p rows))

abbrev pub withstand_or_pass : Option WithstandFault → Outcome
withstand_or_pass None = outcome.Pass
withstand_or_pass (Some fault) = outcome.Withstand fault.bit fault.volts fault.leak

-- of a unit without fault of wiring and components
abbrev pub voltage_outcome : Program → List Row → Outcome
voltage_outcome p rows =
    let leaks = insulation_found p rows in
    if nat_lt 0 (length leaks) then outcome.Insulation leaks else withstand_or_pass (withstand_found p rows)

-- of a unit without fault of wiring
abbrev pub proven_outcome : Program → List Row → Outcome
proven_outcome p rows = if has_part_fault p rows then outcome.Parts (part_faults p rows) else voltage_outcome p rows

-- the first case that applies
abbrev pub outcome_of : Program → List Row → Outcome
outcome_of p rows =
    let difference = unit_difference p rows in
    if differs difference then outcome.Wiring difference else proven_outcome p rows

-- ---- the charge

-- the program has a test at high voltage, and two clusters or more
abbrev pub has_voltage : Program → Bool
has_voltage p = (is_some p.insulation || is_some p.withstand) && nat_le 2 (cluster_count p)

-- the volts of the unit's charge where these are above 30 for more than 100 ticks, if the unit comes to a voltage: of a unit without
-- fault of wiring and components, of one without fault of wiring, and of each
abbrev pub voltage_charge : Program → List Row → Option ℕ
voltage_charge p rows = if has_voltage p then lasting (charge_of rows) else None

abbrev pub proven_charge : Program → List Row → Option ℕ
proven_charge p rows = if has_part_fault p rows then None else voltage_charge p rows

abbrev pub charged_of : Program → List Row → Option ℕ
charged_of p rows = if differs (unit_difference p rows) then None else proven_charge p rows
