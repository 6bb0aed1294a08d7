-- Faults of components.
--     resistor_fault, diode_fault      the fault that the readings of a component give
--     part_faults_by p ohms junction   the faults that these readings give, in order of component
--     part_faults p rows               the faults of a unit
use Rattle.std.specs.Prelude.{ℕ, nat_lt, List, ◌++◌, Option, Some, None, option_map, filter_map, length, if◌then◌else◌}
use Rattle.std.specs.List.{enumerate_from}
use Rattle.wirelist.specs.declared.program.Program.{Program}
use Rattle.wirelist.specs.declared.parts.Resistor.{Resistor}
use Rattle.wirelist.specs.declared.parts.Diode.{Diode}
use Rattle.wirelist.specs.declared.faults.PartFault.{PartFault}
use Rattle.wirelist.specs.declared.faults.PartFaultKind.{PartFaultKind}
use Rattle.wirelist.specs.declared.faults.PartFaultKind.TheVariants.{Low, High, OpenPart, WrongWay, Leaky}
use Rattle.rig.specs.Values.{ohms_of, junction_of}
use Rattle.rig.specs.declared.unit.Row.{Row}

-- a reading that lies outside a window
abbrev pub window_fault : ℕ → ℕ → ℕ → Option PartFaultKind
window_fault low high r = if nat_lt r low then Some (Low r) else (if nat_lt high r then Some (High r) else None)

-- a resistor's fault at the reading of its two ends
abbrev pub resistor_fault : Resistor → Option ℕ → Option PartFaultKind
resistor_fault part None = Some OpenPart
resistor_fault part (Some r) = window_fault part.min part.max r

-- the fault of a diode whose forward reading is in its window
abbrev pub back_fault : Option ℕ → Option PartFaultKind
back_fault None = None
back_fault (Some d) = Some (Leaky d)

-- a diode's fault at its forward reading and the one back
abbrev pub diode_fault : Diode → Option ℕ → Option ℕ → Option PartFaultKind
diode_fault part None None = Some OpenPart
diode_fault part None (Some d) = Some (WrongWay d)
diode_fault part (Some d) back =
    if nat_lt d part.min then Some (Low d) else (if nat_lt part.max d then Some (High d) else back_fault back)

-- a component's fault with its number
abbrev pub numbered_fault : ℕ → Option PartFaultKind → Option PartFault
numbered_fault i fault = option_map (λ kind. record { part = i; kind = kind }) fault

-- the faults that readings give, in order of component: resistors first
abbrev pub part_faults_by : Program → (ℕ → ℕ → Option ℕ) → (ℕ → ℕ → Option ℕ) → List PartFault
part_faults_by p ohms junction =
    filter_map (λ (x : ℕ × Resistor). numbered_fault x.0 (resistor_fault x.1 (ohms x.1.a x.1.b))) (enumerate_from 0 p.resistors)
    ++ filter_map (λ (x : ℕ × Diode). numbered_fault x.0 (diode_fault x.1 (junction x.1.from x.1.to) (junction x.1.to x.1.from)))
    (enumerate_from (length p.resistors) p.diodes)

-- the faults of a unit: the rule is asked with the one element that lies between the classes of a component's ends, or with none
abbrev pub part_faults : Program → List Row → List PartFault
part_faults p rows = part_faults_by p (ohms_of rows p.nets.points) (junction_of rows p.nets.points)
