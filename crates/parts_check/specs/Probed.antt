-- What was read of components.
--     Probed              the readings, in order of component
--     probes_of probed    their events
--     faults_of probed    the faults that they give
use Rattle.std.specs.Prelude.{ℕ, List, [], ◌∷◌, ◌++◌, Option, map, filter_map, length}
use Rattle.std.specs.List.{enumerate_from, flat_map}
use Rattle.wirelist.specs.declared.parts.Resistor.{Resistor}
use Rattle.wirelist.specs.declared.parts.Diode.{Diode}
use Rattle.wirelist.specs.declared.faults.PartFault.{PartFault}
use Rattle.rig.specs.declared.event.Event.{Event}
use Rattle.rig.specs.declared.event.Event.TheVariants.{Ohms, Junction}
use Rattle.parts_check.specs.PartRule.{numbered_fault, resistor_fault, diode_fault}

-- the milliohms that were read between a resistor's ends
pub record ResistorRead : Type 0 where
  pub part : Resistor
  pub ohms : Option ℕ

-- the millivolts that were read from a diode's first point to its second, and back
pub record DiodeRead : Type 0 where
  pub part : Diode
  pub forward : Option ℕ
  pub back : Option ℕ

pub record Probed : Type 0 where
  pub resistors : List ResistorRead
  pub diodes : List DiodeRead

abbrev pub ohms_event : ResistorRead → Event
ohms_event x = Ohms x.part.a x.part.b x.ohms

abbrev pub junction_events : DiodeRead → List Event
junction_events x = Junction x.part.from x.part.to x.forward ∷ Junction x.part.to x.part.from x.back ∷ []

abbrev pub resistor_probes : List ResistorRead → List Event
resistor_probes reads = map ohms_event reads

abbrev pub diode_probes : List DiodeRead → List Event
diode_probes reads = flat_map junction_events reads

-- the events of the readings, in order of component: resistors first
abbrev pub probes_of : Probed → List Event
probes_of probed = resistor_probes probed.resistors ++ diode_probes probed.diodes

-- the faults of components that are numbered from n on
abbrev pub resistor_faults : ℕ → List ResistorRead → List PartFault
resistor_faults n reads = filter_map (λ (x : ℕ × ResistorRead). numbered_fault x.0 (resistor_fault x.1.part x.1.ohms)) (enumerate_from n reads)

abbrev pub diode_faults : ℕ → List DiodeRead → List PartFault
diode_faults n reads = filter_map (λ (x : ℕ × DiodeRead). numbered_fault x.0 (diode_fault x.1.part x.1.forward x.1.back)) (enumerate_from n reads)

-- the faults that the readings give, in order of component
abbrev pub faults_of : Probed → List PartFault
faults_of probed = resistor_faults 0 probed.resistors ++ diode_faults (length probed.resistors) probed.diodes
