-- What the readings of the resistors, and those of the diodes, leave.
use Rattle.std.specs.Prelude.{◌≡◌, ℕ, List, ◌++◌, map, All, None, IsTrue, IfSome}
use Rattle.wirelist.specs.Ranges.{IsReading}
use Rattle.wirelist.specs.declared.parts.Resistor.{Resistor}
use Rattle.wirelist.specs.declared.parts.Diode.{Diode}
use Rattle.wirelist.specs.declared.faults.PartFault.{PartFault}
use Rattle.rig.specs.declared.unit.Row.{Row}
use Rattle.rig.specs.Happened.{Happens}
use Rattle.rig.specs.RigState.{RigState}
use Rattle.rig.specs.Values.{ohms_of, junction_of}
use Rattle.parts_check.specs.Probed.{ResistorRead, DiodeRead, resistor_probes, diode_probes, resistor_faults, diode_faults}

-- a resistor's reading is that of the unit
abbrev pub IsOhms : ℕ → List Row → ResistorRead → Type 0
IsOhms n rows x = x.ohms ≡ ohms_of rows n x.part.a x.part.b

-- a diode's readings are those of the unit
abbrev pub IsJunction : ℕ → List Row → DiodeRead → Type 0
IsJunction n rows x = (x.forward ≡ junction_of rows n x.part.from x.part.to) × (x.back ≡ junction_of rows n x.part.to x.part.from)

-- the readings are numbers of 64 bits
abbrev pub OhmsFit : ResistorRead → Type 0
OhmsFit x = IfSome x.ohms IsReading

abbrev pub JunctionFits : DiodeRead → Type 0
JunctionFits x = IfSome x.forward IsReading × IfSome x.back IsReading

-- These resistors were read, in order, and their faults were added.
pub record ProbedResistors (old new : RigState) (parts : List Resistor) (before after : List PartFault) : Type 0 where
  pub reads : List ResistorRead
  pub parts_are : map (λ (x : ResistorRead). x.part) reads ≡ parts
  pub happens : Happens old new (resistor_probes reads) None
  pub faults : after ≡ before ++ resistor_faults 0 reads
  pub truth : IsTrue old.honest → IfSome old.truth (λ rows. All (IsOhms old.points rows) reads)
  pub fits : All OhmsFit reads

-- These diodes, of which the first has this number, were read, in order, each both ways, and their faults were added.
pub record ProbedDiodes (old new : RigState) (first : ℕ) (parts : List Diode) (before after : List PartFault) : Type 0 where
  pub reads : List DiodeRead
  pub parts_are : map (λ (x : DiodeRead). x.part) reads ≡ parts
  pub happens : Happens old new (diode_probes reads) None
  pub faults : after ≡ before ++ diode_faults first reads
  pub truth : IsTrue old.honest → IfSome old.truth (λ rows. All (IsJunction old.points rows) reads)
  pub fits : All JunctionFits reads
