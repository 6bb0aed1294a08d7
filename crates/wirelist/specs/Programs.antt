-- The programs that a wirelist can give.
--     IsProgram p     a wirelist can give the program
use Rattle.std.specs.Prelude.{◌≡◌, ◌≢◌, ℕ, ◌+◌, ◌≤◌, ◌%◌, ◌⊎◌, List, ◌++◌, map, length, All, AllPairs, IfSome}
use Rattle.partition.specs.Names.{IsName}
use Rattle.partition.specs.NetTable.{IsNetTable}
use Rattle.wirelist.specs.Clusters.{ComponentsInside, component_links, cluster_count}
use Rattle.wirelist.specs.Numbers.{IsIn, milliohms, millivolts, revisions, insulation_volts, insulation_ticks, megohms, withstand_volts}
use Rattle.wirelist.specs.Numbers.{withstand_ticks, nanoamps, attempts}
use Rattle.wirelist.specs.Ranges.{most_points, most_parts, most_clusters}
use Rattle.wirelist.specs.declared.program.Program.{Program}
use Rattle.wirelist.specs.declared.program.Insulation.{Insulation}
use Rattle.wirelist.specs.declared.program.Withstand.{Withstand}
use Rattle.wirelist.specs.declared.parts.Resistor.{Resistor}
use Rattle.wirelist.specs.declared.parts.Diode.{Diode}

-- a window of milliohms
pub record IsResistor (r : Resistor) : Type 0 where
  pub name : IsName r.name
  pub low : milliohms.low ≤ r.min
  pub window : r.min ≤ r.max
  pub high : r.max ≤ milliohms.most

-- a window of millivolts
pub record IsDiode (d : Diode) : Type 0 where
  pub name : IsName d.name
  pub low : millivolts.low ≤ d.min
  pub window : d.min ≤ d.max
  pub high : d.max ≤ millivolts.most

pub record IsInsulation (i : Insulation) : Type 0 where
  pub volts : IsIn insulation_volts i.volts
  pub steps : i.volts % 50 ≡ 0
  pub ticks : IsIn insulation_ticks i.ticks
  pub megohms : IsIn megohms i.megohms

pub record IsWithstand (w : Withstand) : Type 0 where
  pub volts : IsIn withstand_volts w.volts
  pub steps : w.volts % 50 ≡ 0
  pub ticks : IsIn withstand_ticks w.ticks
  pub nanoamps : IsIn nanoamps w.nanoamps

-- the names of the nets and of the components
abbrev pub all_names : Program → List (List ℕ)
all_names p = p.names ++ (map (λ (r : Resistor). r.name) p.resistors ++ map (λ (d : Diode). d.name) p.diodes)

-- two links join the same two nets, in whatever order
abbrev pub SameLink : ℕ × ℕ → ℕ × ℕ → Type 0
SameLink x y = ((x.0 ≡ y.0) × (x.1 ≡ y.1)) ⊎ ((x.0 ≡ y.1) × (x.1 ≡ y.0))

-- components lie between judged points, each between two nets, and no two between the same two
pub record AreComponents (p : Program) : Type 0 where
  pub resistors : All IsResistor p.resistors
  pub diodes : All IsDiode p.diodes
  pub few : length p.resistors + length p.diodes ≤ most_parts
  pub inside : ComponentsInside p
  pub across : All (λ (link : ℕ × ℕ). link.0 ≢ link.1) (component_links p)
  pub apart : AllPairs (λ (x y : ℕ × ℕ). SameLink x y → ⊥) (component_links p)

-- a wirelist can give the program
pub record IsProgram (p : Program) : Type 0 where
  pub part : IsName p.part
  pub revision : IsIn revisions p.revision
  pub points : p.nets.points ≤ most_points
  pub nets : IsNetTable p.nets
  pub names : All IsName p.names
  pub one_each : length p.names ≡ length p.nets.named
  pub distinct : AllPairs ◌≢◌ (all_names p)
  pub components : AreComponents p
  pub insulation : IfSome p.insulation IsInsulation
  pub withstand : IfSome p.withstand IsWithstand
  pub clusters : IfSome p.insulation (λ _. cluster_count p ≤ most_clusters)
  pub attempts : IsIn attempts p.attempts
