-- What the tally of a seating has to count for an outcome.
--     checking_readings p        the group readings that show the programmed wiring
--     readings_for, probes_for   the least readings of groups and of components that an outcome needs
--     voltage_for                the least counts at high voltage that it needs
--     Enough p outcome tally     each count of the tally is at least that
use Rattle.std.specs.Prelude.{ℕ, ◌+◌, ◌-◌, ◌*◌, ◌/◌, ◌≤◌, List, length, Option, Some, None}
use Rattle.partition.specs.Digits.{digits_of}
use Rattle.partition.specs.Heads.{heads}
use Rattle.partition.specs.NetTable.{judged_points, programmed_of}
use Rattle.difference.specs.Rebuild.{rebuilt}
use Rattle.rig.specs.declared.event.Tally.{Tally}
use Rattle.wirelist.specs.Clusters.{cluster_count}
use Rattle.wirelist.specs.declared.outcome.Outcome.{Outcome}
use Rattle.wirelist.specs.declared.outcome.Outcome.TheVariants.{Pass, Wiring, Parts, Insulation, Withstand}
use Rattle.wirelist.specs.declared.program.Insulation.{Insulation as InsulationTest}
use Rattle.wirelist.specs.declared.program.Program.{Program}
use Rattle.wirelist.specs.declared.program.Withstand.{Withstand as WithstandTest}
use Rattle.hv.specs.Routes.{tested_bits, tested_clusters}

-- how many points count, and how many classes a partition has: one for each head
abbrev pub judged_count : Program → ℕ
judged_count p = length (judged_points p.nets)

abbrev pub class_count : List ℕ → ℕ
class_count classes = length (heads classes)

-- how many classes the nets are: each named net, and each other judged point
abbrev pub net_classes : Program → ℕ
net_classes p = class_count (programmed_of p.nets)

-- the partition that an outcome states: that of the three lists, or else the programmed one
abbrev pub stated_classes : Program → Outcome → List ℕ
stated_classes p (Wiring d) = rebuilt p.nets d
stated_classes p Pass = programmed_of p.nets
stated_classes p (Parts faults) = programmed_of p.nets
stated_classes p (Insulation faults) = programmed_of p.nets
stated_classes p (Withstand bit volts leak) = programmed_of p.nets

-- n points in k nets: a reading for each point after the first of its net, and one for each binary digit of the nets' codes
abbrev pub checking_readings : Program → ℕ
checking_readings p = (judged_count p - net_classes p) + digits_of (net_classes p - 1)

-- a wiring fault needs as many readings as points are joined with others, any other outcome those that show the programmed wiring
abbrev pub readings_for : Program → Outcome → ℕ
readings_for p (Wiring d) = judged_count p - class_count (rebuilt p.nets d)
readings_for p Pass = checking_readings p
readings_for p (Parts faults) = checking_readings p
readings_for p (Insulation faults) = checking_readings p
readings_for p (Withstand bit volts leak) = checking_readings p

-- one for each resistor, and two for each diode
abbrev pub all_probes : Program → ℕ
all_probes p = length p.resistors + 2 * length p.diodes

abbrev pub probes_for : Program → Outcome → ℕ
probes_for p (Wiring d) = 0
probes_for p Pass = all_probes p
probes_for p (Parts faults) = all_probes p
probes_for p (Insulation faults) = all_probes p
probes_for p (Withstand bit volts leak) = all_probes p

-- counts of events at high voltage
pub record Voltage : Type 0 where
  pub route_count : ℕ
  pub raise_count : ℕ
  pub tick_count : ℕ
  pub leak_count : ℕ

abbrev pub no_voltage : Voltage
no_voltage = record { route_count = 0; raise_count = 0; tick_count = 0; leak_count = 0 }

abbrev pub both : Voltage → Voltage → Voltage
both x y = record {
  route_count = x.route_count + y.route_count;
  raise_count = x.raise_count + y.raise_count;
  tick_count = x.tick_count + y.tick_count;
  leak_count = x.leak_count + y.leak_count;
}

-- so many applications of the test of insulation, with one leak each
abbrev pub measuring : ℕ → InsulationTest → Voltage
measuring n test = record { route_count = n; raise_count = n * (test.volts / 50); tick_count = n * test.ticks; leak_count = n }

-- so many of the test of withstand, with a leak for each tick
abbrev pub standing : ℕ → WithstandTest → Voltage
standing n test = record { route_count = n; raise_count = n * (test.volts / 50); tick_count = n * test.ticks; leak_count = n * test.ticks }

-- one that broke down at so many volts
abbrev pub breaking : ℕ → Voltage
breaking volts = record { route_count = 1; raise_count = volts / 50; tick_count = 0; leak_count = 1 }

-- the whole test of insulation, if the program has one: each cluster, where there are two at least
abbrev pub insulation_counts : Program → Option InsulationTest → Voltage
insulation_counts p None = no_voltage
insulation_counts p (Some test) = measuring (tested_clusters (cluster_count p)) test

-- so many bits of the test of withstand, if the program has one
abbrev pub withstand_counts : ℕ → Option WithstandTest → Voltage
withstand_counts n None = no_voltage
withstand_counts n (Some test) = standing n test

abbrev pub voltage_for : Program → Outcome → Voltage
voltage_for p Pass = both (insulation_counts p p.insulation) (withstand_counts (tested_bits (cluster_count p)) p.withstand)
voltage_for p (Wiring d) = no_voltage
voltage_for p (Parts faults) = no_voltage
voltage_for p (Insulation faults) = insulation_counts p p.insulation
voltage_for p (Withstand bit volts leak) = both (insulation_counts p p.insulation) (both (withstand_counts bit p.withstand) (breaking volts))

-- each count of the tally is at least what the outcome needs
pub record Enough (p : Program) (outcome : Outcome) (tally : Tally) : Type 0 where
  pub readings : readings_for p outcome ≤ tally.readings
  pub probes : probes_for p outcome ≤ tally.probes
  pub routes : (voltage_for p outcome).route_count ≤ tally.routes
  pub raises : (voltage_for p outcome).raise_count ≤ tally.raises
  pub ticks : (voltage_for p outcome).tick_count ≤ tally.ticks
  pub leaks : (voltage_for p outcome).leak_count ≤ tally.leaks
