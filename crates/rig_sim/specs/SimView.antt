-- What contracts see of the fields of a simulator, and what holds of them.
use Rattle.std.specs.Prelude.{◌≡◌, ◌≤◌, ◌<◌, ◌-◌, ◌^◌, true, [], Some, All, length, option_map, IfSome}
use Rattle.partition.specs.Partitions.{IsPartitionOfAll}
use Rattle.rig.specs.Calls.{AreGroups}
use Rattle.rig.specs.Happened.{IsBelowLast}
use Rattle.rig.specs.Joins.{joined_classes}
use Rattle.rig.specs.RigState.{Groups}
use Rattle.harness.specs.Harness.{IsUnitOf}
use Rattle.rig_sim.specs.declared.fixture.Route.{Route}
use Rattle.rig_sim.specs.declared.sim_rig.SimRig.TheInside.{Inside}
use Rattle.rig_sim.specs.Counters.{numbers_to}
use Rattle.rig_sim.specs.Fixture.{states_alone}
use Rattle.rig_sim.specs.SimRig.{SimState, rows_of}

abbrev pub groups_of : Route → Groups
groups_of route = record { left = route.left; right = route.right }

abbrev pub sim_state : Inside → SimState
sim_state a = record {
  state = record {
    points = a.points;
    honest = true;
    faults = a.faults;
    opens = a.log.meter.opens;
    spent = a.log.meter.spent;
    seats = a.seats;
    volts = a.log.meter.volts;
    seated = a.log.seated;
    route = option_map groups_of a.route;
    closed_now = a.log.meter.closed_now;
    spare = a.log.trail.spare;
    states_left = 0;
    most_faults = Some (length a.calls.listed);
    most_opens = Some (length a.doors.listed);
    units = Some a.units;
    truth = rows_of a.units a.place;
    trail = Some a.log.trail.list;
    tallies = Some a.log.tallies;
    measured = Some [];
    states = Some (states_alone a.units);
    coming = Some [];
  };
  calls = a.calls;
  doors = a.doors;
}

-- Rows as a harness gives them, the classes of the unit in the fixture, and counts that the file's numbers bound.
pub record IsSim (a : Inside) : Type 0 where
  pub some_points : 1 ≤ a.points
  pub few_points : a.points ≤ 4096
  pub units : All (IsUnitOf a.points) a.units
  pub placed : IfSome a.place (λ i. i < length a.units)
  pub routed : IfSome a.route (λ route. AreGroups a.points route.left route.right)
  pub size : length a.classes ≡ a.points
  pub all : IsPartitionOfAll a.classes
  pub joined : IfSome (rows_of a.units a.place) (λ rows. a.classes ≡ joined_classes rows a.points)
  pub room : a.log.trail.spare ≤ 3
  pub fits : a.faults ≤ 2 ^ 64 - 1
  pub seats_fits : a.seats ≤ 2 ^ 64 - 1
  pub few_faults : IsBelowLast a.log.meter.spent → IsBelowLast a.seats → a.faults ≤ numbers_to a.calls.count a.calls.listed
  pub few_opens : a.log.meter.opens ≤ numbers_to a.doors.count a.doors.listed
