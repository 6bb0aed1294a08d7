-- What contracts see of the fields of a rig that answers by a list, and what holds of them.
use Rattle.std.specs.Prelude.{◌≤◌, ◌<◌, ◌-◌, ◌^◌, false, Some, None, length, option_map}
use Rattle.rig_sim.specs.declared.list_rig.ListRig.TheInside.{Inside}
use Rattle.rig_sim.specs.ListRig.{ListState}
use Rattle.rig_sim.specs.SimView.{groups_of}

abbrev pub list_state : Inside → ListState
list_state a = record {
  state = record {
    points = a.points;
    honest = false;
    faults = a.faults;
    opens = a.log.meter.opens;
    spent = a.log.meter.spent;
    seats = a.seats;
    volts = a.log.meter.volts;
    seated = a.log.seated;
    route = option_map groups_of a.route;
    closed_now = a.log.meter.closed_now;
    spare = a.log.trail.spare;
    states_left = 0;
    most_faults = None;
    most_opens = None;
    units = None;
    truth = None;
    trail = Some a.log.trail.list;
    tallies = Some a.log.tallies;
    measured = None;
    states = None;
    coming = None;
  };
  answers = a.answers;
}

-- some points and some answers, and counts that fit their counters
pub record IsListRig (a : Inside) : Type 0 where
  pub some_points : 1 ≤ a.points
  pub some_answers : 0 < length a.answers
  pub room : a.log.trail.spare ≤ 3
  pub fits : a.faults ≤ 2 ^ 64 - 1
  pub seats_fits : a.seats ≤ 2 ^ 64 - 1
