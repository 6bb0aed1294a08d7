-- A rig that answers by a list, as contracts see it.
use Rattle.std.specs.Prelude.{◌%◌, ℕ, Bool, false, List, [], Option, Some, None, length, slice_get}
use Rattle.rig.specs.declared.event.Event.{Event}
use Rattle.rig.specs.Happened.{happened}
use Rattle.rig.specs.RigState.{RigState}
use Rattle.rig_sim.specs.SimRig.{more_faults}

-- the state of a rig, and the answers that its group readings give in turn
pub record ListState : Type 0 where
  pub state : RigState
  pub answers : List Bool

-- A rig that no call was asked: it is not honest, and tells its trail and its tallies alone.
abbrev pub new_list : ℕ → List Bool → ListState
new_list points answers = record {
  state = record {
    points = points;
    honest = false;
    faults = 0;
    opens = 0;
    spent = 0;
    seats = 0;
    volts = 0;
    seated = false;
    route = None;
    closed_now = false;
    spare = 0;
    states_left = 0;
    most_faults = None;
    most_opens = None;
    units = None;
    truth = None;
    trail = Some [];
    tallies = Some [];
    measured = None;
    states = None;
    coming = None;
  };
  answers = answers;
}

-- The answer to the next group reading: as many answers are passed over as there were readings, and after the last they begin anew.
abbrev pub next_answer : ListState → Option Bool
next_answer s = slice_get s.answers (s.state.spent % length s.answers)

-- a call that failed and is no event
abbrev pub after_failure : ListState → ListState
after_failure s = record s { state = record s.state { faults = more_faults s.state.faults } }

-- a call that is an event, with the room that is then set aside
abbrev pub after_event : Event → ℕ → ListState → ListState
after_event event spare s = record s { state = record (happened event s.state) { spare = spare } }
