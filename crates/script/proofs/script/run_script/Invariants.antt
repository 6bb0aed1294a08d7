use Rattle.std.proofs.Common.{◌-◌, ◌≤◌}
use Rattle.station.specs.View.{IsStanding}
use Rattle.script.specs.Causes.{counts, NoneFell}
use Rattle.script.proofs.answers.Running.{Running}
use Rattle.script.proofs.script.run_script.Given as goal

abbrev pub invariant-lines : goal.invariant-lines
invariant-lines g l = record {
  few : l.number ≤ 100001;
  standing : IsStanding l.current;
  later : NoneFell (counts (g.I.Stream.read_faults l.fn.input) (g.O.Stream.write_faults l.fn.out) l.fn.station.disk.faults l.fn.station.rig.faults) (counts (g.I.Stream.read_faults l.input) (g.O.Stream.write_faults l.out) l.current.disk.faults l.current.rig.faults);
  running : Running l.fn.station l.current l.number l.pending (g.O.Stream.got l.fn.out) (g.O.Stream.got l.out) (g.C.Clock.moments l.fn.clock) (g.C.Clock.moments l.clock) (g.I.Stream.left l.fn.input) (g.I.Stream.left l.input);
}

abbrev pub decreases-lines : goal.decreases-lines
decreases-lines g l = 100001 - l.number
