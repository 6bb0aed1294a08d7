use Rattle.std.proofs.Common.{take, ℕ}
use Rattle.station.specs.View.{IsStanding}
use Rattle.script.specs.Causes.{counts, NoneFell}
use Rattle.importing.proofs.Answering.{Answering}
use Rattle.importing.proofs.rows.run_rows.Given as goal

abbrev pub invariant-loop-number : goal.invariant-loop-number
invariant-loop-number g l = record {
  standing : IsStanding l.current;
  later : (input : ℕ) → NoneFell (counts input (g.O.Stream.write_faults l.fn.out) l.fn.station.disk.faults l.fn.station.rig.faults) (counts input (g.O.Stream.write_faults l.out) l.current.disk.faults l.current.rig.faults);
  answering : Answering l.fn.station l.current (take l.number-index l.rows) (g.O.Stream.got l.fn.out) (g.O.Stream.got l.out) (g.C.Clock.moments l.fn.clock) (g.C.Clock.moments l.clock);
}
