use Rattle.std.proofs.Common.{◌≡◌, ◌≤◌, List, length}
use Rattle.serving.specs.Visits.{Stage, Visits, last_stage}
use Rattle.serving.proofs.serving.serve_each.Given as goal

abbrev pub invariant-loop-number : goal.invariant-loop-number
invariant-loop-number g l = record {
  visited :
      (stages : List Stage)
      × Visits 1 (record { station = l.fn.station; waiting = g.N.Door.waiting l.fn.door; done = g.N.Door.done l.fn.door; moments = g.C.Clock.moments l.fn.clock; got = g.O.Stream.got l.fn.out }) stages
      × (last_stage (record { station = l.fn.station; waiting = g.N.Door.waiting l.fn.door; done = g.N.Door.done l.fn.door; moments = g.C.Clock.moments l.fn.clock; got = g.O.Stream.got l.fn.out }) stages
      ≡ record { station = l.station; waiting = g.N.Door.waiting l.door; done = g.N.Door.done l.door; moments = g.C.Clock.moments l.clock; got = g.O.Stream.got l.out })
      × (length stages ≡ l.number);
  out_later : g.O.Stream.write_faults l.fn.out ≤ g.O.Stream.write_faults l.out;
  door_later : g.N.Door.door_faults l.fn.door ≤ g.N.Door.door_faults l.door;
}
