use Rattle.std.proofs.Common.{◌≡◌, length, None}
use Rattle.std.specs.Io.KnownBytes.{Consumes}
use Rattle.bench_edge.specs.Streams.{SameOtherHalf}
use Rattle.http_exchange.specs.Heads.{head_of}
use Rattle.http_exchange.proofs.reading.read_front.Given as goal

abbrev pub invariant-loop : goal.invariant-loop
invariant-loop g l = record {
  count : length l.taken ≡ l.counter;
  consumed : Consumes (g.S.Stream.left l.fn.conn) (g.S.Stream.left l.conn) l.taken;
  no_head : head_of l.taken ≡ None;
  faults : g.S.Stream.read_faults l.conn ≡ g.S.Stream.read_faults l.fn.conn;
  apart : SameOtherHalf (g.S.Stream.got l.fn.conn) (g.S.Stream.got l.conn) (g.S.Stream.write_faults l.fn.conn) (g.S.Stream.write_faults l.conn);
}
