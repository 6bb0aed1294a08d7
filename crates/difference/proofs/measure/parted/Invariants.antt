use Rattle.std.proofs.Common.{◌≡◌, filter, not}
use Rattle.difference.specs.Measured.{is_marked}
use Rattle.difference.proofs.measure.parted.Given as goal

abbrev pub invariant-loop-piece : goal.invariant-loop-piece
invariant-loop-piece l = record {
  opens : l.opens.items ≡ filter (λ piece. not (is_marked l.measured l.mixed piece)) l.yielded;
  miswires : l.miswires.items ≡ filter (is_marked l.measured l.mixed) l.yielded;
}
