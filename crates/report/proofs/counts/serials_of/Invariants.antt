use Rattle.std.proofs.Common.{◌≡◌, take}
use Rattle.std.specs.Prelude.{filter_map}
use Rattle.report.specs.Counting.{serial_at}
use Rattle.report.proofs.counts.serials_of.Given as goal

abbrev pub invariant-loop-noted : goal.invariant-loop-noted
invariant-loop-noted l = l.names.items ≡ filter_map (serial_at l.event) (take l.noted-index l.records)
