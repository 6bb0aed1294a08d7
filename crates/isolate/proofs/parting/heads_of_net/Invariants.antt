use Rattle.std.proofs.Common.{◌≡◌, filter, take}
use Rattle.isolate.specs.Pieces.{is_of_net}
use Rattle.isolate.proofs.parting.heads_of_net.Given as goal

abbrev pub invariant-loop-head : goal.invariant-loop-head
invariant-loop-head l = l.list ≡ filter (is_of_net l.programmed l.point) (take l.head-index l.heads)
