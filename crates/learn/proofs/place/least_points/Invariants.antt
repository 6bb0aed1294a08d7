use Rattle.std.proofs.Common.{◌≡◌, map, take}
use Rattle.partition.specs.NetTable.{head_of}
use Rattle.learn.proofs.place.least_points.Given as goal

abbrev pub invariant-loop-i : goal.invariant-loop-i
invariant-loop-i l = l.list ≡ map head_of (take l.i l.groups)
