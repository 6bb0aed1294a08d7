use Rattle.std.proofs.Common.{◌≡◌, ◌-◌, drop, map, take}
use Rattle.wirelist_reader.specs.Kinds.{number}
use Rattle.wirelist_reader.proofs.build.points_from.Given as goal

abbrev pub invariant-loop-place : goal.invariant-loop-place
invariant-loop-place l = l.list ≡ map number (take (l.place - l.first) (drop l.first l.row))
