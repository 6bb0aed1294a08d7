use Rattle.std.proofs.Common.{◌≡◌, take}
use Rattle.difference.specs.Measured.{pieces_along}
use Rattle.difference.proofs.strays.pieces_along.Given as goal

abbrev pub invariant-loop-point : goal.invariant-loop-point
invariant-loop-point l = l.pieces.items ≡ pieces_along l.nets l.measured (take l.point-index l.points)
