-- To stand before is transitive.
use Rattle.std.proofs.Common.{ℕ, ◌<◌, inl, inr, arith}
use Rattle.difference.specs.declared.wiring.Piece.{Piece}
use Rattle.difference.specs.declared.wiring.Short.{Short}
use Rattle.wirelist.specs.declared.faults.PartFault.{PartFault}
use Rattle.wirelist.specs.declared.faults.LeakFault.{LeakFault}
use Rattle.difference.specs.DifferenceRanges.{PieceBefore, ShortBefore}
use Rattle.wirelist.specs.Ranges.{PartFaultBefore, LeakFaultBefore}

pub numbers_before : (x y z : ℕ) → x < y → y < z → x < z
numbers_before x y z p q = omega arith

pub pieces_before : (x y z : Piece) → PieceBefore x y → PieceBefore y z → PieceBefore x z
pieces_before x y z (inl p) (inl q) = inl (omega arith)
pieces_before x y z (inl p) (inr q) = inl (omega (arith, q.0, q.1))
pieces_before x y z (inr p) (inl q) = inl (omega (arith, p.0, p.1))
pieces_before x y z (inr p) (inr q) = inr (omega (arith, p.0, q.0), omega (arith, p.1, q.1))

pub shorts_before : (x y z : Short) → ShortBefore x y → ShortBefore y z → ShortBefore x z
shorts_before x y z p q = omega arith

pub part_faults_before : (x y z : PartFault) → PartFaultBefore x y → PartFaultBefore y z → PartFaultBefore x z
part_faults_before x y z p q = omega arith

pub leak_faults_before : (x y z : LeakFault) → LeakFaultBefore x y → LeakFaultBefore y z → LeakFaultBefore x z
leak_faults_before x y z p q = omega arith
