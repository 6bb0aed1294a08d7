-- The ranges of outcomes, in which records keep them.
use Rattle.std.specs.Prelude.{◌≡◌, ℕ, ◌^◌, ◌<◌, ◌≤◌, ◌%◌, ⊤, List, length, All, AllPairs, IfSome}
use Rattle.difference.specs.DifferenceRanges.{PieceWithin, ShortWithin, PiecesWithin, ShortsWithin, DifferenceWithin}
use Rattle.difference.specs.declared.wiring.Piece.{Piece}
use Rattle.difference.specs.declared.wiring.Short.{Short}
use Rattle.difference.specs.declared.wiring.Difference.{Difference}
use Rattle.wirelist.specs.Numbers.{points}
use Rattle.wirelist.specs.declared.faults.PartFault.{PartFault}
use Rattle.wirelist.specs.declared.faults.PartFaultKind.{PartFaultKind}
use Rattle.wirelist.specs.declared.faults.PartFaultKind.TheVariants.{Low, High, OpenPart, WrongWay, Leaky}
use Rattle.wirelist.specs.declared.faults.LeakFault.{LeakFault}
use Rattle.wirelist.specs.declared.outcome.Outcome.{Outcome}
use Rattle.wirelist.specs.declared.outcome.Outcome.TheVariants.{Pass, Wiring, Parts, Insulation, Withstand}

-- the limits: of nets, classes, points and entries; of components; of clusters; of bits; of volts
abbrev pub most_points : ℕ
most_points = points.most

abbrev pub most_parts : ℕ
most_parts = 512

abbrev pub most_clusters : ℕ
most_clusters = 256

abbrev pub most_bits : ℕ
most_bits = 12

-- the canonical text of a program has fewer bytes
abbrev pub text_limit : ℕ
text_limit = 200000

abbrev pub IsTestVoltage : ℕ → Type 0
IsTestVoltage v = (50 ≤ v) × (v ≤ 2000) × (v % 50 ≡ 0)

-- what differs: numbers below the limit of points, in strict order, and no more than it all in all
abbrev pub PieceInRange : Piece → Type 0
PieceInRange = PieceWithin most_points

abbrev pub ShortInRange : Short → Type 0
ShortInRange = ShortWithin most_points

abbrev pub PiecesInRange : List Piece → Type 0
PiecesInRange = PiecesWithin most_points

abbrev pub ShortsInRange : List Short → Type 0
ShortsInRange = ShortsWithin most_points

abbrev pub DifferenceInRange : Difference → Type 0
DifferenceInRange = DifferenceWithin most_points

-- a reading is a number of 64 bits
abbrev pub IsReading : ℕ → Type 0
IsReading n = n < 2 ^ 64

abbrev pub KindInRange : PartFaultKind → Type 0
KindInRange (Low n) = IsReading n
KindInRange (High n) = IsReading n
KindInRange OpenPart = ⊤
KindInRange (WrongWay n) = IsReading n
KindInRange (Leaky n) = IsReading n

abbrev pub PartFaultInRange : PartFault → Type 0
PartFaultInRange fault = (fault.part < most_parts) × KindInRange fault.kind

abbrev pub LeakFaultInRange : LeakFault → Type 0
LeakFaultInRange fault = (fault.cluster < most_clusters) × IfSome fault.reading IsReading

-- by component
abbrev pub PartFaultBefore : PartFault → PartFault → Type 0
PartFaultBefore x y = x.part < y.part

-- by cluster
abbrev pub LeakFaultBefore : LeakFault → LeakFault → Type 0
LeakFaultBefore x y = x.cluster < y.cluster

abbrev pub PartFaultsInRange : List PartFault → Type 0
PartFaultsInRange faults = (1 ≤ length faults) × (length faults ≤ most_points) × All PartFaultInRange faults × AllPairs PartFaultBefore faults

abbrev pub LeakFaultsInRange : List LeakFault → Type 0
LeakFaultsInRange faults = (1 ≤ length faults) × (length faults ≤ most_points) × All LeakFaultInRange faults × AllPairs LeakFaultBefore faults

-- the outcome is in the ranges of records
abbrev pub OutcomeInRange : Outcome → Type 0
OutcomeInRange Pass = ⊤
OutcomeInRange (Wiring d) = DifferenceInRange d
OutcomeInRange (Parts faults) = PartFaultsInRange faults
OutcomeInRange (Insulation faults) = LeakFaultsInRange faults
OutcomeInRange (Withstand bit volts leak) = (bit < most_bits) × IsTestVoltage volts × IfSome leak IsReading
