-- The detail lines of an outcome, each after two spaces.
--     wiring_lines p d       opens, then shorts, then miswires
--     outcome_lines p o      the lines of what the outcome names
use Rattle.std.specs.Prelude.{ℕ, List, [], ◌++◌, codes, decimal, Option, Some, None}
use Rattle.std.specs.List.{flat_map}
use Rattle.difference.specs.declared.wiring.Piece.{Piece}
use Rattle.difference.specs.declared.wiring.Short.{Short}
use Rattle.difference.specs.declared.wiring.Difference.{Difference}
use Rattle.wirelist.specs.declared.program.Program.{Program}
use Rattle.wirelist.specs.declared.faults.PartFault.{PartFault}
use Rattle.wirelist.specs.declared.faults.PartFaultKind.{PartFaultKind}
use Rattle.wirelist.specs.declared.faults.PartFaultKind.TheVariants.{Low, High, OpenPart, WrongWay, Leaky}
use Rattle.wirelist.specs.declared.faults.LeakFault.{LeakFault}
use Rattle.wirelist.specs.declared.outcome.Outcome.{Outcome}
use Rattle.wirelist.specs.declared.outcome.Outcome.TheVariants.{Pass, Wiring, Parts, Insulation, Withstand}
use Rattle.outcome_lines.specs.Labels.{net_label, component_label, cluster_label}

-- each point after a space
abbrev pub points_text : List ℕ → List ℕ
points_text points = flat_map (λ q. codes " " ++ decimal q) points

-- each net's label after a space
abbrev pub nets_text : Option Program → List ℕ → List ℕ
nets_text p nets = flat_map (λ i. codes " " ++ net_label p i) nets

-- `open NET: P P`
abbrev pub open_line : Option Program → Piece → List ℕ
open_line p piece = codes "  open " ++ net_label p piece.net ++ codes ":" ++ points_text piece.points ++ codes "\n"

-- `short NET NET`
abbrev pub short_line : Option Program → Short → List ℕ
short_line p short = codes "  short" ++ nets_text p short.nets ++ codes "\n"

-- `miswire NET with ANCHOR: P P`
abbrev pub miswire_line : Option Program → Piece → List ℕ
miswire_line p piece =
    codes "  miswire " ++ net_label p piece.net ++ codes " with " ++ decimal piece.class ++ codes ":" ++ points_text piece.points ++ codes "\n"

-- the opens, then the shorts, then the miswires
unfoldable pub wiring_lines : Option Program → Difference → List ℕ
wiring_lines p d = flat_map (open_line p) d.opens ++ flat_map (short_line p) d.shorts ++ flat_map (miswire_line p) d.miswires

-- how a component is at fault
abbrev pub fault_text : PartFaultKind → List ℕ
fault_text (Low v) = codes "low " ++ decimal v
fault_text (High v) = codes "high " ++ decimal v
fault_text OpenPart = codes "open"
fault_text (WrongWay v) = codes "wrong way " ++ decimal v
fault_text (Leaky v) = codes "leaky " ++ decimal v

-- `part NAME low V`
abbrev pub part_line : Option Program → PartFault → List ℕ
part_line p fault = codes "  part " ++ component_label p fault.part ++ codes " " ++ fault_text fault.kind ++ codes "\n"

-- an arc, or the picosiemens
abbrev pub leak_text : Option ℕ → List ℕ
leak_text None = codes "arc"
leak_text (Some g) = decimal g ++ codes " pS"

-- `leak CLUSTER G pS`
abbrev pub leak_line : Option Program → LeakFault → List ℕ
leak_line p fault = codes "  leak " ++ cluster_label p fault.cluster ++ codes " " ++ leak_text fault.reading ++ codes "\n"

-- `withstand bit J at V V arc`
abbrev pub withstand_line : ℕ → ℕ → Option ℕ → List ℕ
withstand_line bit volts leak =
    codes "  withstand bit " ++ decimal bit ++ codes " at " ++ decimal volts ++ codes " V " ++ leak_text leak ++ codes "\n"

-- a line for each thing that the outcome names
unfoldable pub outcome_lines : Option Program → Outcome → List ℕ
outcome_lines p Pass = []
outcome_lines p (Wiring d) = wiring_lines p d
outcome_lines p (Parts faults) = flat_map (part_line p) faults
outcome_lines p (Insulation faults) = flat_map (leak_line p) faults
outcome_lines p (Withstand bit volts leak) = withstand_line bit volts leak
