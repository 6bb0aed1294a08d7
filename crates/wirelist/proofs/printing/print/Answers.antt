use Rattle.std.proofs.Common.{◌++◌, ◌∙◌, ap, map}
use Rattle.std.specs.List.{flat_map, zip}
use Rattle.wirelist.specs.Canonical.{line_of, part_row, points_row, net_row, ignore_rows, resistor_row, diode_row, insulation_rows, withstand_rows, attempts_row}
use Rattle.wirelist.proofs.PrintingLemmas.{lines_in_order}
use Rattle.wirelist.proofs.printing.print.Goals as goal

pub returns : goal.returns
returns c =
    let p = c.args.p.now in
    let nets = ap (λ names. c.print_head.new.text ++ flat_map line_of (map net_row (zip names p.nets.named))) c.as_slice.ensures in
    let ignored = ap (λ points. c.print_nets.new.text ++ flat_map line_of (ignore_rows points)) c.ignored.ensures.ignored in
    let resistors = ap (λ list. c.print_ignored.new.text ++ flat_map line_of (map resistor_row list)) c.as_slice-2.ensures in
    let diodes = ap (λ list. c.print_resistors.new.text ++ flat_map line_of (map diode_row list)) c.as_slice-3.ensures in
    let head = c.in_ok-print_head.ensures ∙ ap (λ t. t ++ (line_of (part_row p.part p.revision) ++ line_of (points_row p.nets.points))) c.new-text.ensures in
    c.in_ok-print_attempts.ensures
    ∙ ap (λ t. t ++ line_of (attempts_row p.attempts)) (
    c.in_ok-print_withstand.ensures
    ∙ ap (λ t. t ++ flat_map line_of (withstand_rows p.withstand)) (
    c.in_ok-print_insulation.ensures
    ∙ ap (λ t. t ++ flat_map line_of (insulation_rows p.insulation)) (
    c.in_ok-print_diodes.ensures ∙ diodes
    ∙ ap (λ t. t ++ flat_map line_of (map diode_row p.diodes)) (
    c.in_ok-print_resistors.ensures ∙ resistors
    ∙ ap (λ t. t ++ flat_map line_of (map resistor_row p.resistors)) (
    c.in_ok-print_ignored.ensures ∙ ignored
    ∙ ap (λ t. t ++ flat_map line_of (ignore_rows p.nets.ignored)) (
    c.in_ok-print_nets.ensures ∙ nets
    ∙ ap (λ t. t ++ flat_map line_of (map net_row (zip p.names p.nets.named))) head
    )
    )
    )
    )
    )
    )
    ∙ lines_in_order line_of (part_row p.part p.revision) (points_row p.nets.points) (attempts_row p.attempts)
    (map net_row (zip p.names p.nets.named)) (ignore_rows p.nets.ignored) (map resistor_row p.resistors) (map diode_row p.diodes)
    (insulation_rows p.insulation) (withstand_rows p.withstand)
