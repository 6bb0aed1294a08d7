use Rattle.std.proofs.Common.{List, ◌∙◌, ap, arith}
use Rattle.partition.specs.Classes.{class_at}
use Rattle.partition.specs.NetTable.{net_at}
use Rattle.difference.specs.Rebuild.{piece_label, short_label}
use Rattle.difference.specs.declared.wiring.Piece.{Piece}
use Rattle.difference.specs.declared.wiring.Short.{Short}
use Rattle.difference.proofs.LabelSteps.{labelled}
use Rattle.difference.proofs.rebuilding.write_labels.Goals as goal

pub returns : goal.returns
returns c =
    let t = c.args.nets.now in
    labelled t c.args.d.now c.args.labels.now c.label_shorts.new.labels c.label_pieces.new.labels c.label_pieces-2.new.labels c.leave_out.new.labels c.requires.size
    (omega (arith, c.label_shorts.auto.labels, c.requires.size))
    (omega (arith, c.label_shorts.auto.labels, c.label_pieces.auto.labels, c.requires.size))
    (omega (arith, c.label_shorts.auto.labels, c.label_pieces.auto.labels, c.label_pieces-2.auto.labels, c.requires.size))
    (omega (arith, c.label_shorts.auto.labels, c.label_pieces.auto.labels, c.label_pieces-2.auto.labels, c.leave_out.auto.labels, c.requires.size))
    c.requires.heads
    (λ p k. c.label_shorts.ensures p k ∙ ap (λ (xs : List Short). short_label xs (net_at t p) (class_at c.args.labels.now p)) c.as_slice.ensures)
    (λ p l. c.label_pieces.ensures p l ∙ ap (λ (xs : List Piece). piece_label xs p (class_at c.label_shorts.new.labels p)) c.as_slice-2.ensures)
    (λ p l. c.label_pieces-2.ensures p l ∙ ap (λ (xs : List Piece). piece_label xs p (class_at c.label_pieces.new.labels p)) c.as_slice-3.ensures)
    c.leave_out.ensures
