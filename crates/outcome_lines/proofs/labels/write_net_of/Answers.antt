use Rattle.std.proofs.Common.{◌≤◌, ℕ, List, get_or, sym, ◌∙◌, ap, arith, length}
use Rattle.std.specs.Prelude.{codes}
use Rattle.outcome_lines.specs.Labels.{point_label}
use Rattle.outcome_lines.proofs.Appending.{start, last, named}
use Rattle.outcome_lines.proofs.LabelLemmas.{label_alone, label_named, label_past, labels_few}
use Rattle.outcome_lines.proofs.labels.write_net_of.Goals as goal

pub returns-then-place-names : goal.returns-then-place-names
returns-then-place-names c =
    let p = c.args.program.now in
    named _ c.args.out.now _ _ _ (c.text.ensures.bytes ∙ sym (label_named p c.args.number c.index-names-place.result (omega (arith, c.if-place-names.true, ap length c.as_slice-names.ensures)) (c.index-names-place.is ∙ ap (λ (l : List (List ℕ)). get_or l c.args.number c.index-names-place.result) c.as_slice-names.ensures))) c.push_str.ensures.ok

pub returns-then-number-count : goal.returns-then-number-count
returns-then-number-count c =
    let p = c.args.program.now in
    let past : length p.names ≤ c.args.number = omega (arith, c.if-place-names.false, ap length c.as_slice-names.ensures) in
    named _ c.args.out.now _ _ _ (ap point_label c.write_decimal.view_is ∙ sym (label_alone p c.args.number c.head.result c.requires.names past (omega (arith, c.if-number-count.true, c.count.ensures.count)) c.head.ensures.head))
    (last (start c.args.out.now (codes "pt") _ c.in_ok-push_str.ensures.ok) _ _ _ c.write_decimal-then-number-count.ensures.ok)

pub returns : goal.returns
returns c =
    named _ c.args.out.now _ _ _ (sym (label_past _ c.args.number (omega (arith, labels_few c.args.program.now c.requires.names, c.if-number-count.false, c.count.ensures.count))))
    c.write_number.ensures
