use Rattle.std.proofs.Common.{◌≡◌, ◌<◌, ◌≤◌, List, length, get_or, inl, refl, ◌∙◌, ap, arith}
use Rattle.script.specs.Said.{Asked}
use Rattle.script.proofs.on_rig.Causing.{causes_and, completes, ends_quiet, none_fell, none_fell_and}
use Rattle.importing.proofs.Answering.{answers_all, answers_next, begins, leaves_at, leaves_done}
use Rattle.importing.proofs.rows.run_rows.Goals as goal

pub loop-number-init : goal.loop-number-init
loop-number-init g c = record {
  standing = c.records-records.ensures.standing;
  later = λ input. none_fell _;
  answering = begins c.args.station _ _;
}

pub loop-number-preserved : goal.loop-number-preserved
loop-number-preserved g c =
    let rows = c.args.rows.now in
    let k = c.loop-number.number-index in
    let a = c.loop-number-item.result in
    let inside : k < length rows = omega (arith, c.loop-number-test.true, ap length c.as_slice-number-items.ensures) in
    let is : a ≡ get_or rows k a = c.loop-number-item.is ∙ ap (λ (l : List Asked). get_or l k a) c.as_slice-number-items.ensures in
    record {
      standing = c.in-Ok.ensures.standing;
      later = λ input. none_fell_and _ _ _ (c.loop-number.invariant.later input) (c.in-Ok.ensures.later input);
      answering = answers_next c.args.station c.loop-number.current c.in-Ok.after rows k a inside is _ _ _ _ _ _ c.loop-number.invariant.answering c.in-Ok.ensures.answered;
    }

pub returns-in-Err-clause-headline : goal.returns-in-Err-clause-headline
returns-in-Err-clause-headline g c =
    let rows = c.args.rows.now in
    let k = c.loop-number.number-index in
    let a = c.loop-number-item.result in
    let inside : k < length rows = omega (arith, c.loop-number-test.true, ap length c.as_slice-number-items.ensures) in
    let is : a ≡ get_or rows k a = c.loop-number-item.is ∙ ap (λ (l : List Asked). get_or l k a) c.as_slice-number-items.ensures in
    let leaves = leaves_at c.args.station c.loop-number.current rows k a inside is _ _ _ _ c.loop-number.invariant.answering c.loop-number.invariant.standing.images _ _ _ _ _ c.in-Err.ensures.ended in
    leaves.headline

pub returns-in-Err-clause-ran : goal.returns-in-Err-clause-ran
returns-in-Err-clause-ran g c =
    let rows = c.args.rows.now in
    let k = c.loop-number.number-index in
    let a = c.loop-number-item.result in
    let inside : k < length rows = omega (arith, c.loop-number-test.true, ap length c.as_slice-number-items.ensures) in
    let is : a ≡ get_or rows k a = c.loop-number-item.is ∙ ap (λ (l : List Asked). get_or l k a) c.as_slice-number-items.ensures in
    let leaves = leaves_at c.args.station c.loop-number.current rows k a inside is _ _ _ _ c.loop-number.invariant.answering c.loop-number.invariant.standing.images _ _ _ _ _ c.in-Err.ensures.ended in
    leaves.ran

pub returns-in-Err-clause-limit : goal.returns-in-Err-clause-limit
returns-in-Err-clause-limit g c =
    let rows = c.args.rows.now in
    let k = c.loop-number.number-index in
    let a = c.loop-number-item.result in
    let inside : k < length rows = omega (arith, c.loop-number-test.true, ap length c.as_slice-number-items.ensures) in
    let is : a ≡ get_or rows k a = c.loop-number-item.is ∙ ap (λ (l : List Asked). get_or l k a) c.as_slice-number-items.ensures in
    let leaves = leaves_at c.args.station c.loop-number.current rows k a inside is _ _ _ _ c.loop-number.invariant.answering c.loop-number.invariant.standing.images _ _ _ _ _ c.in-Err.ensures.ended in
    leaves.limit

pub returns-in-Err-clause-complete : goal.returns-in-Err-clause-complete
returns-in-Err-clause-complete g c =
    let rows = c.args.rows.now in
    let k = c.loop-number.number-index in
    let a = c.loop-number-item.result in
    let inside : k < length rows = omega (arith, c.loop-number-test.true, ap length c.as_slice-number-items.ensures) in
    let is : a ≡ get_or rows k a = c.loop-number-item.is ∙ ap (λ (l : List Asked). get_or l k a) c.as_slice-number-items.ensures in
    let leaves = leaves_at c.args.station c.loop-number.current rows k a inside is _ _ _ _ c.loop-number.invariant.answering c.loop-number.invariant.standing.images _ _ _ _ _ c.in-Err.ensures.ended in
    λ input. completes _ _ leaves.ran.wrote.closing _ leaves.ran.wrote.status_is (causes_and _ _ _ _ (c.loop-number.invariant.later input) (c.in-Err.ensures.causes input))

pub returns-in-Err-clause-causes : goal.returns-in-Err-clause-causes
returns-in-Err-clause-causes g c = λ input. causes_and _ _ _ _ (c.loop-number.invariant.later input) (c.in-Err.ensures.causes input)

pub returns-clause-headline : goal.returns-clause-headline
returns-clause-headline g c =
    let rows = c.args.rows.now in
    let k = c.loop-number.number-index in
    let past : length rows ≤ k = omega (arith, c.loop-number-test.false, ap length c.as_slice-number-items.ensures) in
    let run = answers_all c.args.station c.loop-number.current rows k past _ _ _ _ c.loop-number.invariant.answering in
    let leaves = leaves_done c.args.station c.loop-number.current rows _ _ _ _ run c.loop-number.invariant.standing.images 0 refl _ c.into_parts-rig.ensures.rig _ c.into_parts-rig.ensures.disk in
    leaves.headline

pub returns-clause-ran : goal.returns-clause-ran
returns-clause-ran g c =
    let rows = c.args.rows.now in
    let k = c.loop-number.number-index in
    let past : length rows ≤ k = omega (arith, c.loop-number-test.false, ap length c.as_slice-number-items.ensures) in
    let run = answers_all c.args.station c.loop-number.current rows k past _ _ _ _ c.loop-number.invariant.answering in
    let leaves = leaves_done c.args.station c.loop-number.current rows _ _ _ _ run c.loop-number.invariant.standing.images 0 refl _ c.into_parts-rig.ensures.rig _ c.into_parts-rig.ensures.disk in
    leaves.ran

pub returns-clause-limit : goal.returns-clause-limit
returns-clause-limit g c =
    let rows = c.args.rows.now in
    let k = c.loop-number.number-index in
    let past : length rows ≤ k = omega (arith, c.loop-number-test.false, ap length c.as_slice-number-items.ensures) in
    let run = answers_all c.args.station c.loop-number.current rows k past _ _ _ _ c.loop-number.invariant.answering in
    let leaves = leaves_done c.args.station c.loop-number.current rows _ _ _ _ run c.loop-number.invariant.standing.images 0 refl _ c.into_parts-rig.ensures.rig _ c.into_parts-rig.ensures.disk in
    leaves.limit

pub returns-clause-causes : goal.returns-clause-causes
returns-clause-causes g c = λ input.
    ends_quiet _ _ _ _ _ _ _ _ _ (c.loop-number.invariant.later input) (omega arith) (omega arith) c.into_parts-rig.ensures.rig c.into_parts-rig.ensures.disk 0 refl

pub returns-clause-complete : goal.returns-clause-complete
returns-clause-complete g c = λ input quiet. inl refl
