use Rattle.std.proofs.Common.{arith}
use Rattle.script.proofs.answers.Running.{begins, goes_on}
use Rattle.script.proofs.disk.Leaving.{leaves_in_whole, leaves_in_last, leaves_at_end, leaves_after_last, leaves_stopped}
use Rattle.script.proofs.on_rig.Causing.{none_fell, none_fell_and, causes_and, reads_then, ends_quiet, ends_reading, completes}
use Rattle.script.proofs.script.run_script.Goals as goal

pub lines-init : goal.lines-init
lines-init g c = record {
  few = omega arith;
  standing = c.records-records.ensures.standing;
  later = none_fell _;
  running = rw c.new-pending.ensures (begins c.args.station _ _ _);
}

pub lines-preserved : goal.lines-preserved
lines-preserved g c =
    let read = rw c.in-Ok-Line.field-0-is at c.in-Ok-Line.ensures in
    record {
      few = omega (arith, read.few);
      standing = c.in-Ok.ensures.standing;
      later = none_fell_and _ _ _ (reads_then _ _ _ _ _ _ c.lines.invariant.later c.in-Ok-Line.ensures.later) (c.in-Ok.ensures.later _);
      running = goes_on _ _ _ _ _ _ _ _ _ _ c.lines.invariant.running c.in-Ok-Line.line _ _ c.in-Ok.after _ _ read.line (rw c.as_slice.ensures at c.in-Ok.ensures).answered;
    }

pub returns-in-Err-answer_text : goal.returns-in-Err-answer_text
returns-in-Err-answer_text g c =
    let read = rw c.in-Ok-Line.field-0-is at c.in-Ok-Line.ensures in
    let leaves = leaves_in_whole _ _ _ _ _ _ _ _ _ _ c.lines.invariant.running c.lines.invariant.standing.images c.in-Ok-Line.line _ _ _ _ _ _ _ read.line (rw c.as_slice.ensures at c.in-Err-answer_text.ensures).ended in
    let causes = causes_and _ _ _ _ (reads_then _ _ _ _ _ _ c.lines.invariant.later c.in-Ok-Line.ensures.later) (c.in-Err-answer_text.ensures.causes _) in
    record {
      headline = leaves.headline;
      ran = leaves.ran;
      causes = causes;
      complete = completes _ _ leaves.ran.wrote.closing _ leaves.ran.wrote.status_is causes;
      limit = leaves.limit;
    }

pub returns-in-Ok-answer_text : goal.returns-in-Ok-answer_text
returns-in-Ok-answer_text g c =
    let read = rw c.in-Ok-Last.field-0-is at c.in-Ok-Last.ensures in
    let leaves = leaves_after_last _ _ _ _ _ _ _ _ _ _ c.lines.invariant.running c.lines.invariant.standing.images c.in-Ok-Last.line _ c.in-Ok-answer_text.after _ _ c.in-Ok-answer_text.ensures.standing.images read.line (rw c.as_slice-in-Ok-Last.ensures at c.in-Ok-answer_text.ensures).answered
    _ c.ended.ensures.status _ c.ended.ensures.rig _ c.ended.ensures.disk in
    let causes = ends_quiet _ _ _ _ _ _ _ _ _ (none_fell_and _ _ _ (reads_then _ _ _ _ _ _ c.lines.invariant.later c.in-Ok-Last.ensures.later) (c.in-Ok-answer_text.ensures.later _)) (omega arith) (omega arith) c.ended.ensures.rig c.ended.ensures.disk _ c.ended.ensures.status in
    record {
      headline = leaves.headline;
      ran = leaves.ran;
      causes = causes;
      complete = completes _ _ leaves.ran.wrote.closing _ leaves.ran.wrote.status_is causes;
      limit = leaves.limit;
    }

pub returns-in-Err-answer_text-2 : goal.returns-in-Err-answer_text-2
returns-in-Err-answer_text-2 g c =
    let read = rw c.in-Ok-Last.field-0-is at c.in-Ok-Last.ensures in
    let leaves = leaves_in_last _ _ _ _ _ _ _ _ _ _ c.lines.invariant.running c.lines.invariant.standing.images c.in-Ok-Last.line _ _ _ _ _ _ read.line (rw c.as_slice-in-Ok-Last.ensures at c.in-Err-answer_text-2.ensures).ended in
    let causes = causes_and _ _ _ _ (reads_then _ _ _ _ _ _ c.lines.invariant.later c.in-Ok-Last.ensures.later) (c.in-Err-answer_text-2.ensures.causes _) in
    record {
      headline = leaves.headline;
      ran = leaves.ran;
      causes = causes;
      complete = completes _ _ leaves.ran.wrote.closing _ leaves.ran.wrote.status_is causes;
      limit = leaves.limit;
    }

pub returns-in-Ok-End : goal.returns-in-Ok-End
returns-in-Ok-End g c =
    let read = rw c.in-Ok-End.field-0-is at c.in-Ok-End.ensures in
    let leaves = leaves_at_end _ _ _ _ _ _ _ _ _ _ c.lines.invariant.running c.lines.invariant.standing.images _ _ c.ended-in-Ok-End.ensures.status _ c.ended-in-Ok-End.ensures.rig _ c.ended-in-Ok-End.ensures.disk read.line in
    let causes = ends_quiet _ _ _ _ _ _ _ _ _ c.lines.invariant.later c.in-Ok-End.ensures.later (omega arith) c.ended-in-Ok-End.ensures.rig c.ended-in-Ok-End.ensures.disk _ c.ended-in-Ok-End.ensures.status in
    record {
      headline = leaves.headline;
      ran = leaves.ran;
      causes = causes;
      complete = completes _ _ leaves.ran.wrote.closing _ leaves.ran.wrote.status_is causes;
      limit = leaves.limit;
    }

pub returns-in-Err : goal.returns-in-Err
returns-in-Err g c =
    let leaves = leaves_stopped _ _ _ _ _ _ _ _ _ _ c.lines.invariant.running c.lines.invariant.standing.images c.in-Err.stop _ _ c.in-Err.ensures.stop _ c.stopped.ensures.status _ c.stopped.ensures.rig _ c.stopped.ensures.disk _ c.stopped.ensures.line in
    let causes = ends_reading _ _ _ _ _ _ _ _ _ c.lines.invariant.later c.in-Err.ensures.later c.stopped.ensures.later c.stopped.ensures.rig c.stopped.ensures.disk c.in-Err.stop _ _ c.stopped.ensures.status c.in-Err.ensures.cause in
    record {
      headline = leaves.headline;
      ran = leaves.ran;
      causes = causes;
      complete = completes _ _ leaves.ran.wrote.closing _ leaves.ran.wrote.status_is causes;
      limit = leaves.limit;
    }
