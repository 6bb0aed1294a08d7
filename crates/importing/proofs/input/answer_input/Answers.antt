use Rattle.std.proofs.Common.{inr}
use Rattle.script.proofs.on_rig.Causing.{causes_and, none_fell, none_rose_then, reads_then}
use Rattle.importing.proofs.Stopping.{keeps_all, stop_complete}
use Rattle.importing.proofs.input.answer_input.Goals as goal

pub returns-in-Ok-clause-takes : goal.returns-in-Ok-clause-takes
returns-in-Ok-clause-takes g c =
    let ran = c.run_rows.ensures in
    inr (c.in-Ok.rows, record { asked = c.in-Ok.ensures.asked; headline = ran.headline; ran = ran.ran })

pub returns-in-Ok-clause-causes : goal.returns-in-Ok-clause-causes
returns-in-Ok-clause-causes g c =
    causes_and _ _ _ _ (reads_then _ _ _ _ _ _ (none_fell _) c.in-Ok.ensures.cause.later) (c.run_rows.ensures.causes _)

pub returns-in-Err-clause-keeps : goal.returns-in-Err-clause-keeps
returns-in-Err-clause-keeps g c =
    keeps_all c.args.station c.records-records.ensures.standing.images c.close_input-status.result (g.D.Disk.state c.into_parts-rig.result.1) c.into_parts-rig.ensures.disk

pub returns-in-Ok-clause-complete : goal.returns-in-Ok-clause-complete
returns-in-Ok-clause-complete g c =
    λ quiet. c.run_rows.ensures.complete _ (none_rose_then _ _ _ (reads_then _ _ _ _ _ _ (none_fell _) c.in-Ok.ensures.cause.later) quiet)

pub returns-in-Err-clause-complete : goal.returns-in-Err-clause-complete
returns-in-Err-clause-complete g c = stop_complete _ _ c.in-Err.stop _ c.close_input-status.ensures.status c.in-Err.ensures.cause.rose
