use Rattle.std.proofs.Common.{inl, inr, ap, subst, arith}
use Rattle.base.specs.Causes.{Rose}
use Rattle.rig.specs.RigState.{RigState}
use Rattle.ledger.specs.Opening.{refused}
use Rattle.script.proofs.on_rig.Causing.{none_rose_then}
use Rattle.script.proofs.disk.Openings.{is_refusal, refused_complete, run_tells, scene_of_run, run_headline, run_keeps, run_found, run_limit}
use Rattle.script.proofs.opening.run.Goals as goal

pub returns-in-Ok-clause-ends : goal.returns-in-Ok-clause-ends
returns-in-Ok-clause-ends g c =
    let began = g.D.Disk.state c.args.disk in
    let s = c.in-Ok.station in
    let opens = c.in-Ok.ensures.opens in
    let ran = c.run_script-status.ensures in
    record {
      station = s;
      rig_is = c.in-Ok.ensures.rig;
      program_is = c.in-Ok.ensures.same;
      opens = opens;
      headline = λ file R0 begins scene script told.
          run_headline began file R0 begins s opens (run_found began file R0 begins s opens) scene script _ _ _ _
          (ran.headline scene script (scene_of_run (g.R.Rig.state c.args.rig) c.args.program _ _ _ scene script s told c.in-Ok.ensures.rig c.in-Ok.ensures.same (run_tells began file R0 begins s opens)) told.left_is);
      ran = ran.ran;
      keeps = λ file R0 begins. run_keeps began file R0 begins s opens (run_found began file R0 begins s opens) _ _ (ran.ran.keeps (run_tells began file R0 begins s opens));
      limit = run_limit began s opens _ ran.limit;
    }

pub returns-in-Ok-clause-complete : goal.returns-in-Ok-clause-complete
returns-in-Ok-clause-complete g c file R0 reads says quiet =
    c.run_script-status.ensures.complete (none_rose_then _ _ _ (record { input = omega arith; out = omega arith; disk = c.in-Ok.ensures.opens.later; rig = omega (arith, ap (λ (r : RigState). r.faults) c.in-Ok.ensures.rig) }) quiet)

pub returns-in-Err-clause-complete : goal.returns-in-Err-clause-complete
returns-in-Err-clause-complete g c file R0 reads says quiet =
    inr (inl (refused_complete _ _ (refused c.in-Err.stop) _ c.in-Err.ensures.opens c.close_unopened-status.ensures.status (is_refusal c.in-Err.stop) file R0 reads says (subst (λ d. Rose (g.D.Disk.state c.args.disk).faults (g.D.Disk.state d).faults → ⊥) c.close_unopened-status.ensures.disk quiet.disk)))
