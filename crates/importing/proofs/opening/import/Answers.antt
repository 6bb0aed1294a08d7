use Rattle.std.proofs.Common.{inl, inr, ap, subst, arith}
use Rattle.base.specs.Causes.{Rose}
use Rattle.rig.specs.RigState.{RigState}
use Rattle.ledger.specs.Opening.{refused}
use Rattle.script.proofs.on_rig.Causing.{none_rose_then}
use Rattle.script.proofs.disk.Openings.{is_refusal, refused_complete}
use Rattle.importing.proofs.Begun.{import_opened}
use Rattle.importing.proofs.opening.import.Goals as goal

pub returns-in-Ok-clause-ends : goal.returns-in-Ok-clause-ends
returns-in-Ok-clause-ends g c =
    let mounted = c.in-Ok.ensures in
    let input = c.answer_input-status.ensures in
    import_opened (g.R.Rig.state c.args.rig) c.args.program (g.D.Disk.state c.args.disk) c.in-Ok.station mounted.rig mounted.same mounted.opens _ _ input.keeps input.limit
    _ _ _ _ _ _ _ input.takes

pub returns-in-Ok-clause-complete : goal.returns-in-Ok-clause-complete
returns-in-Ok-clause-complete g c file R0 reads says quiet =
    let mounted = c.in-Ok.ensures in
    c.answer_input-status.ensures.complete
    (none_rose_then _ _ _ (record { input = omega arith; out = omega arith; disk = mounted.opens.later; rig = omega (arith, ap (λ (r : RigState). r.faults) mounted.rig) }) quiet)

pub returns-in-Err-clause-complete : goal.returns-in-Err-clause-complete
returns-in-Err-clause-complete g c file R0 reads says quiet =
    inr (inl (refused_complete _ _ (refused c.in-Err.stop) _ c.in-Err.ensures.opens c.close_unopened-status.ensures.status (is_refusal c.in-Err.stop) file R0 reads says
    (subst (λ d. Rose (g.D.Disk.state c.args.disk).faults (g.D.Disk.state d).faults → ⊥) c.close_unopened-status.ensures.disk quiet.disk)))
