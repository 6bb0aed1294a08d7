use Rattle.std.proofs.Common.{sym, subst, ◌∙◌}
use Rattle.applications.specs.Measuring.{StopsAtRest}
use Rattle.std.proofs.Common.{None}
use Rattle.rig.proofs.Happening.{Happens-none}
use Rattle.applications.proofs.one_application.Together.{nothing-runs, route-refused-runs, stops-memory}
use Rattle.applications.proofs.measuring.start.Goals as goal

pub returns-in-Err-clause-err : goal.returns-in-Err-clause-err
returns-in-Err-clause-err g c =
    subst (λ r. StopsAtRest c.args.bonds.now (g.R.Rig.state c.args.proven.rig) (g.R.Rig.state r) None) (sym (c.into_rig.ensures.rig ∙ c.back.ensures))
    (nothing-runs c.args.bonds.now (Happens-none (g.R.Rig.state c.args.proven.rig)))

pub returns-in-Err-Rig-clause-err : goal.returns-in-Err-Rig-clause-err
returns-in-Err-Rig-clause-err g c = route-refused-runs c.args.bonds.now (rw c.in-Err-Rig.field-0-is at c.in-Err-Rig.ensures.call)

pub returns-in-Err-Memory-clause-err : goal.returns-in-Err-Memory-clause-err
returns-in-Err-Memory-clause-err g c =
    subst (λ r. StopsAtRest c.args.bonds.now (g.R.Rig.state c.args.proven.rig) (g.R.Rig.state r) None) (sym (c.into_rig-in-Err-Memory.ensures.rig ∙ c.back-in-Err-Memory.ensures))
    (stops-memory (route-refused-runs c.args.bonds.now (rw c.in-Err-Memory.field-0-is at c.in-Err-Memory.ensures.call)))
