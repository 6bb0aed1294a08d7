use Rattle.std.proofs.Common.{refl}
use Rattle.bench_cli.specs.Soaking.SoakEnds.{rig_failed, no_memory}
use Rattle.bench_cli.proofs.facts.SoakFacts.{stuck_ends}
use Rattle.bench_cli.proofs.soaking.end_soak.Goals as goal

pub returns-in-RigFault : goal.returns-in-RigFault
returns-in-RigFault g c = λ n stops. rig_failed c.in-RigFault.rig (rw c.in-RigFault.is at stops) c.end_with_line.ensures

pub returns-in-NotZero : goal.returns-in-NotZero
returns-in-NotZero g c = λ n stops. stuck_ends n _ c.end_stuck.result c.in-NotZero.rig c.end_stuck.ensures.status (rw c.in-NotZero.is at stops) c.end_stuck.ensures.line

pub returns-in-Memory : goal.returns-in-Memory
returns-in-Memory g c = λ n stops. no_memory c.in-Memory.rig (rw c.in-Memory.is at stops) (record { got = refl; faults = refl })
