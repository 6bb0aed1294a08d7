use Rattle.std.proofs.Common.{Err, ap, refl}
use Rattle.bench_cli.specs.Findings.{sheet_text}
use Rattle.bench_cli.proofs.ways.UnitLemmas.{print_ends, fault_ends, memory_ends}
use Rattle.bench_cli.proofs.check.check_seated.Goals as goal

pub returns-in-Ok : goal.returns-in-Ok
returns-in-Ok g c =
    print_ends _ _ _ _ _ (g.R.Rig.state c.into_rig.result) (ap g.R.Rig.state c.into_rig.ensures.rig) (sheet_text c.in-Ok.sheet) c.write_text-status.result
    (record { sheet = c.in-Ok.sheet; reads = c.in-Ok.ensures.reads; compares = c.in-Ok.ensures.compares; text_is = refl })
    (c.write_text-status.ensures (sheet_text c.in-Ok.sheet) c.into_text.ensures)

pub returns-in-Err-Failed : goal.returns-in-Err-Failed
returns-in-Err-Failed g c =
    fault_ends _ _ _ _ _ (g.R.Rig.state c.into_rig-in-Err-Failed.result) (ap g.R.Rig.state c.into_rig-in-Err-Failed.ensures.rig) c.end_with_line-status.result
    (rw c.in-Err-Failed.field-0-is at c.in-Err-Failed.ensures.reads) (c.in-Err-Failed.ensures.failed (ap Err c.in-Err-Failed.field-0-is)) c.end_with_line-status.ensures

pub returns-in-Err-Memory : goal.returns-in-Err-Memory
returns-in-Err-Memory g c =
    memory_ends _ _ _ _ (g.R.Rig.state c.into_rig-in-Err-Memory.result) _ (g.O.Stream.got c.args.out.now) (g.O.Stream.write_faults c.args.out.now) (ap g.R.Rig.state c.into_rig-in-Err-Memory.ensures.rig)
    (rw c.in-Err-Memory.field-0-is at c.in-Err-Memory.ensures.reads)
