use Rattle.std.proofs.Common.{refl}
use Rattle.bench_cli.specs.Ends.Ends.{no_command, no_memory}
use Rattle.bench_cli.proofs.ways.TakingLemmas.{with_line}
use Rattle.bench_cli.proofs.top.run.Goals as goal

pub returns-in-Ok-None : goal.returns-in-Ok-None
returns-in-Ok-None g c =
    no_command (rw c.in-Ok-None.field-0-is at c.in-Ok-None.ensures) (record { left = refl; faults = refl }) (record { left = refl; faults = refl })
    (record { input = λ e. record { left = refl; faults = refl }; disk = λ e. refl; clock = λ e. refl; door = λ e. record { waiting = refl; done = refl; faults = refl } }) (with_line _ _ _ 2 c.end_with_line.result c.as_bytes.ensures.value c.end_with_line.ensures)

pub returns-in-Err : goal.returns-in-Err
returns-in-Err g c =
    no_memory (record { left = refl; faults = refl }) (record { left = refl; faults = refl }) (record { input = λ e. record { left = refl; faults = refl }; disk = λ e. refl; clock = λ e. refl; door = λ e. record { waiting = refl; done = refl; faults = refl } })
    (record { got = refl; faults = refl })
