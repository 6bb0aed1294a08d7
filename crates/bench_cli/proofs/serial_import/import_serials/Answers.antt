use Rattle.std.proofs.Common.{refl}
use Rattle.words.specs.declared.command.Command.TheVariants.{Import}
use Rattle.bench_cli.specs.Run.{both}
use Rattle.bench_cli.specs.Ends.Ends.{stopped, obeyed}
use Rattle.bench_cli.proofs.ways.Obeying.{import_work}
use Rattle.bench_cli.proofs.serial_import.import_serials.Goals as goal

pub returns-in-Ok : goal.returns-in-Ok
returns-in-Ok g c = λ words door asks shut.
    obeyed Import asks (record { input = λ e. cc; disk = λ e. cc; clock = λ e. cc; door = λ e. shut }) (both c.in-Ok.field-0.sim c.in-Ok.field-0.p) c.in-Ok.ensures.takes
    (import_work _ c.import-status.result.status c.in-Ok.field-0.sim c.in-Ok.field-0.p c.import-status.result.rig (rw c.in-Ok.ensures.alone at c.import-status.ensures.ends)
    (rw c.in-Ok.ensures.alone at c.import-status.ensures.causes) (rw c.in-Ok.ensures.alone at c.import-status.ensures.complete))

pub returns-in-Err : goal.returns-in-Err
returns-in-Err g c = λ words door asks shut.
    stopped Import asks refl (record { input = λ e. record { left = refl; faults = refl }; disk = λ e. refl; clock = λ e. refl; door = λ e. shut }) c.in-Err.ensures.stops
