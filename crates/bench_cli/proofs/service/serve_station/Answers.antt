use Rattle.std.proofs.Common.{refl}
use Rattle.words.specs.declared.command.Command.TheVariants.{Serve}
use Rattle.bench_cli.specs.Run.{both}
use Rattle.bench_cli.specs.Ends.Ends.{stopped, obeyed}
use Rattle.bench_cli.proofs.ways.ServeWork.{serve_work}
use Rattle.bench_cli.proofs.service.serve_station.Goals as goal

pub returns-in-Ok : goal.returns-in-Ok
returns-in-Ok g c = λ words input asks unread.
    obeyed (Serve c.args.service.now) asks (record { input = λ e. unread; disk = λ e. cc; clock = λ e. cc; door = λ e. cc }) (both c.in-Ok.field-0.sim c.in-Ok.field-0.p) c.in-Ok.ensures.takes
    (serve_work c.args.service.now _ c.serve-status.result.status c.in-Ok.field-0.sim c.in-Ok.field-0.p c.serve-status.result.rig (rw c.in-Ok.ensures.alone at c.serve-status.ensures.ends)
    (rw c.in-Ok.ensures.alone at c.serve-status.ensures.causes) (rw c.in-Ok.ensures.alone at c.serve-status.ensures.complete))

pub returns-in-Err : goal.returns-in-Err
returns-in-Err g c = λ words input asks unread.
    stopped (Serve c.args.service.now) asks refl (record { input = λ e. unread; disk = λ e. refl; clock = λ e. refl; door = λ e. record { waiting = refl; done = refl; faults = refl } }) c.in-Err.ensures.stops
