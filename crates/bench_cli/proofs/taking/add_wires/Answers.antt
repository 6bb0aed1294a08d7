use Rattle.std.proofs.Common.{true, refl}
use Rattle.bench_cli.proofs.ways.TakingLemmas.{ok_more, wires_stop}
use Rattle.bench_cli.proofs.taking.add_wires.Goals as goal

pub returns-in-Ok-clause-takes : goal.returns-in-Ok-clause-takes
returns-in-Ok-clause-takes g c = ok_more c.compare.result (λ both takes harness is. takes harness _ is c.in-Ok.ensures.wires) c.compare.ensures.takes

pub returns-in-Err-clause-stops : goal.returns-in-Err-clause-stops
returns-in-Err-clause-stops g c = λ harness takes. wires_stop true _ _ _ refl c.args.sim c.in-Err.stop takes c.in-Err.ensures.wires c.end_without_wires.ensures
