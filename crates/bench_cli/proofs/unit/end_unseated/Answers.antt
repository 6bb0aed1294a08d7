use Rattle.bench_cli.proofs.ways.UnitLemmas.{empty_ends, seat_fault_ends, seat_memory_ends}
use Rattle.bench_cli.proofs.unit.end_unseated.Goals as goal

pub returns-in-Absent : goal.returns-in-Absent
returns-in-Absent g c = λ old serial attempt seats. empty_ends old (g.R.Rig.state c.in-Absent.rig) serial attempt _ c.end_with_line.result (rw c.in-Absent.is at seats) c.end_with_line.ensures

pub returns-in-Rig : goal.returns-in-Rig
returns-in-Rig g c = λ old serial attempt seats. seat_fault_ends old (g.R.Rig.state c.in-Rig.rig) serial attempt _ c.end_with_line-in-Rig.result (rw c.in-Rig.is at seats) c.end_with_line-in-Rig.ensures

pub returns-in-Memory : goal.returns-in-Memory
returns-in-Memory g c = λ old serial attempt seats. seat_memory_ends (g.O.Stream.got c.args.out.now) (g.O.Stream.write_faults c.args.out.now) (rw c.in-Memory.is at seats)
