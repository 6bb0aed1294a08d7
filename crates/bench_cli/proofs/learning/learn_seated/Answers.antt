use Rattle.std.proofs.Common.{ap, refl, ◌∙◌}
use Rattle.learned_program.specs.LearnedProgram.{learned_text}
use Rattle.bench_cli.specs.Findings.{LearnsAll, StopsLearning}
use Rattle.bench_cli.proofs.ways.UnitLemmas.{print_ends, fault_ends, memory_ends}
use Rattle.bench_cli.proofs.learning.learn_seated.Goals as goal

pub returns-in-Ok : goal.returns-in-Ok
returns-in-Ok g c =
    let unit = c.in-Ok.field-0 in
    print_ends LearnsAll StopsLearning _ _ _ (g.R.Rig.state c.into_rig.result) (ap g.R.Rig.state c.into_rig.ensures.rig) (learned_text unit.partition) c.write_text-status.result
    (record {
      classes = unit.partition;
      reads = c.in-Ok.ensures.reads;
      learned = c.in-Ok.ensures.learned;
      of_all = c.in-Ok.ensures.of_all;
      at_least = c.in-Ok.ensures.at_least;
      at_most = c.in-Ok.ensures.at_most;
      text_is = refl;
    })
    (c.write_text-status.ensures (learned_text unit.partition) c.text_of.ensures)

pub returns-in-Err-Rig : goal.returns-in-Err-Rig
returns-in-Err-Rig g c =
    fault_ends LearnsAll StopsLearning _ _ _ (g.R.Rig.state c.into_rig-in-Err-Rig.result) (ap g.R.Rig.state (c.into_rig-in-Err-Rig.ensures.rig ∙ c.in-Err-Rig.seat-is)) c.end_with_line-status.result
    (rw c.in-Err-Rig.field-0-is at c.in-Err-Rig.ensures.reads) tt c.end_with_line-status.ensures

pub returns-in-Err-Memory : goal.returns-in-Err-Memory
returns-in-Err-Memory g c =
    memory_ends LearnsAll StopsLearning _ _ (g.R.Rig.state c.into_rig-in-Err-Memory.result) _ (g.O.Stream.got c.args.out.now) (g.O.Stream.write_faults c.args.out.now)
    (ap g.R.Rig.state (c.into_rig-in-Err-Memory.ensures.rig ∙ c.in-Err-Memory.seat-is)) (rw c.in-Err-Memory.field-0-is at c.in-Err-Memory.ensures.reads)
