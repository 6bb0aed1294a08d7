use Rattle.std.proofs.Common.{◌∙◌, inl, inr, Some, None, [], ap, refl}
use Rattle.serials.specs.Commands.{id_of}
use Rattle.station.specs.Step.{answered, not_at_zero}
use Rattle.station.specs.View.{StationState}
use Rattle.station.specs.Ended as ended
use Rattle.script.specs.Closing as end
use Rattle.script.specs.Said.{no_command, replied}
use Rattle.script.proofs.answers.Written.{writes_nothing}
use Rattle.script.proofs.answers.Applied.{answer_said, by_both, none_turn, answered_turn, lost_may, stuck_steps, rose_stuck, goes_on, goes_not_on, stuck_says, when_ok, both_err}
use Rattle.script.proofs.answering.answer_command.Goals as goal

pub returns-in_default-clause-answered : goal.returns-in_default-clause-answered
returns-in_default-clause-answered g c = rw c.in_default.is (when_ok c.say.result _ _
    (λ after said. goes_on c.args.station c.args.station (c.args.number, None) c.now-now.result (no_command c.args.number) c.no_command_line.result c.no_command_line.ensures _ _ _ _ c.now-now.ensures
    (none_turn c.args.station c.args.number c.now-now.result) after said.0 said.1)
    c.say.ensures.said)

pub returns-in_default-clause-ended : goal.returns-in_default-clause-ended
returns-in_default-clause-ended g c = rw c.in_default.is (both_err c.say.result _ _ _ _
    (λ end rig disk not. goes_not_on c.args.station c.args.station (c.args.number, None) c.now-now.result (no_command c.args.number) c.no_command_line.result c.no_command_line.ensures _ _ _ _ c.now-now.ensures
    (none_turn c.args.station c.args.number c.now-now.result) end.status _ _ rig disk not)
    c.say.ensures.rig c.say.ensures.disk c.say.ensures.ended)

pub returns-in-Ok-clause-answered : goal.returns-in-Ok-clause-answered
returns-in-Ok-clause-answered g c = rw c.in-Some.is (when_ok c.say-in-Ok.result _ _
    (λ after said.
    let done = rw (c.in-Ok.station-is, c.in-Ok.answer-is) at c.in-Ok.ensures in
    goes_on c.args.station c.in-Ok.station (c.args.number, Some c.in-Some.command) c.now-now.result (replied (id_of c.in-Some.command) (answered c.in-Ok.answer)) c.answer_line-line.result (answer_said c.in-Ok.answer (id_of c.in-Some.command) c.answer_line-line.result (rw (c.id-id.ensures, c.in-Ok.answer-is) at c.answer_line-line.ensures)) _ _ _ _ c.now-now.ensures
    (answered_turn c.args.station c.args.number c.in-Some.command c.now-now.result c.in-Ok.station c.in-Ok.answer (by_both c.args.station (ended.replied (answered c.in-Ok.answer) c.in-Ok.station) _ done.step done.some_step) done.same done.limit done.disk_later done.rig done.rig_kept done.tallies done.voltage)
    after (said.0 ∙ c.in-Ok.station-is) said.1)
    c.say-in-Ok.ensures.said)

pub returns-in-Ok-clause-ended : goal.returns-in-Ok-clause-ended
returns-in-Ok-clause-ended g c = rw c.in-Some.is (both_err c.say-in-Ok.result _ _ _ _
    (λ end rig disk not.
    let done = rw (c.in-Ok.station-is, c.in-Ok.answer-is) at c.in-Ok.ensures in
    goes_not_on c.args.station c.in-Ok.station (c.args.number, Some c.in-Some.command) c.now-now.result (replied (id_of c.in-Some.command) (answered c.in-Ok.answer)) c.answer_line-line.result (answer_said c.in-Ok.answer (id_of c.in-Some.command) c.answer_line-line.result (rw (c.id-id.ensures, c.in-Ok.answer-is) at c.answer_line-line.ensures)) _ _ _ _ c.now-now.ensures
    (answered_turn c.args.station c.args.number c.in-Some.command c.now-now.result c.in-Ok.station c.in-Ok.answer (by_both c.args.station (ended.replied (answered c.in-Ok.answer) c.in-Ok.station) _ done.step done.some_step) done.same done.limit done.disk_later done.rig done.rig_kept done.tallies done.voltage)
    end.status _ _ (rig ∙ ap (λ (s : StationState). s.rig) c.in-Ok.station-is) (disk ∙ ap (λ (s : StationState). s.disk) c.in-Ok.station-is) not)
    c.say-in-Ok.ensures.rig c.say-in-Ok.ensures.disk c.say-in-Ok.ensures.ended)

pub returns-in-Err-Disk-clause-ended : goal.returns-in-Err-Disk-clause-ended
returns-in-Err-Disk-clause-ended g c = rw c.in-Some.is (
    let stopped = rw c.in-Err-Disk.field-0-is at c.in-Err-Disk.ensures in
    record {
      now = c.now-now.result;
      ticks = c.now-now.ensures;
      closing = end.disk_fault;
      status_is = refl;
      how = inr (inl (record {
        why = inl refl;
        may = λ tells. lost_may c.args.station c.args.number c.in-Some.command c.now-now.result (g.R.Rig.state c.in-Err-Disk.rig) (g.D.Disk.state c.in-Err-Disk.disk) (stopped.bears tells);
        disk_goes_on = record { limit = stopped.limit; later = stopped.disk_later };
        rig_goes_on = record { kept = stopped.rig_kept; tallies = stopped.tallies };
        order = stopped.voltage;
        wrote = c.close.ensures.line;
      }));
    })

pub returns-in-Err-NotZero-clause-ended : goal.returns-in-Err-NotZero-clause-ended
returns-in-Err-NotZero-clause-ended g c = rw c.in-Some.is (
    let stopped = rw c.in-Err-NotZero.field-0-is at c.in-Err-NotZero.ensures in
    rw c.into_rig.ensures (record {
      now = c.now-now.result;
      ticks = c.now-now.ensures;
      closing = end.not_at_zero;
      status_is = refl;
      how = inr (inr (record {
        why = refl;
        said = replied (id_of c.in-Some.command) not_at_zero;
        is = refl;
        step = λ tells. stuck_steps c.args.station c.args.number c.in-Some.command c.now-now.result (g.D.Disk.state c.in-Err-NotZero.disk) (by_both c.args.station _ _ stopped.step stopped.some_step tells);
        kept = stopped.stop;
        disk_goes_on = record { limit = stopped.limit; later = stopped.disk_later };
        rig_goes_on = record { kept = stopped.rig_kept; tallies = stopped.tallies };
        order = stopped.voltage;
        rose = rose_stuck c.args.station c.args.number c.in-Some.command c.now-now.result _ stopped.rig;
        wrote = stuck_says (replied (id_of c.in-Some.command) not_at_zero) c.stuck_line.result _ _ (rw c.id-id.ensures at c.stuck_line.ensures) c.say_last.ensures.line;
      }));
    }))

pub returns-in-Err-Memory-clause-ended : goal.returns-in-Err-Memory-clause-ended
returns-in-Err-Memory-clause-ended g c = rw c.in-Some.is (
    let stopped = rw c.in-Err-Memory.field-0-is at c.in-Err-Memory.ensures in
    record {
      now = c.now-now.result;
      ticks = c.now-now.ensures;
      closing = end.memory;
      status_is = refl;
      how = inr (inl (record {
        why = inr refl;
        may = λ tells. lost_may c.args.station c.args.number c.in-Some.command c.now-now.result (g.R.Rig.state c.in-Err-Memory.rig) (g.D.Disk.state c.in-Err-Memory.disk) (stopped.bears tells);
        disk_goes_on = record { limit = stopped.limit; later = stopped.disk_later };
        rig_goes_on = record { kept = stopped.rig_kept; tallies = stopped.tallies };
        order = stopped.voltage;
        wrote = writes_nothing [] (g.O.Stream.got c.args.out.now);
      }));
    })
