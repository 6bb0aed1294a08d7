use Rattle.sequence.proofs.stages.Voltages.{voltage-none}
use Rattle.sequence.proofs.stages.Wirings.{when_ok}
use Rattle.sequence.proofs.voltage.test_voltage.Goals as goal

pub returns-in-None-clause-ok : goal.returns-in-None-clause-ok
returns-in-None-clause-ok g c = when_ok c.test_withstand.result _ _ (λ run f. voltage-none c.args.p.now c.in-None.is run.outcome f) c.test_withstand.ensures.ok
