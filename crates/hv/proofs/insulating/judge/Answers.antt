use Rattle.std.proofs.Common.{refl}
use Rattle.rig.specs.declared.event.Leak.TheVariants.{Arc}
use Rattle.hv.proofs.Faults.{faults-more}
use Rattle.hv.proofs.insulating.judge.Goals as goal

pub loop-i-preserved : goal.loop-i-preserved
loop-i-preserved c = record {
  faults =
      faults-more c.args.megohms c.args.leaks.now c.loop-i.faults c.judge_cluster.new.faults c.loop-i.i _ Arc c.loop-i-test.true refl c.loop-i.invariant.faults
      c.in_ok-judge_cluster.ensures.ok;
  stated = c.in_ok-judge_cluster.ensures.readings;
}
