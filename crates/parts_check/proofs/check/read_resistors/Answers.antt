use Rattle.std.proofs.Common.{◌∙◌, ◌+◌, ◌++◌, [], ap, sym, subst, take}
use Rattle.std.specs.List.{cons_option}
use Rattle.rig.proofs.Happening.{Happens-points}
use Rattle.parts_check.specs.PartRule.{numbered_fault}
use Rattle.parts_check.specs.Turns.{ProbedResistors}
use Rattle.parts_check.proofs.Stopping.{resistors-no_memory, resistors-refused}
use Rattle.parts_check.proofs.Turning.{resistor-inside, resistors-more}
use Rattle.parts_check.proofs.check.read_resistors.Goals as goal

pub ohms-requires-clause-first : goal.ohms-requires-clause-first
ohms-requires-clause-first g c =
    (resistor-inside c.args.resistors.now c.loop-i.i c.index-resistors-i.result c.requires.inside c.loop-i-test.true c.index-resistors-i.is
    (Happens-points c.loop-i.invariant.probed.happens)).0

pub ohms-requires-clause-second : goal.ohms-requires-clause-second
ohms-requires-clause-second g c =
    (resistor-inside c.args.resistors.now c.loop-i.i c.index-resistors-i.result c.requires.inside c.loop-i-test.true c.index-resistors-i.is
    (Happens-points c.loop-i.invariant.probed.happens)).1

pub returns-in_err-ohms-clause-err : goal.returns-in_err-ohms-clause-err
returns-in_err-ohms-clause-err g c = resistors-refused c.loop-i.invariant.probed c.in_err-ohms.ensures.call c.from_residual.result c.from_residual.ensures.1

pub returns-in_err-note-clause-err : goal.returns-in_err-note-clause-err
returns-in_err-note-clause-err g c =
    resistors-no_memory c.loop-i.invariant.probed c.in_ok-ohms.ensures.call c.from_residual-in_err-note.result c.from_residual-in_err-note.ensures.1

pub loop-i-preserved : goal.loop-i-preserved
loop-i-preserved g c = record {
  probed =
      subst (λ fs. ProbedResistors (g.R.Rig.state c.args.proven.now.rig) (g.R.Rig.state c.ohms.new.self.rig)
      (take (c.loop-i.i + 1) c.args.resistors.now) c.args.faults.now fs)
      (sym (c.in_ok-note.ensures.ok ∙ ap (λ kind. c.loop-i.faults ++ cons_option (numbered_fault c.loop-i.i kind) []) c.fault_of_resistor.ensures.fault))
      (resistors-more c.args.resistors.now c.loop-i.i c.index-resistors-i.result c.in_ok-ohms.ohms c.loop-i-test.true c.index-resistors-i.is
      c.loop-i.invariant.probed
      c.in_ok-ohms.ensures.call c.fault_of_resistor.ensures.fits);
  partition = c.in_ok-ohms.ensures.same ∙ c.loop-i.invariant.partition;
}
