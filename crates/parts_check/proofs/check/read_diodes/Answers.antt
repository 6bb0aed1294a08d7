use Rattle.std.proofs.Common.{◌∙◌, ◌+◌, ◌++◌, [], Ok, ap, sym, subst, take}
use Rattle.std.specs.List.{cons_option}
use Rattle.rig.proofs.CallEvents.{Happens-junction}
use Rattle.rig.proofs.Happening.{Happens-points}
use Rattle.parts_check.specs.PartRule.{numbered_fault}
use Rattle.parts_check.specs.Turns.{ProbedDiodes}
use Rattle.parts_check.proofs.Stopping.{back-refused, diodes-no_memory, diodes-refused}
use Rattle.parts_check.proofs.Turning.{diode-inside, diodes-more}
use Rattle.parts_check.proofs.check.read_diodes.Goals as goal

pub junction-requires-clause-first : goal.junction-requires-clause-first
junction-requires-clause-first g c =
    (diode-inside c.args.diodes.now c.loop-i.i c.index-diodes-i.result c.requires.inside c.loop-i-test.true c.index-diodes-i.is
    (Happens-points c.loop-i.invariant.probed.happens)).0

pub junction-requires-clause-second : goal.junction-requires-clause-second
junction-requires-clause-second g c =
    (diode-inside c.args.diodes.now c.loop-i.i c.index-diodes-i.result c.requires.inside c.loop-i-test.true c.index-diodes-i.is
    (Happens-points c.loop-i.invariant.probed.happens)).1

pub returns-in_err-forward-clause-err : goal.returns-in_err-forward-clause-err
returns-in_err-forward-clause-err g c = diodes-refused c.loop-i.invariant.probed c.in_err-forward.ensures.call c.from_residual.result c.from_residual.ensures.1

pub junction-requires-in-loop-i-clause-first : goal.junction-requires-in-loop-i-clause-first
junction-requires-in-loop-i-clause-first g c =
    (diode-inside c.args.diodes.now c.loop-i.i c.index-diodes-i.result c.requires.inside c.loop-i-test.true c.index-diodes-i.is
    (Happens-points (Happens-junction (Ok c.in_ok-forward.forward) c.in_ok-forward.ensures.call) ∙ Happens-points c.loop-i.invariant.probed.happens)).1

pub junction-requires-in-loop-i-clause-second : goal.junction-requires-in-loop-i-clause-second
junction-requires-in-loop-i-clause-second g c =
    (diode-inside c.args.diodes.now c.loop-i.i c.index-diodes-i.result c.requires.inside c.loop-i-test.true c.index-diodes-i.is
    (Happens-points (Happens-junction (Ok c.in_ok-forward.forward) c.in_ok-forward.ensures.call) ∙ Happens-points c.loop-i.invariant.probed.happens)).0

pub returns-in_err-back-clause-err : goal.returns-in_err-back-clause-err
returns-in_err-back-clause-err g c =
    back-refused c.loop-i.invariant.probed c.in_ok-forward.ensures.call c.in_err-back.ensures.call c.from_residual-in_err-back.result
    c.from_residual-in_err-back.ensures.1

pub returns-in_err-note-clause-err : goal.returns-in_err-note-clause-err
returns-in_err-note-clause-err g c =
    diodes-no_memory c.loop-i.invariant.probed c.in_ok-forward.ensures.call c.in_ok-back.ensures.call c.from_residual-in_err-note.result
    c.from_residual-in_err-note.ensures.1

pub loop-i-preserved : goal.loop-i-preserved
loop-i-preserved g c = record {
  probed =
      subst (λ fs. ProbedDiodes (g.R.Rig.state c.args.proven.now.rig) (g.R.Rig.state c.junction-in-loop-i.new.self.rig) c.args.first
      (take (c.loop-i.i + 1) c.args.diodes.now) c.args.faults.now fs)
      (sym (c.in_ok-note.ensures.ok ∙ ap (λ kind. c.loop-i.faults ++ cons_option
      (numbered_fault (c.args.first + c.loop-i.i) kind) []) c.fault_of_diode.ensures.fault))
      (diodes-more c.args.first c.args.diodes.now c.loop-i.i c.index-diodes-i.result c.in_ok-forward.forward c.in_ok-back.back c.loop-i-test.true
      c.index-diodes-i.is c.loop-i.invariant.probed
      c.in_ok-forward.ensures.call c.fault_of_diode.ensures.fits.0 c.in_ok-back.ensures.call c.fault_of_diode.ensures.fits.1);
  partition = c.in_ok-back.ensures.same ∙ c.in_ok-forward.ensures.same ∙ c.loop-i.invariant.partition;
}
