use Rattle.std.proofs.Common.{subst}
use Rattle.unit_outcome.specs.Tested.{IsStopped}
use Rattle.station.proofs.Stopping.{empties, opens, charges, faults, sticks_so, runs_out_so}
use Rattle.station.proofs.station.stopped.Goals as goal

pub returns-in-Empty-clause-applied : goal.returns-in-Empty-clause-applied
returns-in-Empty-clause-applied g c rig serial attempt made fits stopped =
    empties g.R.Rig.state g.D.Disk.state c.args.ledger c.args.program rig serial attempt made c.done.result c.in-Empty.rig c.done.ensures.station c.done.ensures.standing c.done.ensures.answer
    (subst (IsStopped g.R.Rig.state c.args.program serial attempt rig) c.in-Empty.is stopped)

pub returns-in-InterlockOpen-clause-applied : goal.returns-in-InterlockOpen-clause-applied
returns-in-InterlockOpen-clause-applied g c rig serial attempt made fits stopped =
    let e = c.done-in-InterlockOpen in
    opens g.R.Rig.state g.D.Disk.state c.args.ledger c.args.program rig serial attempt made e.result c.in-InterlockOpen.rig e.ensures.station e.ensures.standing e.ensures.answer
    (subst (IsStopped g.R.Rig.state c.args.program serial attempt rig) c.in-InterlockOpen.is stopped)

pub returns-in-NotDischarged-clause-applied : goal.returns-in-NotDischarged-clause-applied
returns-in-NotDischarged-clause-applied g c rig serial attempt made fits stopped =
    let e = c.done-in-NotDischarged in
    charges g.R.Rig.state g.D.Disk.state c.args.ledger c.args.program rig serial attempt made e.result c.in-NotDischarged.rig e.ensures.station e.ensures.standing c.in-NotDischarged.volts e.ensures.answer
    (subst (IsStopped g.R.Rig.state c.args.program serial attempt rig) c.in-NotDischarged.is stopped)

pub returns-in-RigFault-clause-applied : goal.returns-in-RigFault-clause-applied
returns-in-RigFault-clause-applied g c rig serial attempt made fits stopped =
    let e = c.done-in-RigFault in
    faults g.R.Rig.state g.D.Disk.state c.args.ledger c.args.program rig serial attempt made e.result c.in-RigFault.rig e.ensures.station e.ensures.standing e.ensures.answer
    (subst (IsStopped g.R.Rig.state c.args.program serial attempt rig) c.in-RigFault.is stopped)

pub returns-in-NotZero-clause-applied : goal.returns-in-NotZero-clause-applied
returns-in-NotZero-clause-applied g c rig serial attempt made fits stopped =
    sticks_so g.R.Rig.state g.D.Disk.state c.args.ledger c.args.program rig serial attempt made c.in-NotZero.stuck c.into_disk.result c.into_disk.ensures.disk c.into_disk.ensures.images
    (subst (IsStopped g.R.Rig.state c.args.program serial attempt rig) c.in-NotZero.is stopped)

pub returns-in-Memory-clause-applied : goal.returns-in-Memory-clause-applied
returns-in-Memory-clause-applied g c rig serial attempt made fits stopped =
    runs_out_so g.R.Rig.state g.D.Disk.state c.args.ledger c.args.program rig serial attempt made c.in-Memory.rig c.into_disk-in-Memory.result c.into_disk-in-Memory.ensures.disk
    (subst (IsStopped g.R.Rig.state c.args.program serial attempt rig) c.in-Memory.is stopped)
