use Rattle.station_http.proofs.TurnLemmas.{stopped-by}
use Rattle.station_http.proofs.turn.command_turn.Goals as goal

pub returns-in-Ok : goal.returns-in-Ok
returns-in-Ok g c =
    let done = c.in-Ok.ensures in
    c.answered.ensures c.args.station c.args.command _ _ c.now-now.result c.id-id.ensures c.now-now.ensures
    (record {
      step = record { told = done.step; some = done.some_step };
      standing = done.standing;
      same = done.same;
      goes_on = record { limit = done.limit; disk_later = done.disk_later; rig_kept = done.rig_kept; tallies = done.tallies };
      rig = done.rig;
      order = done.voltage;
    })

pub returns-in-Err : goal.returns-in-Err
returns-in-Err g c =
    let halt = c.in-Err.ensures in
    c.stopped.ensures c.args.station c.args.command _ _ c.now-now.result c.id-id.ensures c.now-now.ensures
    (stopped-by _ _ c.args.station c.args.command c.now-now.result c.in-Err.stop halt.step halt.some_step halt.bears halt.stop halt.limit halt.disk_later halt.rig halt.rig_kept halt.tallies halt.voltage)
