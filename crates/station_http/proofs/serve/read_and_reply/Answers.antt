use Rattle.std.proofs.Common.{inl, inr}
use Rattle.station_http.proofs.ServeLemmas.{front-written, read-finished, unread-memory}
use Rattle.station_http.proofs.serve.read_and_reply.Goals as goal

pub returns-in-Some : goal.returns-in-Some
returns-in-Some g c =
    let takes = rw c.in-Some.is at c.in-Ok.ensures.request in
    let finishes = c.finish.ensures.finishes c.args.station c.in-Some.request _ _ c.turn_for-turn.ensures in
    inl (read-finished _ _ c.args.station c.in-Some.request _ _ _ _ _ _ _ _ _ _ _ _ _ _ c.finish.result takes c.in-Ok.ensures.counted c.in-Ok.ensures.apart c.finish.ensures.apart finishes)

pub returns-in-Memory : goal.returns-in-Memory
returns-in-Memory g c =
    let quiet = rw c.in-Memory.is at c.in-Err.ensures.counted in
    let front = front-written _ _ _ c.write_all-tried.result c.write_all-tried.ensures.ok c.write_all-tried.ensures.refused in
    inr (unread-memory c.args.station _ _ _ _ _ _ _ _ _ _ _ _ _ _ _ _ quiet c.in-Err.ensures.apart c.write_all-tried.ensures.apart
    c.into_parts-rig.ensures.rig c.into_parts-rig.ensures.disk c.stop_reply.ensures front)
