use Rattle.applications.proofs.one_application.Together.{IfErr-map, IfOk-map, measure-err, measure-ok, measure-stuck}
use Rattle.applications.proofs.measuring.measure.Goals as goal

pub returns-in-Ok-clause-ok : goal.returns-in-Ok-clause-ok
returns-in-Ok-clause-ok g c =
    IfOk-map c.finish.result _ _
    (λ m f. measure-ok c.args.bonds.now c.args.a.now c.args.b.now c.requires.apart (g.R.Rig.state c.hold-held.new.live.rig) c.in_ok-live.ensures.ok c.hold-held.result m.leak c.requires.some c.requires.by_fifty c.requires.most (c.hold-held.ensures.ok, c.hold-held.ensures.err) c.in-Ok.ensures.down f)
    c.finish.ensures.ok

pub returns-in-Ok-clause-err : goal.returns-in-Ok-clause-err
returns-in-Ok-clause-err g c =
    IfErr-map c.finish.result _ _
    (λ stop f. measure-err c.args.bonds.now c.args.a.now c.args.b.now c.requires.apart (g.R.Rig.state c.hold-held.new.live.rig) c.in_ok-live.ensures.ok g.R.Rig.state c.args.volts c.args.ticks c.hold-held.result stop c.requires.by_fifty c.requires.most (c.hold-held.ensures.ok, c.hold-held.ensures.err) c.in-Ok.ensures.down f)
    c.finish.ensures.err

pub returns-in-Err-clause-err : goal.returns-in-Err-clause-err
returns-in-Err-clause-err g c =
    measure-stuck c.args.bonds.now c.args.a.now c.args.b.now c.requires.apart (g.R.Rig.state c.hold-held.new.live.rig) c.in_ok-live.ensures.ok c.args.volts c.args.ticks c.hold-held.result c.requires.by_fifty c.requires.most (c.hold-held.ensures.ok, c.hold-held.ensures.err) c.in-Err.ensures.down
