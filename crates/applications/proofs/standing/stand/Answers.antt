use Rattle.applications.proofs.one_application.Together.{IfErr-map, IfOk-map}
use Rattle.applications.proofs.one_application.Stood.{stand-err, stand-ok, stand-stuck}
use Rattle.applications.proofs.standing.stand.Goals as goal

pub returns-in-Ok-clause-ok : goal.returns-in-Ok-clause-ok
returns-in-Ok-clause-ok g c =
    IfOk-map c.conclude.result _ _
    (λ m f. stand-ok c.args.bonds.now c.args.a.now c.args.b.now c.requires.apart (g.R.Rig.state c.endure-held.new.live.rig) c.in_ok-live.ensures.ok c.args.test c.endure-held.result m.broken c.endure-held.ensures.ok c.in-Ok.ensures.down f)
    c.conclude.ensures.ok

pub returns-in-Ok-clause-err : goal.returns-in-Ok-clause-err
returns-in-Ok-clause-err g c =
    IfErr-map c.conclude.result _ _
    (λ stop f. stand-err c.args.bonds.now c.args.a.now c.args.b.now c.requires.apart (g.R.Rig.state c.endure-held.new.live.rig) c.in_ok-live.ensures.ok g.R.Rig.state c.args.test c.endure-held.result stop c.endure-held.ensures.ok c.endure-held.ensures.err c.in-Ok.ensures.down f)
    c.conclude.ensures.err

pub returns-in-Err-clause-err : goal.returns-in-Err-clause-err
returns-in-Err-clause-err g c =
    stand-stuck c.args.bonds.now c.args.a.now c.args.b.now c.requires.apart (g.R.Rig.state c.endure-held.new.live.rig) c.in_ok-live.ensures.ok c.args.test c.endure-held.result c.endure-held.ensures.ok c.endure-held.ensures.err c.in-Err.ensures.down
