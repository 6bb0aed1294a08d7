use Rattle.std.proofs.Common.{◌≡◌, [], ◌∷◌, Err, sym, ◌∙◌, ap, subst}
use Rattle.rig.specs.declared.rig.RigStop.TheVariants.{Failed}
use Rattle.std.specs.Prelude.{All, OnOk}
use Rattle.rig.specs.Calls.{AreGroups}
use Rattle.continuity_check.specs.Compared.{compared_with}
use Rattle.continuity_check.specs.Trials.{Compares, StopsAt}
use Rattle.continuity_check.proofs.Checking.{net_groups, rest_is, compared_in-is}
use Rattle.continuity_check.proofs.check.check_net.Goals as goal

pub check_points-requires-clause-groups : goal.check_points-requires-clause-groups
check_points-requires-clause-groups g c =
    subst (All (λ p. AreGroups (g.R.Rig.state c.args.seat.now).points (c.index-net-0.result ∷ []) (p ∷ []))) (sym (rest_is c.args.net.now))
    (net_groups (g.R.Rig.state c.args.seat.now).points c.index-net-0.result c.args.net.now c.requires.net c.index-net-0.is)

pub returns-clause-compares : goal.returns-clause-compares
returns-clause-compares g c =
    subst (λ l. OnOk c.check_points.result (Compares (g.R.Rig.state c.args.seat.now) (g.R.Rig.state c.check_points.new.seat) c.args.sheet.now c.check_points.new.sheet l))
    (ap (compared_with c.args.name.now c.index-net-0.result) (rest_is c.args.net.now)
    ∙ compared_in-is c.args.name.now c.index-net-0.result c.args.net.now c.requires.net.some c.requires.net.ascending c.index-net-0.is)
    c.check_points.ensures.compares

pub returns-clause-failed : goal.returns-clause-failed
returns-clause-failed g c =
    subst (λ l. c.check_points.result ≡ Err Failed → StopsAt (g.R.Rig.state c.args.seat.now) (g.R.Rig.state c.check_points.new.seat) c.args.sheet.now l)
    (ap (compared_with c.args.name.now c.index-net-0.result) (rest_is c.args.net.now)
    ∙ compared_in-is c.args.name.now c.index-net-0.result c.args.net.now c.requires.net.some c.requires.net.ascending c.index-net-0.is)
    c.check_points.ensures.failed
