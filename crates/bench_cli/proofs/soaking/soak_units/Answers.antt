use Rattle.std.proofs.Common.{◌∙◌}
use Rattle.applications.proofs.one_application.Together.{IfOk-map}
use Rattle.soak_pair.specs.Pair.{soak_line}
use Rattle.bench_cli.specs.Soaking.SoakEnds.{soaked}
use Rattle.bench_cli.proofs.facts.SoakFacts.{good_countable, bad_countable, line_is}
use Rattle.bench_cli.proofs.soaking.soak_units.Goals as goal

pub line_of-requires-clause-good : goal.line_of-requires-clause-good
line_of-requires-clause-good g c = good_countable _ _ c.in-Ok.field-0.good c.in-Ok.ensures.good c.in-Ok.ensures.rig

pub line_of-requires-clause-bad : goal.line_of-requires-clause-bad
line_of-requires-clause-bad g c = bad_countable _ _ c.in-Ok.field-0.bad c.in-Ok.ensures.bad c.in-Ok.ensures.rig

pub returns-in-Ok : goal.returns-in-Ok
returns-in-Ok g c =
    soaked c.in-Ok.field-0.rig c.in-Ok.ensures.rig
    (c.write_text.ensures (soak_line c.args.points) (IfOk-map c.line_of.result _ _ (λ line is. is ∙ line_is c.args.points c.in-Ok.field-0.good c.in-Ok.field-0.bad c.in-Ok.ensures.good c.in-Ok.ensures.bad) c.line_of.ensures))
