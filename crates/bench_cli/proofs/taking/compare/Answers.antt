use Rattle.std.proofs.Common.{◌≡◌, true, rules, refl}
use Rattle.bench_cli.proofs.ways.TakingLemmas.{difference_stops}
use Rattle.bench_cli.proofs.taking.compare.Goals as goal

pub returns-then-wanted-points-clause-stops : goal.returns-then-wanted-points-clause-stops
returns-then-wanted-points-clause-stops g c = λ harness wires takes read.
    let other : c.points-wanted.result ≡ c.points-points.result → ⊥ = search rules in
    difference_stops true _ _ _ refl c.args.sim c.points-points.result c.points-wanted.result c.args.p c.points-points.ensures.points c.points-wanted.ensures.points other takes read c.end_with_difference.ensures
