use Rattle.std.proofs.Common.{map, ap, ◌∙◌}
use Rattle.partition.specs.Classes.{points_below}
use Rattle.cluster_groups.specs.Numbered.{Numbered}
use Rattle.hv.specs.Routes.{numbered_pair, tested_clusters}
use Rattle.hv.proofs.Pairs.{cluster_pairs-are}
use Rattle.hv.proofs.routes.cluster_routes.Goals as goal

pub returns-clause-pairs : goal.returns-clause-pairs
returns-clause-pairs c =
    cluster_pairs-are c.args.p.now c.in_ok-numbered.ensures.clusterable c.in_ok-pairs.pairs.items
    (c.in_ok-pairs.ensures ∙ ap (λ (n : Numbered). map (numbered_pair n.numbers) (points_below (tested_clusters n.count))) c.in_ok-numbered.ensures.clusters)
