use Rattle.std.proofs.Common.{◌∙◌, rules}
use Rattle.std.specs.Cmp.{IsTotalOrder}
use Rattle.std.specs.Cmp.Lexicographic.{slice_cmp}
use Rattle.std.specs.Cmp.Rules.{comparing}
use Rattle.std.specs.Ordering.{nat_cmp}
use Rattle.std.proofs.lemmas.Map.Views.{btree_set_len-from_list}
use Rattle.report.proofs.Counted.{different-is}
use Rattle.report.proofs.counts.count_different.Goals as goal

total : IsTotalOrder (slice_cmp nat_cmp)
total = search (comparing, rules)

pub returns : goal.returns
returns c = c.len.ensures.len ∙ btree_set_len-from_list total c.args.names.now c.in_ok-set.set c.in_ok-set.ensures ∙ different-is c.args.names.now
