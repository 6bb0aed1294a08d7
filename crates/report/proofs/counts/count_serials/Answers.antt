use Rattle.std.proofs.Common.{◌∙◌, ℕ, List, false, ap}
use Rattle.std.specs.Prelude.{filter, is_some, unwrap_or}
use Rattle.serials.specs.NameMaps.{at_name}
use Rattle.report.specs.LotText.{different}
use Rattle.report.proofs.Counted.{counts_are}
use Rattle.report.proofs.counts.count_serials.Goals as goal

pub returns : goal.returns
returns c =
    counts_are c.args.records.now (at_name c.in_ok-firsts.firsts) c.in_ok-enrolled.enrolled.items c.in_ok-tested.tested.items c.in_ok-passed.passed.items c.in_ok-released.released.items c.in_ok-scrapped.scrapped.items _
    c.in_ok-firsts.ensures c.in_ok-enrolled.ensures c.in_ok-released.ensures c.in_ok-scrapped.ensures
    (c.in_ok-tested.ensures ∙ ap (λ (ns : List (List ℕ)). filter (λ q. is_some (at_name c.in_ok-firsts.firsts q)) ns) c.as_slice.ensures.value)
    (c.in_ok-passed.ensures ∙ ap (λ (ns : List (List ℕ)). filter (λ q. unwrap_or (at_name c.in_ok-firsts.firsts q) false) ns) c.as_slice-2.ensures.value)
    (c.in_ok-count_different.ensures ∙ ap different c.as_slice-3.ensures.value)
    (c.in_ok-count_different-2.ensures ∙ ap different c.as_slice-4.ensures.value)
    (c.in_ok-count_different-3.ensures ∙ ap different c.as_slice-5.ensures.value)
    (c.in_ok-count_different-4.ensures ∙ ap different c.as_slice-6.ensures.value)
    (c.in_ok-count_different-5.ensures ∙ ap different c.as_slice-7.ensures.value)
