use Rattle.std.proofs.Common.{◌≡◌, ◌≤◌, take}
use Rattle.report.specs.LotText.{results}
use Rattle.report.specs.Counting.{counted, total_of}
use Rattle.report.proofs.results.count_results.Given as goal

abbrev pub invariant-loop-noted : goal.invariant-loop-noted
invariant-loop-noted l = record {
  found : l.found ≡ counted (results (take l.noted-index l.records));
  few : total_of l.found ≤ l.noted-index;
}
