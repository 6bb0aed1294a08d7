use Rattle.std.proofs.Common.{◌≡◌, ℕ, List, take}
use Rattle.std.specs.Prelude.{option_map}
use Rattle.serials.specs.NameMaps.{at_name}
use Rattle.serials.specs.Scan.{is_pass}
use Rattle.report.specs.LotText.{first_test}
use Rattle.report.proofs.counts.first_tests.Given as goal

abbrev pub invariant-loop-noted : goal.invariant-loop-noted
invariant-loop-noted l = (serial : List ℕ) → at_name l.firsts serial ≡ option_map is_pass (first_test (take l.noted-index l.records) serial)
