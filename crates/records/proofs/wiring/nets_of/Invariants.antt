use Rattle.std.proofs.Common.{◌≡◌, length, take}
use Rattle.std.specs.List.{sum_by}
use Rattle.records.proofs.wiring.nets_of.Given as goal

abbrev pub invariant-loop-short : goal.invariant-loop-short
invariant-loop-short l = l.nets ≡ sum_by (λ x. length x.nets) (take l.short-index l.shorts)
