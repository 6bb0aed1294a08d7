-- Maps from names.
use Rattle.std.specs.Prelude.{ℕ, List, Option}
use Rattle.std.specs.BTreeMap.{BTreeMap, get}
use Rattle.std.specs.Ordering.{nat_cmp}
use Rattle.std.specs.Cmp.Lexicographic.{slice_cmp}

-- what the map has under the name
abbrev pub at_name : {X : Type 0} → BTreeMap (List ℕ) X → List ℕ → Option X
at_name m name = get (slice_cmp nat_cmp) m name
