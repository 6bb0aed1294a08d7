-- The laws of the difference.
use Rattle.std.specs.Prelude.{◌≡◌, ◌↔◌, ℕ, List, []}
use Rattle.partition.specs.NetTable.{NetTable, programmed_of}
use Rattle.difference.specs.Difference.{difference_of}
use Rattle.difference.specs.Rebuild.{rebuilt}
use Rattle.difference.specs.declared.wiring.Difference.{Difference}

-- no open, no short and no miswire
abbrev pub nothing : Difference
nothing = record { opens = []; shorts = []; miswires = [] }

-- a difference gives its partition back, and is empty exactly at the programmed one
pub record DifferenceLaw (t : NetTable) (m : List ℕ) : Type 0 where
  pub gives_back : rebuilt t (difference_of t m) ≡ m
  pub empty : (difference_of t m ≡ nothing) ↔ (m ≡ programmed_of t)
