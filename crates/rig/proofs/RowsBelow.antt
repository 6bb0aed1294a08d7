-- The joins of rows between points below n lie between such points.
use Rattle.std.proofs.Common.{ℕ, ◌<◌, List, [], ◌∷◌, Some, None, true, false}
use Rattle.std.specs.Prelude.{All, nat_le, if◌then◌else◌}
use Rattle.std.specs.List.{cons_option}
use Rattle.std.proofs.lemmas.List.Elements.{All-contains, All-cons, All-head, All-nil, All-tail}
use Rattle.partition.specs.Classes.{JoinsBelow}
use Rattle.rig.specs.declared.unit.Row.{Row}
use Rattle.rig.specs.declared.unit.Row.TheVariants.{Wire, Resistor, Diode, Leak, Arc, Charge}
use Rattle.rig.specs.Joins.{IsRowBelow, joins_of, most_join}

abbrev IsJoinBelow : ℕ → ℕ × ℕ → Type 0
IsJoinBelow n join = (join.0 < n) × (join.1 < n)

all_joins : (n : ℕ) (rows : List Row) → All (IsRowBelow n) rows → All (IsJoinBelow n) (joins_of rows)
all_joins n [] all = All-nil (IsJoinBelow n)
all_joins n (Wire a b ∷ rows) all = All-cons (IsJoinBelow n) (a, b) (joins_of rows) (All-head (IsRowBelow n) (Wire a b) rows all) (all_joins n rows (All-tail (IsRowBelow n) (Wire a b) rows all))
all_joins n (Resistor a b r ∷ rows) all =
    let rest = all_joins n rows (All-tail (IsRowBelow n) (Resistor a b r) rows all) in
    elim (nat_le r most_join) as (λ small. All (IsJoinBelow n) (cons_option (if small then Some (a, b) else None) (joins_of rows))) [
      | true ↦ All-cons (IsJoinBelow n) (a, b) (joins_of rows) (All-head (IsRowBelow n) (Resistor a b r) rows all) rest
      | false ↦ rest
    ]
all_joins n (Diode a b d ∷ rows) all = all_joins n rows (All-tail (IsRowBelow n) (Diode a b d) rows all)
all_joins n (Leak a b g ∷ rows) all = all_joins n rows (All-tail (IsRowBelow n) (Leak a b g) rows all)
all_joins n (Arc a b v ∷ rows) all = all_joins n rows (All-tail (IsRowBelow n) (Arc a b v) rows all)
all_joins n (Charge v x ∷ rows) all = all_joins n rows (All-tail (IsRowBelow n) (Charge v x) rows all)

pub joins_below : (n : ℕ) (rows : List Row) → All (IsRowBelow n) rows → JoinsBelow (joins_of rows) n
joins_below n rows all = λ a b found. All-contains (IsJoinBelow n) (joins_of rows) (a, b) (all_joins n rows all) found
