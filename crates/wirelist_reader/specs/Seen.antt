-- What is kept of the rows that were checked.
use Rattle.std.specs.Prelude.{◌≡◌, ℕ, bytes_eq, List, String, filter, length}
use Rattle.std.specs.List.{list_any}
use Rattle.std.specs.BTreeSet.{BTreeSet, contains_text}
use Rattle.std.specs.declared.alloc.Global.{Global}
use Rattle.wirelist_reader.specs.Rows.{is_component}
use Rattle.wirelist_reader.specs.Refusals.{names_in}

-- the set has exactly these names
abbrev pub AreNames : BTreeSet (String Global) → List (List ℕ) → Type 0
AreNames set names = (name : List ℕ) → contains_text set name ≡ list_any (bytes_eq name) names

-- the set has the names of their nets and components, and the number is that of their components
pub record IsSeen (before : List (List (List ℕ))) (names : BTreeSet (String Global)) (components : ℕ) : Type 0 where
  pub names_are : AreNames names (names_in before)
  pub components_are : components ≡ length (filter is_component before)
