-- What is known of rows without a fault.
use Rattle.std.specs.Prelude.{◌≡◌, ◌<◌, ◌≤◌, ℕ, List, [], ◌∷◌, ◌++◌, Option, None, Some, IsTrue, length}
use Rattle.partition.specs.NetTable.{NetTable}
use Rattle.partition.specs.declared.nets.NetsRefusal.{NetsRefusal}
use Rattle.partition.specs.declared.nets.NetsRefusal.TheVariants as nets
use Rattle.wirelist.specs.Clusters.{IsJudged}
use Rattle.wirelist.specs.Numbers.{point_words}
use Rattle.wirelist.specs.declared.refusal.WireRefusal.{WireRefusal}
use Rattle.wirelist.specs.declared.refusal.WireRefusal.TheVariants as wire
use Rattle.wirelist_reader.specs.Refusals.{text_faults, single_faults, field_faults}
use Rattle.wirelist_reader.specs.Kinds.{bad_fields, is_number, kind_of}
use Rattle.wirelist_reader.specs.Rows.{field_at, first_of, is_kind, number_at, points_in}
use Rattle.wirelist_reader.specs.declared.parts.PartEnds.{PartEnds}
use Rattle.wirelist_reader.specs.declared.kind.Kind.{Kind}
use Rattle.wirelist_reader.specs.declared.kind.Kind.TheVariants.{Part}

-- each field of the row is what it may be in a row of its kind
abbrev pub IsFit : List (List ℕ) → Type 0
IsFit row = (kind : Kind) → IsTrue (is_kind kind row) → bad_fields kind row ≡ []

-- a component that lies between judged points
abbrev pub LiesInside : NetTable → PartEnds → Type 0
LiesInside t part = IsJudged t part.a × IsJudged t part.b

-- each field of the row from a place on is a point, as a word
abbrev pub ArePoints : ℕ → List (List ℕ) → Type 0
ArePoints first row = (place : ℕ) → first ≤ place → place < length row → IsTrue (is_number point_words.low point_words.most (field_at row place))

-- the part and the number of points
pub record AreHeads (rows : List (List (List ℕ))) (part : List ℕ) (revision points : ℕ) : Type 0 where
  pub part_is : part ≡ field_at (first_of Part rows) 1
  pub revision_is : revision ≡ number_at (first_of Part rows) 2
  pub points_are : points ≡ points_in rows
  pub some : 1 ≤ points

-- the faults of a row of this kind that no name and no count of others makes
abbrev pub kind_alone_faults : Option Kind → List (List (List ℕ)) → List (List ℕ) → ℕ → List WireRefusal
kind_alone_faults None before row n = wire.UnknownKind n ∷ []
kind_alone_faults (Some kind) before row n = single_faults kind before n ++ field_faults kind row n

-- the faults of a row that no name and no count of others makes
abbrev pub alone_faults : List (List (List ℕ)) → List (List ℕ) → ℕ → List WireRefusal
alone_faults before row n = text_faults row n ++ kind_alone_faults (kind_of (field_at row 0)) before row n

-- how a refusal of nets is told
abbrev pub told : NetsRefusal → WireRefusal
told (nets.OutOfRange p) = wire.Nets (nets.OutOfRange p)
told (nets.Twice p) = wire.Nets (nets.Twice p)
told (nets.EmptyNet i) = wire.Nets (nets.EmptyNet i)
told nets.NoneJudged = wire.Nets nets.NoneJudged
told nets.Memory = wire.Memory
