-- Records without the empty fields at their end.
use Rattle.std.specs.Prelude.{ℕ, ◌==◌, ◌&&◌, List, [], ◌∷◌, length, map, if◌then◌else◌}
use Rattle.csv.specs.Reading.{default_config, records, strip_bom}

-- a record without the empty fields at its end
abbrev pub filled : List (List ℕ) → List (List ℕ)
filled [] = []
filled (field ∷ fields) = if (length field == 0) && (length (filled fields) == 0) then [] else field ∷ filled fields

-- the records of a file as csv reads them, after a byte order mark, each without the empty fields at its end
abbrev pub rows_in : List ℕ → List (List (List ℕ))
rows_in bytes = map filled (records default_config (strip_bom bytes))
