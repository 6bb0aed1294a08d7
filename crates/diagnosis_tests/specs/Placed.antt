-- Two groups of points.
use Rattle.std.specs.Prelude.{ℕ, List, [], ◌∷◌}

-- the points 0 and 1 as a group, and 2 as another
abbrev pub groups : List (List ℕ)
groups = (0 ∷ 1 ∷ []) ∷ (2 ∷ []) ∷ []
