-- The moments of a clock.
use Rattle.std.specs.Prelude.{◌≡◌, ℕ, List, [], ◌∷◌, Option, Some, None, ⊤}

-- the moment now: the first one, or 0 where there is none
abbrev pub first_moment : List ℕ → ℕ
first_moment [] = 0
first_moment (now ∷ moments) = now

-- the moments from then on: the last one stays
abbrev pub later_moments : List ℕ → List ℕ
later_moments [] = []
later_moments (now ∷ []) = now ∷ []
later_moments (now ∷ next ∷ moments) = next ∷ moments

-- where told, a clock tells its first moment, and goes on to the next
abbrev pub Ticks : Option (List ℕ) → Option (List ℕ) → ℕ → Type 0
Ticks None new now = ⊤
Ticks (Some moments) new now = (now ≡ first_moment moments) × (new ≡ Some (later_moments moments))
