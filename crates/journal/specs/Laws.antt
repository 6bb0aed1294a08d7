-- What the bytes of a journal can mean.
use Rattle.std.specs.Prelude.{◌≡◌, ℕ, List}
use Rattle.journal.specs.Format.{Holds, AtRest, Covers}

-- A file has one reading. It holds one list, which stands before an entry that it covers; it is not at rest where it covers one, and it covers one alone.
pub record HasOneReading (file : List ℕ) : Type 0 where
  pub one_list : (ps qs : List (List ℕ)) → Holds file ps → Holds file qs → ps ≡ qs
  pub held_before : (held bodies : List (List ℕ)) (body : List ℕ) → Holds file held → Covers file bodies body → held ≡ bodies
  pub rest_or_covers : (held bodies : List (List ℕ)) (body : List ℕ) → AtRest file held → Covers file bodies body → ⊥
  pub one_covered : (ps qs : List (List ℕ)) (a b : List ℕ) → Covers file ps a → Covers file qs b → (ps ≡ qs) × (a ≡ b)
