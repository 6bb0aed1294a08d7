-- What an opening means.
use Rattle.std.specs.Prelude.{◌≡◌, ℕ, List}
use Rattle.ledger.specs.Opening.{Opening, Says}

-- a file gives one answer
abbrev pub OpensInOneWay : List ℕ → Type 0
OpensInOneWay file = (a b : Opening) → Says file a → Says file b → a ≡ b
