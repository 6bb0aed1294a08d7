-- The bytes of a journal.
use Rattle.std.specs.Prelude.{◌≡◌, ◌≢◌, ◌⊎◌, ℕ, ◌+◌, ◌<◌, ◌≤◌, List, [], ◌∷◌, ◌++◌, length}
use Rattle.std.specs.List.{flat_map, sum_by, All}
use Rattle.std.specs.Int.{w32, to_be_bytes}
use Rattle.journal.specs.declared.TheConstants.{LONGEST_BODY, LONGEST_FILE}

-- WHTSJRN1
abbrev pub magic : List ℕ
magic = 0x57 ∷ 0x48 ∷ 0x54 ∷ 0x53 ∷ 0x4a ∷ 0x52 ∷ 0x4e ∷ 0x31 ∷ []

-- four bytes of length, and the body
unfoldable pub sized : List ℕ → List ℕ
sized body = to_be_bytes w32 (length body) ++ body

-- an entry: an open gate, four bytes of length, and the body
abbrev pub entry : List ℕ → List ℕ
entry body = 1 ∷ sized body

abbrev pub Fits : List ℕ → Type 0
Fits body = length body ≤ LONGEST_BODY

abbrev pub AllFit : List (List ℕ) → Type 0
AllFit bodies = All Fits bodies

-- the magic and the entries of these bodies
abbrev pub written : List (List ℕ) → List ℕ
written bodies = magic ++ flat_map entry bodies

-- the place of the gate behind these entries
abbrev pub end_after : List (List ℕ) → ℕ
end_after bodies = 8 + sum_by (λ body. 5 + length body) bodies

-- behind a gate at this place there is no room for a longest entry
abbrev pub IsFull : ℕ → Type 0
IsFull end = LONGEST_FILE < end + 262144

-- the end of the file, or a gate that is not open
abbrev pub IsClosed : List ℕ → Type 0
IsClosed [] = Unit {0}
IsClosed (gate ∷ rest) = gate ≢ 1

-- These entries, and behind them what is not read.
pub record IsRead (file : List ℕ) (bodies : List (List ℕ)) : Type 0 where
  pub rest : List ℕ
  pub bytes : file ≡ written bodies ++ rest
  pub fit : AllFit bodies
  pub closed : IsClosed rest

-- What a file holds. At most 9 bytes hold no entry.
abbrev pub Holds : List ℕ → List (List ℕ) → Type 0
Holds file bodies = ((length file ≤ 9) × (bodies ≡ [])) ⊎ ((9 < length file) × IsRead file bodies)

-- These entries, and a closed gate of 0 behind them.
pub record AtRest (file : List ℕ) (bodies : List (List ℕ)) : Type 0 where
  pub rest : List ℕ
  pub bytes : file ≡ written bodies ++ 0 ∷ rest
  pub fit : AllFit bodies

-- One more whole entry stands behind a gate that is neither 0 nor 1, and a gate of 0 behind it: an append was stopped as it opened the gate.
pub record Covers (file : List ℕ) (bodies : List (List ℕ)) (body : List ℕ) : Type 0 where
  pub gate : ℕ
  pub not_shut : gate ≢ 0
  pub not_open : gate ≢ 1
  pub rest : List ℕ
  pub bytes : file ≡ written bodies ++ gate ∷ sized body ++ 0 ∷ rest
  pub fit : AllFit bodies
  pub fits : Fits body

-- What the journal's own writes make, wherever they are stopped.
abbrev pub IsSound : List ℕ → Type 0
IsSound file = (length file ≤ 9) ⊎ ((bodies : List (List ℕ)) × AtRest file bodies) ⊎ ((bodies : List (List ℕ)) × (body : List ℕ) × Covers file bodies body)

-- the old entries, with the new one, or with its gate half open
abbrev pub IsBeforeOrAfter : List (List ℕ) → List ℕ → List ℕ → Type 0
IsBeforeOrAfter bodies body file = AtRest file bodies ⊎ Covers file bodies body ⊎ AtRest file (bodies ++ body ∷ [])
