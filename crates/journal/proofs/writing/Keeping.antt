-- What a file at rest, and one with a gate half open, hold.
use Rattle.std.proofs.Common.{◌≡◌, ◌≢◌, ◌⊎◌, inl, inr, ⊎_elim, ℕ, ◌≤◌, List, [], ◌∷◌, ◌++◌, length, refl, ◌∙◌, subst, arith, append_assoc, length-append}
use Rattle.std.proofs.lemmas.Bool.{cases_lt}
use Rattle.journal.specs.Format.{sized, entry, written, magic, AllFit, AtRest, Covers, Holds, IsSound, IsBeforeOrAfter}
use Rattle.std.specs.List.{flat_map}
use Rattle.journal.proofs.Bytes.{length-sized}

-- behind the magic and one byte there is room for an entry only in more than 9 bytes
no_entry_in : (bodies : List (List ℕ)) (rest : List ℕ) (gate : ℕ) → length (written bodies ++ gate ∷ rest) ≤ 9 → bodies ≡ []
no_entry_in [] rest gate short = refl
no_entry_in (body ∷ bodies) rest gate short = absurd (omega (arith, short, length-append (written (body ∷ bodies)) (gate ∷ rest), length-append magic (flat_map entry (body ∷ bodies)), length-append (entry body) (flat_map entry bodies), length-sized body))

closed_holds : (file : List ℕ) (bodies : List (List ℕ)) (gate : ℕ) (rest : List ℕ) → file ≡ written bodies ++ gate ∷ rest → gate ≢ 1 → AllFit bodies → Holds file bodies
closed_holds file bodies gate rest whole shut fit = ⊎_elim
    (λ long. inr (long, record { rest = gate ∷ rest; bytes = whole; fit = fit; closed = shut }))
    (λ short. inl (short, no_entry_in bodies rest gate (subst (λ (f : List ℕ). length f ≤ 9) whole short)))
    (cases_lt 9 (length file))

pub at_rest_holds : (file : List ℕ) (bodies : List (List ℕ)) → AtRest file bodies → Holds file bodies
at_rest_holds file bodies rest = closed_holds file bodies 0 rest.rest rest.bytes (λ one. cc) rest.fit

pub covers_holds : (file : List ℕ) (bodies : List (List ℕ)) (body : List ℕ) → Covers file bodies body → Holds file bodies
covers_holds file bodies body covers =
    closed_holds file bodies covers.gate (sized body ++ 0 ∷ covers.rest) (covers.bytes ∙ append_assoc (written bodies) (covers.gate ∷ sized body) (0 ∷ covers.rest)) covers.not_open covers.fit

-- what an append may leave holds the old entries, or these and the new one
pub before_or_after_holds : (file : List ℕ) (bodies : List (List ℕ)) (body : List ℕ) → IsBeforeOrAfter bodies body file → Holds file bodies ⊎ Holds file (bodies ++ body ∷ [])
before_or_after_holds file bodies body left = ⊎_elim
    (λ before. inl (at_rest_holds file bodies before))
    (⊎_elim (λ covers. inl (covers_holds file bodies body covers)) (λ after. inr (at_rest_holds file (bodies ++ body ∷ []) after)))
    left

-- and it is sound
pub before_or_after_sound : (file : List ℕ) (bodies : List (List ℕ)) (body : List ℕ) → IsBeforeOrAfter bodies body file → IsSound file
before_or_after_sound file bodies body left = ⊎_elim
    (λ before. inr (inl (bodies, before)))
    (⊎_elim (λ covers. inr (inr (bodies, body, covers))) (λ after. inr (inl (bodies ++ body ∷ [], after))))
    left
