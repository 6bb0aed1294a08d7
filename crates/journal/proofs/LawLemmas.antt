-- A file has one reading.
use Rattle.std.proofs.Common.{◌≡◌, ⊎_elim, ℕ, List, ◌∷◌, ◌++◌, sym, ◌∙◌, arith, append_assoc}
use Rattle.journal.specs.Format.{sized, written, Holds, AtRest, Covers}
use Rattle.journal.specs.Laws.{HasOneReading}
use Rattle.journal.proofs.Bytes.{written_unique, sized_unique}
use Rattle.journal.proofs.writing.Keeping.{covers_holds}

covered_split : (file : List ℕ) (bodies : List (List ℕ)) (body : List ℕ) (c : Covers file bodies body) → file ≡ written bodies ++ (c.gate ∷ (sized body ++ 0 ∷ c.rest))
covered_split file bodies body c = c.bytes ∙ append_assoc (written bodies) (c.gate ∷ sized body) (0 ∷ c.rest)

-- a file holds one list
pub one_list : (file : List ℕ) (ps qs : List (List ℕ)) → Holds file ps → Holds file qs → ps ≡ qs
one_list file ps qs first second = ⊎_elim
    (λ short. ⊎_elim (λ short'. short.1 ∙ sym short'.1) (λ read. absurd (omega (arith, short.0, read.0))) second)
    (λ read. ⊎_elim
    (λ short. absurd (omega (arith, short.0, read.0)))
    (λ read'. (written_unique ps qs read.1.rest read'.1.rest read.1.fit read'.1.fit read.1.closed read'.1.closed (sym read.1.bytes ∙ read'.1.bytes)).0)
    second)
    first

-- the list that is held stands before the covered entry
pub held_before : (file : List ℕ) (held bodies : List (List ℕ)) (body : List ℕ) → Holds file held → Covers file bodies body → held ≡ bodies
held_before file held bodies body holds c = one_list file held bodies holds (covers_holds file bodies body c)

-- no file is at rest and covers an entry
pub rest_or_covers : (file : List ℕ) (held bodies : List (List ℕ)) (body : List ℕ) → AtRest file held → Covers file bodies body → ⊥
rest_or_covers file held bodies body rest c =
    let tails = (written_unique held bodies (0 ∷ rest.rest) (c.gate ∷ (sized body ++ 0 ∷ c.rest)) rest.fit c.fit (λ one. cc) c.not_open (sym rest.bytes ∙ covered_split file bodies body c)).1 in
    let gates : 0 ≡ c.gate = cc in
    c.not_shut (sym gates)

-- it covers one entry
pub one_covered : (file : List ℕ) (ps qs : List (List ℕ)) (a b : List ℕ) → Covers file ps a → Covers file qs b → (ps ≡ qs) × (a ≡ b)
one_covered file ps qs a b first second =
    let both = written_unique ps qs (first.gate ∷ (sized a ++ 0 ∷ first.rest)) (second.gate ∷ (sized b ++ 0 ∷ second.rest)) first.fit second.fit first.not_open second.not_open (sym (covered_split file ps a first) ∙ covered_split file qs b second) in
    let tails : sized a ++ 0 ∷ first.rest ≡ sized b ++ 0 ∷ second.rest = cc in
    (both.0, (sized_unique a b (0 ∷ first.rest) (0 ∷ second.rest) first.fits second.fits tails).0)

pub one_reading : (file : List ℕ) → HasOneReading file
one_reading file = record { one_list = one_list file; held_before = held_before file; rest_or_covers = rest_or_covers file; one_covered = one_covered file }
