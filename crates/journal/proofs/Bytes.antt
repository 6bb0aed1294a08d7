-- The bytes of entries.
use Rattle.std.proofs.Common.{◌≡◌, ℕ, suc, ◌+◌, List, [], ◌∷◌, ◌++◌, length, take, drop, refl, sym, ◌∙◌, ap, arith, append_assoc, length-append}
use Rattle.std.proofs.lemmas.List.{take_at, drop_at, append-nil, append_cancel_left}
use Rattle.std.proofs.lemmas.Nat.{from_be_bytes-to_be_bytes_4}
use Rattle.std.specs.Int.{w32, to_be_bytes, from_be_bytes}
use Rattle.std.proofs.lemmas.List.Sums.{sum_by-cons}
use Rattle.std.specs.List.{flat_map, sum_by}
use Rattle.journal.specs.Format.{sized, entry, Fits, AllFit, written, end_after, IsClosed, magic}

length_field : (n : ℕ) → length (to_be_bytes w32 n) ≡ 4
length_field n = refl

pub length-sized : (body : List ℕ) → length (sized body) ≡ length body + 4
unfolding sized
length-sized body = omega (arith, length-append (to_be_bytes w32 (length body)) body, length_field (length body))

same_prefix : (a b x y : List ℕ) → length a ≡ length b → a ++ x ≡ b ++ y → (a ≡ b) × (x ≡ y)
same_prefix a b x y long same = (
  sym (take_at a x (length a) refl) ∙ ap (take (length a)) same ∙ take_at b y (length a) (sym long),
  sym (drop_at a x (length a) refl) ∙ ap (drop (length a)) same ∙ drop_at b y (length a) (sym long),
)

-- a body and what is behind it can be told apart
pub sized_unique : (a b x y : List ℕ) → Fits a → Fits b → sized a ++ x ≡ sized b ++ y → (a ≡ b) × (x ≡ y)
unfolding sized
sized_unique a b x y fits fits' same =
    let regrouped : to_be_bytes w32 (length a) ++ (a ++ x) ≡ to_be_bytes w32 (length b) ++ (b ++ y) = sym (append_assoc (to_be_bytes w32 (length a)) a x) ∙ same ∙ append_assoc (to_be_bytes w32 (length b)) b y in
    let parts = same_prefix (to_be_bytes w32 (length a)) (to_be_bytes w32 (length b)) (a ++ x) (b ++ y) refl regrouped in
    let long : length a ≡ length b = sym (from_be_bytes-to_be_bytes_4 (length a) (omega arith)) ∙ ap (from_be_bytes w32) parts.0 ∙ from_be_bytes-to_be_bytes_4 (length b) (omega arith) in
    same_prefix a b x y long parts.1

-- no whole entry stands at the beginning
abbrev pub HasNoEntry : List ℕ → Type 0
HasNoEntry rest = (body after : List ℕ) → Fits body → rest ≡ entry body ++ after → ⊥

pub closed_no_entry : (rest : List ℕ) → IsClosed rest → HasNoEntry rest
closed_no_entry [] closed body after fits same = cc
closed_no_entry (gate ∷ rest) closed body after fits same = closed (cc)

-- so can all entries that no other follows
entries_same : (ps qs : List (List ℕ)) (x y : List ℕ) → AllFit ps → AllFit qs → HasNoEntry x → HasNoEntry y → flat_map entry ps ++ x ≡ flat_map entry qs ++ y → (ps ≡ qs) × (x ≡ y)
entries_same [] [] x y fit fit' none none' same = (refl, same)
entries_same [] (b ∷ qs) x y fit fit' none none' same =
    absurd (none b (flat_map entry qs ++ y) (fit' 0 [] (omega arith)) (same ∙ append_assoc (entry b) (flat_map entry qs) y))
entries_same (a ∷ ps) [] x y fit fit' none none' same =
    absurd (none' a (flat_map entry ps ++ x) (fit 0 [] (omega arith)) (sym same ∙ append_assoc (entry a) (flat_map entry ps) x))
entries_same (a ∷ ps) (b ∷ qs) x y fit fit' none none' same =
    let tails : (sized a ++ flat_map entry ps) ++ x ≡ (sized b ++ flat_map entry qs) ++ y = ap (drop 1) same in
    let regrouped : sized a ++ (flat_map entry ps ++ x) ≡ sized b ++ (flat_map entry qs ++ y) = sym (append_assoc (sized a) (flat_map entry ps) x) ∙ tails ∙ append_assoc (sized b) (flat_map entry qs) y in
    let parts = sized_unique a b (flat_map entry ps ++ x) (flat_map entry qs ++ y) (fit 0 [] (omega arith)) (fit' 0 [] (omega arith)) regrouped in
    let rest = entries_same ps qs x y (λ k d lt. fit (suc k) d (omega arith)) (λ k d lt. fit' (suc k) d (omega arith)) none none' parts.1 in
    (cc (parts.0, rest.0), rest.1)

pub written_same : (ps qs : List (List ℕ)) (x y : List ℕ) → AllFit ps → AllFit qs → HasNoEntry x → HasNoEntry y → written ps ++ x ≡ written qs ++ y → (ps ≡ qs) × (x ≡ y)
written_same ps qs x y fit fit' none none' same =
    entries_same ps qs x y fit fit' none none' (append_cancel_left magic (flat_map entry ps ++ x) (flat_map entry qs ++ y) (sym (append_assoc magic (flat_map entry ps) x) ∙ same ∙ append_assoc magic (flat_map entry qs) y))

pub written_unique : (ps qs : List (List ℕ)) (x y : List ℕ) → AllFit ps → AllFit qs → IsClosed x → IsClosed y → written ps ++ x ≡ written qs ++ y → (ps ≡ qs) × (x ≡ y)
written_unique ps qs x y fit fit' closed closed' same = written_same ps qs x y fit fit' (closed_no_entry x closed) (closed_no_entry y closed') same

length-entries : (bodies : List (List ℕ)) → length (flat_map entry bodies) ≡ sum_by (λ body. 5 + length body) bodies
length-entries [] = refl
length-entries (body ∷ bodies) = omega (arith, length-append (entry body) (flat_map entry bodies), length-sized body, length-entries bodies, sum_by-cons (λ (b : List ℕ). 5 + length b) body bodies)

pub length-written : (bodies : List (List ℕ)) → length (written bodies) ≡ end_after bodies
length-written bodies = omega (arith, length-append magic (flat_map entry bodies), length-entries bodies)

flat_map-push : (bodies : List (List ℕ)) (body : List ℕ) → flat_map entry (bodies ++ body ∷ []) ≡ flat_map entry bodies ++ entry body
flat_map-push [] body = append-nil (entry body)
flat_map-push (b ∷ bodies) body = ap (λ (l : List ℕ). entry b ++ l) (flat_map-push bodies body) ∙ sym (append_assoc (entry b) (flat_map entry bodies) (entry body))

pub written-push : (bodies : List (List ℕ)) (body : List ℕ) → written (bodies ++ body ∷ []) ≡ written bodies ++ entry body
written-push bodies body = ap (λ (l : List ℕ). magic ++ l) (flat_map-push bodies body) ∙ sym (append_assoc magic (flat_map entry bodies) (entry body))

pub length-written-push : (bodies : List (List ℕ)) (body : List ℕ) → length (written (bodies ++ body ∷ [])) ≡ length (written bodies) + 5 + length body
length-written-push bodies body = omega (arith, ap length (written-push bodies body), length-append (written bodies) (entry body), length-sized body)
