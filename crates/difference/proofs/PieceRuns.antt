-- The pieces that points make as they stand, where the points of each net and class stand together.
use Rattle.std.proofs.Common.{◌≡◌, inl, inr, ℕ, zero, suc, ◌+◌, ◌-◌, ◌<◌, ◌≤◌, true, false, ◌&&◌, ◌==◌, List, [], ◌∷◌, ◌++◌, length, get_or, set, fold, refl, sym, ◌∙◌, ap, arith, append_assoc, ltb}
use Rattle.std.specs.List.{flat_map, range_with_len}
use Rattle.std.proofs.lemmas.List.{append-nil, length_push, get_or_push, set_at}
use Rattle.std.proofs.lemmas.List.Sums.{fold-append}
use Rattle.std.proofs.lemmas.Bool.{lt-ltb, eq-eqb, ne_eqb, and_from, and_left, and_right, cond-true, cond-false, cases_eq}
use Rattle.difference.specs.Measured.{no_piece, goes_on, with_point}
use Rattle.difference.specs.declared.wiring.Piece.{Piece}
use Rattle.partition.proofs.Members.{In, In-append_cases}
use Rattle.partition.proofs.tables.NetLaws.{index-In}

abbrev pub piece : ℕ → ℕ → List ℕ → Piece
piece n c points = record { net = n; class = c; points = points }

-- the piece of some points, if there are any
abbrev pub piece_if : ℕ → ℕ → List ℕ → List Piece
piece_if n c [] = []
piece_if n c (p ∷ ps) = piece n c (p ∷ ps) ∷ []

-- no piece of the list is of this net and class
abbrev pub Fresh : ℕ → ℕ → List Piece → Type 0
Fresh n c pieces = (x : Piece) → In x pieces → (x.net == n && x.class == c) ≡ false

-- ---- one point

fresh-goes_on : (n c : ℕ) (pieces : List Piece) → Fresh n c pieces → goes_on pieces n c ≡ false
fresh-goes_on n c [] fresh = refl
fresh-goes_on n c (y ∷ ys) fresh =
    let last = get_or (y ∷ ys) (length (y ∷ ys) - 1) no_piece in
    and_right (ltb 0 (length (y ∷ ys))) (last.net == n && last.class == c) (fresh last (index-In (length (y ∷ ys) - 1) no_piece (y ∷ ys) (omega arith)))

with_point-new : (n c p : ℕ) (pieces : List Piece) → Fresh n c pieces → with_point pieces n c p ≡ pieces ++ piece n c (p ∷ []) ∷ []
with_point-new n c p pieces fresh = cond-false (goes_on pieces n c) _ _ (fresh-goes_on n c pieces fresh)

last_at : (pieces : List Piece) (x : Piece) → length (pieces ++ x ∷ []) - 1 ≡ length pieces
last_at pieces x = omega (arith, length_push pieces x)

last_is : (pieces : List Piece) (x : Piece) → get_or (pieces ++ x ∷ []) (length (pieces ++ x ∷ []) - 1) no_piece ≡ x
last_is pieces x = get_or_push pieces x no_piece (length (pieces ++ x ∷ []) - 1) (sym (last_at pieces x))

with_point-same : (n c p : ℕ) (pieces : List Piece) (ps : List ℕ) → with_point (pieces ++ piece n c ps ∷ []) n c p ≡ pieces ++ piece n c (ps ++ p ∷ []) ∷ []
with_point-same n c p pieces ps =
    let all = pieces ++ piece n c ps ∷ [] in
    let last = last_is pieces (piece n c ps) in
    let own : (get_or all (length all - 1) no_piece).net ≡ n = ap (λ (x : Piece). x.net) last in
    let class : (get_or all (length all - 1) no_piece).class ≡ c = ap (λ (x : Piece). x.class) last in
    let test : goes_on all n c ≡ true =
    and_from (ltb 0 (length all)) _ (lt-ltb 0 (length all) (omega (arith, length_push pieces (piece n c ps)))) (and_from _ _ (eq-eqb _ n own) (eq-eqb _ c class)) in
    cond-true (goes_on all n c) _ _ test
    ∙ ap (λ (x : Piece). set all (length all - 1) (piece x.net x.class (x.points ++ p ∷ []))) last
    ∙ set_at pieces (piece n c ps) [] (piece n c (ps ++ p ∷ [])) (length all - 1) (sym (last_at pieces (piece n c ps)))

-- ---- the points of one net and class

module _ (net class : ℕ → ℕ) where
  abbrev pub along : List Piece → List ℕ → List Piece
  along pieces points = fold (λ made p. with_point made (net p) (class p) p) pieces points

  abbrev pub AreOf : ℕ → ℕ → List ℕ → Type 0
  AreOf n c ps = (p : ℕ) → In p ps → (net p ≡ n) × (class p ≡ c)

  run_on : (n c : ℕ) (pieces : List Piece) (qs ps : List ℕ) → AreOf n c ps → along (pieces ++ piece n c qs ∷ []) ps ≡ pieces ++ piece n c (qs ++ ps) ∷ []
  run_on n c pieces qs [] of = ap (λ (zs : List ℕ). pieces ++ piece n c zs ∷ []) (sym (append-nil qs))
  run_on n c pieces qs (p ∷ ps) of =
      let keys = of p (inl refl) in
      ap (λ (k : ℕ). along (with_point (pieces ++ piece n c qs ∷ []) k (class p) p) ps) keys.0
      ∙ ap (λ (k : ℕ). along (with_point (pieces ++ piece n c qs ∷ []) n k p) ps) keys.1
      ∙ ap (λ (made : List Piece). along made ps) (with_point-same n c p pieces qs)
      ∙ run_on n c pieces (qs ++ p ∷ []) ps (λ q i. of q (inr i))
      ∙ ap (λ (zs : List ℕ). pieces ++ piece n c zs ∷ []) (append_assoc qs (p ∷ []) ps)

  run : (n c : ℕ) (pieces : List Piece) (ps : List ℕ) → AreOf n c ps → Fresh n c pieces → along pieces ps ≡ pieces ++ piece_if n c ps
  run n c pieces [] of fresh = sym (append-nil pieces)
  run n c pieces (p ∷ ps) of fresh =
      let keys = of p (inl refl) in
      ap (λ (k : ℕ). along (with_point pieces k (class p) p) ps) keys.0
      ∙ ap (λ (k : ℕ). along (with_point pieces n k p) ps) keys.1
      ∙ ap (λ (made : List Piece). along made ps) (with_point-new n c p pieces fresh)
      ∙ run_on n c pieces (p ∷ []) ps (λ q i. of q (inr i))

  -- ---- the points of one net, class after class

  piece_if-of : (n c : ℕ) (ps : List ℕ) (x : Piece) → In x (piece_if n c ps) → (x.net ≡ n) × (x.class ≡ c)
  piece_if-of n c [] x i = absurd i
  piece_if-of n c (p ∷ ps) x (inl e) = (ap (λ (y : Piece). y.net) (sym e), ap (λ (y : Piece). y.class) (sym e))
  piece_if-of n c (p ∷ ps) x (inr i) = absurd i

  -- the pieces of this net are of classes before c
  abbrev Before : ℕ → ℕ → List Piece → Type 0
  Before n c pieces = (x : Piece) → In x pieces → x.net ≡ n → x.class < c

  before-fresh : (n c : ℕ) (pieces : List Piece) → Before n c pieces → Fresh n c pieces
  before-fresh n c pieces before x i = elim (cases_eq x.net n) as (λ _. (x.net == n && x.class == c) ≡ false) [
    | inl same ↦ and_right (x.net == n) (x.class == c) (ne_eqb x.class c (λ e. let less = before x i same in absurd (omega arith)))
    | inr other ↦ and_left (x.net == n) (x.class == c) (ne_eqb x.net n other)
  ]

  row : (n : ℕ) (seg : ℕ → List ℕ) (a k : ℕ) (pieces : List Piece) → ((c : ℕ) → a ≤ c → c < a + k → AreOf n c (seg c)) → Before n a pieces →
      along pieces (flat_map seg (range_with_len a k)) ≡ pieces ++ flat_map (λ c. piece_if n c (seg c)) (range_with_len a k)
  row n seg a zero pieces of before = sym (append-nil pieces)
  row n seg a (suc k) pieces of before =
      let rest = flat_map seg (range_with_len (a + 1) k) in
      let first = piece_if n a (seg a) in
      let next : Before n (a + 1) (pieces ++ first) = λ x i same. elim (In-append_cases x pieces first i) as (λ _. x.class < a + 1) [
        | inl old ↦ let less = before x old same in omega arith
        | inr new ↦ let is = (piece_if-of n a (seg a) x new).1 in omega arith
      ] in
      fold-append (λ (made : List Piece) (p : ℕ). with_point made (net p) (class p) p) pieces (seg a) rest
      ∙ ap (λ (made : List Piece). along made rest) (run n a pieces (seg a) (of a (omega arith) (omega arith)) (before-fresh n a pieces before))
      ∙ row n seg (a + 1) k (pieces ++ first) (λ c low high. of c (omega arith) (omega arith)) next
      ∙ append_assoc pieces first (flat_map (λ c. piece_if n c (seg c)) (range_with_len (a + 1) k))

  -- ---- the points of all nets, net after net

  row-of : (n : ℕ) (seg : ℕ → List ℕ) (cs : List ℕ) (x : Piece) → In x (flat_map (λ c. piece_if n c (seg c)) cs) → x.net ≡ n
  row-of n seg [] x i = absurd i
  row-of n seg (c ∷ cs) x i = elim (In-append_cases x (piece_if n c (seg c)) (flat_map (λ d. piece_if n d (seg d)) cs) i) [
    | inl here ↦ (piece_if-of n c (seg c) x here).0
    | inr later ↦ row-of n seg cs x later
  ]

  rows : (seg : ℕ → ℕ → List ℕ) (n i k : ℕ) (pieces : List Piece) → ((j c : ℕ) → c < n → AreOf j c (seg j c)) → ((x : Piece) → In x pieces → x.net < i) →
      along pieces (flat_map (λ j. flat_map (seg j) (range_with_len 0 n)) (range_with_len i k))
      ≡ pieces ++ flat_map (λ j. flat_map (λ c. piece_if j c (seg j c)) (range_with_len 0 n)) (range_with_len i k)
  rows seg n i zero pieces of before = sym (append-nil pieces)
  rows seg n i (suc k) pieces of before =
      let here = flat_map (seg i) (range_with_len 0 n) in
      let rest = flat_map (λ j. flat_map (seg j) (range_with_len 0 n)) (range_with_len (i + 1) k) in
      let made = flat_map (λ c. piece_if i c (seg i c)) (range_with_len 0 n) in
      let next : (x : Piece) → In x (pieces ++ made) → x.net < i + 1 = λ x j. elim (In-append_cases x pieces made j) as (λ _. x.net < i + 1) [
        | inl old ↦ let less = before x old in omega arith
        | inr new ↦ let is = row-of i (seg i) (range_with_len 0 n) x new in omega arith
      ] in
      fold-append (λ (done : List Piece) (p : ℕ). with_point done (net p) (class p) p) pieces here rest
      ∙ ap (λ (done : List Piece). along done rest) (row i (seg i) 0 n pieces (λ c low high. of i c (omega arith)) (λ x j same. let less = before x j in absurd (omega arith)))
      ∙ rows seg n (i + 1) k (pieces ++ made) of next
      ∙ append_assoc pieces made (flat_map (λ j. flat_map (λ c. piece_if j c (seg j c)) (range_with_len 0 n)) (range_with_len (i + 1) k))

  pub all_rows : (seg : ℕ → ℕ → List ℕ) (n k : ℕ) → ((j c : ℕ) → c < n → AreOf j c (seg j c)) →
      along [] (flat_map (λ j. flat_map (seg j) (range_with_len 0 n)) (range_with_len 0 k))
      ≡ flat_map (λ j. flat_map (λ c. piece_if j c (seg j c)) (range_with_len 0 n)) (range_with_len 0 k)
  all_rows seg n k of = rows seg n 0 k [] of (λ x i. absurd i)
