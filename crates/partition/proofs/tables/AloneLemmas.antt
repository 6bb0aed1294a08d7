-- The points of no net, while they get their numbers.
use Rattle.std.proofs.Common.{◌≡◌, ◌≢◌, inl, inr, ℕ, ◌+◌, ◌-◌, ◌<◌, ◌≤◌, Bool, true, false, cond, List, [], ◌∷◌, ◌++◌, length, get_or, set, map, filter, refl, sym, ◌∙◌, ap, arith, add-one, eqb, get_or-set_other, get_or-set_same}
use Rattle.std.proofs.lemmas.List.{append-nil, get_or_append_left, get_or_push, length_push}
use Rattle.std.proofs.lemmas.List.Elements.{filter-append}
use Rattle.std.proofs.lemmas.List.FromFn.{length-range_with_len, fill_by_all}
use Rattle.std.proofs.lemmas.List.Sums.{length-filter, count_by-le-length}
use Rattle.std.proofs.lemmas.Bool.{cases_eq, eq-eqb, ne_eqb}
use Rattle.partition.specs.Classes.{points_below}
use Rattle.partition.specs.Claims.{nobody, owner_at, owned_by, NumberedAlone}
use Rattle.partition.proofs.classes.HeadLemmas.{points_below-suc}

module _ (t : ℕ → Bool) where
  points_more : (n : ℕ) → filter t (points_below (n + 1)) ≡ filter t (points_below n) ++ cond (t n) (n ∷ []) []
  points_more n = ap (λ (k : ℕ). filter t (points_below k)) (add-one n) ∙ ap (filter t) (points_below-suc n) ∙ filter-append t (points_below n) (n ∷ [])

  pub points_yes : (n : ℕ) → t n ≡ true → filter t (points_below (n + 1)) ≡ filter t (points_below n) ++ n ∷ []
  points_yes n h = points_more n ∙ ap (λ (b : Bool). filter t (points_below n) ++ cond b (n ∷ []) []) h

  pub points_no : (n : ℕ) → t n ≡ false → filter t (points_below (n + 1)) ≡ filter t (points_below n)
  points_no n h = points_more n ∙ ap (λ (b : Bool). filter t (points_below n) ++ cond b (n ∷ []) []) h ∙ append-nil (filter t (points_below n))

  pub points_few : (n : ℕ) → length (filter t (points_below n)) ≤ n
  points_few n = omega (arith, length-filter t (points_below n), count_by-le-length t (points_below n), length-range_with_len 0 n)

-- the points below p are numbered
pub record NumberedTo (owners : List ℕ) (first p : ℕ) (alone numbers : List ℕ) : Type 0 where
  pub listed : alone ≡ filter (λ q. eqb (owner_at owners q) nobody) (points_below p)
  pub kept : (q : ℕ) → owner_at owners q ≢ nobody → owner_at owners q ≢ first → owner_at numbers q ≡ owner_at owners q
  pub ignored : (q : ℕ) → q < p → owner_at owners q ≡ first → owner_at numbers q ≡ nobody
  pub ahead : (q : ℕ) → p ≤ q → owner_at numbers q ≡ owner_at owners q
  pub later : (q : ℕ) → q < p → owner_at owners q ≡ nobody → first ≤ owner_at numbers q
  pub inside : (q : ℕ) → q < p → owner_at owners q ≡ nobody → owner_at numbers q - first < length alone
  pub place : (q : ℕ) → q < p → owner_at owners q ≡ nobody → get_or alone (owner_at numbers q - first) 0 ≡ q

pub alone_few : (owners : List ℕ) (first p : ℕ) (alone numbers : List ℕ) → NumberedTo owners first p alone numbers → length alone ≤ p
alone_few owners first p alone numbers s = omega (arith, ap length s.listed, points_few (λ q. eqb (owner_at owners q) nobody) p)

module _ (owners : List ℕ) (first p : ℕ) (alone numbers : List ℕ) (s : NumberedTo owners first p alone numbers) where
  -- a point that has a net
  pub numbered_skip : owner_at numbers p ≢ nobody → owner_at numbers p ≢ first → NumberedTo owners first (p + 1) alone numbers
  numbered_skip other counts =
      let has_net : owner_at owners p ≢ nobody = λ e. other (s.ahead p (omega arith) ∙ e) in
      let before : (q : ℕ) → q < p + 1 → owner_at owners q ≡ nobody → q < p = λ q l e. elim (cases_eq q p) [
        | inl same ↦ absurd (has_net (sym (ap (owner_at owners) same) ∙ e))
        | inr ne ↦ omega arith
      ] in
      record {
        listed = s.listed ∙ sym (points_no (λ q. eqb (owner_at owners q) nobody) p (ne_eqb (owner_at owners p) nobody has_net));
        kept = s.kept;
        ignored = λ q l e. elim (cases_eq q p) as (λ _. owner_at numbers q ≡ nobody) [
          | inl same ↦ absurd (counts (s.ahead p (omega arith) ∙ sym (ap (owner_at owners) same) ∙ e))
          | inr ne ↦ s.ignored q (omega arith) e
        ];
        ahead = λ q l. s.ahead q (omega arith);
        later = λ q l e. s.later q (before q l e) e;
        inside = λ q l e. s.inside q (before q l e) e;
        place = λ q l e. s.place q (before q l e) e;
      }

  -- an ignored point
  pub numbered_drop : (next : List ℕ) → owner_at numbers p ≢ nobody → owner_at numbers p ≡ first → p < length numbers → next ≡ set numbers p nobody →
      NumberedTo owners first (p + 1) alone next
  numbered_drop next other mark inside_numbers next_is =
      let own : owner_at owners p ≡ first = sym (s.ahead p (omega arith)) ∙ mark in
      let has_owner : owner_at owners p ≢ nobody = λ e. other (s.ahead p (omega arith) ∙ e) in
      let at_p : owner_at next p ≡ nobody = ap (λ (xs : List ℕ). owner_at xs p) next_is ∙ get_or-set_same numbers p nobody nobody inside_numbers in
      let apart : (q : ℕ) → q ≢ p → owner_at next q ≡ owner_at numbers q = λ q ne. ap (λ (xs : List ℕ). owner_at xs q) next_is ∙ get_or-set_other numbers p q nobody nobody ne in
      let before : (q : ℕ) → q < p + 1 → owner_at owners q ≡ nobody → q < p = λ q l e. elim (cases_eq q p) [
        | inl same ↦ absurd (has_owner (sym (ap (owner_at owners) same) ∙ e))
        | inr ne ↦ omega arith
      ] in
      let same_there : (q : ℕ) → q < p + 1 → owner_at owners q ≡ nobody → owner_at next q ≡ owner_at numbers q = λ q l e. apart q (λ is. has_owner (sym (ap (owner_at owners) is) ∙ e)) in
      record {
        listed = s.listed ∙ sym (points_no (λ q. eqb (owner_at owners q) nobody) p (ne_eqb (owner_at owners p) nobody has_owner));
        kept = λ q ne counts. apart q (λ e. counts (ap (owner_at owners) e ∙ own)) ∙ s.kept q ne counts;
        ignored = λ q l e. elim (cases_eq q p) as (λ _. owner_at next q ≡ nobody) [
          | inl same ↦ ap (owner_at next) same ∙ at_p
          | inr ne ↦ apart q ne ∙ s.ignored q (omega arith) e
        ];
        ahead = λ q l. apart q (λ e. omega arith) ∙ s.ahead q (omega arith);
        later = λ q l e. omega (arith, same_there q l e, s.later q (before q l e) e);
        inside = λ q l e. omega (arith, same_there q l e, s.inside q (before q l e) e);
        place = λ q l e. ap (λ (k : ℕ). get_or alone (k - first) 0) (same_there q l e) ∙ s.place q (before q l e) e;
      }

  -- a point alone
  pub numbered_push : (grown next : List ℕ) → first < nobody → owner_at numbers p ≡ nobody → p < length numbers → grown ≡ alone ++ p ∷ [] → next ≡ set numbers p (first + length alone) →
      NumberedTo owners first (p + 1) grown next
  numbered_push grown next small free inside_numbers is next_is =
      let own : owner_at owners p ≡ nobody = sym (s.ahead p (omega arith)) ∙ free in
      let size : length grown ≡ length alone + 1 = ap length is ∙ length_push alone p in
      let at_p : owner_at next p ≡ first + length alone = ap (λ (xs : List ℕ). owner_at xs p) next_is ∙ get_or-set_same numbers p (first + length alone) nobody inside_numbers in
      let other : (q : ℕ) → q ≢ p → owner_at next q ≡ owner_at numbers q = λ q ne. ap (λ (xs : List ℕ). owner_at xs q) next_is ∙ get_or-set_other numbers p q (first + length alone) nobody ne in
      record {
        listed = is ∙ ap (λ (xs : List ℕ). xs ++ p ∷ []) s.listed ∙ sym (points_yes (λ q. eqb (owner_at owners q) nobody) p (eq-eqb (owner_at owners p) nobody own));
        kept = λ q ne counts. other q (λ e. ne (ap (owner_at owners) e ∙ own)) ∙ s.kept q ne counts;
        ignored = λ q l e. elim (cases_eq q p) as (λ _. owner_at next q ≡ nobody) [
          | inl same ↦ absurd (let is : first ≡ nobody = sym e ∙ ap (owner_at owners) same ∙ own in omega arith)
          | inr ne ↦ other q ne ∙ s.ignored q (omega arith) e
        ];
        ahead = λ q l. other q (λ e. omega arith) ∙ s.ahead q (omega arith);
        later = λ q l e. elim (cases_eq q p) as (λ _. first ≤ owner_at next q) [
          | inl same ↦ omega (arith, ap (owner_at next) same, at_p)
          | inr ne ↦ omega (arith, other q ne, s.later q (omega arith) e)
        ];
        inside = λ q l e. elim (cases_eq q p) as (λ _. owner_at next q - first < length grown) [
          | inl same ↦ omega (arith, ap (owner_at next) same, at_p, size)
          | inr ne ↦ omega (arith, other q ne, s.inside q (omega arith) e, size)
        ];
        place = λ q l e. elim (cases_eq q p) as (λ _. get_or grown (owner_at next q - first) 0 ≡ q) [
          | inl same ↦
              let is_last : length alone ≡ owner_at next q - first = omega (arith, ap (owner_at next) same, at_p) in
              ap (λ (xs : List ℕ). get_or xs (owner_at next q - first) 0) is ∙ get_or_push alone p 0 (owner_at next q - first) is_last ∙ sym same
          | inr ne ↦
              let there : owner_at next q - first ≡ owner_at numbers q - first = ap (λ (k : ℕ). k - first) (other q ne) in
              ap (λ (xs : List ℕ). get_or xs (owner_at next q - first) 0) is
              ∙ ap (λ (k : ℕ). get_or (alone ++ p ∷ []) k 0) there
              ∙ get_or_append_left alone (p ∷ []) 0 (owner_at numbers q - first) (s.inside q (omega arith) e)
              ∙ s.place q (omega arith) e
        ];
      }

pub numbered_none : (owners : List ℕ) (first : ℕ) → NumberedTo owners first 0 [] owners
numbered_none owners first = record {
  listed = refl;
  kept = λ q ne counts. refl;
  ignored = λ q l e. absurd (omega arith);
  ahead = λ q l. refl;
  later = λ q l e. absurd (omega arith);
  inside = λ q l e. absurd (omega arith);
  place = λ q l e. absurd (omega arith);
}

pub numbered_all : (owners : List ℕ) (first p : ℕ) (alone numbers : List ℕ) → length owners ≡ p → NumberedTo owners first p alone numbers →
    (alone ≡ owned_by owners nobody) × NumberedAlone owners first alone numbers
numbered_all owners first p alone numbers all s = (
  s.listed ∙ ap (λ (n : ℕ). filter (λ q. eqb (owner_at owners q) nobody) (points_below n)) (sym all),
  record {
    kept = s.kept;
    ignored = λ q l. s.ignored q (omega arith);
    later = λ q l. s.later q (omega arith);
    inside = λ q l. s.inside q (omega arith);
    place = λ q l. s.place q (omega arith);
  },
)

-- ---- groups

abbrev pub GroupedTo : List ℕ → ℕ → ℕ → List (List ℕ) → Type 0
GroupedTo owners count n groups = (k : ℕ) → k < count → get_or groups k [] ≡ filter (λ q. eqb (owner_at owners q) k) (points_below n)

module _ (owners : List ℕ) (count p : ℕ) (lists : List (List ℕ)) where
  pub grouped_skip : GroupedTo owners count p lists → count ≤ owner_at owners p → GroupedTo owners count (p + 1) lists
  grouped_skip s other k l =
      s k l ∙ sym (points_no (λ q. eqb (owner_at owners q) k) p (ne_eqb (owner_at owners p) k (λ e. omega arith)))

  pub grouped_push : (i : ℕ) (next : List (List ℕ)) → GroupedTo owners count p lists → length lists ≡ count → owner_at owners p ≡ i → i < count →
      next ≡ set lists i (get_or lists i [] ++ p ∷ []) → GroupedTo owners count (p + 1) next
  grouped_push i next s size own inside is k l = elim (cases_eq k i) as (λ _. get_or next k [] ≡ filter (λ q. eqb (owner_at owners q) k) (points_below (p + 1))) [
    | inl same ↦
        let here : owner_at owners p ≡ k = own ∙ sym same in
        ap (λ (xs : List (List ℕ)). get_or xs k []) is
        ∙ ap (λ (j : ℕ). get_or (set lists i (get_or lists i [] ++ p ∷ [])) j []) same
        ∙ get_or-set_same lists i (get_or lists i [] ++ p ∷ []) [] (omega arith)
        ∙ ap (λ (j : ℕ). get_or lists j [] ++ p ∷ []) (sym same)
        ∙ ap (λ (xs : List ℕ). xs ++ p ∷ []) (s k l)
        ∙ sym (points_yes (λ q. eqb (owner_at owners q) k) p (eq-eqb (owner_at owners p) k here))
    | inr ne ↦
        ap (λ (xs : List (List ℕ)). get_or xs k []) is
        ∙ get_or-set_other lists i k (get_or lists i [] ++ p ∷ []) [] ne
        ∙ s k l
        ∙ sym (points_no (λ q. eqb (owner_at owners q) k) p (ne_eqb (owner_at owners p) k (λ e. ne (sym e ∙ own))))
  ]

pub grouped_all : (owners : List ℕ) (count p : ℕ) (lists : List (List ℕ)) → length owners ≡ p → length lists ≡ count → GroupedTo owners count p lists →
    lists ≡ map (owned_by owners) (points_below count)
grouped_all owners count p lists all size s = fill_by_all (owned_by owners) lists count [] size (λ k l. s k l ∙ ap (λ (n : ℕ). filter (λ q. eqb (owner_at owners q) k) (points_below n)) (sym all))
