-- Elements one after another, and the pairs of classes that they lie between.
use Rattle.std.proofs.Common.{◌≡◌, ◌⊎◌, ℕ, ◌+◌, ◌<◌, ◌≤◌, Bool, true, false, cond, List, [], ◌∷◌, ◌++◌, Some, None, length, get_or, take, refl, sym, ◌∙◌, ap, subst, inl, inr, ⊎_elim, arith}
use Rattle.std.specs.Prelude.{All, nat_lt, not, ◌&&◌, ◌||◌, ◌==◌}
use Rattle.std.specs.List.{list_any}
use Rattle.std.specs.Ordering.{nat_cmp}
use Rattle.std.specs.Cmp.{nat_cmp_is}
use Rattle.std.specs.BTreeSet.{BTreeSet, contains}
use Rattle.std.specs.BTreeMap.{is_at}
use Rattle.std.proofs.Common.{Ordering, Less, Equal, Greater, is_eq}
use Rattle.std.proofs.lemmas.Map.Lookups.{exact_unsigned}
use Rattle.std.proofs.lemmas.List.{take_more}
use Rattle.std.proofs.lemmas.Option.{slice_get_within, slice_get_read, get_or_from_slice_get}
use Rattle.std.proofs.lemmas.Bool.Decides.{eqb_tells}
use Rattle.partition.specs.Classes.{class_at}
use Rattle.rig.specs.declared.unit.Row.{Row}
use Rattle.rig.specs.declared.unit.Row.TheVariants.{Wire, Resistor, Diode, Leak, Arc, Charge}
use Rattle.rig.specs.Joins.{IsRowBelow, most_join}
use Rattle.rig.specs.Values.{same_class, leads, is_element_at}
use Rattle.harness.specs.Units.{element_ends, is_repeated, IsRepeat}
use Rattle.harness.specs.Pairs.{pair_of, IsFirstRepeat}
use Rattle.harness.proofs.Trees.{some, some_pair, pair_below}
use Rattle.harness.proofs.PlaceLemmas.{and_left, list_any-push, or-false}

bool_iff : (a b : Bool) → (a ≡ true → b ≡ true) → (b ≡ true → a ≡ true) → a ≡ b
bool_iff true b to from = sym (to refl)
bool_iff false true to from = from refl
bool_iff false false to from = refl

or_cases : (a b : Bool) → (a || b) ≡ true → (a ≡ true) ⊎ (b ≡ true)
or_cases true b h = inl refl
or_cases false b h = inr h

or_left : (a b : Bool) → a ≡ true → (a || b) ≡ true
or_left a b h = rw h refl

or_right : (a b : Bool) → b ≡ true → (a || b) ≡ true
or_right true b h = refl
or_right false b h = h

and_right : (a b : Bool) → (a && b) ≡ true → b ≡ true
and_right true b h = h
and_right false b h = cc

and_both : (a b : Bool) → a ≡ true → b ≡ true → (a && b) ≡ true
and_both a b h k = rw h k

eq_true : (x y : ℕ) → (x == y) ≡ true → x ≡ y
eq_true x y h = elim (eqb_tells x y) [ inl e ↦ e.1 | inr e ↦ let f = e.0 in cc ]

true_eq : (x y : ℕ) → x ≡ y → (x == y) ≡ true
true_eq x y h = elim (eqb_tells x y) [ inl e ↦ e.0 | inr e ↦ absurd (e.1 h) ]

false_eq : (x y : ℕ) → (x ≡ y → ⊥) → (x == y) ≡ false
false_eq x y h = elim (eqb_tells x y) [ inl e ↦ absurd (h e.1) | inr e ↦ e.0 ]

-- a set of numbers finds a key by equality
pub is_at_eq : (x y : ℕ) → is_at (nat_cmp x) y ≡ (x == y)
is_at_eq x y = bool_iff (is_at (nat_cmp x) y) (x == y) (λ h. true_eq x y (exact_unsigned x y (equal_of (nat_cmp x y) h))) (λ h. at_own x y (eq_true x y h))
  where
    equal_of : (o : Ordering) → is_eq o ≡ true → o ≡ Equal
    equal_of Equal h = refl
    equal_of Less h = cc
    equal_of Greater h = cc

    at_own : (x y : ℕ) → x ≡ y → is_at (nat_cmp x) y ≡ true
    at_own x y e = ap is_eq (sym (nat_cmp_is x y Equal e))

pub differ_of : (x y : ℕ) → true ≡ not (x == y) → x ≡ y → ⊥
differ_of x y b e = go (x == y) b (true_eq x y e)
  where
    go : (t : Bool) → true ≡ not t → t ≡ true → ⊥
    go true b h = cc
    go false b h = cc

pub same_of : (x y : ℕ) → false ≡ not (x == y) → x ≡ y
same_of x y b = eq_true x y (go (x == y) b)
  where
    go : (t : Bool) → false ≡ not t → t ≡ true
    go true b = refl
    go false b = cc

-- two pairs of numbers are one number exactly where they are the same two
pair_cases : (x y u v : ℕ) → x ≤ 65535 → y ≤ 65535 → u ≤ 65535 → v ≤ 65535 → pair_of u v ≡ pair_of x y → ((x ≡ u) × (y ≡ v)) ⊎ ((x ≡ v) × (y ≡ u))
pair_cases x y u v hx hy hu hv e =
    elim (eqb_tells x u) [ inl f ↦ inl (f.1, let g = f.1 in omega arith) | inr f ↦ inr (let g = f.1 in omega arith, let g = f.1 in omega arith) ]

same_pair : (x y u v : ℕ) → x ≤ 65535 → y ≤ 65535 → u ≤ 65535 → v ≤ 65535 → (((x == u) && (y == v)) || ((x == v) && (y == u))) ≡ (pair_of u v == pair_of x y)
same_pair x y u v hx hy hu hv =
    bool_iff (((x == u) && (y == v)) || ((x == v) && (y == u))) (pair_of u v == pair_of x y)
    (λ h. ⊎_elim
    (λ one.
    let a = eq_true x u (and_left (x == u) (y == v) one) in
    let b = eq_true y v (and_right (x == u) (y == v) one) in
    true_eq (pair_of u v) (pair_of x y) (omega arith))
    (λ other.
    let a = eq_true x v (and_left (x == v) (y == u) other) in
    let b = eq_true y u (and_right (x == v) (y == u) other) in
    true_eq (pair_of u v) (pair_of x y) (omega arith))
    (or_cases ((x == u) && (y == v)) ((x == v) && (y == u)) h))
    (λ h. ⊎_elim
    (λ one. or_left ((x == u) && (y == v)) ((x == v) && (y == u)) (and_both (x == u) (y == v) (true_eq x u one.0) (true_eq y v one.1)))
    (λ other. or_right ((x == u) && (y == v)) ((x == v) && (y == u)) (and_both (x == v) (y == u) (true_eq x v other.0) (true_eq y u other.1)))
    (pair_cases x y u v hx hy hu hv (eq_true (pair_of u v) (pair_of x y) h)))

-- an element lies between the classes of two points where its own classes are these two
element_leads : (classes : List ℕ) (row : Row) (p q a b : ℕ) → element_ends row ≡ Some (p, q) → is_element_at classes a b row ≡ (leads classes a b p q || leads classes b a p q)
element_leads classes (Resistor c d r) p q a b e = go (nat_lt most_join r) e
  where
    go : (open_ : Bool) → cond open_ (some c d) None ≡ some p q → (open_ && (leads classes a b c d || leads classes b a c d)) ≡ (leads classes a b p q || leads classes b a p q)
    go true f =
        let same = some_pair c d p q f in
        let x : c ≡ p = same.0 in
        let y : d ≡ q = same.1 in
        ap (λ k. leads classes a b k d || leads classes b a k d) x ∙ ap (λ k. leads classes a b p k || leads classes b a p k) y
    go false f = cc
element_leads classes (Diode c d v) p q a b e =
    let same = some_pair c d p q e in
    let x : c ≡ p = same.0 in
    let y : d ≡ q = same.1 in
    ap (λ k. leads classes a b k d || leads classes b a k d) x ∙ ap (λ k. leads classes a b p k || leads classes b a p k) y
element_leads classes (Wire c d) p q a b e = cc
element_leads classes (Leak c d g) p q a b e = cc
element_leads classes (Arc c d v) p q a b e = cc
element_leads classes (Charge v x) p q a b e = cc

no_element : (classes : List ℕ) (row : Row) (a b : ℕ) → element_ends row ≡ None → is_element_at classes a b row ≡ false
no_element classes (Resistor c d r) a b e = go (nat_lt most_join r) e
  where
    go : (open_ : Bool) → cond open_ (some c d) None ≡ None → (open_ && (leads classes a b c d || leads classes b a c d)) ≡ false
    go true f = cc
    go false f = refl
no_element classes (Diode c d v) a b e = cc
no_element classes (Wire c d) a b e = refl
no_element classes (Leak c d g) a b e = refl
no_element classes (Arc c d v) a b e = refl
no_element classes (Charge v x) a b e = refl

-- which pairs of classes the rows so far have an element between
pub record Seen (classes : List ℕ) (rows : List Row) (i : ℕ) (pairs : BTreeSet ℕ) : Type 0 where
  pub listed : (a b : ℕ) → (class_at classes a ≡ class_at classes b → ⊥) → contains nat_cmp pairs (pair_of (class_at classes a) (class_at classes b)) ≡ list_any (is_element_at classes a b) (take i rows)
  pub none : (j : ℕ) → j < i → IsRepeat classes rows j → ⊥

abbrev Small : List ℕ → Type 0
Small classes = (p : ℕ) → class_at classes p ≤ 65535

pub seen_start : (classes : List ℕ) (rows : List Row) (pairs : BTreeSet ℕ) → ((k : ℕ) → contains nat_cmp pairs k ≡ false) → Seen classes rows 0 pairs
seen_start classes rows pairs empty = record { listed = λ a b apart. empty (pair_of (class_at classes a) (class_at classes b)); none = λ j short. absurd (omega arith) }

one_more : (classes : List ℕ) (rows : List Row) (row : Row) (i a b : ℕ) → i < length rows → row ≡ get_or rows i row → list_any (is_element_at classes a b) (take (i + 1) rows) ≡ (list_any (is_element_at classes a b) (take i rows) || is_element_at classes a b row)
one_more classes rows row i a b short at =
    ap (list_any (is_element_at classes a b)) (take_more rows i row short ∙ ap (λ (r : Row). take i rows ++ (r ∷ [])) (sym at))
    ∙ list_any-push (is_element_at classes a b) (take i rows) row

-- no repeat at a place where the row is not one
none_more : (classes : List ℕ) (rows : List Row) (row : Row) (i : ℕ) → i < length rows → row ≡ get_or rows i row → is_repeated classes (take i rows) (element_ends row) ≡ false → ((j : ℕ) → j < i → IsRepeat classes rows j → ⊥) →
    (j : ℕ) → j < i + 1 → IsRepeat classes rows j → ⊥
none_more classes rows row i short at here none j less repeat =
    elim (eqb_tells j i) [
      | inl e ↦
          let is : repeat.row ≡ row = sym (get_or_from_slice_get rows j repeat.row row repeat.stands) ∙ ap (λ k. get_or rows k row) e.1 ∙ sym at in
          let yes : is_repeated classes (take i rows) (element_ends row) ≡ true = subst (λ k. is_repeated classes (take k rows) (element_ends row) ≡ true) e.1 (subst (λ (r : Row). is_repeated classes (take j rows) (element_ends r) ≡ true) is repeat.repeated) in
          cc
      | inr e ↦ none j (let apart = e.1 in omega arith) repeat
    ]

not_same : (x y : ℕ) → (x ≡ y → ⊥) → not (x == y) ≡ true
not_same x y apart = ap not (false_eq x y apart)

and_true : (a b : Bool) → a ≡ true → (a && b) ≡ b
and_true a b h = rw h refl

and_false : (a b : Bool) → a ≡ false → (a && b) ≡ false
and_false a b h = rw h refl

-- a row that is no element
pub seen_other : (classes : List ℕ) (rows : List Row) (row : Row) (i : ℕ) (pairs : BTreeSet ℕ) → i < length rows → row ≡ get_or rows i row → element_ends row ≡ None → Seen classes rows i pairs → Seen classes rows (i + 1) pairs
seen_other classes rows row i pairs short at other s = record {
  listed = λ a b apart. s.listed a b apart ∙ sym (or-false (list_any (is_element_at classes a b) (take i rows)))
      ∙ ap (λ r. list_any (is_element_at classes a b) (take i rows) || r) (sym (no_element classes row a b other)) ∙ sym (one_more classes rows row i a b short at);
  none = none_more classes rows row i short at (ap (is_repeated classes (take i rows)) other) s.none;
}

-- an element whose ends are joined
pub seen_joined : (classes : List ℕ) (rows : List Row) (row : Row) (i p q : ℕ) (pairs : BTreeSet ℕ) → i < length rows → row ≡ get_or rows i row → element_ends row ≡ Some (p, q) → class_at classes p ≡ class_at classes q →
    Small classes → Seen classes rows i pairs → Seen classes rows (i + 1) pairs
seen_joined classes rows row i p q pairs short at ends same small s = record {
  listed = λ a b apart.
      let none : is_element_at classes a b row ≡ false =
      element_leads classes row p q a b ends ∙ same_pair (class_at classes p) (class_at classes q) (class_at classes a) (class_at classes b) (small p) (small q) (small a) (small b)
      ∙ false_eq (pair_of (class_at classes a) (class_at classes b)) (pair_of (class_at classes p) (class_at classes q))
      (λ e. apart (⊎_elim (λ one. sym one.0 ∙ same ∙ one.1) (λ other. sym other.1 ∙ sym same ∙ other.0) (pair_cases (class_at classes p) (class_at classes q) (class_at classes a) (class_at classes b) (small p) (small q) (small a) (small b) e))) in
      s.listed a b apart ∙ sym (or-false (list_any (is_element_at classes a b) (take i rows)))
      ∙ ap (λ r. list_any (is_element_at classes a b) (take i rows) || r) (sym none) ∙ sym (one_more classes rows row i a b short at);
  none = none_more classes rows row i short at
      (ap (is_repeated classes (take i rows)) ends
      ∙ and_false (not (same_class classes p q)) (list_any (is_element_at classes p q) (take i rows)) (ap not (true_eq (class_at classes p) (class_at classes q) same))) s.none;
}

-- an element between two classes of which no pair was listed
pub seen_new : (classes : List ℕ) (rows : List Row) (row : Row) (i p q key : ℕ) (old new : BTreeSet ℕ) → i < length rows → row ≡ get_or rows i row → element_ends row ≡ Some (p, q) → (class_at classes p ≡ class_at classes q → ⊥) →
    Small classes → key ≡ pair_of (class_at classes p) (class_at classes q) → contains nat_cmp old key ≡ false → ((k : ℕ) → contains nat_cmp new k ≡ cond (key == k) true (contains nat_cmp old k)) →
    Seen classes rows i old → Seen classes rows (i + 1) new
seen_new classes rows row i p q key old new short at ends apart small key_is fresh updates s = record {
  listed = λ a b differ.
      let here : is_element_at classes a b row ≡ (key == pair_of (class_at classes a) (class_at classes b)) =
      element_leads classes row p q a b ends ∙ same_pair (class_at classes p) (class_at classes q) (class_at classes a) (class_at classes b) (small p) (small q) (small a) (small b)
      ∙ eq_sym (pair_of (class_at classes a) (class_at classes b)) (pair_of (class_at classes p) (class_at classes q)) ∙ ap (λ k. k == pair_of (class_at classes a) (class_at classes b)) (sym key_is) in
      updates (pair_of (class_at classes a) (class_at classes b))
      ∙ ap (cond (key == pair_of (class_at classes a) (class_at classes b)) true) (s.listed a b differ)
      ∙ cond_or (key == pair_of (class_at classes a) (class_at classes b)) (list_any (is_element_at classes a b) (take i rows))
      ∙ ap (λ r. list_any (is_element_at classes a b) (take i rows) || r) (sym here) ∙ sym (one_more classes rows row i a b short at);
  none = none_more classes rows row i short at
      (ap (is_repeated classes (take i rows)) ends
      ∙ and_true (not (same_class classes p q)) (list_any (is_element_at classes p q) (take i rows)) (not_same (class_at classes p) (class_at classes q) apart)
      ∙ sym (s.listed p q apart) ∙ ap (contains nat_cmp old) (sym key_is) ∙ fresh) s.none;
}
  where
    cond_or : (c b : Bool) → cond c true b ≡ (b || c)
    cond_or true true = refl
    cond_or true false = refl
    cond_or false true = refl
    cond_or false false = refl

    eq_sym : (x y : ℕ) → (x == y) ≡ (y == x)
    eq_sym x y = bool_iff (x == y) (y == x) (λ h. true_eq y x (sym (eq_true x y h))) (λ h. true_eq x y (sym (eq_true y x h)))

-- an element between two classes of which the pair is listed
pub seen_again : (classes : List ℕ) (rows : List Row) (row : Row) (i p q key : ℕ) (pairs : BTreeSet ℕ) → i < length rows → row ≡ get_or rows i row → element_ends row ≡ Some (p, q) → (class_at classes p ≡ class_at classes q → ⊥) →
    key ≡ pair_of (class_at classes p) (class_at classes q) → contains nat_cmp pairs key ≡ true → Seen classes rows i pairs → IsFirstRepeat classes rows (Some i)
seen_again classes rows row i p q key pairs short at ends apart key_is again s = (
  record {
    row = row;
    stands = slice_get_read rows (length rows) i row refl short at;
    repeated = ap (is_repeated classes (take i rows)) ends
        ∙ and_true (not (same_class classes p q)) (list_any (is_element_at classes p q) (take i rows)) (not_same (class_at classes p) (class_at classes q) apart)
        ∙ sym (s.listed p q apart) ∙ ap (contains nat_cmp pairs) (sym key_is) ∙ again;
  },
  (λ k repeat. not_less i k (λ less. s.none k less repeat)),
)
  where
    not_less : (i k : ℕ) → (k < i → ⊥) → i ≤ k
    not_less i k never = omega arith

pub seen_end : (classes : List ℕ) (rows : List Row) (i : ℕ) (pairs : BTreeSet ℕ) → length rows ≤ i → Seen classes rows i pairs → IsFirstRepeat classes rows None
seen_end classes rows i pairs all s = λ j repeat. s.none j (let h = slice_get_within rows j repeat.row repeat.stands in omega arith) repeat

-- the ends of an element of the list
pub element_below : (rows : List Row) (row : Row) (n i p q : ℕ) → All (IsRowBelow n) rows → i < length rows → row ≡ get_or rows i row → element_ends row ≡ Some (p, q) → (p < n) × (q < n)
element_below rows row n i p q below short at ends = of_row row (subst (IsRowBelow n) (sym at) (below i row short)) ends
  where
    of_row : (row : Row) → IsRowBelow n row → element_ends row ≡ Some (p, q) → (p < n) × (q < n)
    of_row (Resistor c d r) h e = go (nat_lt most_join r) e
      where
        go : (open_ : Bool) → cond open_ (some c d) None ≡ some p q → (p < n) × (q < n)
        go true f = pair_below n c d p q h (some_pair c d p q f)
        go false f = cc
    of_row (Diode c d v) h e = pair_below n c d p q h (some_pair c d p q e)
    of_row (Wire c d) h e = cc
    of_row (Leak c d g) h e = cc
    of_row (Arc c d v) h e = cc
    of_row (Charge v x) h e = cc
