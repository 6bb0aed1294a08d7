-- What `Nets` keeps, from the owner of each point.
use Rattle.std.proofs.Common.{◌≡◌, ◌≢◌, inl, inr, ℕ, zero, suc, ◌+◌, ◌-◌, ◌<◌, ◌≤◌, Bool, true, false, cond, not, ◌&&◌, List, [], ◌∷◌, ◌++◌, length, get_or, map, filter, take, drop, replicate, refl, sym, ◌∙◌, ap, subst, arith, eqb, All, Contains, length-append}
use Rattle.std.specs.List.{flat_map, list_any}
use Rattle.std.specs.List.Sorted.{IsStrictlyIncreasing}
use Rattle.std.proofs.lemmas.List.{get_or_append_left, get_or-append_right, get_or_push, length_push, get_or-map, length-map, same_lists, length-replicate, get_or-replicate, drop_more, get_or_read}
use Rattle.std.proofs.lemmas.List.FromFn.{length-range_with_len, get_or-range_with_len, length-map-range_with_len, get_or-map-range_with_len, fill_by_all}
use Rattle.std.proofs.lemmas.List.Kept.{IsStrictlyIncreasing-filter}
use Rattle.std.proofs.lemmas.List.Folds.{list_any_at}
use Rattle.std.proofs.lemmas.Bool.{cases_eq, eq-eqb, eqb-true, ne_eqb}
use Rattle.std.proofs.lemmas.List.Filters.{length-filter_both}
use Rattle.partition.specs.Classes.{points_below, has}
use Rattle.partition.specs.NetTable.{NetTable, IsNetTable, all_nets, judged_points, net_at, net_count, Disjoint}
use Rattle.partition.specs.NetTable.{numbered_nets}
use Rattle.partition.specs.NetFaults.{net_faults, ascending_net, table_of}
use Rattle.partition.specs.Claims.{nobody, owner_at, owned_by, lone_points, ClaimedTo, NumberedAlone, IsKeptNets}
use Rattle.partition.proofs.classes.ClassLaws.{has-head, has-points_below, points_below-AllBelow}
use Rattle.partition.proofs.Members.{In, In-filter, In-filter_cases, has-In, In-has, enumerate-In, In-enumerate}
use Rattle.partition.proofs.classes.Labels.{and_left, and_right}
use Rattle.partition.proofs.tables.NetLaws.{All-In, In-index, net_facts, judged-is, judged-below}
use Rattle.partition.proofs.Ascending.{ascending_is, filter-filter}
use Rattle.partition.proofs.tables.ClaimLemmas.{none_before, net_not_empty}
use Rattle.partition.proofs.tables.IgnoredLemmas.{IsClaimed, nets_faultless, claimed_few, lists_few}

pub bools_agree : (a b : Bool) → (a ≡ true → b ≡ true) → (b ≡ true → a ≡ true) → a ≡ b
bools_agree true b f g = sym (f refl)
bools_agree false true f g = g refl
bools_agree false false f g = refl

filter_under : {X : Type 0} (f g : X → Bool) (x : X) (xs ys : List X) → f x ≡ g x → xs ≡ ys → cond (f x) (x ∷ xs) xs ≡ cond (g x) (x ∷ ys) ys
filter_under f g x xs ys e h = ap (λ (b : Bool). cond b (x ∷ xs) xs) e ∙ ap (λ (zs : List _). cond (g x) (x ∷ zs) zs) h

pub filter-agree : (f g : ℕ → Bool) (xs : List ℕ) → ((q : ℕ) → In q xs → f q ≡ g q) → filter f xs ≡ filter g xs
filter-agree f g [] h = refl
filter-agree f g (x ∷ xs) h = filter_under f g x (filter f xs) (filter g xs) (h x (inl refl)) (filter-agree f g xs (λ q i. h q (inr i)))

pub In-points_below : (n p : ℕ) → In p (points_below n) → p < n
In-points_below n p i = points_below-AllBelow n p (In-has p (points_below n) i)

pub points_below-In : (n p : ℕ) → p < n → In p (points_below n)
points_below-In n p l = has-In p (points_below n) (has-points_below n p l)

none_each : {A : Type 0} (f : ℕ → List A) (m k : ℕ) → flat_map f (points_below m) ≡ [] → k < m → f k ≡ []
none_each f zero k none l = absurd (omega arith)
none_each f (suc m) k none l =
    let parts = none_before f m none in
    elim (cases_eq k m) [ inl same ↦ ap f same ∙ parts.1 | inr ne ↦ none_each f m k parts.0 (omega arith) ]

-- where nothing is ignored, all points count
pub all_judged : (n : ℕ) → filter (λ p. not (has [] p)) (points_below n) ≡ points_below n
all_judged n = kept_whole (points_below n)
  where
    kept_whole : (xs : List ℕ) → filter (λ p. not (has [] p)) xs ≡ xs
    kept_whole [] = refl
    kept_whole (x ∷ xs) = ap (λ (ys : List ℕ). x ∷ ys) (kept_whole xs)

pub counts_below : (n p : ℕ) → p < n → has (filter (λ q. not (has [] q)) (points_below n)) p ≡ true
counts_below n p l = ap (λ (js : List ℕ). has js p) (all_judged n) ∙ has-points_below n p l

range_increasing : (n : ℕ) → IsStrictlyIncreasing (points_below n)
range_increasing n k l =
    let size = length-range_with_len 0 n in
    omega (arith, get_or-range_with_len 0 n k 0 (omega arith), get_or-range_with_len 0 n (k + 1) 0 (omega arith))

pub ascending-has : (n : ℕ) (net : List ℕ) (p : ℕ) → p < n → has net p ≡ true → has (ascending_net n net) p ≡ true
ascending-has n net p l h = In-has p (ascending_net n net) (In-filter (has net) p (points_below n) (points_below-In n p l) h)

pub has-ascending : (n : ℕ) (net : List ℕ) (p : ℕ) → has (ascending_net n net) p ≡ true → (p < n) × (has net p ≡ true)
has-ascending n net p h =
    let i = In-filter_cases (has net) p (points_below n) (has-In p (ascending_net n net) h) in
    (In-points_below n p i.0, i.1)

some_length : (p : ℕ) (xs : List ℕ) → has xs p ≡ true → 0 < length xs
some_length p xs h = let i = In-index p xs (has-In p xs h) in let l = i.1 in omega arith

In-Contains : (p : ℕ) (xs : List ℕ) → In p xs → Contains xs p
In-Contains p xs i = let k = In-index p xs i in (k.0, k.1, k.2 p)

-- a list of numbers has one length, however it is split by a test
filter_split : (t : ℕ → Bool) (xs : List ℕ) → length (filter t xs) + length (filter (λ x. not (t x)) xs) ≡ length xs
filter_split t [] = refl
filter_split t (x ∷ xs) = go (t x) refl (filter_split t xs)
  where
    go : (b : Bool) → t x ≡ b → length (filter t xs) + length (filter (λ y. not (t y)) xs) ≡ length xs →
        length (filter t (x ∷ xs)) + length (filter (λ y. not (t y)) (x ∷ xs)) ≡ length (x ∷ xs)
    go true e h =
        let yes : filter t (x ∷ xs) ≡ x ∷ filter t xs = rw e refl in
        let no : filter (λ y. not (t y)) (x ∷ xs) ≡ filter (λ y. not (t y)) xs = rw e refl in
        omega (arith, h, ap length yes, ap length no)
    go false e h =
        let no : filter t (x ∷ xs) ≡ filter t xs = rw e refl in
        let yes : filter (λ y. not (t y)) (x ∷ xs) ≡ x ∷ filter (λ y. not (t y)) xs = rw e refl in
        omega (arith, h, ap length yes, ap length no)

length-filter-map : (t : ℕ → Bool) (f : ℕ → ℕ) (xs : List ℕ) → length (filter t (map f xs)) ≡ length (filter (λ x. t (f x)) xs)
length-filter-map t f [] = refl
length-filter-map t f (x ∷ xs) = go (t (f x)) refl (length-filter-map t f xs)
  where
    go : (b : Bool) → t (f x) ≡ b → length (filter t (map f xs)) ≡ length (filter (λ y. t (f y)) xs) → length (filter t (map f (x ∷ xs))) ≡ length (filter (λ y. t (f y)) (x ∷ xs))
    go true e h =
        let l : filter t (map f (x ∷ xs)) ≡ f x ∷ filter t (map f xs) = rw e refl in
        let r : filter (λ y. t (f y)) (x ∷ xs) ≡ x ∷ filter (λ y. t (f y)) xs = rw e refl in
        omega (arith, h, ap length l, ap length r)
    go false e h =
        let l : filter t (map f (x ∷ xs)) ≡ filter t (map f xs) = rw e refl in
        let r : filter (λ y. t (f y)) (x ∷ xs) ≡ filter (λ y. t (f y)) xs = rw e refl in
        omega (arith, h, ap length l, ap length r)

-- the owners, read off point by point
owners_are : (owners : List ℕ) → map (owner_at owners) (points_below (length owners)) ≡ owners
owners_are owners = sym (fill_by_all (owner_at owners) owners (length owners) nobody refl (λ k l. refl))

module _ (lists : List (List ℕ)) (ignored owners : List ℕ) (ok : IsClaimed lists ignored owners) where
  abbrev all : List (List ℕ)
  all = lists ++ ignored ∷ []

  abbrev net_of : ℕ → List ℕ
  net_of k = get_or lists k []

  net_is : (k : ℕ) → k < length lists → get_or all k [] ≡ net_of k
  net_is k l = get_or_append_left lists (ignored ∷ []) [] k l

  last_is : (k : ℕ) → length lists ≡ k → get_or all k [] ≡ ignored
  last_is k e = get_or_push lists ignored [] k e

  owner_has : (p k : ℕ) → p < length owners → k < length lists → owner_at owners p ≡ k → has (net_of k) p ≡ true
  owner_has p k l inside is =
      let few = lists_few lists ignored owners ok in
      let small = ok.small in
      let was = ok.claimed.owned p l (λ e. omega arith) in
      subst (λ (net : List ℕ). has net p ≡ true) (net_is k inside) (subst (λ (j : ℕ). has (get_or all j []) p ≡ true) is was.1)

  has_owner : (p k : ℕ) → k < length lists → has (net_of k) p ≡ true → (p < length owners) × (owner_at owners p ≡ k)
  has_owner p k inside h =
      ok.claimed.marked k p (omega (arith, length_push lists ignored)) (subst (λ (net : List ℕ). has net p ≡ true) (sym (net_is k inside)) h)

  owner_ignored : (p : ℕ) → p < length owners → owner_at owners p ≡ length lists → has ignored p ≡ true
  owner_ignored p l is =
      let few = lists_few lists ignored owners ok in
      let small = ok.small in
      let was = ok.claimed.owned p l (λ e. omega arith) in
      subst (λ (net : List ℕ). has net p ≡ true) (last_is (length lists) refl) (subst (λ (j : ℕ). has (get_or all j []) p ≡ true) is was.1)

  ignored_owner : (p : ℕ) → has ignored p ≡ true → (p < length owners) × (owner_at owners p ≡ length lists)
  ignored_owner p h =
      ok.claimed.marked (length lists) p (omega (arith, length_push lists ignored)) (subst (λ (net : List ℕ). has net p ≡ true) (sym (last_is (length lists) refl)) h)

  owners_below : (p : ℕ) → p < length owners → owner_at owners p ≢ nobody → owner_at owners p ≤ length lists
  owners_below p l ne =
      let was = ok.claimed.owned p l ne in
      let below = was.0 in
      omega (arith, length_push lists ignored)

  -- the groups are the nets in ascending order
  pub named_is : map (owned_by owners) (points_below (length lists)) ≡ map (ascending_net (length owners)) lists
  named_is =
      same_lists (map (owned_by owners) (points_below (length lists))) (map (ascending_net (length owners)) lists)
      (length-map-range_with_len (owned_by owners) 0 (length lists) ∙ sym (length-map lists (ascending_net (length owners))))
      (λ k d l.
      let inside : k < length lists = omega (arith, length-map-range_with_len (owned_by owners) 0 (length lists)) in
      get_or-map-range_with_len (owned_by owners) 0 (length lists) k k d inside (omega arith)
      ∙ filter-agree (λ p. eqb (owner_at owners p) k) (has (net_of k)) (points_below (length owners))
      (λ p i. bools_agree (eqb (owner_at owners p) k) (has (net_of k) p)
      (λ e. owner_has p k (In-points_below (length owners) p i) inside (eqb-true (owner_at owners p) k e))
      (λ h. eq-eqb (owner_at owners p) k (has_owner p k inside h).1))
      ∙ sym (get_or-map (ascending_net (length owners)) lists k [] d inside))

  -- and the last one the ignored points
  pub ignored_is : owned_by owners (length lists) ≡ ascending_net (length owners) ignored
  ignored_is =
      filter-agree (λ p. eqb (owner_at owners p) (length lists)) (has ignored) (points_below (length owners))
      (λ p i. bools_agree (eqb (owner_at owners p) (length lists)) (has ignored p)
      (λ e. owner_ignored p (In-points_below (length owners) p i) (eqb-true (owner_at owners p) (length lists) e))
      (λ h. eq-eqb (owner_at owners p) (length lists) (ignored_owner p h).1))

  abbrev table : NetTable
  table = table_of (length owners) lists ignored

  -- a point counts where it is not ignored
  counts : (p : ℕ) → p < length owners → owner_at owners p ≢ length lists → has (judged_points table) p ≡ true
  counts p l ne = judged-is table p l ∙ go (has table.ignored p) refl
    where
      go : (b : Bool) → has table.ignored p ≡ b → not (has table.ignored p) ≡ true
      go false e = ap not e
      go true e = absurd (ne (ignored_owner p (has-ascending (length owners) ignored p e).1).1)

  counted : (p : ℕ) → has (judged_points table) p ≡ true → (p < length owners) × (owner_at owners p ≢ length lists)
  counted p h =
      let l = judged-below table p h in
      (l, λ e. go l (owner_ignored p l e))
    where
      go : p < length owners → has ignored p ≡ true → ⊥
      go l i =
          let yes = ascending-has (length owners) ignored p l i in
          let no : has (judged_points table) p ≡ false = judged-is table p l ∙ ap not yes in
          absurd (let e : true ≡ false = sym h ∙ no in cc)

  uncounted : (p : ℕ) → p < length owners → has (judged_points table) p ≡ false → owner_at owners p ≡ length lists
  uncounted p l h = elim (cases_eq (owner_at owners p) (length lists)) [
    | inl e ↦ e
    | inr ne ↦ absurd (let e : false ≡ true = sym h ∙ counts p l ne in cc)
  ]

  some_counts : length (ascending_net (length owners) ignored) ≢ length owners → 0 < length (judged_points table)
  some_counts every =
      let same : length (filter (has table.ignored) (points_below (length owners))) ≡ length (ascending_net (length owners) ignored) =
      ap length (filter-agree (has table.ignored) (has ignored) (points_below (length owners))
      (λ p i. bools_agree (has table.ignored p) (has ignored p) (λ h. (has-ascending (length owners) ignored p h).1) (λ h. ascending-has (length owners) ignored p (In-points_below (length owners) p i) h))) in
      omega (arith, same, length-filter_both (has table.ignored) (λ p. not (has table.ignored p)) (λ p. refl) (points_below (length owners)), length-range_with_len 0 (length owners))

  named_at : (k : ℕ) (d : List ℕ) → k < length table.named → (k < length lists) × (get_or table.named k d ≡ ascending_net (length owners) (net_of k))
  named_at k d l =
      let inside : k < length lists = omega (arith, length-map lists (ascending_net (length owners))) in
      (inside, get_or-map (ascending_net (length owners)) lists k [] d inside)

  pub table_valid : length (ascending_net (length owners) ignored) ≢ length owners → IsNetTable table
  table_valid some = record {
    some_point = some_counts some;
    nonempty = λ k d l.
        let at = named_at k d l in
        let filled = net_not_empty (length owners) lists k (none_each (net_faults (length owners) lists) (length lists) k (nets_faultless lists ignored owners ok) at.0) in
        let first = has_first (net_of k) filled in
        let own = has_owner (get_or (net_of k) 0 0) k at.0 first in
        let there = ascending-has (length owners) (net_of k) (get_or (net_of k) 0 0) own.0 first in
        subst (λ (net : List ℕ). 0 < length net) (sym at.1) (some_length (get_or (net_of k) 0 0) (ascending_net (length owners) (net_of k)) there);
    ascending = λ k d l.
        let at = named_at k d l in
        subst IsStrictlyIncreasing (sym at.1) (IsStrictlyIncreasing-filter (has (net_of k)) (points_below (length owners)) (range_increasing (length owners)));
    in_range = λ k d l.
        let at = named_at k d l in
        subst (All (Contains (judged_points table))) (sym at.1)
        (λ j e inside.
        let p = get_or (ascending_net (length owners) (net_of k)) j e in
        let here = In-filter_cases (has (net_of k)) p (points_below (length owners)) (In-index-at j e (ascending_net (length owners) (net_of k)) inside) in
        let own = has_owner p k at.0 here.1 in
        let owner = own.1 in
        let low = at.0 in
        In-Contains p (judged_points table) (has-In p (judged_points table) (counts p own.0 (λ same. omega arith))));
    disjoint = λ i j d less l.
        let one = named_at i d (omega arith) in
        let other = named_at j d l in
        subst (λ (xs : List ℕ). Disjoint xs (get_or table.named j d)) (sym one.1)
        (subst (λ (ys : List ℕ). Disjoint (ascending_net (length owners) (net_of i)) ys) (sym other.1)
        (λ a e inside.
        let p = get_or (ascending_net (length owners) (net_of i)) a e in
        let here = In-filter_cases (has (net_of i)) p (points_below (length owners)) (In-index-at a e (ascending_net (length owners) (net_of i)) inside) in
        not_there p i j less other.0 (has_owner p i one.0 here.1).1 (has (ascending_net (length owners) (net_of j)) p) refl));
    ignored_ascending = IsStrictlyIncreasing-filter (has ignored) (points_below (length owners)) (range_increasing (length owners));
    ignored_in_range = λ k d l.
        let here = In-filter_cases (has ignored) (get_or table.ignored k d) (points_below (length owners)) (In-index-at k d table.ignored l) in
        In-points_below (length owners) (get_or table.ignored k d) here.0;
  }
    where
      has_first : (net : List ℕ) → 0 < length net → has net (get_or net 0 0) ≡ true
      has_first [] l = absurd (omega arith)
      has_first (x ∷ xs) l = has-head x xs

      In-index-at : (k d : ℕ) (xs : List ℕ) → k < length xs → In (get_or xs k d) xs
      In-index-at k d [] l = absurd (omega arith)
      In-index-at zero d (y ∷ ys) l = inl refl
      In-index-at (suc k) d (y ∷ ys) l = inr (In-index-at k d ys (omega arith))

      not_there : (p i j : ℕ) → i < j → j < length lists → owner_at owners p ≡ i → (b : Bool) → has (ascending_net (length owners) (net_of j)) p ≡ b →
          has (ascending_net (length owners) (net_of j)) p ≡ false
      not_there p i j less inside own false e = e
      not_there p i j less inside own true e =
          let found = has-ascending (length owners) (net_of j) p e in
          let again = (has_owner p j inside found.1).1 in
          absurd (omega arith)

-- ---- numbers of nets

-- the number of a point's net is the place of a net that holds it
pub net_at-is : (t : NetTable) → IsNetTable t → (p i : ℕ) → has (judged_points t) p ≡ true → i < length (all_nets t) → has (get_or (all_nets t) i []) p ≡ true → net_at t p ≡ i
net_at-is t ok p i counts inside h =
    let facts = net_facts t ok in
    let number : 0 + i ≡ i = omega arith in
    let there : In (i, get_or (all_nets t) i []) (numbered_nets t) = subst (λ (k : ℕ). In (k, get_or (all_nets t) i []) (numbered_nets t)) number (enumerate-In 0 i [] (all_nets t) inside) in
    facts.one_net (net_at t p, get_or (all_nets t) (net_at t p) []) (i, get_or (all_nets t) i []) p (facts.numbered_at p counts) there (facts.has_at p counts) h

abbrev SomeAt : (List ℕ → Bool) → List (List ℕ) → Type 0
SomeAt t xs = (k : ℕ) × (k < length xs) × (t (get_or xs k []) ≡ true)

any_step : (t : List ℕ → Bool) (x : List ℕ) (xs : List (List ℕ)) (b : Bool) → t x ≡ b → (list_any t xs ≡ true → SomeAt t xs) → list_any t (x ∷ xs) ≡ true → SomeAt t (x ∷ xs)
any_step t x xs true e ih h = (0, omega arith, e)
any_step t x xs false e ih h = let later : list_any t xs ≡ true = rw e at h in let r = ih later in let l = r.1 in (suc r.0, omega arith, r.2)

any_at : (t : List ℕ → Bool) (xs : List (List ℕ)) → list_any t xs ≡ true → (k : ℕ) × (k < length xs) × (t (get_or xs k []) ≡ true)
any_at t [] h = absurd (let e : false ≡ true = h in cc)
any_at t (x ∷ xs) h = any_step t x xs (t x) refl (λ e. any_at t xs e) h

abbrev single : ℕ → List ℕ
single p = p ∷ []

module _ (lists : List (List ℕ)) (ignored owners : List ℕ) (ok : IsClaimed lists ignored owners) where
  abbrev the_table : NetTable
  the_table = table_of (length owners) lists ignored

  abbrev in_some_net : ℕ → Bool
  in_some_net p = list_any (λ net. has net p) the_table.named

  named_net : (p k : ℕ) → p < length owners → k < length lists → has (get_or lists k []) p ≡ true → has (get_or the_table.named k []) p ≡ true
  named_net p k l inside h =
      subst (λ (net : List ℕ). has net p ≡ true) (sym (get_or-map (ascending_net (length owners)) lists k [] [] inside)) (ascending-has (length owners) (get_or lists k []) p l h)

  lone_owner : (p : ℕ) → p < length owners → owner_at owners p ≡ nobody → in_some_net p ≡ false
  lone_owner p l free = go (in_some_net p) refl
    where
      go : (b : Bool) → in_some_net p ≡ b → in_some_net p ≡ false
      go false e = e
      go true e =
          let few = lists_few lists ignored owners ok in
          let small = ok.small in
          let r = any_at (λ net. has net p) the_table.named e in
          let at = named_at lists ignored owners ok r.0 [] r.1 in
          let found = has-ascending (length owners) (get_or lists r.0 []) p (subst (λ (net : List ℕ). has net p ≡ true) at.1 r.2) in
          let own = (has_owner lists ignored owners ok p r.0 at.0 found.1).1 in
          let inside = at.0 in
          absurd (omega arith)

  owner_lone : (p : ℕ) → p < length owners → owner_at owners p ≢ length lists → in_some_net p ≡ false → owner_at owners p ≡ nobody
  owner_lone p l mark none = elim (cases_eq (owner_at owners p) nobody) [
    | inl e ↦ e
    | inr ne ↦
        let below = owners_below lists ignored owners ok p l ne in
        let inside : owner_at owners p < length lists = omega (arith, mark) in
        let found = owner_has lists ignored owners ok p (owner_at owners p) l inside refl in
        let yes : in_some_net p ≡ true =
        list_any_at (λ net. has net p) the_table.named (owner_at owners p) [] (omega (arith, length-map lists (ascending_net (length owners)))) (named_net p (owner_at owners p) l inside found) in
        absurd (let e : false ≡ true = sym none ∙ yes in cc)
  ]

  not_false : (b : Bool) → b ≡ false → not b ≡ true
  not_false false e = refl
  not_false true e = cc

  not_true : (b : Bool) → not b ≡ true → b ≡ false
  not_true false e = refl
  not_true true e = cc

  both_true : (a b : Bool) → a ≡ true → b ≡ true → (a && b) ≡ true
  both_true true true d e = refl
  both_true true false d e = e
  both_true false b d e = d

  -- a point of no list is one that counts and is in no net
  abbrev is_lone : ℕ → Bool
  is_lone p = not (has the_table.ignored p) && not (in_some_net p)

  free_lone : (p : ℕ) → p < length owners → owner_at owners p ≡ nobody → is_lone p ≡ true
  free_lone p l free =
      let few = lists_few lists ignored owners ok in
      let small = ok.small in
      let judged : not (has the_table.ignored p) ≡ true = sym (judged-is the_table p l) ∙ counts lists ignored owners ok p l (λ e. omega arith) in
      both_true (not (has the_table.ignored p)) (not (in_some_net p)) judged (not_false (in_some_net p) (lone_owner p l free))

  lone_free : (p : ℕ) → p < length owners → is_lone p ≡ true → owner_at owners p ≡ nobody
  lone_free p l e =
      let mark = counted lists ignored owners ok p (judged-is the_table p l ∙ and_left (not (has the_table.ignored p)) (not (in_some_net p)) e) in
      owner_lone p l mark.1 (not_true (in_some_net p) (and_right (not (has the_table.ignored p)) (not (in_some_net p)) e))

  pub lone_is : owned_by owners nobody ≡ lone_points the_table
  lone_is =
      filter-agree (λ p. eqb (owner_at owners p) nobody) is_lone (points_below (length owners))
      (λ p i.
      let l = In-points_below (length owners) p i in
      bools_agree (eqb (owner_at owners p) nobody) (is_lone p)
      (λ e. free_lone p l (eqb-true (owner_at owners p) nobody e))
      (λ e. eq-eqb (owner_at owners p) nobody (lone_free p l e)))
      ∙ sym (filter-filter (λ p. not (in_some_net p)) (λ p. not (has the_table.ignored p)) (points_below (length owners)))

  nets_length : length (all_nets the_table) ≡ length lists + length (owned_by owners nobody)
  nets_length =
      omega (arith, length-append the_table.named (map single (lone_points the_table)), length-map lists (ascending_net (length owners)), length-map (lone_points the_table) single, ap length lone_is)

  count_few : net_count the_table ≤ length owners
  count_few =
      omega (
        arith,
        nets_length,
        claimed_few lists ignored owners ok,
        filter_split (λ o. eqb o nobody) owners,
        length-filter-map (λ o. eqb o nobody) (owner_at owners) (points_below (length owners)),
        ap (λ (xs : List ℕ). length (filter (λ o. eqb o nobody) xs)) (owners_are owners),
      )

  number_is : length (ascending_net (length owners) ignored) ≢ length owners → (alone numbers : List ℕ) → NumberedAlone owners (length lists) alone numbers → alone ≡ owned_by owners nobody →
      (p : ℕ) → has (judged_points the_table) p ≡ true → owner_at numbers p ≡ net_at the_table p
  number_is some alone numbers s is p judged =
      let valid = table_valid lists ignored owners ok some in
      let at_all = counted lists ignored owners ok p judged in
      let l = at_all.0 in
      let named_size = length-map lists (ascending_net (length owners)) in
      elim (cases_eq (owner_at owners p) nobody) as (λ _. owner_at numbers p ≡ net_at the_table p) [
        | inl free ↦
            let low = s.later p l free in
            let place = s.inside p l free in
            let lone = is ∙ lone_is in
            let at : get_or (all_nets the_table) (owner_at numbers p) [] ≡ single p =
            get_or-append_right the_table.named (map single (lone_points the_table)) (length lists) (owner_at numbers p) [] named_size low
            ∙ get_or-map single (lone_points the_table) (owner_at numbers p - length lists) 0 [] (omega (arith, ap length lone))
            ∙ ap (λ (xs : List ℕ). single (get_or xs (owner_at numbers p - length lists) 0)) (sym lone)
            ∙ ap single (s.place p l free) in
            sym (net_at-is the_table valid p (owner_at numbers p) judged (omega (arith, nets_length, ap length is)) (subst (λ (net : List ℕ). has net p ≡ true) (sym at) (has-head p [])))
        | inr ne ↦
            let most = owners_below lists ignored owners ok p l ne in
            let below : owner_at owners p < length lists = let mark = at_all.1 in omega (arith, mark) in
            let found = owner_has lists ignored owners ok p (owner_at owners p) l below refl in
            let at = get_or_append_left the_table.named (map single (lone_points the_table)) [] (owner_at owners p) (omega (arith, named_size)) in
            s.kept p ne at_all.1
            ∙ sym (net_at-is the_table valid p (owner_at owners p) judged (omega (arith, nets_length))
            (subst (λ (net : List ℕ). has net p ≡ true) (sym at) (named_net p (owner_at owners p) l below found)))
      ]

  kept_table : length (ascending_net (length owners) ignored) ≢ length owners → (alone numbers : List ℕ) → NumberedAlone owners (length lists) alone numbers → alone ≡ owned_by owners nobody →
      length numbers ≡ length owners → IsKeptNets the_table numbers alone
  kept_table some alone numbers s alone_is size = record {
    valid = table_valid lists ignored owners ok some;
    numbers = number_is some alone numbers s alone_is;
    others = λ p l none. s.ignored p l (uncounted lists ignored owners ok p l none);
    size = size;
    alone = alone_is ∙ lone_is;
    few = count_few;
    small = ok.small;
  }

  pub kept : (named : List (List ℕ)) (others : List ℕ) (n first : ℕ) (alone numbers : List ℕ) → named ≡ map (ascending_net (length owners)) lists → others ≡ ascending_net (length owners) ignored →
      length owners ≡ n → first ≡ length lists → length others ≢ n → NumberedAlone owners first alone numbers → alone ≡ owned_by owners nobody → length numbers ≡ length owners →
      IsKeptNets (record { points = n; named = named; ignored = others }) numbers alone
  kept named others n first alone numbers named_are others_are points place some s alone_is size =
      let table : List (List ℕ) → List ℕ → ℕ → NetTable = λ xs ys k. record { points = k; named = xs; ignored = ys } in
      let is : the_table ≡ table named others n =
      ap (λ (xs : List (List ℕ)). table xs (ascending_net (length owners) ignored) (length owners)) (sym named_are)
      ∙ ap (λ (ys : List ℕ). table named ys (length owners)) (sym others_are)
      ∙ ap (table named others) points in
      subst (λ (t : NetTable). IsKeptNets t numbers alone) is
      (kept_table (λ e. some (ap length others_are ∙ e ∙ points)) alone numbers (subst (λ (k : ℕ). NumberedAlone owners k alone numbers) place s) alone_is size)

-- ---- before the first net

no_owner : (n : ℕ) → length (filter (λ o. not (eqb o nobody)) (replicate n nobody)) ≡ 0
no_owner zero = refl
no_owner (suc n) = no_owner n

pub unclaimed : (lists : List (List ℕ)) (n : ℕ) (owners : List ℕ) → owners ≡ replicate n nobody → ClaimedTo lists 0 owners
unclaimed lists n owners is = subst (ClaimedTo lists 0) (sym is) (record {
  claimed = record {
    marked = λ k p l h. absurd (omega arith);
    owned = λ p l ne. absurd (ne (get_or-replicate n p nobody nobody (omega (arith, length-replicate n nobody))));
    counted = sym (no_owner n);
  };
  faultless = refl;
})

-- ---- reading what is kept

pub number_read : (t self : NetTable) (numbers lone : List ℕ) (at p x : ℕ) → t ≡ self → IsKeptNets t numbers lone → at ≡ p → has (judged_points self) p ≡ true → at < length numbers → x ≡ get_or numbers at x → x ≡ net_at self p
number_read t self numbers lone at p x view kept same counts inside read =
    get_or_read numbers at x inside read nobody
    ∙ ap (λ (i : ℕ). get_or numbers i nobody) same
    ∙ kept.numbers p (ap (λ (u : NetTable). has (judged_points u) p) view ∙ counts)
    ∙ ap (λ (u : NetTable). net_at u p) view

one_taken : (a : ℕ) (xs : List ℕ) → a < length xs → take (a + 1 - a) (drop a xs) ≡ get_or xs a 0 ∷ []
one_taken a xs l =
    let one : a + 1 - a ≡ 1 = omega arith in
    ap (λ (n : ℕ). take n (drop a xs)) one ∙ ap (take 1) (drop_more xs a 0 l)

pub lone_read : (t self : NetTable) (lone : List ℕ) (i m : ℕ) → t ≡ self → lone ≡ lone_points t → m ≡ length t.named → m ≤ i → i < net_count t →
    take ((i - m) + 1 - (i - m)) (drop (i - m) lone) ≡ get_or (all_nets self) i []
lone_read t self lone i m view is size low inside =
    let place : i - m < length lone = omega (arith, length-append t.named (map single (lone_points t)), length-map (lone_points t) single, ap length is) in
    one_taken (i - m) lone place
    ∙ ap (λ (xs : List ℕ). single (get_or xs (i - m) 0)) is
    ∙ sym (get_or-map single (lone_points t) (i - m) 0 [] (omega (arith, ap length is)))
    ∙ sym (get_or-append_right t.named (map single (lone_points t)) m i [] (sym size) low)
    ∙ ap (λ (u : NetTable). get_or (all_nets u) i []) view

pub net_at-below : (t : NetTable) → IsNetTable t → (p : ℕ) → has (judged_points t) p ≡ true → net_at t p < net_count t
net_at-below t ok p counts =
    let facts = net_facts t ok in
    let at = In-enumerate 0 (net_at t p) (get_or (all_nets t) (net_at t p) []) (all_nets t) (facts.numbered_at p counts) in
    let place = at.1 in
    let inside = at.2 in
    omega arith

-- a point that counts has a number below the count of nets, another has none
pub judged_read : (t self : NetTable) (numbers lone : List ℕ) (at p x : ℕ) → t ≡ self → IsKeptNets t numbers lone → at ≡ p → p < self.points → at < length numbers → x ≡ get_or numbers at x →
    not (eqb x nobody) ≡ has (judged_points self) p
judged_read t self numbers lone at p x view kept same inside place read =
    let here : x ≡ owner_at numbers p = get_or_read numbers at x place read nobody ∙ ap (λ (i : ℕ). get_or numbers i nobody) same in
    let judged : has (judged_points t) p ≡ has (judged_points self) p = ap (λ (u : NetTable). has (judged_points u) p) view in
    let inside_t : p < t.points = omega (arith, ap (λ (u : NetTable). u.points) view) in
    ap (λ (o : ℕ). not (eqb o nobody)) here ∙ go (has (judged_points t) p) refl inside_t ∙ judged
  where
    go : (b : Bool) → has (judged_points t) p ≡ b → p < t.points → not (eqb (owner_at numbers p) nobody) ≡ has (judged_points t) p
    go true e l =
        let below = net_at-below t kept.valid p e in
        let few = kept.few in
        let small = kept.small in
        let number = kept.numbers p e in
        ap not (ne_eqb (owner_at numbers p) nobody (λ f. omega arith)) ∙ sym e
    go false e l = ap not (eq-eqb (owner_at numbers p) nobody (kept.others p l e)) ∙ sym e

-- the points that count, and those that do not
pub judged_rest : (t : NetTable) → IsNetTable t → length (judged_points t) + length t.ignored ≡ t.points
judged_rest t ok =
    let below : (p : ℕ) → has t.ignored p ≡ true → p < t.points = λ p h. All-In (λ q. q < t.points) p t.ignored ok.ignored_in_range (has-In p t.ignored h) in
    omega (
      arith,
      ap length (ascending_is t.points t.ignored ok.ignored_ascending below),
      length-filter_both (has t.ignored) (λ p. not (has t.ignored p)) (λ p. refl) (points_below t.points),
      length-range_with_len 0 t.points,
    )

-- nothing is ignored
none_kept : (xs : List ℕ) → filter (has []) xs ≡ []
none_kept [] = refl
none_kept (x ∷ xs) = none_kept xs

pub none_ignored : (n : ℕ) (ignored : List ℕ) → ignored ≡ [] → ascending_net n ignored ≡ []
none_ignored n ignored is = ap (ascending_net n) is ∙ none_kept (points_below n)
