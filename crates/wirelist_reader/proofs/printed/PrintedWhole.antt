-- Rows that are each what they may be, and have no fault together.
use Rattle.std.proofs.Common.{◌≡◌, ◌≢◌, ℕ, ◌+◌, ◌<◌, ◌≤◌, Bool, true, false, not, cond, List, [], ◌∷◌, ◌++◌, length, get_or, map, filter, All, AllPairs, Some, refl, sym, ◌∙◌, ap, subst, arith, length-append}
use Rattle.std.specs.Prelude.{◌&&◌, ◌||◌, ◌==◌, nat_le, bytes_eq}
use Rattle.std.specs.List.{list_any, list_all}
use Rattle.std.proofs.Math.Seq.{get_or-append_seam}
use Rattle.std.proofs.lemmas.Bool.{lt-leb}
use Rattle.std.proofs.lemmas.List.{get_or_append_left, map-append}
use Rattle.std.proofs.lemmas.List.Elements.{filter-append}
use Rattle.std.proofs.lemmas.List.Folds.{list_any_none}
use Rattle.std.proofs.lemmas.List.Sums.{list_all-from_AllPass}
use Rattle.wirelist.specs.declared.refusal.WireRefusal.{WireRefusal}
use Rattle.wirelist_reader.specs.Kinds.{kind_of}
use Rattle.wirelist_reader.specs.Rows.{field_at, is_kind, is_named, is_component}
use Rattle.wirelist_reader.specs.Refusals.{fault_if, is_text, is_single, names_in, bad_field, text_faults, single_faults, field_faults, name_faults, window_faults, count_faults, late_faults, kind_faults, all_row_faults}
use Rattle.wirelist_reader.specs.declared.kind.Kind.{Kind}
use Rattle.wirelist_reader.proofs.Numbers.{bytes_differ, bytes_same}
use Rattle.wirelist_reader.proofs.KindFacts.{kind_of_word}
use Rattle.wirelist_reader.proofs.Firsts.{none_in_both}
use Rattle.wirelist_reader.proofs.printed.PrintedLists.{none_of_splits}
use Rattle.wirelist_reader.proofs.printed.PrintedNets.{All-split}
use Rattle.wirelist_reader.proofs.printed.PrintedRows.{IsPrinted}
use Rattle.wirelist_reader.proofs.printed.PrintedProgram.{IsOfSomeKind}

-- no name is given twice, rows of which a file has one stand once, and the components are few enough
pub record IsWhole (rows : List (List (List ℕ))) : Type 0 where
  pub names : AllPairs ◌≢◌ (names_in rows)
  pub single : (kind : Kind) → is_single kind ≡ true → length (filter (is_kind kind) rows) ≤ 1
  pub few : length (filter is_component rows) ≤ 512

-- ---- lists in two parts

-- what stands before an item has to it what the earlier of two has to the later
pub pairs_before : {X : Type 0} (R : X → X → Type 0) (before after : List X) (x : X) → AllPairs R (before ++ x ∷ after) → All (λ y. R y x) before
pairs_before R before after x pairs k d l =
    let whole = before ++ x ∷ after in
    subst (λ y. R y x) (get_or_append_left before (x ∷ after) d k l)
    (subst (λ y. R (get_or whole k d) y) (get_or-append_seam before x after d) (pairs k (length before) d l (omega (arith, length-append before (x ∷ after)))))

module _ {X : Type 0} (t : X → Bool) where
  filter_middle : (before after : List X) (x : X) → t x ≡ true → filter t (before ++ x ∷ after) ≡ filter t before ++ x ∷ filter t after
  filter_middle before after x passes =
      filter-append t before (x ∷ after) ∙ ap (λ b. filter t before ++ cond b (x ∷ filter t after) (filter t after)) passes

  fewer_before : (before after : List X) (x : X) (m : ℕ) → t x ≡ true → length (filter t (before ++ x ∷ after)) ≤ m → length (filter t before) < m
  fewer_before before after x m passes few =
      omega (arith, ap length (filter_middle before after x passes), length-append (filter t before) (x ∷ filter t after))

  none_any : (xs : List X) → length (filter t xs) < 1 → list_any t xs ≡ false
  none_any [] few = refl
  none_any (x ∷ xs) few = go (t x) refl (none_any xs)
    where
      go : (b : Bool) → t x ≡ b → (length (filter t xs) < 1 → list_any t xs ≡ false) → list_any t (x ∷ xs) ≡ false
      go true e later = absurd (omega (arith, ap (λ b. length (cond b (x ∷ filter t xs) (filter t xs))) e))
      go false e later =
          let same : length (filter t (x ∷ xs)) ≡ length (filter t xs) = ap (λ b. length (cond b (x ∷ filter t xs) (filter t xs))) e in
          ap (λ b. b || list_any t xs) e ∙ later (omega (arith, same))

-- ---- a row behind others

pub fault_none : (condition : Bool) (fault : WireRefusal) → condition ≡ false → fault_if condition fault ≡ []
fault_none condition fault e = ap (λ b. cond b (fault ∷ []) []) e

and_none : (a b : Bool) → (a ≡ true → b ≡ false) → (a && b) ≡ false
and_none true b h = h refl
and_none false b h = refl

cond_none : {X : Type 0} (b : Bool) (xs : List X) → xs ≡ [] → cond b [] xs ≡ []
cond_none true xs e = refl
cond_none false xs e = e

module _ (before after : List (List (List ℕ))) (row : List (List ℕ)) (whole : IsWhole (before ++ row ∷ after)) where
  single_none : (kind : Kind) (n : ℕ) → is_kind kind row ≡ true → single_faults kind before n ≡ []
  single_none kind n is =
      fault_none (is_single kind && list_any (is_kind kind) before) _
      (and_none (is_single kind) (list_any (is_kind kind) before) (λ one. none_any (is_kind kind) before (fewer_before (is_kind kind) before after row 1 is (whole.single kind one))))

  names_middle : is_named row ≡ true → names_in (before ++ row ∷ after) ≡ names_in before ++ field_at row 1 ∷ names_in after
  names_middle is =
      ap (map (λ r. field_at r 1)) (filter_middle is_named before after row is) ∙ map-append (λ r. field_at r 1) (filter is_named before) (row ∷ filter is_named after)

  new_name : is_named row ≡ true → list_any (bytes_eq (field_at row 1)) (names_in before) ≡ false
  new_name is =
      let apart = pairs_before ◌≢◌ (names_in before) (names_in after) (field_at row 1) (subst (AllPairs ◌≢◌) (names_middle is) whole.names) in
      list_any_none (bytes_eq (field_at row 1)) (names_in before) (λ k d l. bytes_differ (field_at row 1) (get_or (names_in before) k d) (λ e. apart k d l (sym e)))

  name_none : (n : ℕ) → name_faults before row n ≡ []
  name_none n = fault_none (is_named row && list_any (bytes_eq (field_at row 1)) (names_in before)) _ (and_none (is_named row) (list_any (bytes_eq (field_at row 1)) (names_in before)) new_name)

  count_none : (n : ℕ) → count_faults before row n ≡ []
  count_none n =
      fault_none (is_component row && nat_le 512 (length (filter is_component before))) _
      (and_none (is_component row) (nat_le 512 (length (filter is_component before))) (λ is. lt-leb 512 (length (filter is_component before)) (fewer_before is_component before after row 512 is whole.few)))

  row_none : (kind : Kind) (n : ℕ) → IsPrinted kind row → text_faults row n ++ kind_faults (kind_of (field_at row 0)) before row n ≡ []
  row_none kind n printed =
      let is : is_kind kind row ≡ true = bytes_same _ _ printed.word in
      let named : kind_of (field_at row 0) ≡ Some kind = ap kind_of printed.word ∙ kind_of_word kind in
      let text : list_all is_text row ≡ true = list_all-from_AllPass is_text row (λ k d l. (printed.plain k d l).1) in
      let late : late_faults before row n ≡ [] =
      none_in_both (name_faults before row n) (window_faults row n ++ count_faults before row n) (name_none n)
      (none_in_both (window_faults row n) (count_faults before row n) (fault_none _ _ printed.window) (count_none n)) in
      none_in_both (text_faults row n) (kind_faults (kind_of (field_at row 0)) before row n)
      (fault_none _ _ (ap not text))
      (ap (λ k. kind_faults k before row n) named
      ∙ none_in_both (single_faults kind before n) (field_faults kind row n ++ late_faults before row n) (single_none kind n is)
      (none_in_both (field_faults kind row n) (late_faults before row n) (ap (map (bad_field row n)) printed.fit) late))

abbrev faults_behind : ℕ → List (List (List ℕ)) → List (List ℕ) → List WireRefusal
faults_behind i before row = cond (length row == 0) [] (text_faults row (i + 1) ++ kind_faults (kind_of (field_at row 0)) before row (i + 1))

-- no row has a fault
pub rows_none : (rows : List (List (List ℕ))) → IsWhole rows → All IsOfSomeKind rows → all_row_faults rows ≡ []
rows_none rows whole printed =
    none_of_splits faults_behind [] rows (λ before after row i e.
    let own = All-split IsOfSomeKind rows before after row e printed in
    cond_none (length row == 0) (text_faults row (i + 1) ++ kind_faults (kind_of (field_at row 0)) before row (i + 1))
    (row_none before after row (subst IsWhole e whole) own.0 (i + 1) own.1))
