-- One more row that was checked.
use Rattle.std.proofs.Common.{◌≡◌, ℕ, ◌+◌, ◌≤◌, Bool, true, false, cond, List, [], ◌∷◌, ◌++◌, String, length, map, Some, slice_get, refl, sym, ◌∙◌, ap, arith}
use Rattle.std.specs.Prelude.{◌||◌, bytes_eq, filter, not, nat_le}
use Rattle.std.specs.List.{list_any}
use Rattle.std.specs.BTreeSet.{BTreeSet, contains_text}
use Rattle.std.specs.declared.alloc.Global.{Global}
use Rattle.std.proofs.lemmas.List.{map-append, length-append, append-nil}
use Rattle.std.proofs.lemmas.List.Elements.{filter-append}
use Rattle.std.proofs.lemmas.List.Filters.{length-filter_both}
use Rattle.wirelist.specs.Ranges.{most_parts}
use Rattle.wirelist.specs.declared.refusal.WireRefusal.TheVariants as wire
use Rattle.wirelist_reader.specs.Rows.{field_at, is_component, is_named}
use Rattle.wirelist_reader.specs.Refusals.{fault_if, names_in, window_faults, late_faults}
use Rattle.wirelist_reader.specs.Seen.{AreNames, IsSeen}
use Rattle.wirelist_reader.proofs.Numbers.{bytes_same, bytes_equal}

-- equality of texts goes both ways
bytes_eq_turned : (xs ys : List ℕ) → bytes_eq xs ys ≡ bytes_eq ys xs
bytes_eq_turned xs ys = go (bytes_eq xs ys) (bytes_eq ys xs) refl refl
  where
    go : (a b : Bool) → bytes_eq xs ys ≡ a → bytes_eq ys xs ≡ b → bytes_eq xs ys ≡ bytes_eq ys xs
    go true b e f = e ∙ sym (bytes_same ys xs (sym (bytes_equal xs ys e)))
    go false true e f = bytes_same xs ys (sym (bytes_equal ys xs f)) ∙ sym f
    go false false e f = e ∙ sym f

any_push : {X : Type 0} (p : X → Bool) (xs : List X) (x : X) → list_any p (xs ++ x ∷ []) ≡ (list_any p xs || p x)
any_push p [] x = go (p x)
  where
    go : (b : Bool) → (b || false) ≡ (false || b)
    go true = refl
    go false = refl
any_push p (y ∷ ys) x = go (p y) (any_push p ys x)
  where
    go : (b : Bool) → list_any p (ys ++ x ∷ []) ≡ (list_any p ys || p x) → (b || list_any p (ys ++ x ∷ [])) ≡ ((b || list_any p ys) || p x)
    go true e = refl
    go false e = e

cond_or : (c b : Bool) → cond c true b ≡ (b || c)
cond_or true true = refl
cond_or true false = refl
cond_or false true = refl
cond_or false false = refl

-- a set of names with one more
pub names_more : (set more : BTreeSet (String Global)) (names : List (List ℕ)) (key : List ℕ) → AreNames set names
    → ((cs : List ℕ) → contains_text more cs ≡ cond (bytes_eq key cs) true (contains_text set cs)) → AreNames more (names ++ key ∷ [])
names_more set more names key are updates = λ name.
    updates name ∙ cond_or (bytes_eq key name) (contains_text set name)
    ∙ ap (λ (b : Bool). b || bytes_eq key name) (are name)
    ∙ ap (λ (b : Bool). list_any (bytes_eq name) names || b) (bytes_eq_turned key name)
    ∙ sym (any_push (bytes_eq name) names key)

-- a name that is among them is a second one
pub same_name : (set : BTreeSet (String Global)) (names : List (List ℕ)) (name : List ℕ) (n : ℕ) → AreNames set names → contains_text set name ≡ true
    → slice_get (fault_if (list_any (bytes_eq name) names) (wire.SameName n)) 0 ≡ Some (wire.SameName n)
same_name set names name n are there = rw (sym (are name) ∙ there) refl

pub new_name : (set : BTreeSet (String Global)) (names : List (List ℕ)) (name : List ℕ) (n : ℕ) → AreNames set names → contains_text set name ≡ false
    → fault_if (list_any (bytes_eq name) names) (wire.SameName n) ≡ []
new_name set names name n are missing = rw (sym (are name) ∙ missing) refl

-- what a row adds
push_filter : (p : List (List ℕ) → Bool) (before : List (List (List ℕ))) (row : List (List ℕ)) (b : Bool) → p row ≡ b → filter p (before ++ row ∷ []) ≡ filter p before ++ cond b (row ∷ []) []
push_filter p before row b e = filter-append p before (row ∷ []) ∙ rw e refl

named_push : (before : List (List (List ℕ))) (row : List (List ℕ)) → is_named row ≡ true → names_in (before ++ row ∷ []) ≡ names_in before ++ field_at row 1 ∷ []
named_push before row e = ap (map (λ row. field_at row 1)) (push_filter is_named before row true e) ∙ map-append (λ row. field_at row 1) (filter is_named before) (row ∷ [])

other_push : (before : List (List (List ℕ))) (row : List (List ℕ)) → is_named row ≡ false → names_in (before ++ row ∷ []) ≡ names_in before
other_push before row e = ap (map (λ row. field_at row 1)) (push_filter is_named before row false e ∙ append-nil (filter is_named before))

component_push : (before : List (List (List ℕ))) (row : List (List ℕ)) → is_component row ≡ true → length (filter is_component (before ++ row ∷ [])) ≡ length (filter is_component before) + 1
component_push before row e = ap length (push_filter is_component before row true e) ∙ length-append (filter is_component before) (row ∷ [])

no_component_push : (before : List (List (List ℕ))) (row : List (List ℕ)) → is_component row ≡ false → length (filter is_component (before ++ row ∷ [])) ≡ length (filter is_component before)
no_component_push before row e = ap length (push_filter is_component before row false e ∙ append-nil (filter is_component before))

-- what was seen with a row of no name
pub seen_other : (before : List (List (List ℕ))) (row : List (List ℕ)) (names : BTreeSet (String Global)) (components : ℕ) → is_named row ≡ false → is_component row ≡ false
    → IsSeen before names components → IsSeen (before ++ row ∷ []) names components
seen_other before row names components other none seen = record {
  names_are = λ name. seen.names_are name ∙ ap (list_any (bytes_eq name)) (sym (other_push before row other));
  components_are = seen.components_are ∙ sym (no_component_push before row none);
}

-- with a net
pub seen_net : (before : List (List (List ℕ))) (row : List (List ℕ)) (names more : BTreeSet (String Global)) (components : ℕ) → is_named row ≡ true → is_component row ≡ false
    → IsSeen before names components → AreNames more (names_in before ++ field_at row 1 ∷ []) → IsSeen (before ++ row ∷ []) more components
seen_net before row names more components named none seen are = record {
  names_are = λ name. are name ∙ ap (list_any (bytes_eq name)) (sym (named_push before row named));
  components_are = seen.components_are ∙ sym (no_component_push before row none);
}

-- with a component
pub seen_component : (before : List (List (List ℕ))) (row : List (List ℕ)) (names more : BTreeSet (String Global)) (components : ℕ) → is_named row ≡ true → is_component row ≡ true
    → IsSeen before names components → AreNames more (names_in before ++ field_at row 1 ∷ []) → IsSeen (before ++ row ∷ []) more (components + 1)
seen_component before row names more components named part seen are = record {
  names_are = λ name. are name ∙ ap (list_any (bytes_eq name)) (sym (named_push before row named));
  components_are = ap (λ (n : ℕ). n + 1) seen.components_are ∙ sym (component_push before row part);
}

-- the faults of a row of no name: none
pub late_other : (before : List (List (List ℕ))) (row : List (List ℕ)) (n : ℕ) → is_named row ≡ false → is_component row ≡ false → late_faults before row n ≡ []
late_other before row n other none = rw (other, none) refl

-- the faults of a net, and of a component
pub late_net : (before : List (List (List ℕ))) (row : List (List ℕ)) (n : ℕ) → is_named row ≡ true → is_component row ≡ false
    → late_faults before row n ≡ fault_if (list_any (bytes_eq (field_at row 1)) (names_in before)) (wire.SameName n)
late_net before row n named none = rw (named, none) (append-nil (fault_if (list_any (bytes_eq (field_at row 1)) (names_in before)) (wire.SameName n)))

pub late_component : (before : List (List (List ℕ))) (row : List (List ℕ)) (n components : ℕ) → is_named row ≡ true → is_component row ≡ true → components ≡ length (filter is_component before)
    → late_faults before row n ≡ fault_if (list_any (bytes_eq (field_at row 1)) (names_in before)) (wire.SameName n) ++ (window_faults row n ++ fault_if (nat_le most_parts components) (wire.TooManyParts n))
late_component before row n components named part count = rw (named, part, count) refl

-- a row of a component gives a name
pub component_is_named : (row : List (List ℕ)) → is_component row ≡ true → is_named row ≡ true
component_is_named row part = rw part (or_true _)
  where
    or_true : (b : Bool) → (b || true) ≡ true
    or_true true = refl
    or_true false = refl

pub unnamed_is_no_component : (row : List (List ℕ)) → is_named row ≡ false → is_component row ≡ false
unnamed_is_no_component row other = go (is_component row) refl
  where
    go : (b : Bool) → is_component row ≡ b → b ≡ false
    go true e = let named = component_is_named row e in cc
    go false e = refl

-- there are no more components than rows
pub components_few : (before : List (List (List ℕ))) (names : BTreeSet (String Global)) (components : ℕ) → IsSeen before names components → components ≤ length before
components_few before names components seen =
    let both = length-filter_both is_component (λ row. not (is_component row)) (λ row. refl) before in
    let count = seen.components_are in
    omega arith
