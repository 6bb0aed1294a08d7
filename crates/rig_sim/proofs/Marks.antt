-- Marks of the classes that a group touches.
use Rattle.std.proofs.Common.{◌≡◌, ◌⊎◌, ℕ, zero, suc, ◌+◌, ◌<◌, Bool, true, false, List, [], ◌∷◌, ◌++◌, length, get_or, set, take, refl, sym, ◌∙◌, ap, subst, inl, inr, ⊎_elim, arith}
use Rattle.std.specs.Prelude.{All, Contains, IsTrue, ◌↔◌, ◌==◌, ◌||◌}
use Rattle.std.specs.List.{list_any}
use Rattle.std.proofs.lemmas.List.{length-set, get_or-set_same, get_or-set_other, take_more}
use Rattle.std.proofs.lemmas.List.Elements.{All-contains}
use Rattle.std.proofs.lemmas.Bool.Decides.{eqb_tells}
use Rattle.partition.specs.Classes.{class_at, JoinsBelow}
use Rattle.partition.specs.Partitions.{IsPartitionOfAll}
use Rattle.partition.proofs.classes.WalkLaws.{joined_by-walk, walk-joined_by}
use Rattle.rig.specs.declared.unit.Row.{Row}
use Rattle.rig.specs.Calls.{AreGroups, AreJoined}
use Rattle.rig.specs.Joins.{IsRowBelow, joins_of, joined_classes}
use Rattle.rig.specs.Values.{touches, same_class}
use Rattle.rig.proofs.RowsBelow.{joins_below}
use Rattle.harness.proofs.PlaceLemmas.{list_any-push}
use Rattle.rig_sim.specs.Fixture.{AreMarks, met_by}

pub marks_start : (classes group : List ℕ) (marks : List Bool) → length marks ≡ length classes → ((k : ℕ) → get_or marks k false ≡ false) → AreMarks classes (take 0 group) marks
marks_start classes group marks size none = record { size = size; marked = λ p short. none (class_at classes p) }

touches_push : (classes group : List ℕ) (q p : ℕ) → touches classes p (group ++ (q ∷ [])) ≡ (touches classes p group || same_class classes p q)
touches_push classes group q p = list_any-push (λ r. same_class classes p r) group q

or_true : (b : Bool) → (b || true) ≡ true
or_true true = refl
or_true false = refl

or_false : (b : Bool) → (b || false) ≡ b
or_false true = refl
or_false false = refl

-- one more mark
pub marks_step : (classes group : List ℕ) (marks : List Bool) (q i class : ℕ) → i < length group → q ≡ get_or group i q → class ≡ class_at classes q → class < length classes → AreMarks classes (take i group) marks →
    AreMarks classes (take (i + 1) group) (set marks class true)
marks_step classes group marks q i class short at class_is inside m = record {
  size = length-set marks class true ∙ m.size;
  marked = λ p small.
      let more : touches classes p (take (i + 1) group) ≡ (touches classes p (take i group) || same_class classes p q) =
      ap (touches classes p) (take_more group i q short ∙ ap (λ k. take i group ++ (k ∷ [])) (sym at)) ∙ touches_push classes (take i group) q p in
      let s = m.size in
      elim (eqb_tells (class_at classes p) class) [
        | inl e ↦
            let same : same_class classes p q ≡ true = ap (λ k. class_at classes p == k) (sym class_is) ∙ e.0 in
            ap (λ k. get_or (set marks class true) k false) e.1 ∙ get_or-set_same marks class true false (omega arith)
            ∙ sym (more ∙ ap (λ b. touches classes p (take i group) || b) same ∙ or_true (touches classes p (take i group)))
        | inr e ↦
            let other : same_class classes p q ≡ false = ap (λ k. class_at classes p == k) (sym class_is) ∙ e.0 in
            get_or-set_other marks class (class_at classes p) true false e.1 ∙ m.marked p small
            ∙ sym (more ∙ ap (λ b. touches classes p (take i group) || b) other ∙ or_false (touches classes p (take i group)))
      ];
}

-- the class of a point of the list
pub class_inside : (classes group : List ℕ) (q i class : ℕ) → IsPartitionOfAll classes → All (λ p. p < length classes) group → i < length group → q ≡ get_or group i q → class ≡ class_at classes q → class < length classes
class_inside classes group q i class all below short at class_is =
    let inside : q < length classes = subst (λ k. k < length classes) (sym at) (below i q short) in
    let least = all.least q inside in omega arith

-- ---- groups that meet

Contains-later : (y : ℕ) (ys : List ℕ) (x : ℕ) → Contains ys x → Contains (y ∷ ys) x
Contains-later y ys x found = (suc found.0, let s = found.1 in omega arith, found.2)

first_or : (y : ℕ) (ys : List ℕ) (x : ℕ) → Contains (y ∷ ys) x → (y ≡ x) ⊎ Contains ys x
first_or y ys x (zero, lt, is) = inl is
first_or y ys x (suc k, lt, is) = inr (k, omega arith, is)

any_found : (p : ℕ → Bool) (xs : List ℕ) → list_any p xs ≡ true → (x : ℕ) × Contains xs x × (p x ≡ true)
any_found p [] h = cc
any_found p (x ∷ xs) h = go (p x) refl h (any_found p xs)
  where
    go : (b : Bool) → p x ≡ b → (b || list_any p xs) ≡ true → (list_any p xs ≡ true → (y : ℕ) × Contains xs y × (p y ≡ true)) → (y : ℕ) × Contains (x ∷ xs) y × (p y ≡ true)
    go true e f later = (x, (0, omega arith, refl), e)
    go false e f later = let found = later f in (found.0, Contains-later x xs found.0 found.1, found.2)

found_any : (p : ℕ → Bool) (xs : List ℕ) (x : ℕ) → Contains xs x → p x ≡ true → list_any p xs ≡ true
found_any p [] x found holds = absurd (omega (arith, found.1))
found_any p (y ∷ xs) x found holds = go (p y) refl (first_or y xs x found) (λ later. found_any p xs x later holds)
  where
    go : (b : Bool) → p y ≡ b → (y ≡ x) ⊎ Contains xs x → (Contains xs x → list_any p xs ≡ true) → (b || list_any p xs) ≡ true
    go true e which rest = refl
    go false e which rest = ⊎_elim (λ here. let yes : p y ≡ true = ap p here ∙ holds in cc) (λ later. rest later) which

eq_true : (x y : ℕ) → (x == y) ≡ true → x ≡ y
eq_true x y h = elim (eqb_tells x y) [ inl e ↦ e.1 | inr e ↦ let f = e.0 in cc ]

true_eq : (x y : ℕ) → x ≡ y → (x == y) ≡ true
true_eq x y h = elim (eqb_tells x y) [ inl e ↦ e.0 | inr e ↦ absurd (e.1 h) ]

-- groups meet exactly where some of their points are joined
pub met_joined : (rows : List Row) (points : ℕ) (classes a b : List ℕ) → All (IsRowBelow points) rows → classes ≡ joined_classes rows points → AreGroups points a b → IsTrue (met_by classes a b) ↔ AreJoined rows a b
met_joined rows points classes a b below is groups = rw is (
  (λ met.
      let right = any_found (λ q. touches (joined_classes rows points) q a) b met in
      let left = any_found (λ p. same_class (joined_classes rows points) right.0 p) a right.2 in
      let same = eq_true (class_at (joined_classes rows points) right.0) (class_at (joined_classes rows points) left.0) left.2 in
      (left.0, right.0, left.1, right.1, joined_by-walk (joins_of rows) points joins left.0 right.0 (inside a left.0 groups.left.in_range left.1) (inside b right.0 groups.right.in_range right.1) (sym same))),
  (λ joined.
      let same = walk-joined_by (joins_of rows) points joins joined.4 in
      found_any (λ q. touches (joined_classes rows points) q a) b joined.1 joined.3
      (found_any (λ p. same_class (joined_classes rows points) joined.1 p) a joined.0 joined.2 (true_eq (class_at (joined_classes rows points) joined.1) (class_at (joined_classes rows points) joined.0) (sym same)))),
)
  where
    joins : JoinsBelow (joins_of rows) points
    joins = joins_below points rows below

    inside : (group : List ℕ) (p : ℕ) → All (λ q. q < points) group → Contains group p → p < points
    inside group p in_range in_group = All-contains (λ q. q < points) group p in_range in_group
