-- The numbers of the rows of a kind, one row after another.
use Rattle.std.proofs.Common.{◌≡◌, ℕ, ◌≤◌, false, List, [], ◌∷◌, ◌++◌, length, get_or, take, ◌+◌, ◌<◌, ◌∙◌, ap, sym, subst, inl, inr, ⊎_elim, arith}
use Rattle.std.specs.Prelude.{Contains, All, IsTrue, ◌↔◌}
use Rattle.std.specs.Ordering.{nat_cmp}
use Rattle.std.specs.BTreeSet.{BTreeSet, contains, IsOrdered}
use Rattle.std.proofs.lemmas.List.{take_more, take_all}
use Rattle.std.proofs.lemmas.List.Elements.{All-contains, Contains-get_or, Contains-push, Contains-append_left, Contains-push_cases}
use Rattle.std.proofs.lemmas.Map.Keys.{IsStrictlyIncreasing-from_sorted}
use Rattle.std.proofs.lemmas.Map.Views.{btree_set_contains_iff}
use Rattle.std.proofs.lemmas.Map.Lookups.{exact_unsigned}
use Rattle.std.proofs.lemmas.Cmp.{nat_cmp_total}
use Rattle.harness.specs.Rows.{InRange}
use Rattle.harness.specs.Units.{AreNumbers}
use Rattle.harness.specs.Numbers.{AddsNumber}
use Rattle.harness.specs.declared.row.HarnessRow.{HarnessRow}

-- the set has the numbers of the kind so far
pub record Collecting (kind : ℕ → HarnessRow) (rows : List HarnessRow) (failing : BTreeSet ℕ) : Type 0 where
  pub ordered : IsOrdered nat_cmp failing
  pub listed : (k : ℕ) → IsTrue (contains nat_cmp failing k) ↔ Contains rows (kind k)

pub collecting_start : (kind : ℕ → HarnessRow) (failing : BTreeSet ℕ) → IsOrdered nat_cmp failing → ((k : ℕ) → contains nat_cmp failing k ≡ false) → Collecting kind [] failing
collecting_start kind failing ordered none = record {
  ordered = ordered;
  listed = λ k. (λ yes. let no = none k in cc, λ h. absurd (omega (arith, h.1)));
}

pub collecting_step : (kind : ℕ → HarnessRow) (rows : List HarnessRow) (row : HarnessRow) (old new : BTreeSet ℕ) → Collecting kind rows old → AddsNumber kind old new row → Collecting kind (rows ++ (row ∷ [])) new
collecting_step kind rows row old new at adds = record {
  ordered = adds.ordered;
  listed = λ k. (
    (λ yes. ⊎_elim (λ was. Contains-append_left rows (row ∷ []) (kind k) ((at.listed k).0 was)) (λ is. subst (λ (r : HarnessRow). Contains (rows ++ (r ∷ [])) (kind k)) (sym is) (Contains-push rows (kind k))) ((adds.listed k).0 yes)),
    (λ h. ⊎_elim (λ was. (adds.listed k).1 (inl ((at.listed k).1 was))) (λ is. (adds.listed k).1 (inr is)) (Contains-push_cases rows row (kind k) h)),
  );
}

-- the numbers of the set
pub collecting_numbers : (kind : ℕ → HarnessRow) (rows : List HarnessRow) (set : BTreeSet ℕ) → Collecting kind rows set → AreNumbers kind rows set.keys
collecting_numbers kind rows set at = record {
  ascending = IsStrictlyIncreasing-from_sorted set.keys at.ordered;
  listed = λ k.
      let told = btree_set_contains_iff nat_cmp_total exact_unsigned set k in
      ((λ h. (at.listed k).0 (told.1 h)), (λ h. told.0 ((at.listed k).1 h)));
}

-- which are no greater than those of the rows
pub numbers_small : (kind : ℕ → HarnessRow) (rows : List HarnessRow) (numbers : List ℕ) (most : ℕ) → ((k : ℕ) → InRange (kind k) → k ≤ most) → All InRange rows → AreNumbers kind rows numbers → All (λ k. k ≤ most) numbers
numbers_small kind rows numbers most small in_range are = λ i d short.
    let k = get_or numbers i d in
    small k (All-contains InRange rows (kind k) in_range ((are.listed k).0 (Contains-get_or numbers i d short)))

pub collecting_next : (kind : ℕ → HarnessRow) (rows : List HarnessRow) (row : HarnessRow) (i : ℕ) (old new : BTreeSet ℕ) → i < length rows → row ≡ get_or rows i row → Collecting kind (take i rows) old → AddsNumber kind old new row → Collecting kind (take (i + 1) rows) new
collecting_next kind rows row i old new short at kept adds =
    subst (λ (rs : List HarnessRow). Collecting kind rs new) (sym (take_more rows i row short ∙ ap (λ (r : HarnessRow). take i rows ++ (r ∷ [])) (sym at)))
    (collecting_step kind (take i rows) row old new kept adds)

pub collecting_end : (kind : ℕ → HarnessRow) (rows : List HarnessRow) (i : ℕ) (set : BTreeSet ℕ) → length rows ≤ i → Collecting kind (take i rows) set → AreNumbers kind rows set.keys
collecting_end kind rows i set all kept = collecting_numbers kind rows set (subst (λ (rs : List HarnessRow). Collecting kind rs set) (take_all i rows all) kept)
