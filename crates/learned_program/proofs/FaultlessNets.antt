-- Nets that are a table of judged points have no fault.
use Rattle.std.proofs.Common.{◌≡◌, ℕ, zero, suc, ◌<◌, Bool, true, false, cond, List, [], ◌∷◌, ◌++◌, length, get_or, take, None, refl, sym, ◌∙◌, ap, subst, arith, eqb, ltb, inl, inr}
use Rattle.std.specs.Prelude.{slice_get}
use Rattle.std.specs.List.{concat, flat_map}
use Rattle.std.proofs.lemmas.List.{get_or-take, length-take}
use Rattle.std.proofs.lemmas.Bool.{ne_eqb, lt-ltb, eq-eqb, or_left, or_right, false_from_ne_true, both_ways}
use Rattle.partition.specs.Classes.{points_below, has}
use Rattle.partition.specs.NetTable.{NetTable, IsNetTable, judged_points}
use Rattle.partition.specs.NetFaults.{listed, listed_before, point_faults, net_faults, none_judged, first_fault}
use Rattle.partition.specs.declared.nets.NetsRefusal.{NetsRefusal}
use Rattle.partition.specs.declared.nets.NetsRefusal.TheVariants.{OutOfRange, Twice, EmptyNet}
use Rattle.partition.proofs.tables.ClaimLemmas.{has-append_cases}
use Rattle.partition.proofs.tables.KeptLemmas.{In-points_below}
use Rattle.partition.proofs.Members.{In, has-In, In-has}
use Rattle.partition.proofs.tables.NetLaws.{In-index, Contains-In, judged-below}
use Rattle.partition.proofs.PickedLemmas.{increasing_same}

none_in : {A : Type 0} (f : ℕ → List A) (xs : List ℕ) → ((x : ℕ) → In x xs → f x ≡ []) → flat_map f xs ≡ []
none_in f [] each = refl
none_in f (x ∷ xs) each = ap (λ (ys : List _). ys ++ flat_map f xs) (each x (inl refl)) ∙ none_in f xs (λ y i. each y (inr i))

concat-has : (xss : List (List ℕ)) (p : ℕ) → has (concat xss) p ≡ true → (k : ℕ) × (k < length xss) × (has (get_or xss k []) p ≡ true)
concat-has [] p h = absurd (let e : false ≡ true = h in cc)
concat-has (x ∷ xss) p h =
    elim (has-append_cases p x (concat xss) h) [
      | inl a ↦ (0, omega arith, a)
      | inr b ↦ let r = concat-has xss p b in let l = r.1 in (suc r.0, omega arith, r.2)
    ]

-- a place of a list that has the point
pub has-place : (xs : List ℕ) (p : ℕ) → has xs p ≡ true → (k : ℕ) × (k < length xs) × (get_or xs k 0 ≡ p)
has-place xs p h = let i = In-index p xs (has-In p xs h) in (i.0, i.1, i.2 0)

place-here : (xs : List ℕ) (k p : ℕ) → k < length xs → get_or xs k 0 ≡ p → has xs p ≡ true
place-here [] k p l is = absurd (omega arith)
place-here (x ∷ xs) zero p l is = or_left (eqb x p) (has xs p) (eq-eqb x p is)
place-here (x ∷ xs) (suc k) p l is = or_right (eqb x p) (has xs p) (place-here xs k p (omega arith) is)

module _ (t : NetTable) (ok : IsNetTable t) (i : ℕ) (inside : i < length t.named) where
  abbrev net : List ℕ
  net = listed t.named i

  -- a point of the net stands in no earlier net, and not earlier in it
  not_before : (j p : ℕ) → j < length net → get_or net j 0 ≡ p → has (listed_before t.named i j) p ≡ true → ⊥
  not_before j p in_net is h =
      elim (has-append_cases p (concat (take i t.named)) (take j net) h) [
        | inl earlier ↦
            let found = concat-has (take i t.named) p earlier in
            let k = found.1 in
            let size = length-take i t.named in
            let before : found.0 < i = omega arith in
            let held = subst (λ (n : List ℕ). has n p ≡ true) (get_or-take i t.named found.0 [] before) found.2 in
            let place = has-place (get_or t.named found.0 []) p held in
            let apart : has net (get_or (get_or t.named found.0 []) place.0 0) ≡ false = ok.disjoint found.0 i [] before inside place.0 0 place.1 in
            let none : has net p ≡ false = subst (λ (q : ℕ). has net q ≡ false) place.2 apart in
            both_ways (has net p) none (place-here net j p in_net is)
        | inr within ↦
            let found = has-place (take j net) p within in
            let k = found.1 in
            let size = length-take j net in
            let before : found.0 < j = omega arith in
            let same = increasing_same net (ok.ascending i [] inside) found.0 j (omega arith) in_net (sym (get_or-take j net found.0 0 before) ∙ found.2 ∙ sym is) in
            absurd (omega arith)
      ]

  clean_point : (j p : ℕ) → j < length net → get_or net j 0 ≡ p → p < t.points → cond (ltb p t.points) (cond (has (listed_before t.named i j) p) (Twice p ∷ []) []) (OutOfRange p ∷ []) ≡ []
  clean_point j p in_net is below =
      ap (λ (b : Bool). cond b (cond (has (listed_before t.named i j) p) (Twice p ∷ []) []) (OutOfRange p ∷ [])) (lt-ltb p t.points below)
      ∙ ap (λ (b : Bool). cond b (Twice p ∷ []) []) (false_from_ne_true (has (listed_before t.named i j) p) (not_before j p in_net is))

  net_clean : net_faults t.points t.named i ≡ []
  net_clean =
      let some = ok.nonempty i [] inside in
      ap (λ (b : Bool). cond b (EmptyNet i ∷ []) (flat_map (point_faults t.points t.named i) (points_below (length net)))) (ne_eqb (length net) 0 (λ e. omega arith))
      ∙ none_in (point_faults t.points t.named i) (points_below (length net))
      (λ j at.
      let in_net = In-points_below (length net) j at in
      clean_point j (get_or net j 0) in_net refl (judged-below t (get_or net j 0) (In-has (get_or net j 0) (judged_points t) (Contains-In (get_or net j 0) (judged_points t) (ok.in_range i [] inside j 0 in_net)))))

-- a matrix with a point has one that is judged where none is ignored
some_judged : (n : ℕ) → 0 < n → none_judged n [] ≡ []
some_judged zero some = absurd (omega arith)
some_judged (suc n) some = refl

pub faultless : (t : NetTable) → IsNetTable t → 0 < t.points → first_fault t.points t.named [] ≡ None
faultless t ok some =
    let named : flat_map (net_faults t.points t.named) (points_below (length t.named)) ≡ [] =
    none_in (net_faults t.points t.named) (points_below (length t.named)) (λ i at. net_clean t ok i (In-points_below (length t.named) i at)) in
    ap (λ (faults : List NetsRefusal). slice_get (faults ++ none_judged t.points []) 0) named ∙ ap (λ (faults : List NetsRefusal). slice_get faults 0) (some_judged t.points some)
