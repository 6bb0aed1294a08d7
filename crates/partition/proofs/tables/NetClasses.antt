-- The least point of a net, and the partition by nets.
use Rattle.std.proofs.Common.{◌≡◌, inl, inr, ℕ, ◌+◌, ◌-◌, ◌<◌, ◌≤◌, ◌^◌, Bool, false, cond, List, [], ◌∷◌, ◌++◌, length, get_or, map, refl, sym, ◌∙◌, ap, subst, arith, true, length-append}
use Rattle.std.specs.List.Sorted.{IsStrictlyIncreasing}
use Rattle.std.proofs.lemmas.List.{get_or_append_left, get_or-append_right, get_or-map, length-map, get_or_read}
use Rattle.std.proofs.lemmas.List.FromFn.{map-range_with_len_more}
use Rattle.std.proofs.lemmas.Bool.{cases_lt, cases_eq}
use Rattle.partition.specs.Classes.{points_below, has, first_with, no_class}
use Rattle.partition.specs.Partitions.{IsPartitionValue}
use Rattle.partition.specs.NetTable.{NetTable, IsNetTable, all_nets, net_at, net_count, judged_points, programmed_of, head_of}
use Rattle.partition.specs.NetTable.{numbered_nets}
use Rattle.partition.specs.Claims.{lone_points, head_class}
use Rattle.partition.proofs.classes.ClassLaws.{first_with-found, first_with-least, length-classes_by, map-same, has-head}
use Rattle.partition.proofs.classes.FirstPoint.{head_of-first}
use Rattle.partition.proofs.classes.JudgedPartition.{partition-classing}
use Rattle.partition.proofs.Members.{In, has-In, enumerate-In}
use Rattle.partition.proofs.tables.NetLaws.{In-index, net_facts, judged-below, judged-ascends}
use Rattle.partition.proofs.PickedLemmas.{increasing_below}
use Rattle.partition.proofs.classes.Programmed.{programmed-IsPartition}
use Rattle.partition.proofs.tables.KeptLemmas.{net_at-is, net_at-below}

abbrev single : ℕ → List ℕ
single p = p ∷ []

first_has : (net : List ℕ) → 0 < length net → has net (get_or net 0 0) ≡ true
first_has [] l = absurd (omega arith)
first_has (x ∷ xs) l = has-head x xs

first_least : (net : List ℕ) (p : ℕ) → IsStrictlyIncreasing net → has net p ≡ true → get_or net 0 0 ≤ p
first_least net p up h =
    let at = In-index p net (has-In p net h) in
    let place = at.2 0 in
    elim (cases_eq at.0 0) as (λ _. get_or net 0 0 ≤ p) [
      | inl first ↦ omega (arith, place, ap (λ (k : ℕ). get_or net k 0) first)
      | inr later ↦ omega (arith, place, increasing_below net up 0 at.0 (omega arith) at.1)
    ]

module _ (t : NetTable) (ok : IsNetTable t) where
  abbrev net : ℕ → List ℕ
  net i = get_or (all_nets t) i []

  pub number_at : (i : ℕ) → i < net_count t → In (i, net i) (numbered_nets t)
  number_at i l = let number : 0 + i ≡ i = omega arith in subst (λ (k : ℕ). In (k, net i) (numbered_nets t)) number (enumerate-In 0 i [] (all_nets t) l)

  pub net_some : (i : ℕ) → i < net_count t → 0 < length (net i)
  net_some i l =
      let at = In-index (head_of (net i)) (net i) (has-In (head_of (net i)) (net i) ((net_facts t ok).head_in (i, net i) (number_at i l))) in
      let inside = at.1 in
      omega arith

  pub net_increasing : (i : ℕ) → i < net_count t → IsStrictlyIncreasing (net i)
  net_increasing i l = elim (cases_lt i (length t.named)) as (λ _. IsStrictlyIncreasing (net i)) [
    | inl named ↦ subst IsStrictlyIncreasing (sym (get_or_append_left t.named (map single (lone_points t)) [] i named)) (ok.ascending i [] named)
    | inr alone ↦
        let place : i - length t.named < length (lone_points t) =
        omega (arith, length-append t.named (map single (lone_points t)), length-map (lone_points t) single) in
        let at : net i ≡ single (get_or (lone_points t) (i - length t.named) 0) =
        get_or-append_right t.named (map single (lone_points t)) (length t.named) i [] refl alone
        ∙ get_or-map single (lone_points t) (i - length t.named) 0 [] place in
        subst IsStrictlyIncreasing (sym at) (λ k less. absurd (omega arith))
  ]

  pub first_class : (p : ℕ) → has (judged_points t) p ≡ true → get_or (net (net_at t p)) 0 0 ≡ first_with (net_at t) (judged_points t) (net_at t p)
  first_class p counts =
      let facts = net_facts t ok in
      let js = judged_points t in
      let i = net_at t p in
      let inside = net_at-below t ok p counts in
      let here = first_has (net i) (net_some i inside) in
      let h = get_or (net i) 0 0 in
      let judged = facts.judged_in (i, net i) h (number_at i inside) here in
      let own = net_at-is t ok h i judged inside here in
      let found = first_with-found (net_at t) js i p counts refl in
      let least = first_with-least (net_at t) 0 js i h (judged-ascends t) judged own in
      let c = first_with (net_at t) js i in
      let in_net : has (net i) c ≡ true = subst (λ (k : ℕ). has (net k) c ≡ true) found.0 (facts.has_at c found.1) in
      omega (arith, first_least (net i) c (net_increasing i inside) in_net, least)

  -- the head of a judged point's net is its class
  class_is : (p : ℕ) (b : Bool) → has (judged_points t) p ≡ b → head_class t p ≡ cond (has (judged_points t) p) (first_with (net_at t) (judged_points t) (net_at t p)) no_class
  class_is p true e = rw e (first_class p e)
  class_is p false e = rw e refl

  pub programmed_is : (classes : List ℕ) (n : ℕ) → n ≡ t.points → classes ≡ map (head_class t) (points_below n) → classes ≡ programmed_of t
  programmed_is classes n all is =
      is
      ∙ ap (λ (m : ℕ). map (head_class t) (points_below m)) all
      ∙ map-same (head_class t) (λ p. cond (has (judged_points t) p) (first_with (net_at t) (judged_points t) (net_at t p)) no_class)
      (λ p. class_is p (has (judged_points t) p) refl) (points_below t.points)

  pub programmed_valid : t.points < 2 ^ 16 → IsPartitionValue (programmed_of t)
  programmed_valid few = record {
    partition = partition-classing (judged_points t) t.points (programmed_of t) few (judged-below t) (judged-ascends t) (programmed-IsPartition t ok);
    few = omega (arith, length-classes_by (judged_points t) t.points (net_at t));
  }

pub named_read : (t self : NetTable) (i : ℕ) → t ≡ self → i < length t.named → get_or t.named i [] ≡ get_or (all_nets self) i []
named_read t self i view l = sym (get_or_append_left t.named (map single (lone_points t)) [] i l) ∙ ap (λ (u : NetTable). get_or (all_nets u) i []) view

-- one more class
pub class_more : (t : NetTable) (classes grown : List ℕ) (p x : ℕ) → classes ≡ map (head_class t) (points_below p) → x ≡ head_class t p → grown ≡ classes ++ x ∷ [] → grown ≡ map (head_class t) (points_below (p + 1))
class_more t classes grown p x is first next =
    next ∙ ap (λ (xs : List ℕ). xs ++ x ∷ []) is ∙ ap (λ (y : ℕ). map (head_class t) (points_below p) ++ y ∷ []) first ∙ sym (map-range_with_len_more (head_class t) 0 p p (omega arith))

-- the head of the net of a judged point, as it is read
pub head_read : (t : NetTable) (net : List ℕ) (p x number : ℕ) → has (judged_points t) p ≡ true → number ≡ net_at t p → net ≡ get_or (all_nets t) number [] → 0 < length net → x ≡ get_or net 0 x → x ≡ head_class t p
head_read t net p x number counts at here some read =
    get_or_read net 0 x some read 0 ∙ ap (λ (xs : List ℕ). get_or xs 0 0) (here ∙ ap (λ (i : ℕ). get_or (all_nets t) i []) at) ∙ sym (rw counts refl)

pub no_head : (t : NetTable) (p x : ℕ) → has (judged_points t) p ≡ false → x ≡ no_class → x ≡ head_class t p
no_head t p x none is = is ∙ sym (rw none refl)

-- the first point of an ascending net is its head
pub head_first : (net : List ℕ) (x : ℕ) → 0 < length net → IsStrictlyIncreasing net → x ≡ get_or net 0 x → x ≡ head_of net
head_first [] x some up read = absurd (omega arith)
head_first (p ∷ ps) x some up read = read ∙ sym (head_of-first p ps up)

pub head_judged : (t : NetTable) → IsNetTable t → (i : ℕ) → i < net_count t → has (judged_points t) (head_of (get_or (all_nets t) i [])) ≡ true
head_judged t ok i inside =
    let facts = net_facts t ok in
    facts.judged_in (i, get_or (all_nets t) i []) (head_of (get_or (all_nets t) i [])) (number_at t ok i inside) (facts.head_in (i, get_or (all_nets t) i []) (number_at t ok i inside))
