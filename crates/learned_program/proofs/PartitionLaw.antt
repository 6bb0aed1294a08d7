-- The partition of the learned nets is the learned one.
use Rattle.std.proofs.Common.{◌≡◌, ◌≢◌, ℕ, ◌<◌, true, false, List, [], ◌∷◌, length, get_or, map, refl, sym, ◌∙◌, ap, subst, arith, inl, inr}
use Rattle.std.proofs.lemmas.Bool.{cases_eq}
use Rattle.std.proofs.lemmas.List.{get_or_append_left, length-append}
use Rattle.partition.specs.Classes.{points_below, has, class_at, classes_by, Same}
use Rattle.partition.specs.Partitions.{IsPartitionOfAll}
use Rattle.partition.specs.NetTable.{IsNetTable, all_nets, judged_points, net_at, programmed_of}
use Rattle.partition.specs.Claims.{lone_points}
use Rattle.partition.proofs.classes.ClassLaws.{classes_by-agree, eqb-agree, has-cases, has-points_below, points_below-AllBelow}
use Rattle.partition.proofs.classes.JoinedPartition.{own-IsPartition}
use Rattle.partition.proofs.tables.KeptLemmas.{all_judged, net_at-is, net_at-below}
use Rattle.partition.proofs.Members.{In, In-append_cases, In-map_cases}
use Rattle.partition.proofs.tables.NetLaws.{In-index, net_facts}
use Rattle.learned_program.specs.LearnedProgram.{class_points, learned_nets, learned_table}
use Rattle.learned_program.proofs.ClassLemmas.{in_class, class_has, learned_net, class_learned, learned_valid}
use Rattle.learned_program.proofs.FaultlessNets.{has-place}
use Rattle.learned_program.proofs.ListLemmas.{index-In}

-- two points of a list make it two long
two_places : (xs : List ℕ) (p q : ℕ) → has xs p ≡ true → has xs q ≡ true → p ≢ q → 1 < length xs
two_places xs p q has_p has_q other =
    let one = has-place xs p has_p in
    let two = has-place xs q has_q in
    let inside = one.1 in
    let also = two.1 in
    let apart : one.0 ≢ two.0 = λ same. other (sym one.2 ∙ ap (λ (k : ℕ). get_or xs k 0) same ∙ two.2) in
    omega arith

one_point : (x p : ℕ) → has (x ∷ []) p ≡ true → x ≡ p
one_point x p h = elim (has-cases x p [] h) [ inl is ↦ is | inr none ↦ absurd (let e : false ≡ true = none in cc) ]

module _ (classes : List ℕ) (partition : IsPartitionOfAll classes) (some : 0 < length classes) where
  valid : IsNetTable (learned_table classes)
  valid = learned_valid classes some

  judged : (p : ℕ) → p < length classes → has (judged_points (learned_table classes)) p ≡ true
  judged p below = ap (λ (js : List ℕ). has js p) (all_judged (length classes)) ∙ has-points_below (length classes) p below

  -- a point of a class of two points or more has the number of that class as a net
  in_net : (k p : ℕ) → k < length (learned_nets classes) → p < length classes → has (get_or (learned_nets classes) k []) p ≡ true → net_at (learned_table classes) p ≡ k
  in_net k p inside below held =
      let alone = map (λ (x : ℕ). x ∷ []) (lone_points (learned_table classes)) in
      net_at-is (learned_table classes) valid p k (judged p below) (omega (arith, length-append (learned_nets classes) alone))
      (subst (λ (net : List ℕ). has net p ≡ true) (sym (get_or_append_left (learned_nets classes) alone [] k inside)) held)

  one_class : (p q : ℕ) → p < length classes → q < length classes → Same classes p q → net_at (learned_table classes) p ≡ net_at (learned_table classes) q
  one_class p q below also same =
      elim (cases_eq p q) as (λ _. net_at (learned_table classes) p ≡ net_at (learned_table classes) q) [
        | inl is ↦ ap (net_at (learned_table classes)) is
        | inr other ↦
            let c = class_at classes p in
            let least = partition.least p below in
            let has_p = class_has classes c p below refl in
            let has_q = class_has classes c q also (sym same) in
            let there = In-index (class_points classes c) (learned_nets classes) (class_learned classes c (omega arith) (partition.own p below) (two_places (class_points classes c) p q has_p has_q other)) in
            in_net there.0 p there.1 below (subst (λ (net : List ℕ). has net p ≡ true) (sym (there.2 [])) has_p)
            ∙ sym (in_net there.0 q there.1 also (subst (λ (net : List ℕ). has net q ≡ true) (sym (there.2 [])) has_q))
      ]

  in_one : (p q : ℕ) (net : List ℕ) → In net (all_nets (learned_table classes)) → has net p ≡ true → has net q ≡ true → Same classes p q
  in_one p q net there has_p has_q =
      elim (In-append_cases net (learned_nets classes) _ there) as (λ _. Same classes p q) [
        | inl named ↦
            let is = learned_net classes net named in
            let of = λ (x : ℕ) (h : has net x ≡ true). (in_class classes is.class x (subst (λ (n : List ℕ). has n x ≡ true) is.points h)).1 in
            of p has_p ∙ sym (of q has_q)
        | inr alone ↦
            let single = In-map_cases (λ (x : ℕ). x ∷ []) net _ alone in
            let is = λ (x : ℕ) (h : has net x ≡ true). one_point single.0 x (subst (λ (n : List ℕ). has n x ≡ true) (sym single.2) h) in
            ap (class_at classes) (sym (is p has_p) ∙ is q has_q)
      ]

  one_net : (p q : ℕ) → p < length classes → q < length classes → net_at (learned_table classes) p ≡ net_at (learned_table classes) q → Same classes p q
  one_net p q below also same =
      let facts = net_facts (learned_table classes) valid in
      let has_p = facts.has_at p (judged p below) in
      let has_q = facts.has_at q (judged q also) in
      let i = net_at (learned_table classes) p in
      in_one p q (get_or (all_nets (learned_table classes)) i []) (index-In (all_nets (learned_table classes)) i [] (net_at-below (learned_table classes) valid p (judged p below)))
      has_p (subst (λ (k : ℕ). has (get_or (all_nets (learned_table classes)) k []) q ≡ true) (sym same) has_q)

pub learned_classes : (classes : List ℕ) → IsPartitionOfAll classes → programmed_of (learned_table classes) ≡ classes
learned_classes classes partition =
    ap (λ (js : List ℕ). classes_by js (length classes) (net_at (learned_table classes))) (all_judged (length classes))
    ∙ classes_by-agree (points_below (length classes)) (length classes) (net_at (learned_table classes)) (class_at classes)
    (λ p q at_p at_q.
    let below = points_below-AllBelow (length classes) p at_p in
    let also = points_below-AllBelow (length classes) q at_q in
    let some : 0 < length classes = omega arith in
    eqb-agree _ _ _ _ (one_net classes partition some q p also below) (one_class classes partition some q p also below))
    ∙ sym (own-IsPartition classes (length classes) refl partition)
