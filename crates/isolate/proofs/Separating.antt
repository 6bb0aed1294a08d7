-- The reading of the heads against each other, bit by bit.
use Rattle.std.proofs.Common.{◌≡◌, inl, inr, ◌<◌, ◌≤◌, ◌+◌, ◌-◌, ◌^◌, ℕ, false, true, List, length, get_or, None, Ok, refl, sym, ◌∙◌, ap, subst, arith, below_more, eqb}
use Rattle.std.specs.Prelude.{Contains}
use Rattle.std.specs.Int.{bit_at}
use Rattle.std.proofs.lemmas.Bool.{cases_lt, cases_eq, false≢true, eq-eqb, eqb-true}
use Rattle.std.proofs.lemmas.Nat.Bits.{bit_at-lt, bit_at-zero, bit_at-pow_same, same_from_bits_below}
use Rattle.std.proofs.lemmas.List.{get_or_default}
use Rattle.std.proofs.lemmas.List.Elements.{Contains-get_or}
use Rattle.partition.specs.Classes.{Same, no_class}
use Rattle.partition.specs.Partitions.{HasClass}
use Rattle.partition.specs.Heads.{heads}
use Rattle.partition.specs.Digits.{digits_of}
use Rattle.partition.proofs.DigitLaws.{digits_enough, digits_least}
use Rattle.partition.proofs.classes.HeadLemmas.{heads_below-are, heads_below-increasing}
use Rattle.rig.specs.RigState.{RigState}
use Rattle.rig.specs.Calls.{AreGroups, Conducts}
use Rattle.rig.specs.Trail.{Extends, Forces, ReadsAmong}
use Rattle.learn.specs.Groups.{IsPossible, IsReadingOf}
use Rattle.learn.proofs.Possible.{Extends-among, IsPossible-conducts}
use Rattle.isolate.specs.Counts.{ReadsJudged}
use Rattle.rig.specs.Readings.{Reads}
use Rattle.rig.specs.States.{IsOfRig, IsProven}
use Rattle.rig.proofs.Reading.{Reads-none, Reads-then, Reads-conducts, Agrees-before, Extends-refl, Extends-trans}
use Rattle.learn.proofs.Determined.{determined, HeadsApart}
use Rattle.isolate.specs.Coded.{coded}
use Rattle.isolate.proofs.Checking.{IsOfRig-after}
use Rattle.isolate.proofs.Coding.{coded_by-has, coded_by-groups}

-- a code has no two values at a bit
pub one_value : (bit i : ℕ) → eqb (bit_at i bit) 0 ≡ true → eqb (bit_at i bit) 1 ≡ true → ⊥
one_value bit i zero' one' = absurd (omega (arith, eqb-true (bit_at i bit) 0 zero', eqb-true (bit_at i bit) 1 one'))

-- the heads are points of the partition
pub head_in_range : (classes : List ℕ) (i : ℕ) → i < length (heads classes) → get_or (heads classes) i 0 < length classes
head_in_range classes i inside = (heads_below-are classes (length classes) (get_or (heads classes) i 0) (Contains-get_or (heads classes) i 0 inside)).0

-- a bit below the digits of the greatest code parts the list into two groups
pub coded_groups : (points : ℕ) (list : List ℕ) → ((k : ℕ) → k + 1 < length list → get_or list k 0 < get_or list (k + 1) 0)
    → ((i : ℕ) → i < length list → get_or list i 0 < points)
    → (bit : ℕ) → bit < digits_of (length list - 1) → AreGroups points (coded list bit 0) (coded list bit 1)
coded_groups points list up in_range bit low =
    let reached : 2 ^ bit ≤ length list - 1 = elim (cases_lt (length list - 1) (2 ^ bit)) as (λ _. 2 ^ bit ≤ length list - 1) [
      | inl less ↦ absurd (omega (arith, digits_least (length list - 1) bit less))
      | inr more ↦ more
    ] in
    let some : 0 < length list - 1 = elim (cases_lt 0 (length list - 1)) as (λ _. 0 < length list - 1) [
      | inl more ↦ more
      | inr none ↦ absurd (omega (arith, digits_least (length list - 1) 0 (omega arith)))
    ] in
    let zero' = coded_by-has (λ code. eqb (bit_at code bit) 0) list 0 (omega arith) (eq-eqb (bit_at 0 bit) 0 (bit_at-zero bit)) in
    let one' = coded_by-has (λ code. eqb (bit_at code bit) 1) list (2 ^ bit) (omega arith) (eq-eqb (bit_at (2 ^ bit) bit) 1 (bit_at-pow_same bit)) in
    coded_by-groups points list up in_range (λ code. eqb (bit_at code bit) 0) (λ code. eqb (bit_at code bit) 1) (one_value bit) (omega (arith, zero'.1))
    (omega (arith, one'.1))

-- heads of a list that no bit tells apart are one
pub one_code : (list : List ℕ) (P : ℕ → ℕ → Type 0) → ((i k : ℕ) → P i k → P k i)
    → ((j : ℕ) → j < digits_of (length list - 1) → (i k : ℕ) → i < length list → k < length list → bit_at i j ≡ 0 → bit_at k j ≡ 1
    → P (get_or list i 0) (get_or list k 0) → ⊥)
    → (i k : ℕ) → i < length list → k < length list → P (get_or list i 0) (get_or list k 0) → i ≡ k
one_code list P swap apart i k in_i in_k joined =
    let top = digits_enough (length list - 1) in
    same_from_bits_below (digits_of (length list - 1)) i k (omega (arith, top)) (omega (arith, top)) (λ j less.
    elim (cases_eq (bit_at i j) 0) as (λ _. bit_at i j ≡ bit_at k j) [
      | inl i_0 ↦ elim (cases_eq (bit_at k j) 1) as (λ _. bit_at i j ≡ bit_at k j) [
        | inl k_1 ↦ absurd (apart j less i k in_i in_k i_0 k_1 joined)
        | inr k_other ↦ omega (arith, i_0, k_other, bit_at-lt k j)
      ]
      | inr i_other ↦ elim (cases_eq (bit_at k j) 0) as (λ _. bit_at i j ≡ bit_at k j) [
        | inl k_0 ↦ absurd (apart j less k i in_k in_i k_0 (omega (arith, i_other, bit_at-lt i j)) (swap _ _ joined))
        | inr k_other ↦ omega (arith, i_other, k_other, bit_at-lt i j, bit_at-lt k j)
      ]
    ])

-- no two heads with different values of a bit below this one are joined
pub record Separating (start now : RigState) (before classes : List ℕ) (bit : ℕ) : Type 0 where
  pub same : classes ≡ before
  pub of_rig : IsOfRig start before
  pub forces : Forces start before
  pub reads : Reads start now None
  pub among : ReadsJudged before start now
  pub apart : (other : List ℕ) → IsPossible now other → (j : ℕ) → j < bit → (a b : ℕ) → HasClass other a → Contains (coded (heads before) j 0) a
      → Contains (coded (heads before) j 1) b → Same other a b → ⊥
  pub spent : now.spent ≡ start.spent + bit

pub Separating-start : (s : RigState) (classes programmed : List ℕ) → programmed ≡ classes → IsOfRig s programmed → Forces s programmed
    → Separating s s classes classes 0
Separating-start s classes programmed is of_rig forces = record {
  same = refl;
  of_rig = subst (IsOfRig s) is of_rig;
  forces = subst (Forces s) is forces;
  reads = Reads-none s;
  among = Extends-refl (ReadsAmong classes) s.trail;
  apart = λ other possible j less. absurd (omega arith);
  spent = omega arith;
}

module _ {start now : RigState} {before classes : List ℕ} {bit : ℕ} (so_far : Separating start now before classes bit) where
  points_are : length before ≡ now.points
  points_are = so_far.of_rig.points ∙ sym (ap (λ (s : RigState). s.points) so_far.reads.frame)

  pub Separating-asks : (list : List ℕ) → list ≡ heads before → bit < digits_of (length (heads before) - 1)
      → AreGroups now.points (coded list bit 0) (coded list bit 1)
  Separating-asks list is low =
      let P : List ℕ → Type 0 = λ l. AreGroups now.points (coded l bit 0) (coded l bit 1) in
      let in_range : (i : ℕ) → i < length (heads before)
      → get_or (heads before) i 0 < now.points = λ i inside. let inside' = head_in_range before i inside in omega (arith, inside', points_are) in
      subst P (sym is) (coded_groups now.points (heads before) (heads_below-increasing before (length before)) in_range bit low)

  -- heads count
  head_counts : (p : ℕ) → Contains (heads before) p → HasClass before p
  head_counts p in' = let was = heads_below-are before (length before) p in' in let few = so_far.of_rig.few in omega (arith, was.0, was.1)

  -- so a reading of heads is of points that count, whatever it answered
  pub Separating-among : (next : RigState) (list : List ℕ) → list ≡ heads before → Extends (IsReadingOf list) now.trail next.trail
      → ReadsJudged before start next
  Separating-among next list is points =
      let P : List ℕ → Type 0 = λ l. Extends (IsReadingOf l) now.trail next.trail in
      Extends-trans (ReadsAmong before) start.trail now.trail next.trail so_far.among
      (Extends-among (heads before) before head_counts now.trail next.trail (subst P is points))

  pub Separating-apart : {next : RigState} {kept : List ℕ} (list : List ℕ) → list ≡ heads before → kept ≡ classes
      → Extends (IsReadingOf list) now.trail next.trail → Conducts now next (coded list bit 0) (coded list bit 1) (Ok false)
      → Separating start next before kept (bit + 1)
  Separating-apart {next} {kept} list is kept_is points of_list =
      let P : List ℕ → Type 0 = λ l. Conducts now next (coded l bit 0) (coded l bit 1) (Ok false) in
      let call = subst P is of_list in
      let reads = Reads-conducts (Ok false) call in
      record {
        same = kept_is ∙ so_far.same;
        of_rig = so_far.of_rig;
        forces = so_far.forces;
        reads = Reads-then so_far.reads reads;
        among = Separating-among next list is points;
        apart = λ other possible.
            let taught = IsPossible-conducts false call other possible in
            below_more (λ (j : ℕ). (a b : ℕ) → HasClass other a → Contains (coded (heads before) j 0) a → Contains (coded (heads before) j 1) b
            → Same other a b → ⊥) bit
            (so_far.apart other taught.0)
            (λ a b has in_zeros in_ones joined. false≢true (taught.1.1 (record
            { left = a; right = b; in_left = in_zeros; in_right = in_ones; judged = has; joined = joined })));
        spent = omega (arith, so_far.spent, ap (λ (s : RigState). s.spent) call.ok);
      }

  -- all bits were read: two heads that are joined have the same code
  apart_heads : bit ≡ digits_of (length (heads before) - 1) → HeadsApart now (heads before)
  apart_heads whole other possible a b has_a in_a in_b same =
      let at_a : get_or (heads before) in_a.0 0 ≡ a = get_or_default (heads before) in_a.0 0 a in_a.1 ∙ in_a.2 in
      let at_b : get_or (heads before) in_b.0 0 ≡ b = get_or_default (heads before) in_b.0 0 b in_b.1 ∙ in_b.2 in
      let P : ℕ → ℕ → Type 0 = λ p q. HasClass other p × Same other p q in
      let has = λ (j value i : ℕ) (inside : i < length (heads before)) (is : bit_at i j ≡ value). coded_by-has (λ code. eqb (bit_at code j) value)
      (heads before) i inside (eq-eqb (bit_at i j) value is) in
      let one : in_a.0 ≡ in_b.0 = one_code (heads before) P (λ i k joined. (subst (λ (c : ℕ). c < no_class) joined.1 joined.0, sym joined.1))
      (λ j less i k in_i in_k i_0 k_1 joined. so_far.apart other possible j (omega arith) _ _ joined.0 (has j 0 i in_i i_0) (has j 1 k in_k k_1) joined.1)
      in_a.0 in_b.0 in_a.1 in_b.1 (subst (λ (p : ℕ). P p (get_or (heads before) in_b.0 0)) (sym at_a) (subst (P a) (sym at_b) (has_a, same))) in
      sym at_a ∙ ap (λ (i : ℕ). get_or (heads before) i 0) one ∙ at_b

  pub Separating-proven : bit ≡ digits_of (length (heads before) - 1) → IsProven now classes
  Separating-proven whole =
      let part = IsOfRig-after so_far.reads so_far.of_rig in
      let forces : Forces now before = λ other over agrees. so_far.forces other over (Agrees-before other so_far.reads agrees) in
      subst (IsProven now) (sym so_far.same) (record {
        partition = part;
        determines = determined now before part.points so_far.of_rig.partition forces
            (apart_heads whole);
      })
