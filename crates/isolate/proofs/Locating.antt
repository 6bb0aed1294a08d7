-- The merging of the classes that conduct, bit by bit.
use Rattle.std.proofs.Common.{◌≡◌, ◌≢◌, inl, inr, ◌<◌, ◌≤◌, ◌+◌, ◌-◌, ◌*◌, ◌^◌, ℕ, zero, suc, Bool, cond, eqb, List, ◌++◌, length, min, max, get_or, None, refl, sym, ◌∙◌, ap, subst, arith, below_more}
use Rattle.std.specs.Prelude.{Contains, ◌&&◌}
use Rattle.std.specs.Int.{bit_at}
use Rattle.std.specs.List.Sorted.{IsStrictlyIncreasing}
use Rattle.std.proofs.Math.Nat.{mul-le-mul_right}
use Rattle.std.proofs.lemmas.Bool.{cases_lt, cases_eq, eq-eqb, eqb-true}
use Rattle.std.proofs.lemmas.List.{get_or_default}
use Rattle.std.proofs.lemmas.List.Elements.{Contains-append_cases, Contains-get_or}
use Rattle.partition.specs.Classes.{class_at, Same, merged, no_class}
use Rattle.partition.specs.Partitions.{HasClass, IsClassing, IsOver, JoinsAllOf}
use Rattle.partition.proofs.classes.JudgedPartition.{class-has_class, class-inside, merged-classing, merged-has_class}
use Rattle.partition.specs.Heads.{heads}
use Rattle.partition.specs.Digits.{digits_of}
use Rattle.partition.proofs.DigitLaws.{digits_enough, digits_least}
use Rattle.partition.proofs.classes.HeadLemmas.{heads_below-are, heads_below-has, heads_below-increasing, heads_of_some}
use Rattle.partition.proofs.PickedLemmas.{increasing_same}
use Rattle.partition.proofs.classes.WalkLaws.{length-merged, merged_class}
use Rattle.rig.specs.RigState.{RigState}
use Rattle.rig.specs.Calls.{AreGroups}
use Rattle.rig.specs.Trail.{Extends, Forces, ReadsAmong}
use Rattle.rig.specs.Readings.{Reads}
use Rattle.rig.specs.States.{IsOfRig, IsProven}
use Rattle.rig.proofs.Reading.{Reads-none, Reads-then, Agrees-before, Extends-refl, Extends-trans}
use Rattle.learn.specs.Groups.{AreOne, DoNotMeet, IsPossible, IsReadingOf}
use Rattle.learn.proofs.Possible.{Extends-among, IsPossible-before, IsPossible-over}
use Rattle.isolate.specs.Counts.{ReadsJudged}
use Rattle.learn.proofs.Determined.{forced, determined, HeadsApart}
use Rattle.learn.proofs.HeadMerge.{merged-moved, merged-stays}
use Rattle.isolate.specs.Coded.{left, is_head}
use Rattle.isolate.specs.Merges.{pair_readings, most_merging}
use Rattle.isolate.proofs.BitCounts.{length-picked, count, count-weaker, count-more, count-bit}
use Rattle.isolate.proofs.Coding.{both, both_true, coded_by-are, coded_by-has, coded_by-groups}
use Rattle.isolate.proofs.MergedHeads.{merged-was_head, merged-heads}
use Rattle.isolate.proofs.Separating.{one_code, one_value, head_in_range}

-- ---- heads that are left, by one bit of their codes

module _ (classes list : List ℕ) where
  pub left-are : (bit value p : ℕ) → Contains (left classes list bit value) p
      → (i : ℕ) × (i < length list) × (bit_at i bit ≡ value) × (class_at classes p ≡ p) × (get_or list i 0 ≡ p)
  left-are bit value p in' =
      let was = coded_by-are (λ code. eqb (bit_at code bit) value && is_head classes (get_or list code 0)) list p in' in
      let tests = both _ _ was.2 in
      let P : ℕ → Type 0 = λ q. class_at classes q ≡ q in (
        was.0,
        was.1,
        eqb-true (bit_at was.0 bit) value tests.0,
        subst P was.3
            (eqb-true (class_at classes (get_or list was.0 0)) (get_or list was.0 0) tests.1),
        was.3,
      )

  pub left-has : (bit value i : ℕ) → i < length list → bit_at i bit ≡ value → class_at classes (get_or list i 0) ≡ get_or list i 0
      → Contains (left classes list bit value) (get_or list i 0)
  left-has bit value i inside is head =
      coded_by-has (λ code. eqb (bit_at code bit) value && is_head classes (get_or list code 0)) list i inside
      (both_true _ _ (eq-eqb (bit_at i bit) value is) (eq-eqb (class_at classes (get_or list i 0)) (get_or list i 0) head))

  -- two heads with different values of a bit are two
  pub left-two : (bit a b : ℕ) → IsStrictlyIncreasing list → Contains (left classes list bit 0) a → Contains (left classes list bit 1) b → a ≢ b
  left-two bit a b up in_a in_b same =
      let zero' = left-are bit 0 a in_a in
      let one' = left-are bit 1 b in_b in
      let at = increasing_same list up zero'.0 one'.0 zero'.1 one'.1 (zero'.4 ∙ same ∙ sym one'.4) in
      absurd (omega (arith, zero'.2, one'.2, ap (λ (i : ℕ). bit_at i bit) at))

-- the codes below 2 ^ d are half zeros and half ones
pub left-few : (classes list : List ℕ) (bit value : ℕ) → value < 2 → bit < digits_of (length list - 1)
    → length (left classes list bit value) ≤ 2 ^ (digits_of (length list - 1) - 1)
left-few classes list bit value small low =
    let D = digits_of (length list - 1) in
    let whole : D ≡ suc (D - 1) = omega arith in
    let enough : length list ≤ 2 ^ D = omega (arith, digits_enough (length list - 1)) in
    let test : ℕ → Bool = λ code. eqb (bit_at code bit) value && is_head classes (get_or list code 0) in
    let weak : ℕ → Bool = λ code. eqb (bit_at code bit) value in
    let rest : length list + (2 ^ D - length list) ≡ 2 ^ D = omega arith in
    let most : count weak (2 ^ D) ≡ 2 ^ (D - 1) = ap (λ (d : ℕ). count weak (2 ^ d)) whole ∙ count-bit bit (D - 1) value small (omega arith) in
    omega (
      arith,
      length-picked test (λ code. get_or list code 0) (length list),
      count-weaker test weak (length list) (λ i passes. (both _ _ passes).0),
      count-more weak (length list) (2 ^ D - length list),
      ap (count weak) rest,
      most,
    )

pair_few : (d a b : ℕ) → a ≤ 2 ^ d → b ≤ 2 ^ d → pair_readings a b ≤ 2 * suc d - 1
pair_few d zero b few_a few_b = omega arith
pair_few d (suc a) zero few_a few_b = omega arith
pair_few d (suc a) (suc b) few_a few_b = omega (arith, digits_least a d (omega arith), digits_least b d (omega arith))

pub pair_most : (classes list : List ℕ) (bit : ℕ) → bit < digits_of (length list - 1)
    → pair_readings (length (left classes list bit 0)) (length (left classes list bit 1)) ≤ 2 * digits_of (length list - 1) - 1
pair_most classes list bit low =
    let whole : digits_of (length list - 1) ≡ suc (digits_of (length list - 1) - 1) = omega arith in
    let most = pair_few (digits_of (length list - 1) - 1) (length (left classes list bit 0)) (length (left classes list bit 1))
    (left-few classes list bit 0 (omega arith) low) (left-few classes list bit 1 (omega arith) low) in
    omega (arith, most, whole)

pub pair_some : (a b : ℕ) → 1 ≤ pair_readings a b → (0 < a) × (0 < b)
pair_some zero b some = absurd (omega arith)
pair_some (suc a) zero some = absurd (omega arith)
pair_some (suc a) (suc b) some = (omega arith, omega arith)

-- two members are two places
two_members : (xs : List ℕ) (a b : ℕ) → Contains xs a → Contains xs b → a ≢ b → 2 ≤ length xs
two_members xs a b (i, in_i, is_a) (j, in_j, is_b) two =
    elim (cases_lt 1 (length xs)) as (λ _. 2 ≤ length xs) [
      | inl more ↦ omega arith
      | inr one ↦
          let same : i ≡ j = omega arith in
          absurd (two (sym is_a ∙ get_or_default xs i a b in_i ∙ ap (λ (k : ℕ). get_or xs k b) same ∙ is_b))
    ]

-- ---- the state of the search

-- Each class is one of those within, or some of them that are joined; no two left heads are joined whose codes differ in a bit below this one.
pub record Locating (start now : RigState) (within classes : List ℕ) (bit : ℕ) : Type 0 where
  pub of_rig : IsOfRig start within
  pub size : length classes ≡ length within
  pub over : IsOver within classes
  pub partition : IsClassing classes
  pub joins : JoinsAllOf classes within
  pub old_heads : (p : ℕ) → p < length within → class_at classes p ≡ p → class_at within p ≡ p
  pub forces : Forces now classes
  pub apart : (other : List ℕ) → IsPossible now other → (j : ℕ) → j < bit → (a b : ℕ) → HasClass other a → Contains (left classes (heads within) j 0) a
      → Contains (left classes (heads within) j 1) b → Same other a b → ⊥
  pub reads : Reads start now None
  pub among : ReadsJudged within start now
  pub bits : bit ≤ digits_of (length (heads within) - 1)
  pub merges : ℕ
  pub merged_are : merges + length (heads classes) ≡ length (heads within)
  pub low : start.spent + merges ≤ now.spent
  pub high : now.spent ≤ start.spent + bit + merges * (2 * digits_of (length (heads within) - 1) - 1)

pub Locating-start : (s : RigState) (within : List ℕ) → IsOfRig s within → Forces s within → Locating s s within within 0
Locating-start s within of_rig forces = record {
  of_rig = of_rig;
  size = refl;
  over = record { size = refl; judged = λ p. (λ h. h, λ h. h) };
  partition = of_rig.partition;
  joins = λ a b has_a has_b same. same;
  old_heads = λ p inside is. is;
  forces = forces;
  apart = λ other possible j less. absurd (omega arith);
  reads = Reads-none s;
  among = Extends-refl (ReadsAmong within) s.trail;
  bits = omega arith;
  merges = 0;
  merged_are = omega arith;
  low = omega arith;
  high = omega arith;
}

module _ {start now : RigState} {within classes : List ℕ} {bit : ℕ} (so_far : Locating start now within classes bit) where
  points_are : length classes ≡ now.points
  points_are = so_far.size ∙ so_far.of_rig.points ∙ sym (ap (λ (s : RigState). s.points) so_far.reads.frame)

  -- some point counts
  some_class : (p : ℕ) × HasClass classes p
  some_class = let some = so_far.of_rig.some in (some.0, (so_far.over.judged some.0).1 some.1)

  few_points : length classes < 2 ^ 16
  few_points = omega (arith, so_far.size, so_far.of_rig.few)

  up : IsStrictlyIncreasing (heads within)
  up = heads_below-increasing within (length within)

  pub Locating-inside : (i : ℕ) → i < length (heads within) → get_or (heads within) i 0 < length classes
  Locating-inside i inside = omega (arith, head_in_range within i inside, so_far.size)

  -- the left heads that differ in a bit may be read
  pub Locating-asks : 0 < length (left classes (heads within) bit 0) → 0 < length (left classes (heads within) bit 1)
      → AreGroups now.points (left classes (heads within) bit 0) (left classes (heads within) bit 1)
  Locating-asks some_zero some_one =
      coded_by-groups now.points (heads within) up (λ i inside. omega (arith, Locating-inside i inside, points_are))
      (λ code. eqb (bit_at code bit) 0 && is_head classes (get_or (heads within) code 0))
      (λ code. eqb (bit_at code bit) 1 && is_head classes (get_or (heads within) code 0))
      (λ i zero' one'. one_value bit i (both _ _ zero').0 (both _ _ one').0) some_zero some_one

  left_head : (value p : ℕ) → Contains (left classes (heads within) bit value) p → (p < length classes) × (class_at classes p ≡ p)
  left_head value p in' =
      let was = left-are classes (heads within) bit value p in' in
      (omega (arith, Locating-inside was.0 was.1, was.4), was.3)

  pub Locating-member : (value : ℕ) {p : ℕ} → Contains (left classes (heads within) bit value) p → p < length classes
  Locating-member value {p} in' = (left_head value p in').0

  pub Locating-class : (value : ℕ) {p : ℕ} → Contains (left classes (heads within) bit value) p → HasClass classes p
  Locating-class value {p} in' = let head = left_head value p in' in omega (arith, head.0, head.1, few_points)

  -- the greater of two heads has no point of its class below it
  low_top : (a b : ℕ) → a < length classes → b < length classes → (p : ℕ) → p < length classes → class_at classes p ≡ max a b → class_at classes p ≤ p
  low_top a b in_a in_b p inside top = so_far.partition.least p (omega (arith, few_points))

  -- the left heads count
  left_counts : (value p : ℕ) → Contains (left classes (heads within) bit value) p → HasClass within p
  left_counts value p in' =
      let was = left-are classes (heads within) bit value p in' in
      let head = heads_below-are within (length within) (get_or (heads within) was.0 0) (Contains-get_or (heads within) was.0 0 was.1) in
      let few = so_far.of_rig.few in
      subst (HasClass within) was.4 (omega (arith, head.0, head.1))

  -- so their readings are of points that count, whatever they answered
  pub Locating-among : (next : RigState) → Extends (IsReadingOf (left classes (heads within) bit 0 ++ left classes (heads within) bit 1)) now.trail next.trail
      → ReadsJudged within start next
  Locating-among next points =
      let count : (p : ℕ) → Contains (left classes (heads within) bit 0 ++ left classes (heads within) bit 1) p → HasClass within p = λ p in'.
      elim (Contains-append_cases (left classes (heads within) bit 0) (left classes
      (heads within) bit 1) p in') [ inl zero' ↦ left_counts 0 p zero' | inr one' ↦ left_counts 1 p one' ] in
      Extends-trans (ReadsAmong within) start.trail now.trail next.trail so_far.among
      (Extends-among (left classes (heads within) bit 0 ++ left classes (heads within) bit 1) within count now.trail next.trail points)

  -- a merge leaves one head less
  pub Locating-fewer : {a b : ℕ} → Contains (left classes (heads within) bit 0) a → Contains (left classes (heads within) bit 1) b
      → length (heads (merged classes a b)) + 1 ≡ length (heads classes)
  Locating-fewer {a} {b} in_a in_b =
      let head_a = left_head 0 a in_a in
      let head_b = left_head 1 b in_b in
      merged-heads classes a b (low_top a b head_a.0 head_b.0) head_a.0 head_b.0 head_a.1 head_b.1 (left-two classes (heads within) bit a b up in_a in_b)

  -- a reading that was refused is within the bound
  pub Locating-stopped : (spent : ℕ) → bit < digits_of (length (heads within) - 1)
      → spent ≤ now.spent + pair_readings (length (left classes (heads within) bit 0)) (length (left classes (heads within) bit 1))
      → spent ≤ start.spent + most_merging (length (heads within)) (length (heads within) - 1)
  Locating-stopped spent more at_most =
      let k = length (heads within) in
      let each = 2 * digits_of (k - 1) - 1 in
      let pair = pair_readings (length (left classes (heads within) bit 0)) (length (left classes (heads within) bit 1)) in
      let most = pair_most classes (heads within) bit more in
      let some_left = heads_of_some classes so_far.partition some_class.0 some_class.1 in
      elim (cases_lt 0 pair) as (λ _. spent ≤ start.spent + most_merging k (k - 1)) [
        | inl some ↦
            let groups = pair_some _ _ some in
            let zero' = Contains-get_or (left classes (heads within) bit 0) 0 0 groups.0 in
            let one' = Contains-get_or (left classes (heads within) bit 1) 0 0 groups.1 in
            let two = left-two classes (heads within) bit _ _ up zero' one' in
            let head_zero = left_head 0 _ zero' in
            let head_one = left_head 1 _ one' in
            let are_two = two_members (heads classes) _ _ (heads_below-has classes (length classes) _ head_zero.0 head_zero.1)
            (heads_below-has classes (length classes) _ head_one.0 head_one.1) two in
            let fewer : so_far.merges + 1 ≤ k - 1 = omega (arith, so_far.merged_are, are_two) in
            omega (arith, at_most, most, so_far.high, more, mul-le-mul_right each fewer)
        | inr none ↦
            let fewer : so_far.merges ≤ k - 1 = omega (arith, so_far.merged_are, some_left) in
            omega (arith, at_most, none, so_far.high, more, mul-le-mul_right each fewer)
      ]

  -- no left heads are joined that differ in the bit
  pub Locating-none : {next : RigState} → bit < digits_of (length (heads within) - 1) → Reads now next None
      → Extends (IsReadingOf (left classes (heads within) bit 0 ++ left classes (heads within) bit 1)) now.trail next.trail
      → DoNotMeet next (left classes (heads within) bit 0) (left classes (heads within) bit 1) → next.spent ≤ now.spent + 1
      → Locating start next within classes (bit + 1)
  Locating-none {next} more reads points none spent = record {
    of_rig = so_far.of_rig;
    size = so_far.size;
    over = so_far.over;
    partition = so_far.partition;
    joins = so_far.joins;
    old_heads = so_far.old_heads;
    forces = λ other over agrees. so_far.forces other over (Agrees-before other reads agrees);
    apart = λ other possible.
        below_more (λ (j : ℕ). (a b : ℕ) → HasClass other a → Contains (left classes (heads within) j 0) a → Contains (left classes (heads within) j 1) b
        → Same other a b → ⊥) bit
        (so_far.apart other (IsPossible-before other reads possible))
        (λ a b has in_zeros in_ones joined. none other possible
        (record { left = a; right = b; in_left = in_zeros; in_right = in_ones; judged = has; joined = joined }));
    reads = Reads-then so_far.reads reads;
    among = Locating-among next points;
    bits = omega arith;
    merges = so_far.merges;
    merged_are = so_far.merged_are;
    low = omega (arith, so_far.low, reads.spent);
    high = omega (arith, so_far.high, spent);
  }

  -- a joined pair is merged
  pub Locating-merged : {next : RigState} {a b : ℕ} {merge : List ℕ} → bit < digits_of (length (heads within) - 1) → Reads now next None
      → Extends (IsReadingOf (left classes (heads within) bit 0 ++ left classes (heads within) bit 1)) now.trail next.trail
      → Contains (left classes (heads within) bit 0) a → Contains (left classes (heads within) bit 1) b → AreOne next a b → now.spent + 1 ≤ next.spent
      → next.spent ≤ now.spent + pair_readings (length (left classes (heads within) bit 0)) (length (left classes (heads within) bit 1))
      → merge ≡ merged classes a b → Locating start next within merge bit
  Locating-merged {next} {a} {b} {merge} more reads points in_a in_b joined least most is =
      let P : List ℕ → Type 0 = λ m. Locating start next within m bit in
      subst P (sym is) (made a b in_a in_b joined)
    where
      made : (a b : ℕ) → Contains (left classes (heads within) bit 0) a → Contains (left classes (heads within) bit 1) b → AreOne next a b
          → Locating start next within (merged classes a b) bit
      made a b in_a in_b joined =
          let head_a = left_head 0 a in_a in
          let head_b = left_head 1 b in_b in
          let two = left-two classes (heads within) bit a b up in_a in_b in
          let size = length-merged classes a b in
          let has_a = Locating-class 0 in_a in
          let has_b = Locating-class 1 in_b in
          let kept = merged-has_class classes a b has_a has_b so_far.partition in
          let stays = merged-stays classes a b (low_top a b head_a.0 head_b.0) head_a.0 head_b.0 head_a.1 head_b.1 two in
          let moved = merged-moved classes a b (low_top a b head_a.0 head_b.0) head_a.0 head_b.0 head_a.1 head_b.1 two in
          let was_head = merged-was_head classes a b (low_top a b head_a.0 head_b.0) head_a.0 head_b.0 head_a.1 head_b.1 two in
          let one_less = Locating-fewer in_a in_b in
          let smaller : (j value p : ℕ) → Contains (left (merged classes a b) (heads within) j value) p
          → Contains (left classes (heads within) j value) p = λ j value p in'.
          let was = left-are (merged classes a b) (heads within) j value p in' in
          let inside = Locating-inside was.0 was.1 in
          let own : class_at classes (get_or (heads within) was.0 0) ≡ get_or (heads within) was.0 0 = was_head (get_or (heads within) was.0 0) inside
          (ap (class_at (merged classes a b)) was.4 ∙ was.3 ∙ sym was.4) in
          let Q : ℕ → Type 0 = λ q. Contains (left classes (heads within) j value) q in
          subst Q was.4 (left-has classes (heads within) j value was.0 was.1 was.2 own) in
          record {
            of_rig = so_far.of_rig;
            size = size ∙ so_far.size;
            over = record {
              size = size ∙ so_far.size;
              judged = λ p. (
                λ h. (so_far.over.judged p).0 ((kept p).0 h),
                λ h. (kept p).1
                    ((so_far.over.judged p).1 h),
              );
            };
            partition = merged-classing classes a b has_a has_b so_far.partition;
            joins = λ p q has_p has_q same.
                let in_p = class-inside within p has_p in
                let in_q = class-inside within q has_q in
                merged-same a b p q (omega (arith, in_p, so_far.size)) (omega (arith, in_q, so_far.size)) (so_far.joins p q has_p has_q same);
            old_heads = λ p inside head. so_far.old_heads p inside (was_head p (omega (arith, so_far.size)) head);
            forces = forced next (merged classes a b) (λ other over agrees p has.
                let over_classes : IsOver classes other = record {
                  size = over.size
                      ∙ size;
                  judged = λ q. (λ h. (kept q).0 ((over.judged q).0 h), λ h. (over.judged q).1 ((kept q).1 h));
                } in
                let has' = (kept p).0 has in
                let inside' : p < length classes = class-inside classes p has' in
                let before = so_far.forces other over_classes (Agrees-before other reads agrees) in
                let known : Same other (class_at classes p) p = before (class_at classes p) p (class-has_class classes p so_far.partition has') has'
                (so_far.partition.own p has') in
                let one = joined other (IsPossible-over (size ∙ points_are ∙ sym (ap (λ (s : RigState). s.points) reads.frame)) over agrees) in
                elim (cases_eq (class_at classes p) (max a b)) as (λ _. Same other (class_at (merged classes a b) p) p) [
                  | inl top ↦ ap (class_at other) (moved p inside' top) ∙ lesser other a b one ∙ ap (class_at other) (sym top) ∙ known
                  | inr below ↦ ap (class_at other) (stays p inside' below) ∙ known
                ]);
            apart = λ other possible j less p q has in_zeros in_ones same. so_far.apart other (IsPossible-before other reads possible) j less p q has
                (smaller j 0 p in_zeros) (smaller j 1 q in_ones) same;
            reads = Reads-then so_far.reads reads;
            among = Locating-among next points;
            bits = so_far.bits;
            merges = so_far.merges + 1;
            merged_are = omega (arith, so_far.merged_are, one_less);
            low = omega (arith, so_far.low, least);
            high = omega (arith, so_far.high, most, pair_most classes (heads within) bit more);
          }
        where
          merged-same : (a b p q : ℕ) → p < length classes → q < length classes → Same classes p q → Same (merged classes a b) p q
          merged-same a b p q in_p in_q same =
              merged_class classes a b p in_p
              ∙ ap (λ (c : ℕ). cond (eqb c (max (class_at classes a) (class_at classes b))) (min (class_at classes a) (class_at classes b)) c) same
              ∙ sym (merged_class classes a b q in_q)

          lesser : (other : List ℕ) (a b : ℕ) → Same other a b → Same other (min a b) (max a b)
          lesser other a b one =
              elim (cases_lt a b) as (λ _. Same other (min a b) (max a b)) [
                | inl less ↦ let is_a : min a b ≡ a = omega arith in let is_b : max a b ≡ b = omega arith in ap (class_at other) is_a ∙ one
                    ∙ ap (class_at other) (sym is_b)
                | inr more' ↦ let is_b : min a b ≡ b = omega arith in let is_a : max a b ≡ a = omega arith in ap (class_at other) is_b ∙ sym one
                    ∙ ap (class_at other) (sym is_a)
              ]

  -- all bits were read
  all_apart : digits_of (length (heads within) - 1) ≤ bit → HeadsApart now (heads classes)
  all_apart whole other possible a b has_a in_a in_b same =
      let head_a = heads_below-are classes (length classes) a in_a in
      let head_b = heads_below-are classes (length classes) b in_b in
      let place = λ (p : ℕ) (inside : p < length classes) (own : class_at classes p ≡ p). heads_below-has within (length within) p
      (omega (arith, so_far.size)) (so_far.old_heads p (omega (arith, so_far.size)) own) in
      let in_within_a = place a head_a.0 head_a.1 in
      let in_within_b = place b head_b.0 head_b.1 in
      let at_a : get_or (heads within) in_within_a.0 0 ≡ a = get_or_default (heads within) in_within_a.0 0 a in_within_a.1 ∙ in_within_a.2 in
      let at_b : get_or (heads within) in_within_b.0 0 ≡ b = get_or_default (heads within) in_within_b.0 0 b in_within_b.1 ∙ in_within_b.2 in
      let P : ℕ → ℕ → Type 0 = λ p q. (class_at classes p ≡ p) × (class_at classes q ≡ q) × Same other p q × HasClass other p in
      let start' : P a b = (head_a.1, head_b.1, same, has_a) in
      let one : in_within_a.0 ≡ in_within_b.0 = one_code (heads within) P
      (λ i k joined. (joined.1, joined.0, sym joined.2, subst (λ (c : ℕ). c < no_class) joined.2 joined.3))
      (λ j less i k in_i in_k i_0 k_1 joined. so_far.apart other possible j (omega arith) _ _ joined.3
      (left-has classes (heads within) j 0 i in_i i_0 joined.0) (left-has classes (heads within) j 1 k in_k k_1 joined.1) joined.2)
      in_within_a.0 in_within_b.0 in_within_a.1 in_within_b.1 (subst (λ (p : ℕ). P p (get_or (heads within) in_within_b.0 0)) (sym at_a)
      (subst (P a) (sym at_b) start')) in
      sym at_a ∙ ap (λ (i : ℕ). get_or (heads within) i 0) one ∙ at_b

  pub Locating-proven : digits_of (length (heads within) - 1) ≤ bit → IsProven now classes
  Locating-proven whole = record {
    partition = record {
      partition = so_far.partition;
      points = points_are;
      some = some_class;
      few = omega (arith, so_far.size, so_far.of_rig.few);
    };
    determines = determined now classes points_are so_far.partition so_far.forces (all_apart whole);
  }

  pub Locating-at_least : start.spent + length (heads within) ≤ now.spent + length (heads classes)
  Locating-at_least = omega (arith, so_far.low, so_far.merged_are)

  pub Locating-at_most : now.spent ≤ start.spent + most_merging (length (heads within)) (length (heads within) - length (heads classes))
  Locating-at_most =
      let each = 2 * digits_of (length (heads within) - 1) - 1 in
      let merges : length (heads within) - length (heads classes) ≡ so_far.merges = omega (arith, so_far.merged_are) in
      omega (arith, so_far.high, so_far.bits, ap (λ (n : ℕ). n * each) merges)
