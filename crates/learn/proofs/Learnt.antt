-- The points below i are learnt.
use Rattle.std.proofs.Common.{◌≡◌, ◌≢◌, inl, inr, ◌<◌, ◌≤◌, ◌+◌, ◌-◌, ◌*◌, ◌^◌, ℕ, List, [], ◌∷◌, ◌++◌, length, min, None, refl, sym, ◌∙◌, ap, subst, arith, below_more}
use Rattle.std.specs.Prelude.{Contains, OnErr, Result, Ok, Err}
use Rattle.std.proofs.Math.Nat.{mul-le-mul_left, mul-le-mul_right, mul-zero}
use Rattle.std.specs.List.Sorted.{IsStrictlyIncreasing}
use Rattle.std.proofs.lemmas.Bool.{cases_lt}
use Rattle.std.proofs.lemmas.List.{length_push}
use Rattle.std.proofs.lemmas.List.Elements.{Contains-push_cases, Contains-get_or}
use Rattle.std.proofs.lemmas.List.FromFn.{length-range_with_len}
use Rattle.partition.specs.Classes.{points_below, class_at, Same, merged, no_class}
use Rattle.partition.specs.Partitions.{HasClass, IsPartitionOfAll}
use Rattle.partition.proofs.classes.JudgedPartition.{all-class, all-classing, class-inside}
use Rattle.partition.specs.Digits.{digits_of}
use Rattle.partition.specs.Heads.{heads_below, heads}
use Rattle.partition.proofs.DigitLaws.{digits_least}
use Rattle.partition.proofs.DigitsLemmas.{digits-mono}
use Rattle.partition.proofs.classes.HeadLemmas.{heads_below-are, heads_below-head, heads_below-other, heads_below-increasing, length-heads_below-grows}
use Rattle.partition.proofs.classes.WalkLaws.{point_class, length-merged}
use Rattle.partition.proofs.classes.JoinedPartition.{merged-own}
use Rattle.rig.specs.RigState.{RigState}
use Rattle.rig.specs.Calls.{AreGroups}
use Rattle.rig.specs.Readings.{Reads}
use Rattle.rig.specs.States.{IsProven}
use Rattle.rig.proofs.Reading.{Reads-none, Reads-then}
use Rattle.rig.proofs.Groups.{IsGroup-one, Contains-one}
use Rattle.learn.specs.Groups.{AreOne, DoNotMeet, IsPossible}
use Rattle.learn.specs.Learned.{IsWithinMost, most_readings}
use Rattle.learn.proofs.Determined.{forced, determined, HeadsApart}
use Rattle.learn.proofs.Possible.{IsPossible-before, IsPossible-over}
use Rattle.learn.proofs.HeadMerge.{merged-moved, merged-stays, merged-heads_below}

-- Each point below i is joined with its head, and no two heads below i are joined; the points from i on are alone.
pub record Learning (start now : RigState) (classes list : List ℕ) (i : ℕ) : Type 0 where
  pub size : length classes ≡ start.points
  pub some : 0 < length classes
  pub few : length classes < 2 ^ 16
  pub partition : IsPartitionOfAll classes
  pub heads : list ≡ heads_below classes i
  pub single : (p : ℕ) → i ≤ p → p < length classes → class_at classes p ≡ p
  pub known : (other : List ℕ) → IsPossible now other → (p : ℕ) → p < i → Same other (class_at classes p) p
  pub apart : HeadsApart now list
  pub reads : Reads start now None
  pub low : start.spent + i ≤ now.spent + length list
  pub high : now.spent ≤ start.spent + (i - 1) + (i - length list) * digits_of (length list - 1)

pub Learning-start : (s : RigState) (n : ℕ) → n ≡ s.points → 1 ≤ n → n < 2 ^ 16 → Learning s s (points_below n) [] 0
Learning-start s n is some few =
    let size = length-range_with_len 0 n in
    record {
      size = size ∙ is;
      some = omega (arith, size);
      few = omega (arith, size);
      partition = record {
        least = λ p inside. omega (arith, point_class n p (omega (arith, size)));
        own = λ p inside. ap (class_at (points_below n))
            (point_class n p (omega (arith, size)));
      };
      heads = refl;
      single = λ p from inside. point_class n p (omega (arith, size));
      known = λ other possible p less. absurd (omega arith);
      apart = λ other possible a b has_a in_a in_b same. absurd (let none = in_a.1 in omega arith);
      reads = Reads-none s;
      low = omega arith;
      high = omega arith;
    }

digits-zero : digits_of 0 ≡ 0
digits-zero = omega (arith, digits_least 0 0 (omega arith))

-- one point more that is no head
more_product : (i h d : ℕ) → h ≤ i → (i + 1 - h) * d ≡ (i - h) * d + d
more_product i h d le = let e : i + 1 - h ≡ (i - h) + 1 = omega arith in rw e (omega arith)

module _ {start now : RigState} {classes list : List ℕ} {i : ℕ} (so_far : Learning start now classes list i) where
  few_heads : length list ≤ i
  few_heads = let at : 0 + i ≡ i = omega arith in omega (
    arith,
    ap length so_far.heads,
    length-heads_below-grows classes 0 i,
    ap
        (λ (n : ℕ). length (heads_below classes n)) at,
  )

  head_below : (h : ℕ) → Contains list h → (h < i) × (class_at classes h ≡ h)
  head_below h in' = let P : List ℕ → Type 0 = λ l. Contains l h in heads_below-are classes i h (subst P so_far.heads in')

  pub Learning-member : {h : ℕ} → i < length classes → Contains list h → h < length classes
  Learning-member {h} inside in_list = let was = head_below h in_list in omega (arith, was.0)

  points_are : length classes ≡ now.points
  points_are = so_far.size ∙ sym (ap (λ (s : RigState). s.points) so_far.reads.frame)

  -- the heads may be read against the next point
  pub Learning-asks : i < length classes → 0 < length list → AreGroups now.points list (i ∷ [])
  Learning-asks inside some = record {
    left = record {
      some = some;
      ascending = subst IsStrictlyIncreasing (sym so_far.heads) (heads_below-increasing classes i);
      in_range = λ k d lt. let was = head_below _ (Contains-get_or list k d lt) in omega (arith, was.0, points_are);
    };
    right = IsGroup-one now.points i (omega (arith, points_are));
    apart = λ p in_list here. let was = head_below p in_list in omega (arith, was.0, Contains-one i p here);
  }

  -- a refused reading is within the bound
  pub Learning-stopped : {next : RigState} → i < length classes → next.spent ≤ now.spent + min 1 (length list) + digits_of (length list - 1)
      → IsWithinMost start next
  Learning-stopped {next} inside spent =
      let d = digits_of (length list - 1) in
      elim (cases_lt 0 (length list)) as (λ _. IsWithinMost start next) [
        | inl some ↦ record {
          classes = length list;
          some = some;
          few = omega (arith, few_heads, so_far.size);
          at_most =
              let fits : i + 1 - length list ≤ start.points - length list = omega (arith, so_far.size) in
              omega (arith, spent, so_far.high, so_far.size, few_heads, more_product i (length list) d few_heads, mul-le-mul_right d fits);
        }
        | inr none ↦
            let empty : length list ≡ 0 = omega arith in
            let no_digits : digits_of (length list - 1) ≡ 0 = ap (λ (n : ℕ). digits_of (n - 1)) empty ∙ digits-zero in
            let no_more : (i - length list) * digits_of (length list - 1) ≡ 0 = ap (λ (n : ℕ). (i - length list) * n) no_digits ∙ mul-zero (i - length list) in
            record {
              classes = 1;
              some = omega arith;
              few = omega (arith, so_far.size, so_far.some);
              at_most = omega (arith, spent, so_far.high, so_far.size, empty, no_digits, no_more);
            }
      ]

  -- no head is joined with the next point
  pub Learning-new : {next : RigState} {more : List ℕ} → i < length classes → Reads now next None → DoNotMeet next list (i ∷ [])
      → next.spent ≤ now.spent + min 1 (length list) → more ≡ list ++ i ∷ [] → Learning start next classes more (i + 1)
  Learning-new {next} {more} inside reads apart spent is =
      let single = so_far.single i (omega arith) inside in
      let size : length more ≡ length list + 1 = ap length is ∙ length_push list i in
      let wider = mul-le-mul_left (i - length list) (digits-mono (length list - 1) (length more - 1) (omega arith)) in
      let same_rest : i + 1 - length more ≡ i - length list = omega arith in
      record {
        size = so_far.size;
        some = so_far.some;
        few = so_far.few;
        partition = so_far.partition;
        heads = is ∙ ap (λ (l : List ℕ). l ++ i ∷ []) so_far.heads ∙ sym (heads_below-head classes i single);
        single = λ p from inside'. so_far.single p (omega arith) inside';
        known = λ other possible. below_more (λ (p : ℕ). Same other (class_at classes p) p) i (so_far.known other (IsPossible-before other reads possible))
            (ap (class_at other) single);
        apart = λ other possible a b has_a in_a in_b same.
            let P : ℕ → List ℕ → Type 0 = λ p l. Contains l p in
            elim (Contains-push_cases list i a (subst (P a) is in_a)) as (λ _. a ≡ b) [
              | inl old_a ↦ elim (Contains-push_cases list i b (subst (P b) is in_b)) as (λ _. a ≡ b) [
                | inl old_b ↦ so_far.apart other (IsPossible-before other reads possible) a b has_a old_a old_b same
                | inr new_b ↦ absurd (apart other possible (record {
                  left = a;
                  right = i;
                  in_left = old_a;
                  in_right = here i;
                  judged = has_a;
                  joined = same
                      ∙ sym (ap (class_at other) new_b);
                }))
              ]
              | inr new_a ↦ elim (Contains-push_cases list i b (subst (P b) is in_b)) as (λ _. a ≡ b) [
                | inl old_b ↦ absurd (apart other possible (record {
                  left = b;
                  right = i;
                  in_left = old_b;
                  in_right = here i;
                  judged = subst
                      (λ (c : ℕ). c < no_class) same has_a;
                  joined = sym same ∙ sym (ap (class_at other) new_a);
                }))
                | inr new_b ↦ sym new_a ∙ new_b
              ]
            ];
        reads = Reads-then so_far.reads reads;
        low = omega (arith, so_far.low, reads.spent, size);
        high = omega (arith, so_far.high, spent, size, wider, few_heads, ap (λ (n : ℕ). n * digits_of (length more - 1)) same_rest);
      }
    where
      here : (p : ℕ) → Contains (p ∷ []) p
      here p = (0, omega arith, refl)

  -- a head is joined with the next point
  pub Learning-joined : {next : RigState} {merge : List ℕ} {head : ℕ} → i < length classes → Reads now next None → Contains list head → AreOne next head i
      → now.spent + 1 ≤ next.spent
      → next.spent ≤ now.spent + min 1 (length list) + digits_of (length list - 1) → merge ≡ merged classes head i → Learning start next merge list (i + 1)
  Learning-joined {next} {merge} {head} inside reads in_list joined least most is =
      let P : List ℕ → Type 0 = λ m. Learning start next m list (i + 1) in
      subst P (sym is) (Learning-merged head inside reads in_list joined least most)
    where
      Learning-merged : (head : ℕ) → i < length classes → Reads now next None → Contains list head → AreOne next head i → now.spent + 1 ≤ next.spent
          → next.spent ≤ now.spent + min 1 (length list) + digits_of (length list - 1) → Learning start next (merged classes head i) list (i + 1)
      Learning-merged head inside reads in_list joined least most =
          let was = head_below head in_list in
          let single = so_far.single i (omega arith) inside in
          let in_head : head < length classes = omega (arith, was.0) in
          let two : head ≢ i = λ same. absurd (omega (arith, was.0, same)) in
          let stays = merged-stays classes head i (λ p inside' top. so_far.partition.least p inside') in_head inside was.1 single two in
          let size = length-merged classes head i in
          let here : class_at (merged classes head i) i ≡ head = merged-moved classes head i
          (λ p inside' top. so_far.partition.least p inside') in_head inside was.1 single two i inside (omega (arith, was.0, single))
          ∙ omega (arith, was.0) in
          record {
            size = size ∙ so_far.size;
            some = omega (arith, size, so_far.some);
            few = omega (arith, size, so_far.few);
            partition = merged-own classes head i in_head inside so_far.partition;
            heads = so_far.heads ∙ sym (merged-heads_below classes head i
                (λ p inside' top. so_far.partition.least p inside') in_head inside was.1 single two i (omega arith))
                ∙ sym (heads_below-other (merged classes head i) i (λ own. absurd (omega (arith, own, here, was.0))));
            single = λ p from inside'.
                let old = so_far.single p (omega arith) (omega (arith, size)) in
                stays p (omega (arith, size)) (λ top. absurd (omega (arith, top, old, was.0))) ∙ old;
            known = λ other possible.
                let before = so_far.known other (IsPossible-before other reads possible) in
                below_more (λ (p : ℕ). Same other (class_at (merged classes head i) p) p) i
                (λ p less.
                let low = so_far.partition.least p (omega arith) in
                ap (class_at other) (stays p (omega arith) (λ top. absurd (omega (arith, top, low, was.0)))) ∙ before p less)
                (ap (class_at other) here ∙ joined other possible);
            apart = λ other possible. so_far.apart other (IsPossible-before other reads possible);
            reads = Reads-then so_far.reads reads;
            low = omega (arith, so_far.low, least);
            high = omega (arith, so_far.high, most, was.0, few_heads, more_product i (length list) (digits_of (length list - 1)) few_heads);
          }

  all_heads : i ≡ length classes → list ≡ heads classes
  all_heads whole = so_far.heads ∙ ap (heads_below classes) whole

  -- all points are learnt
  pub Learning-proven : i ≡ length classes → IsProven now classes
  Learning-proven whole =
      let forces = forced now classes (λ other over agrees p has. so_far.known other (IsPossible-over points_are over agrees) p
      (let inside = class-inside classes p has in omega arith)) in
      let P : List ℕ → Type 0 = λ l. HeadsApart now l in
      record {
        partition = record {
          partition = all-classing classes so_far.partition so_far.few;
          points = points_are;
          some =
              (0, all-class classes so_far.partition so_far.few 0 so_far.some);
          few = so_far.few;
        };
        determines = determined now classes points_are (all-classing classes so_far.partition so_far.few) forces (subst P (all_heads whole) so_far.apart);
      }

  pub Learning-at_least : i ≡ length classes → start.spent + length classes ≤ now.spent + length (heads classes)
  Learning-at_least whole = omega (arith, so_far.low, ap length (all_heads whole))

  pub Learning-at_most : i ≡ length classes → now.spent ≤ start.spent + most_readings (length classes) (length (heads classes))
  Learning-at_most whole =
      let Q : ℕ → ℕ → Type 0 = λ n t. now.spent ≤ start.spent + ((n - 1) + (n - t) * digits_of (t - 1)) in
      subst (Q (length classes)) (ap length (all_heads whole)) (subst (λ (n : ℕ). Q n (length list)) whole (let high = so_far.high in omega (arith, high)))

pub Learning-class : {start now : RigState} {classes list : List ℕ} {i : ℕ} → Learning start now classes list i → (p : ℕ) → p < length classes
    → HasClass classes p
Learning-class {start} {now} {classes} so_far p inside = all-class classes so_far.partition so_far.few p inside

-- what holds anyway holds of a refusal
pub OnErr-any : {T : Type 0} {E : Type 0} (result : Result T E) {P : Type 0} → P → OnErr result P
OnErr-any (Ok x) holds = tt
OnErr-any (Err e) holds = holds
