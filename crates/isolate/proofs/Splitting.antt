-- The nets, parted point by point.
use Rattle.std.proofs.Common.{◌≡◌, ◌≢◌, ◌⊎◌, ◌↔◌, inl, inr, ◌<◌, ◌≤◌, ◌+◌, ◌-◌, ◌*◌, ◌^◌, ℕ, zero, suc, Bool, cond, eqb, List, [], ◌∷◌, ◌++◌, length, min, filter, get_or, None, refl, sym, ◌∙◌, ap, subst, arith, add-one, length-append}
use Rattle.std.specs.Prelude.{All, Contains}
use Rattle.std.specs.List.Sorted.{IsStrictlyIncreasing}
use Rattle.std.proofs.Math.Nat.{mul-le-mul_left, mul-le-mul_right}
use Rattle.std.proofs.lemmas.Bool.{cases_lt, cases_eq, eq-eqb, ne_eqb, eqb-true}
use Rattle.std.proofs.lemmas.List.{get_or_append_left, get_or_default, get_or_past, get_or_push, length_push}
use Rattle.std.proofs.lemmas.List.Elements.{Contains-get_or, Contains-push_cases, filter-append}
use Rattle.std.proofs.lemmas.List.Kept.{IsStrictlyIncreasing-filter}
use Rattle.partition.specs.Classes.{class_at, Same, no_class}
use Rattle.partition.specs.Digits.{digits_of}
use Rattle.partition.specs.Heads.{heads, heads_below, heads_to}
use Rattle.partition.specs.NetTable.{NetTable, IsNetTable, judged_points, programmed_of}
use Rattle.partition.specs.Partitions.{HasClass, IsClassing, IsOver}
use Rattle.partition.proofs.DigitLaws.{digits_least}
use Rattle.partition.proofs.DigitsLemmas.{digits-mono}
use Rattle.partition.proofs.classes.HeadLemmas.{heads_below-are, heads_below-has, heads_below-head, heads_below-other, heads_below-increasing}
use Rattle.partition.proofs.classes.JudgedPartition.{class-has_class, class-inside}
use Rattle.partition.proofs.Members.{In-filter, In-filter_cases}
use Rattle.partition.proofs.tables.NetClasses.{programmed_valid}
use Rattle.partition.proofs.tables.NetLaws.{Contains-In, In-index}
use Rattle.rig.specs.RigState.{RigState}
use Rattle.rig.specs.Calls.{AreGroups}
use Rattle.rig.specs.Readings.{Reads}
use Rattle.rig.specs.States.{IsOfRig}
use Rattle.rig.specs.Trail.{Extends, ReadsAmong}
use Rattle.rig.proofs.Reading.{Reads-none, Reads-then, Extends-refl, Extends-trans}
use Rattle.rig.proofs.Groups.{IsGroup-one, Contains-one}
use Rattle.learn.specs.Groups.{AreOne, DoNotMeet, IsPossible, IsReadingOf}
use Rattle.learn.proofs.Determined.{forced}
use Rattle.learn.proofs.HeadMerge.{heads_below-agree}
use Rattle.learn.proofs.Possible.{Extends-among, IsPossible-before, IsPossible-over}
use Rattle.isolate.specs.Counts.{judged_to, ReadsJudged}
use Rattle.isolate.specs.Pieces.{ArePieces, IsWithinPlacing, is_of_net, most_placing}
use Rattle.isolate.proofs.Checking.{IsOfRig-after, heads_to-head, heads_to-other}
use Rattle.isolate.proofs.JudgedCounts.{counted-programmed, heads-programmed, heads_grow, judged_to-more, judged_to-skip}
use Rattle.isolate.proofs.NetHeads.{length-programmed, programmed-some}

-- ---- a partition with one point more

module _ (m : List ℕ) (x : ℕ) where
  pushed-before : (p : ℕ) → p < length m → class_at (m ++ x ∷ []) p ≡ class_at m p
  pushed-before p inside = get_or_append_left m (x ∷ []) no_class p inside

  pushed-here : class_at (m ++ x ∷ []) (length m) ≡ x
  pushed-here = get_or_push m x no_class (length m) refl

  pushed-past : (p : ℕ) → length m < p → class_at (m ++ x ∷ []) p ≡ no_class
  pushed-past p past = get_or_past (m ++ x ∷ []) p no_class (omega (arith, past, length_push m x))

  -- a point that counts did so before, or it is the new one
  pushed-cases : (p : ℕ) → HasClass (m ++ x ∷ []) p → ((p < length m) × HasClass m p) ⊎ ((p ≡ length m) × (x < no_class))
  pushed-cases p has =
      elim (cases_lt p (length m)) as (λ _. ((p < length m) × HasClass m p) ⊎ ((p ≡ length m) × (x < no_class))) [
        | inl before ↦ inl (before, omega (arith, has, pushed-before p before))
        | inr after ↦ elim (cases_eq p (length m)) as (λ _. ((p < length m) × HasClass m p) ⊎ ((p ≡ length m) × (x < no_class))) [
          | inl here ↦ inr (here, omega (arith, has, pushed-here, ap (class_at (m ++ x ∷ [])) here))
          | inr other ↦ absurd (omega (arith, has, pushed-past p (omega (arith, after, other))))
        ]
      ]

  pushed-classing : IsClassing m → x ≤ no_class → (x < no_class → (x ≤ length m) × (class_at (m ++ x ∷ []) x ≡ x)) → IsClassing (m ++ x ∷ [])
  pushed-classing ok low own = record {
    least = λ p has. elim (pushed-cases p has) as (λ _. class_at (m ++ x ∷ []) p ≤ p) [
      | inl before ↦ omega (arith, pushed-before p before.0, ok.least p before.1)
      | inr here ↦ omega (arith, here.0, (own here.1).0, pushed-here, ap (class_at (m ++ x ∷ [])) here.0)
    ];
    own = λ p has. elim (pushed-cases p has) as (λ _. class_at (m ++ x ∷ []) (class_at (m ++ x ∷ []) p) ≡ class_at (m ++ x ∷ []) p) [
      | inl before ↦
          let inside : class_at m p < length m = omega (arith, before.0, ok.least p before.1) in
          ap (class_at (m ++ x ∷ [])) (pushed-before p before.0) ∙ pushed-before (class_at m p) inside ∙ ok.own p before.1 ∙ sym (pushed-before p before.0)
      | inr here ↦
          let is : class_at (m ++ x ∷ []) p ≡ x = ap (class_at (m ++ x ∷ [])) here.0 ∙ pushed-here in
          ap (class_at (m ++ x ∷ [])) is ∙ (own here.1).1 ∙ sym is
    ];
    none = λ p. elim (cases_lt p (length m)) as (λ _. class_at (m ++ x ∷ []) p ≤ no_class) [
      | inl before ↦ omega (arith, pushed-before p before, ok.none p)
      | inr after ↦ elim (cases_eq p (length m)) as (λ _. class_at (m ++ x ∷ []) p ≤ no_class) [
        | inl here ↦ omega (arith, low, pushed-here, ap (class_at (m ++ x ∷ [])) here)
        | inr other ↦ omega (arith, pushed-past p (omega (arith, after, other)))
      ]
    ];
  }

  -- the heads before stay
  pushed-heads : (n : ℕ) → n ≤ length m → heads_below (m ++ x ∷ []) n ≡ heads_below m n
  pushed-heads n within = heads_below-agree (m ++ x ∷ []) m n (λ p less. pushed-before p (omega arith))

-- ---- the pieces of one net

-- beside the pieces of one net there is a piece for each other net at least
net_few : (nets labels : List ℕ) (c n : ℕ) → ((p : ℕ) → p < n → class_at nets p ≡ p → class_at labels p ≡ p)
    → (n ≤ c → length (filter (λ q. eqb (class_at nets q) c) (heads_below labels n)) + heads_to nets n ≤ heads_to labels n)
    × (length (filter (λ q. eqb (class_at nets q) c) (heads_below labels n)) + heads_to nets n ≤ heads_to labels n + 1)
net_few nets labels c zero tops = (λ le. omega arith, omega arith)
net_few nets labels c (suc n) tops =
    let of_net : ℕ → Bool = λ q. eqb (class_at nets q) c in
    let before = net_few nets labels c n (λ p less. tops p (omega arith)) in
    let Goal : Type 0 = (suc n ≤ c → length (filter of_net (heads_below labels (suc n))) + heads_to nets (suc n) ≤ heads_to labels (suc n))
    × (length (filter of_net (heads_below labels (suc n))) + heads_to nets (suc n) ≤ heads_to labels (suc n) + 1) in
    elim (cases_eq (class_at labels n) n) as (λ _. Goal) [
      | inl head ↦
          let grown : heads_below labels (suc n) ≡ heads_below labels n ++ n ∷ [] = rw add-one at (heads_below-head labels n head) in
          let more : heads_to labels (suc n) ≡ heads_to labels n + 1 = ap length grown ∙ length_push (heads_below labels n) n in
          let parted = ap length (ap (filter of_net) grown ∙ filter-append of_net (heads_below labels n) (n ∷ []))
          ∙ length-append (filter of_net (heads_below labels n)) (filter of_net (n ∷ [])) in
          elim (cases_eq (class_at nets n) c) as (λ _. Goal) [
            | inl own ↦
                let one : length (filter of_net (n ∷ [])) ≡ 1 = ap (λ (b : Bool). length (cond b (n ∷ []) [])) (eq-eqb (class_at nets n) c own) in
                elim (cases_eq (class_at nets n) n) as (λ _. Goal) [
                  | inl top ↦
                      let k = rw add-one at (heads_to-head nets n top) in
                      (λ le. absurd (omega (arith, le, own, top)), omega (arith, before.0 (omega (arith, own, top)), more, parted, one, k))
                  | inr low ↦
                      let k = rw add-one at (heads_to-other nets n low) in
                      (λ le. omega (arith, before.0 (omega arith), more, parted, one, k), omega (arith, before.1, more, parted, one, k))
                ]
            | inr other ↦
                let none : length (filter of_net (n ∷ [])) ≡ 0 = ap (λ (b : Bool). length (cond b (n ∷ []) [])) (ne_eqb (class_at nets n) c other) in
                elim (cases_eq (class_at nets n) n) as (λ _. Goal) [
                  | inl top ↦
                      let k = rw add-one at (heads_to-head nets n top) in
                      (λ le. omega (arith, before.0 (omega arith), more, parted, none, k), omega (arith, before.1, more, parted, none, k))
                  | inr low ↦
                      let k = rw add-one at (heads_to-other nets n low) in
                      (λ le. omega (arith, before.0 (omega arith), more, parted, none, k), omega (arith, before.1, more, parted, none, k))
                ]
          ]
      | inr other ↦
          let same : heads_below labels (suc n) ≡ heads_below labels n = rw add-one at (heads_below-other labels n other) in
          let kept = ap (λ (l : List ℕ). length (filter of_net l)) same in
          let k = rw add-one at (heads_to-other nets n (λ top. other (tops n (omega arith) top))) in
          (λ le. omega (arith, before.0 (omega arith), ap length same, kept, k), omega (arith, before.1, ap length same, kept, k))
    ]

-- ---- the counts: of the points so far J count, K are first in their nets, and L are heads

high_joined : (now next start J L K g more : ℕ) → more ≡ J + 1 → L ≤ J → 0 < g → g + K ≤ L + 1 → now + K ≤ start + J + (J - L) * digits_of (L - K)
    → next ≤ now + min 1 g + digits_of (g - 1)
    → next + K ≤ start + more + (more - L) * digits_of (L - K)
high_joined now next start J L K g more is few some group before spent =
    let search_most = digits-mono (g - 1) (L - K) (omega arith) in
    let one_more : J + 1 - L ≡ (J - L) + 1 = omega arith in
    rw (is, one_more) (omega (arith, before, spent, search_most, some))

high_first : (now next start J L K J' L' K' : ℕ) → J' ≡ J + 1 → L' ≡ L + 1 → K' ≡ K + 1 → now + K ≤ start + J + (J - L) * digits_of (L - K) → next ≤ now
    → next + K' ≤ start + J' + (J' - L') * digits_of (L' - K')
high_first now next start J L K J' L' K' is_J is_L is_K before spent =
    let rest : J + 1 - (L + 1) ≡ J - L = omega arith in
    let pieces : L + 1 - (K + 1) ≡ L - K = omega arith in
    rw (is_J, is_L, is_K, rest, pieces) (omega (arith, before, spent))

high_later : (now next start J L K J' L' : ℕ) → J' ≡ J + 1 → L' ≡ L + 1 → K ≤ L → now + K ≤ start + J + (J - L) * digits_of (L - K) → next ≤ now + 1
    → next + K ≤ start + J' + (J' - L') * digits_of (L' - K)
high_later now next start J L K J' L' is_J is_L some before spent =
    let rest : J + 1 - (L + 1) ≡ J - L = omega arith in
    let wider = mul-le-mul_left (J - L) (digits-mono (L - K) (L + 1 - K) (omega arith)) in
    rw (is_J, is_L, rest) (omega (arith, before, spent, wider))

-- as many readings as some pieces take
placing-within : (start next : RigState) (J L K n k : ℕ) → next.spent + K ≤ start.spent + J + (J - L) * digits_of (L - K) → L ≤ J → K ≤ L → k + J ≤ K + n
    → IsWithinPlacing start next n k
placing-within start next J L K n k high few some grown = record {
  pieces = k + (L - K);
  some = omega arith;
  few = omega arith;
  at_most =
      let pieces : k + (L - K) - k ≡ L - K = omega arith in
      let rest : J - L ≤ n - (k + (L - K)) = omega arith in
      rw pieces (omega (arith, high, few, some, grown, mul-le-mul_right (digits_of (L - K)) rest));
}

-- ---- the pieces of the points below i

-- Each point below i that counts has the head of its piece, a point of its net that is joined with it.
pub record Parted (now : RigState) (nets labels : List ℕ) (i : ℕ) : Type 0 where
  pub size : length labels ≡ i
  pub reach : i ≤ length nets
  pub partition : IsClassing labels
  pub counts : (p : ℕ) → p < i → HasClass labels p ↔ HasClass nets p
  pub tops : (p : ℕ) → p < i → class_at nets p ≡ p → class_at labels p ≡ p
  pub of_net : (p : ℕ) → HasClass labels p → Same nets (class_at labels p) p
  pub known : (other : List ℕ) → IsPossible now other → (p : ℕ) → HasClass labels p → Same other (class_at labels p) p

-- one point more, with the head of its piece, or with none where it does not count
pub record IsNext (next : RigState) (nets labels : List ℕ) (i x : ℕ) : Type 0 where
  pub low : x ≤ no_class
  pub own : x < no_class → (x ≤ i) × (class_at (labels ++ x ∷ []) x ≡ x)
  pub counts : (x < no_class) ↔ HasClass nets i
  pub top : class_at nets i ≡ i → x ≡ i
  pub of_net : x < no_class → Same nets x i
  pub known : (other : List ℕ) → IsPossible next other → x < no_class → Same other x i

Parted-next : {now next : RigState} {nets labels : List ℕ} {i x : ℕ} → Parted now nets labels i → Reads now next None → i < length nets
    → IsNext next nets labels i x → Parted next nets (labels ++ x ∷ []) (i + 1)
Parted-next {now} {next} {nets} {labels} {i} {x} parted reads inside new =
    let size = parted.size in
    record {
      size = omega (arith, length_push labels x, size);
      reach = omega arith;
      partition = pushed-classing labels x parted.partition new.low (λ has. let own = new.own has in (omega (arith, own.0, size), own.1));
      counts = λ p less. elim (cases_lt p (length labels)) as (λ _. HasClass (labels ++ x ∷ []) p ↔ HasClass nets p) [
        | inl before ↦
            let same = pushed-before labels x p before in
            let old = parted.counts p (omega (arith, before, size)) in
            (λ has. old.0 (omega (arith, has, same)), λ has. let has' = old.1 has in omega (arith, has', same))
        | inr after ↦
            let is : p ≡ i = omega (arith, after, less, size) in
            let here : class_at (labels ++ x ∷ []) p ≡ x = ap (class_at (labels ++ x ∷ [])) (is ∙ sym size) ∙ pushed-here labels x in
            let at_i = ap (class_at nets) is in (
              λ has. let has' = new.counts.0 (omega (arith, has, here)) in omega (arith, has', at_i),
              λ has. let has' = new.counts.1
                  (omega (arith, has, at_i)) in omega (arith, has', here),
            )
      ];
      tops = λ p less top. elim (cases_lt p (length labels)) as (λ _. class_at (labels ++ x ∷ []) p ≡ p) [
        | inl before ↦ pushed-before labels x p before ∙ parted.tops p (omega (arith, before, size)) top
        | inr after ↦
            let is : p ≡ i = omega (arith, after, less, size) in
            let here : class_at (labels ++ x ∷ []) p ≡ x = ap (class_at (labels ++ x ∷ [])) (is ∙ sym size) ∙ pushed-here labels x in
            here ∙ new.top (sym (ap (class_at nets) is) ∙ top ∙ is) ∙ sym is
      ];
      of_net = λ p has. joins p has nets (λ has_x. new.of_net has_x) (λ has'. parted.of_net p has');
      known = λ other possible p has. joins p has other (λ has_x. new.known other possible has_x)
          (λ has'. parted.known other (IsPossible-before other reads possible) p has');
    }
  where
    joins : (p : ℕ) → HasClass (labels ++ x ∷ []) p → (m : List ℕ) → (x < no_class → Same m x i) → (HasClass labels p → Same m (class_at labels p) p)
        → Same m (class_at (labels ++ x ∷ []) p) p
    joins p has m new_one old = elim (pushed-cases labels x p has) as (λ _. Same m (class_at (labels ++ x ∷ []) p) p) [
      | inl before ↦ ap (class_at m) (pushed-before labels x p before.0) ∙ old before.1
      | inr here ↦ ap (class_at m) (ap (class_at (labels ++ x ∷ [])) here.0 ∙ pushed-here labels x) ∙ new_one here.1
          ∙ ap (class_at m) (sym (here.0 ∙ parted.size))
    ]

-- ---- the state of the parting

-- and no two heads of pieces of one net are joined
pub record Splitting (start now : RigState) (nets labels list : List ℕ) (i : ℕ) : Type 0 where
  pub of_rig : IsOfRig start nets
  pub parted : Parted now nets labels i
  pub heads : list ≡ heads_below labels i
  pub apart : (other : List ℕ) → IsPossible now other → (a b : ℕ) → HasClass other a → Contains list a → Contains list b → Same nets a b → Same other a b
      → a ≡ b
  pub reads : Reads start now None
  pub among : ReadsJudged nets start now
  pub few : length list ≤ judged_to nets i
  pub some : heads_to nets i ≤ length list
  pub low : start.spent + judged_to nets i ≤ now.spent + heads_to nets i
  pub high : now.spent + heads_to nets i ≤ start.spent + judged_to nets i + (judged_to nets i - length list) * digits_of (length list - heads_to nets i)

pub Splitting-start : (s : RigState) (nets : List ℕ) → IsOfRig s nets → Splitting s s nets [] [] 0
Splitting-start s nets of_rig = record {
  of_rig = of_rig;
  parted = record {
    size = refl;
    reach = omega arith;
    partition = record {
      least = λ p has. absurd (none p has);
      own = λ p has. absurd (none p has);
      none = λ p. omega
          (arith, get_or_past [] p no_class (omega arith));
    };
    counts = λ p less. absurd (omega arith);
    tops = λ p less. absurd (omega arith);
    of_net = λ p has. absurd (none p has);
    known = λ other possible p has. absurd (none p has);
  };
  heads = refl;
  apart = λ other possible a b has in_a. absurd (let inside = in_a.1 in omega arith);
  reads = Reads-none s;
  among = Extends-refl (ReadsAmong nets) s.trail;
  few = omega arith;
  some = omega arith;
  low = omega arith;
  high = omega arith;
}
  where
    none : (p : ℕ) → HasClass [] p → ⊥
    none p has = absurd (omega (arith, has, get_or_past [] p no_class (omega arith)))

module _ {start now : RigState} {nets labels list : List ℕ} {i : ℕ} (so_far : Splitting start now nets labels list i) where
  points_are : length nets ≡ now.points
  points_are = so_far.of_rig.points ∙ sym (ap (λ (s : RigState). s.points) so_far.reads.frame)

  few_points : length nets < 2 ^ 16
  few_points = so_far.of_rig.few

  -- a head is a point below i, of a net
  head_below : (q : ℕ) → Contains list q → (q < i) × (class_at labels q ≡ q)
  head_below q in' = let P : List ℕ → Type 0 = λ l. Contains l q in heads_below-are labels i q (subst P so_far.heads in')

  head_counts : (q : ℕ) → Contains list q → HasClass nets q
  head_counts q in' =
      let was = head_below q in' in
      let reach = so_far.parted.reach in
      (so_far.parted.counts q was.0).0 (omega (arith, was.0, was.1, reach, few_points))

  pub Splitting-inside : (k d : ℕ) → k < length list → get_or list k d < length nets
  Splitting-inside k d inside = let reach = so_far.parted.reach in omega (arith, (head_below _ (Contains-get_or list k d inside)).0, reach)

  -- the heads in the net of the next point

  abbrev pub group : List ℕ
  group = filter (is_of_net nets i) list

  in_group : (q : ℕ) → Contains group q → Contains list q × Same nets q i
  in_group q in' =
      let was = In-filter_cases (is_of_net nets i) q list (Contains-In q group in') in
      let place = In-index q list was.0 in
      ((place.0, place.1, place.2 q), eqb-true (class_at nets q) (class_at nets i) was.1)

  has_group : (q : ℕ) → Contains list q → Same nets q i → Contains group q
  has_group q in' same =
      let place = In-index q group (In-filter (is_of_net nets i) q list (Contains-In q list in') (eq-eqb (class_at nets q) (class_at nets i) same)) in
      (place.0, place.1, place.2 q)

  up : IsStrictlyIncreasing list
  up = subst IsStrictlyIncreasing (sym so_far.heads) (heads_below-increasing labels i)

  -- they may be read against it
  pub Splitting-asks : i < length nets → 0 < length group → AreGroups now.points group (i ∷ [])
  Splitting-asks inside some = record {
    left = record {
      some = some;
      ascending = IsStrictlyIncreasing-filter (is_of_net nets i) list up;
      in_range = λ k d lt. omega (arith, (head_below _ (in_group _ (Contains-get_or group k d lt)).0).0, inside, points_are);
    };
    right = IsGroup-one now.points i (omega (arith, inside, points_are));
    apart = λ p in_heads here. absurd (omega (arith, (head_below p (in_group p in_heads).0).0, Contains-one i p here));
  }

  -- and such a reading is of points that count
  pub Splitting-among : (next : RigState) → HasClass nets i → Extends (IsReadingOf (group ++ i ∷ [])) now.trail next.trail → ReadsJudged nets start next
  Splitting-among next has points =
      let P : ℕ → Type 0 = λ q. HasClass nets q in
      let count : (q : ℕ) → Contains (group ++ i ∷ []) q → HasClass nets q = λ q in'.
      elim (Contains-push_cases group i q in') as (λ _. HasClass nets q) [ inl old ↦ head_counts q (in_group q old).0 | inr new ↦ subst P new has ] in
      Extends-trans (ReadsAmong nets) start.trail now.trail next.trail so_far.among (Extends-among (group ++ i ∷ []) nets count now.trail next.trail points)

  -- the first point of a net is alone, and any other finds its net's first
  first_alone : class_at nets i ≡ i → 0 < length group → ⊥
  first_alone top some =
      let here = in_group _ (Contains-get_or group 0 0 some) in
      let below = head_below _ here.0 in
      let least = so_far.of_rig.partition.least _ (head_counts _ here.0) in
      absurd (omega (arith, below.0, here.1, top, least))

  later_some : HasClass nets i → class_at nets i ≢ i → 0 < length group
  later_some has later =
      let least = so_far.of_rig.partition.least i has in
      let own = so_far.of_rig.partition.own i has in
      let below : class_at nets i < i = omega (arith, least, later) in
      let P : List ℕ → Type 0 = λ l. Contains l (class_at nets i) in
      let in_list : Contains list (class_at nets i) = subst P (sym so_far.heads)
      (heads_below-has labels i (class_at nets i) below (so_far.parted.tops (class_at nets i) below own)) in
      let place = has_group (class_at nets i) in_list own in
      omega (arith, place.1)

  group_few : length group + heads_to nets i ≤ length list + 1
  group_few = let few = (net_few nets labels (class_at nets i) i so_far.parted.tops).1 in omega
      (arith, few, ap length so_far.heads, ap (λ (l : List ℕ). length (filter (is_of_net nets i) l)) so_far.heads)

  -- what is within the bound of the points below i is within that of all points, and so is one search more
  grown : (n : ℕ) → n ≤ length nets → length (heads nets) + judged_to nets n ≤ heads_to nets n + judged_to nets (length nets)
  grown n within =
      let all : n + (length nets - n) ≡ length nets = omega arith in
      omega (arith, heads_grow nets n (length nets - n) (omega (arith, all, few_points)), ap (heads_to nets) all, ap (judged_to nets) all)

  pub Splitting-within : {next : RigState} → next.spent ≤ now.spent → IsWithinPlacing start next (judged_to nets (length nets)) (length (heads nets))
  Splitting-within {next} spent =
      let high = so_far.high in
      placing-within start next (judged_to nets i) (length list) (heads_to nets i) (judged_to nets (length nets)) (length (heads nets))
      (omega (arith, spent, high)) so_far.few so_far.some (grown i so_far.parted.reach)

  pub Splitting-stopped : {next : RigState} → i < length nets → HasClass nets i → next.spent ≤ now.spent + min 1 (length group) + digits_of (length group - 1)
      → IsWithinPlacing start next (judged_to nets (length nets)) (length (heads nets))
  Splitting-stopped {next} inside has spent =
      elim (cases_lt 0 (length group)) as (λ _. IsWithinPlacing start next (judged_to nets (length nets)) (length (heads nets))) [
        | inl some ↦
            let later : class_at nets i ≢ i = λ top. first_alone top some in
            let high = high_joined now.spent next.spent start.spent (judged_to nets i) (length list) (heads_to nets i) (length group) (judged_to nets (i + 1))
            (judged_to-more nets i has) so_far.few some group_few so_far.high spent in
            placing-within start next (judged_to nets (i + 1)) (length list) (heads_to nets i) (judged_to nets (length nets)) (length (heads nets)) high
            (omega (arith, so_far.few, judged_to-more nets i has)) so_far.some (omega (arith, grown (i + 1) (omega arith), heads_to-other nets i later))
        | inr none ↦
            let no_digits : digits_of (length group - 1) ≤ 0 = digits_least (length group - 1) 0 (omega arith) in
            Splitting-within (omega (arith, spent, none, no_digits))
      ]

  -- the heads, with a point more that is no head
  heads_same : (x : ℕ) → x ≢ i → list ≡ heads_below (labels ++ x ∷ []) (i + 1)
  heads_same x other =
      let here : class_at (labels ++ x ∷ []) i ≡ x = ap (class_at (labels ++ x ∷ [])) (sym so_far.parted.size) ∙ pushed-here labels x in
      so_far.heads ∙ sym (pushed-heads labels x i (let size = so_far.parted.size in omega arith))
      ∙ sym (heads_below-other (labels ++ x ∷ []) i (λ top. other (sym here ∙ top)))

  heads_more : list ++ i ∷ [] ≡ heads_below (labels ++ i ∷ []) (i + 1)
  heads_more =
      let here : class_at (labels ++ i ∷ []) i ≡ i = ap (class_at (labels ++ i ∷ [])) (sym so_far.parted.size) ∙ pushed-here labels i in
      ap (λ (l : List ℕ). l ++ i ∷ []) (so_far.heads ∙ sym (pushed-heads labels i i (let size = so_far.parted.size in omega arith)))
      ∙ sym (heads_below-head (labels ++ i ∷ []) i here)

  -- the next point does not count
  pub Splitting-skipped : {more : List ℕ} → i < length nets → class_at nets i ≡ no_class → more ≡ labels ++ no_class ∷ []
      → Splitting start now nets more list (i + 1)
  Splitting-skipped {more} inside none is =
      let P : List ℕ → Type 0 = λ l. Splitting start now nets l list (i + 1) in
      let not_top : class_at nets i ≢ i = λ top. absurd (omega (arith, none, top, inside, few_points)) in
      let new : IsNext now nets labels i no_class = record {
        low = omega arith;
        own = λ has. absurd (omega arith);
        counts = (λ has. absurd (omega arith), λ has. absurd (omega arith));
        top = λ top. absurd (not_top top);
        of_net = λ has. absurd (omega arith);
        known = λ other possible has. absurd (omega arith);
      } in
      let J = judged_to-skip nets i none in
      let K = heads_to-other nets i not_top in
      subst P (sym is) (record {
        of_rig = so_far.of_rig;
        parted = Parted-next so_far.parted (Reads-none now) inside new;
        heads = heads_same no_class (λ top. absurd (omega (arith, top, inside, few_points)));
        apart = so_far.apart;
        reads = so_far.reads;
        among = so_far.among;
        few = omega (arith, so_far.few, J);
        some = omega (arith, so_far.some, K);
        low = omega (arith, so_far.low, J, K);
        high = rw (J, K) so_far.high;
      })

  -- the next point is joined with the head of a piece of its net
  pub Splitting-joined : {next : RigState} {more : List ℕ} {head : ℕ} → i < length nets → HasClass nets i → Reads now next None
      → Extends (IsReadingOf (group ++ i ∷ [])) now.trail next.trail
      → Contains group head → AreOne next head i → now.spent + 1 ≤ next.spent → next.spent ≤ now.spent + min 1 (length group) + digits_of (length group - 1)
      → more ≡ labels ++ head ∷ [] → Splitting start next nets more list (i + 1)
  Splitting-joined {next} {more} {head} inside has reads points in' joined least most is =
      let P : List ℕ → Type 0 = λ l. Splitting start next nets l list (i + 1) in
      let here = in_group head in' in
      let below = head_below head here.0 in
      let some : 0 < length group = let at = in'.1 in omega arith in
      let not_top : class_at nets i ≢ i = λ top. first_alone top some in
      let low_head : head < no_class = omega (arith, below.0, inside, few_points) in
      let new : IsNext next nets labels i head = record {
        low = omega (arith, low_head);
        own = λ h. (omega (arith, below.0), pushed-before labels head head (let size = so_far.parted.size in omega (arith, below.0)) ∙ below.1);
        counts = (λ h. has, λ h. low_head);
        top = λ top. absurd (not_top top);
        of_net = λ h. here.1;
        known = λ other possible h. joined other possible;
      } in
      let J = judged_to-more nets i has in
      let K = heads_to-other nets i not_top in
      subst P (sym is) (record {
        of_rig = so_far.of_rig;
        parted = Parted-next so_far.parted reads inside new;
        heads = heads_same head (λ top. absurd (omega (arith, top, below.0)));
        apart = λ other possible. so_far.apart other (IsPossible-before other reads possible);
        reads = Reads-then so_far.reads reads;
        among = Splitting-among next has points;
        few = omega (arith, so_far.few, J);
        some = omega (arith, so_far.some, K);
        low = omega (arith, so_far.low, J, K, least);
        high = rw K (high_joined now.spent next.spent start.spent (judged_to nets i) (length list) (heads_to nets i) (length group)
            (judged_to nets (i + 1)) J so_far.few some group_few so_far.high most);
      })

  -- no head of its net is joined with the next point
  pub Splitting-new : {next : RigState} {more grown_list : List ℕ} → i < length nets → HasClass nets i → Reads now next None
      → Extends (IsReadingOf (group ++ i ∷ [])) now.trail next.trail
      → DoNotMeet next group (i ∷ []) → next.spent ≡ now.spent + min 1 (length group) → more ≡ labels ++ i ∷ [] → grown_list ≡ list ++ i ∷ []
      → Splitting start next nets more grown_list (i + 1)
  Splitting-new {next} {more} {grown_list} inside has reads points none spent is is_list =
      let P : List ℕ → Type 0 = λ l. Splitting start next nets l grown_list (i + 1) in
      let Q : List ℕ → Type 0 = λ l. Splitting start next nets (labels ++ i ∷ []) l (i + 1) in
      let low_i : i < no_class = omega (arith, inside, few_points) in
      let new : IsNext next nets labels i i = record {
        low = omega (arith, low_i);
        own = λ h. (omega arith, ap (class_at (labels ++ i ∷ [])) (sym so_far.parted.size) ∙ pushed-here labels i);
        counts = (λ h. has, λ h. low_i);
        top = λ top. refl;
        of_net = λ h. refl;
        known = λ other possible h. refl;
      } in
      let J = judged_to-more nets i has in
      let L = length_push list i in
      let counts : (length (list ++ i ∷ []) ≤ judged_to nets (i + 1)) × (heads_to nets (i + 1) ≤ length (list ++ i ∷ [])) ×
      (start.spent + judged_to nets (i + 1) ≤ next.spent + heads_to nets (i + 1))
      × (next.spent + heads_to nets (i + 1) ≤ start.spent + judged_to nets (i + 1) + (judged_to nets (i + 1) - length (list ++ i ∷ [])) * digits_of
      (length (list ++ i ∷ []) - heads_to nets (i + 1))) =
      elim (cases_eq (class_at nets i) i) [
        | inl top ↦
            let K = heads_to-head nets i top in
            let alone : length group ≡ 0 = elim (cases_lt 0 (length group)) as
            (λ _. length group ≡ 0) [ inl some ↦ absurd (first_alone top some) | inr few ↦ omega arith ] in (
              omega (arith, so_far.few, J, L),
              omega (arith, so_far.some, K, L),
              omega (arith, so_far.low, J, K, spent, alone),
              high_first now.spent next.spent start.spent (judged_to nets i) (length list) (heads_to nets i) (judged_to nets (i + 1))
                  (length (list ++ i ∷ [])) (heads_to nets (i + 1)) J L K so_far.high (omega (arith, spent, alone)),
            )
        | inr later ↦
            let K = heads_to-other nets i later in
            let some = later_some has later in (
              omega (arith, so_far.few, J, L),
              omega (arith, so_far.some, K, L),
              omega (arith, so_far.low, J, K, spent, some),
              rw K (high_later now.spent next.spent start.spent (judged_to nets i) (length list) (heads_to nets i) (judged_to nets (i + 1))
                  (length (list ++ i ∷ [])) J L so_far.some so_far.high (omega (arith, spent))),
            )
      ] in
      subst P (sym is) (subst Q (sym is_list) (record {
        of_rig = so_far.of_rig;
        parted = Parted-next so_far.parted reads inside new;
        heads = heads_more;
        apart = λ other possible a b has_a in_a in_b net same.
            elim (Contains-push_cases list i a in_a) as (λ _. a ≡ b) [
              | inl old_a ↦ elim (Contains-push_cases list i b in_b) as (λ _. a ≡ b) [
                | inl old_b ↦ so_far.apart other (IsPossible-before other reads possible) a b has_a old_a old_b net same
                | inr new_b ↦ absurd (none other possible (record {
                  left = a;
                  right = i;
                  in_left = has_group a old_a (net ∙ sym (ap (class_at nets) new_b));
                  in_right = one i;
                  judged = has_a;
                  joined = same ∙ sym (ap (class_at other) new_b);
                }))
              ]
              | inr new_a ↦ elim (Contains-push_cases list i b in_b) as (λ _. a ≡ b) [
                | inl old_b ↦ absurd (none other possible (record {
                  left = b;
                  right = i;
                  in_left = has_group b old_b (sym net ∙ sym (ap (class_at nets) new_a));
                  in_right = one i;
                  judged = subst (λ (c : ℕ). c < no_class) same has_a;
                  joined = sym same ∙ sym (ap (class_at other) new_a);
                }))
                | inr new_b ↦ sym new_a ∙ new_b
              ]
            ];
        reads = Reads-then so_far.reads reads;
        among = Splitting-among next has points;
        few = counts.0;
        some = counts.1;
        low = counts.2;
        high = counts.3;
      }))
    where
      one : (p : ℕ) → Contains (p ∷ []) p
      one p = (0, omega arith, refl)

  -- all points are placed

  over : i ≡ length nets → IsOver nets labels
  over whole = record {
    size = so_far.parted.size ∙ whole;
    judged = λ p. (
      λ has. (so_far.parted.counts p (let below = class-inside labels p has in let size = so_far.parted.size in omega arith)).0 has,
      λ has. (so_far.parted.counts p (let below = class-inside nets p has in omega arith)).1 has,
    );
  }

  pub Splitting-pieces : i ≡ length nets → ArePieces now nets labels
  Splitting-pieces whole =
      let parted = so_far.parted in
      let points : length labels ≡ now.points = parted.size ∙ whole ∙ points_are in
      let in_list : (p : ℕ) → HasClass labels p → Contains list (class_at labels p) = λ p has.
      let least = parted.partition.least p has in
      let below = class-inside labels p has in
      let size = parted.size in
      let P : List ℕ → Type 0 = λ l. Contains l (class_at labels p) in
      subst P (sym so_far.heads) (heads_below-has labels i (class_at labels p) (omega arith) (parted.partition.own p has)) in
      record {
        of_rig = record {
          partition = parted.partition;
          points = points;
          some = let some = so_far.of_rig.some in (some.0, ((over whole).judged some.0).1 some.1);
          few = let size = parted.size in omega (arith, whole, few_points);
        };
        nets_of_rig = IsOfRig-after so_far.reads so_far.of_rig;
        over = over whole;
        of_nets = λ a b has_a has_b same. sym (parted.of_net a has_a) ∙ ap (class_at nets) same ∙ parted.of_net b has_b;
        joined = forced now labels (λ other over_labels agrees p has. parted.known other (IsPossible-over points over_labels agrees) p has);
        apart = λ other over_labels agrees a b has_a has_b net same.
            let possible = IsPossible-over points over_labels agrees in
            so_far.apart other possible (class_at labels a) (class_at labels b)
            ((over_labels.judged (class_at labels a)).1 (class-has_class labels a parted.partition has_a)) (in_list a has_a) (in_list b has_b)
            (parted.of_net a has_a ∙ net ∙ sym (parted.of_net b has_b)) (parted.known other possible a has_a ∙ same
            ∙ sym (parted.known other possible b has_b));
      }

  all_heads : i ≡ length nets → length list ≡ length (heads labels)
  all_heads whole = ap length so_far.heads ∙ ap (λ (n : ℕ). length (heads_below labels n)) (sym so_far.parted.size)

  pub Splitting-some : i ≡ length nets → length (heads nets) ≤ length (heads labels)
  Splitting-some whole = omega (arith, so_far.some, ap (heads_to nets) whole, all_heads whole)

  pub Splitting-few : i ≡ length nets → length (heads labels) ≤ judged_to nets (length nets)
  Splitting-few whole = omega (arith, so_far.few, ap (judged_to nets) whole, all_heads whole)

  pub Splitting-at_least : i ≡ length nets → start.spent + judged_to nets (length nets) ≤ now.spent + length (heads nets)
  Splitting-at_least whole = omega (arith, so_far.low, ap (judged_to nets) whole, ap (heads_to nets) whole)

  pub Splitting-at_most : i ≡ length nets → now.spent ≤ start.spent + most_placing (judged_to nets (length nets)) (length (heads nets)) (length (heads labels))
  Splitting-at_most whole =
      let J = ap (judged_to nets) whole in
      let K = ap (heads_to nets) whole in
      let L = all_heads whole in
      let P : ℕ → ℕ → ℕ → Type 0 = λ n k pieces. now.spent ≤ start.spent + ((n - k) + (n - pieces) * digits_of (pieces - k)) in
      let here : P (judged_to nets i) (heads_to nets i) (length list) = let high = so_far.high in omega (arith, high, so_far.few, so_far.some) in
      subst (λ (n : ℕ). P n (length (heads nets)) (length (heads labels))) J
      (subst (λ (k : ℕ). P (judged_to nets i) k (length (heads labels))) K (subst (λ (pieces : ℕ). P (judged_to nets i) (heads_to nets i) pieces) L here))

-- ---- over the nets of a table

module _ (t : NetTable) (ok : IsNetTable t) (small : t.points < 2 ^ 16) where
  pub nets-of_rig : (s : RigState) → t.points ≡ s.points → IsOfRig s (programmed_of t)
  nets-of_rig s points =
      let valid = programmed_valid t ok small in
      record { partition = valid.partition; points = length-programmed t ∙ points; some = programmed-some t ok small; few = valid.few }

  -- before the first reading
  pub nets-none : (s : RigState) → IsWithinPlacing s s (length (judged_points t)) (length (heads (programmed_of t)))
  nets-none s = record { pieces = length (heads (programmed_of t)); some = omega arith; few = heads-programmed t ok small; at_most = omega arith }

  pub nets-within : (old new : RigState) → IsWithinPlacing old new (judged_to (programmed_of t) (length (programmed_of t))) (length (heads (programmed_of t)))
      → IsWithinPlacing old new (length (judged_points t)) (length (heads (programmed_of t)))
  nets-within old new within = subst (λ (n : ℕ). IsWithinPlacing old new n (length (heads (programmed_of t)))) (counted-programmed t ok small) within

-- the heads of the pieces are labels
pub labels-valid : (m : List ℕ) → IsClassing m → All (λ l. (l < length m) ⊎ (l ≡ no_class)) m
labels-valid m ok k d lt =
    let here : get_or m k d ≡ class_at m k = get_or_default m k d no_class lt in
    elim (cases_lt (class_at m k) no_class) as (λ _. (get_or m k d < length m) ⊎ (get_or m k d ≡ no_class)) [
      | inl has ↦ inl (omega (arith, here, ok.least k has, lt))
      | inr none ↦ inr (omega (arith, here, ok.none k, none))
    ]
