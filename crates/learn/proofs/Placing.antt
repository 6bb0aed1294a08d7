-- The place of a point among groups.
use Rattle.std.proofs.Common.{◌≡◌, ◌<◌, ◌≤◌, ◌+◌, ℕ, zero, suc, List, [], ◌∷◌, ◌++◌, length, get_or, map, take, Option, refl, sym, ◌∙◌, ap, subst, arith, add-one}
use Rattle.std.specs.Prelude.{All, Contains}
use Rattle.std.specs.List.Sorted.{IsStrictlyIncreasing}
use Rattle.std.proofs.lemmas.List.{get_or-map, get_or_read, length-map, map-append, take_more}
use Rattle.std.proofs.lemmas.List.Elements.{All-contains, Contains-get_or}
use Rattle.partition.specs.Classes.{class_at}
use Rattle.partition.specs.NetTable.{head_of}
use Rattle.partition.specs.Partitions.{HasClass}
use Rattle.partition.proofs.classes.FirstPoint.{head_of-first}
use Rattle.rig.specs.declared.rig.RigStop.{RigStop}
use Rattle.rig.specs.RigState.{RigState}
use Rattle.rig.specs.Calls.{AreGroups, IsGroup}
use Rattle.rig.specs.Readings.{Reads}
use Rattle.rig.proofs.Groups.{Contains-one, IsGroup-one}
use Rattle.learn.specs.Groups.{AreOne, DoNotMeet}
use Rattle.learn.specs.Places.{ArePlaces, AreWhole, HasNoPlace, IsPlaceOf}
use Rattle.learn.proofs.Possible.{IsPossible-before}

-- the least point of an ascending group is its first
pub head_of-group : (group : List ℕ) → 0 < length group → IsStrictlyIncreasing group → head_of group ≡ get_or group 0 0
head_of-group [] some up = absurd (omega arith)
head_of-group (p ∷ ps) some up = head_of-first p ps up

head_in : (points : ℕ) (group : List ℕ) → IsGroup points group → Contains group (head_of group)
head_in points group is =
    let P : ℕ → Type 0 = λ p. Contains group p in
    subst P (sym (head_of-group group is.some is.ascending)) (Contains-get_or group 0 0 is.some)

-- numbers that ascend are no less than their places
pub increasing_low : (xs : List ℕ) → IsStrictlyIncreasing xs → (k : ℕ) → k < length xs → k ≤ get_or xs k 0
increasing_low xs up zero inside = omega arith
increasing_low xs up (suc k) inside =
    let next = rw add-one at (up k (rw add-one inside)) in
    omega (arith, next, increasing_low xs up k (omega arith))

-- the least point of one group more
pub least_more : (groups : List (List ℕ)) (list pushed : List ℕ) (i x : ℕ) (group : List ℕ) → i < length groups → All (λ g. 0 < length g) groups
    → All IsStrictlyIncreasing groups
    → list ≡ map head_of (take i groups) → group ≡ get_or groups i [] → x ≡ get_or group 0 x → pushed ≡ list ++ x ∷ []
    → pushed ≡ map head_of (take (i + 1) groups)
least_more groups list pushed i x group inside some up is here read next =
    let some_here : 0 < length group = omega (arith, some i [] inside, ap length here) in
    let least : x ≡ head_of (get_or groups i []) =
    get_or_read group 0 x some_here read 0 ∙ ap (λ (l : List ℕ). get_or l 0 0) here
    ∙ sym (head_of-group (get_or groups i []) (some i [] inside) (up i [] inside)) in
    next ∙ ap (λ (l : List ℕ). l ++ x ∷ []) is ∙ ap (λ (y : ℕ). map head_of (take i groups) ++ y ∷ []) least
    ∙ sym (map-append head_of (take i groups) (get_or groups i [] ∷ [])) ∙ ap (map head_of) (sym (take_more groups i [] inside))

module _ {points p : ℕ} {groups : List (List ℕ)} (places : ArePlaces points p groups) where
  heads_have : (k : ℕ) (d : List ℕ) → k < length groups → Contains (map head_of groups) (head_of (get_or groups k d))
  heads_have k d inside = (k, omega (arith, length-map groups head_of), get_or-map head_of groups k d _ inside)

  -- the least points may be read against the point
  pub Placing-asks : AreGroups points (map head_of groups) (p ∷ [])
  Placing-asks = record {
    left = record {
      some = omega (arith, places.some, length-map groups head_of);
      ascending = places.order;
      in_range = λ k d lt.
          let inside : k < length groups = omega (arith, lt, length-map groups head_of) in
          let group = places.each k [] inside in
          omega (arith, get_or-map head_of groups k [] d inside, head_of-group (get_or groups k []) group.some group.ascending, group.in_range 0 0 group.some);
    };
    right = IsGroup-one points p places.point;
    apart = λ q in_heads here.
        let inside : in_heads.0 < length groups = omega (arith, in_heads.1, length-map groups head_of) in
        let is : head_of (get_or groups in_heads.0 []) ≡ p = sym (get_or-map head_of groups in_heads.0 [] q inside) ∙ in_heads.2 ∙ Contains-one p q here in
        let P : ℕ → Type 0 = λ r. Contains (get_or groups in_heads.0 []) r in
        places.other in_heads.0 [] inside (subst P is (head_in points (get_or groups in_heads.0 []) (places.each in_heads.0 [] inside)));
  }

  module _ {old new : RigState} {stop : Option RigStop} (whole : AreWhole old p groups) (reads : Reads old new stop) where
    still_whole : AreWhole new p groups
    still_whole classes held = whole classes (record { possible = IsPossible-before classes reads held.possible; point = held.point; each = held.each })

    -- the head that is joined with the point is that of its group
    pub Placing-place : (k head : ℕ) → k < length (map head_of groups) → get_or (map head_of groups) k 0 ≡ head → AreOne new head p → IsPlaceOf new p groups k
    Placing-place k head lt is joined =
        let inside : k < length groups = omega (arith, lt, length-map groups head_of) in
        let group = get_or groups k [] in
        let first : head_of group ≡ head = sym (get_or-map head_of groups k [] 0 inside) ∙ is in
        record {
          inside = inside;
          joined = λ classes held q in_group.
              still_whole classes held k [] inside q (head_of group) in_group (head_in points group (places.each k [] inside))
              ∙ ap (class_at classes) first ∙ joined classes held.possible;
        }

    pub Placing-none : DoNotMeet new (map head_of groups) (p ∷ []) → HasNoPlace new p groups
    Placing-none none = λ classes held k d inside q in_group same.
        let group = get_or groups k d in
        let here = head_in points group (places.each k d inside) in
        let counts = held.each k d inside in
        none classes held.possible (record {
          left = head_of group;
          right = p;
          in_left = heads_have k d inside;
          in_right = (0, omega arith, refl);
          judged = All-contains (HasClass classes) group (head_of group) counts here;
          joined = still_whole classes held k d inside (head_of group) q here in_group ∙ same;
        })
