-- The pairs of groups that the tests route.
use Rattle.std.proofs.Common.{◌≡◌, inl, inr, ℕ, zero, suc, ◌+◌, ◌-◌, ◌<◌, ◌≤◌, ◌^◌, Bool, true, false, eqb, leb, List, [], ◌∷◌, ◌++◌, length, map, get_or, refl, sym, ◌∙◌, ap, subst, arith, All, zero-add}
use Rattle.std.proofs.lemmas.Bool.{eqb-true, le-leb, leb-true, lt-leb}
use Rattle.std.proofs.lemmas.List.{ext_get_or, length-map}
use Rattle.std.proofs.lemmas.List.Elements.{All-from_get_or, All-map, All-nil, Contains-get_or}
use Rattle.std.proofs.lemmas.List.FromFn.{get_or-map-range_with_len, get_or-range_with_len, length-map-range_with_len, length-range_with_len, map-range_with_len_more}
use Rattle.partition.specs.Classes.{class_at, points_below}
use Rattle.partition.specs.NetTable.{judged_points, net_at, programmed_of}
use Rattle.partition.specs.Partitions.{JoinsAllOf}
use Rattle.partition.proofs.classes.ClassLaws.{classes_by-IsPartition, classes_by-same, length-classes_by, same-classes_by}
use Rattle.partition.proofs.DigitLaws.{digits_least}
use Rattle.partition.proofs.classes.JudgedPartition.{class-js}
use Rattle.partition.proofs.Members.{In}
use Rattle.partition.proofs.tables.KeptLemmas.{In-points_below}
use Rattle.partition.proofs.tables.NetLaws.{judged-ascends, judged-below}
use Rattle.rig.specs.Calls.{IsGroup}
use Rattle.wirelist.specs.declared.program.Program.{Program}
use Rattle.wirelist.specs.Clusters.{cluster_classes, cluster_count, cluster_first_at, clusters_of, net_clusters, others, side}
use Rattle.applications.specs.declared.sides.Sides.{Sides}
use Rattle.applications.specs.Each.{AreSides}
use Rattle.cluster_groups.specs.Laws.{AreOpposite, IsClusterable, IsGroupOf, cluster_at}
use Rattle.cluster_groups.specs.Numbered.{numbers_of}
use Rattle.cluster_groups.proofs.Grouping.{number_law, route_law}
use Rattle.hv.specs.Routes.{against_others, bit_pairs, cluster_pairs, numbered_pair, numbered_sides, sides_of_bit, tested_bits, tested_clusters}

-- ---- lists by their places

map_below : {X : Type 0} (f g : ℕ → X) (n : ℕ) → ((k : ℕ) → k < n → f k ≡ g k) → map f (points_below n) ≡ map g (points_below n)
map_below {X} f g n e = agree (points_below n) (λ k i. e k (In-points_below n k i))
  where
    agree : (xs : List ℕ) → ((k : ℕ) → In k xs → f k ≡ g k) → map f xs ≡ map g xs
    agree [] h = refl
    agree (x ∷ xs) h = rw (h x (inl refl), agree xs (λ k i. h k (inr i))) refl

-- a list is that of its places
by_place : {X : Type 0} (f : List ℕ → X) (xs : List (List ℕ)) (n : ℕ) (d : X) → length xs ≡ n → map (λ k. f (get_or xs k [])) (points_below n) ≡ map f xs
by_place f xs n d size =
    ext_get_or d (map (λ k. f (get_or xs k [])) (points_below n)) (map f xs) (length-map-range_with_len (λ k. f (get_or xs k [])) 0 n ∙ sym size ∙ sym (length-map xs f))
    (λ i lt.
    let inside : i < n = omega (arith, length-map-range_with_len (λ k. f (get_or xs k [])) 0 n) in
    get_or-map-range_with_len (λ k. f (get_or xs k [])) 0 n i i d inside (zero-add i)
    ∙ sym (get_or-of_map f xs i d (omega arith)))
  where
    get_or-of_map : {X : Type 0} (f : List ℕ → X) (xs : List (List ℕ)) (i : ℕ) (d : X) → i < length xs → get_or (map f xs) i d ≡ f (get_or xs i [])
    get_or-of_map f [] i d lt = absurd (omega arith)
    get_or-of_map f (x ∷ xs) zero d lt = refl
    get_or-of_map f (x ∷ xs) (suc i) d lt = get_or-of_map f xs i d (omega arith)

-- two pairs of the same groups
pair_is : (a b left right : List ℕ) → a ≡ left → b ≡ right → let one : Sides = record { left = a; right = b } in let other : Sides = record { left = left; right = right } in one ≡ other
pair_is a b left right l r = ap (λ (xs : List ℕ). let pair : Sides = record { left = xs; right = b } in pair) l ∙ ap (λ (xs : List ℕ). let pair : Sides = record { left = left; right = xs } in pair) r

-- one pair more
pub pairs-push : (f : ℕ → Sides) (pairs more : List Sides) (k : ℕ) (left right : List ℕ) → pairs ≡ map f (points_below k) → more ≡ pairs ++ record { left = left; right = right } ∷ [] → left ≡ (f k).left → right ≡ (f k).right
    → more ≡ map f (points_below (k + 1))
pairs-push f pairs more k left right is pushed one other =
    let pair : Sides = record { left = left; right = right } in
    let value : pair ≡ f k = pair_is left right (f k).left (f k).right one other in
    pushed ∙ ap (λ (xs : List Sides). xs ++ pair ∷ []) is ∙ ap (λ (x : Sides). map f (points_below k) ++ x ∷ []) value ∙ sym (map-range_with_len_more f 0 k k (zero-add k))

pub pairs-all : (f : ℕ → Sides) (pairs : List Sides) (k n : ℕ) → pairs ≡ map f (points_below k) → k ≡ n → pairs ≡ map f (points_below n)
pairs-all f pairs k n is same = is ∙ ap (λ (m : ℕ). map f (points_below m)) same

pub tested-all : (count : ℕ) → 2 ≤ count → tested_clusters count ≡ count
tested-all count two = rw (le-leb 2 count two) refl

pub tested-none : (count : ℕ) → count < 2 → tested_clusters count ≡ 0
tested-none count few = rw (lt-leb 2 count few) refl

-- a bit of a number of 16 bits
pub bit-small : (count j : ℕ) → count < 2 ^ 16 → j < tested_bits count → j < 16
bit-small count j small less = let most = digits_least (count - 1) 16 (omega arith) in omega arith

-- ---- a class of the program's partition is within a cluster

pub bonds-join : (p : Program) → IsClusterable p → JoinsAllOf (cluster_classes p) (programmed_of p.nets)
bonds-join p ok a b ha hb same =
    let js = judged_points p.nets in
    let n = p.nets.points in
    let is = classes_by-IsPartition js n (net_at p.nets) (judged-below p.nets) in
    let ja = class-js js n (programmed_of p.nets) ok.small (judged-below p.nets) (judged-ascends p.nets) is a ha in
    let jb = class-js js n (programmed_of p.nets) ok.small (judged-below p.nets) (judged-ascends p.nets) is b hb in
    let one_net = same-classes_by js n (net_at p.nets) a b (judged-below p.nets a ja) (judged-below p.nets b jb) ja jb same in
    classes_by-same js n (cluster_first_at p) a b (judged-below p.nets a ja) (judged-below p.nets b jb) ja jb (ap (class_at (net_clusters p)) one_net)

pub length-programmed : (p : Program) → length (programmed_of p.nets) ≡ p.nets.points
length-programmed p = length-classes_by (judged_points p.nets) p.nets.points (net_at p.nets)

-- ---- the pairs by number are those of the program

module _ (p : Program) (ok : IsClusterable p) where
  pub cluster_pairs-are : (pairs : List Sides) → pairs ≡ map (numbered_pair (numbers_of p)) (points_below (tested_clusters (cluster_count p))) → pairs ≡ cluster_pairs p
  cluster_pairs-are pairs made = made ∙ go (leb 2 (cluster_count p)) refl
    where
      go : (b : Bool) → leb 2 (cluster_count p) ≡ b → map (numbered_pair (numbers_of p)) (points_below (tested_clusters (cluster_count p))) ≡ cluster_pairs p
      go true two =
          rw two
          (map_below (numbered_pair (numbers_of p)) (λ k. against_others p (cluster_at p k)) (cluster_count p)
          (λ k lt.
          pair_is _ _ (cluster_at p k) (others p (cluster_at p k)) ((number_law p ok).clusters k lt) ((number_law p ok).others k lt))
          ∙ by_place (against_others p) (clusters_of p) (cluster_count p) (against_others p []) (number_law p ok).count)
      go false few = rw few refl

  pub bit_pairs-are : (pairs : List Sides) → pairs ≡ map (numbered_sides (numbers_of p)) (points_below (tested_bits (cluster_count p))) → pairs ≡ bit_pairs p
  bit_pairs-are pairs made =
      made
      ∙ map_below (numbered_sides (numbers_of p)) (sides_of_bit p) (tested_bits (cluster_count p))
      (λ j lt.
      pair_is _ _ (side p j false) (side p j true) ((number_law p ok).sides j false) ((number_law p ok).sides j true))

  -- ---- they are groups

  group-is : (group : List ℕ) → IsGroupOf p group → IsGroup p.nets.points group
  group-is group is = record {
    some = is.some;
    ascending = is.ascending;
    in_range = λ k d lt. judged-below p.nets (get_or group k d) (is.judged (get_or group k d) (Contains-get_or group k d lt));
  }

  opposite-sides : (a b : List ℕ) → AreOpposite p a b → AreSides p.nets.points (cluster_classes p) (record { left = a; right = b })
  opposite-sides a b opposite = record {
    groups = record { left = group-is a opposite.left; right = group-is b opposite.right; apart = opposite.apart };
    apart = opposite.bonds;
  }

  pub cluster_pairs-sides : All (AreSides p.nets.points (cluster_classes p)) (cluster_pairs p)
  cluster_pairs-sides = go (leb 2 (cluster_count p)) refl
    where
      go : (b : Bool) → leb 2 (cluster_count p) ≡ b → All (AreSides p.nets.points (cluster_classes p)) (cluster_pairs p)
      go true two =
          rw two
          (All-map (AreSides p.nets.points (cluster_classes p)) (against_others p) (clusters_of p)
          (All-from_get_or (λ group. AreSides p.nets.points (cluster_classes p) (against_others p group)) (clusters_of p) []
          (λ k lt.
          let inside : k < cluster_count p = let count = (number_law p ok).count in omega arith in
          opposite-sides (cluster_at p k) (others p (cluster_at p k)) ((route_law p ok).others (leb-true 2 (cluster_count p) two) k inside))))
      go false few = rw few (All-nil (AreSides p.nets.points (cluster_classes p)))

  pub bit_pairs-sides : All (AreSides p.nets.points (cluster_classes p)) (bit_pairs p)
  bit_pairs-sides =
      All-map (AreSides p.nets.points (cluster_classes p)) (sides_of_bit p) (points_below (tested_bits (cluster_count p)))
      (All-from_get_or (λ j. AreSides p.nets.points (cluster_classes p) (sides_of_bit p j)) (points_below (tested_bits (cluster_count p))) 0
      (λ k lt.
      let inside : k < tested_bits (cluster_count p) = omega (arith, length-range_with_len 0 (tested_bits (cluster_count p))) in
      let at : get_or (points_below (tested_bits (cluster_count p))) k 0 ≡ k = omega (arith, get_or-range_with_len 0 (tested_bits (cluster_count p)) k 0 inside) in
      subst (λ (j : ℕ). AreSides p.nets.points (cluster_classes p) (sides_of_bit p j)) (sym at) (opposite-sides (side p k false) (side p k true) ((route_law p ok).sides k inside))))

-- the same of the rig's points and of what the calls gave
pub sides-of : (p : Program) (n : ℕ) (bonds : List ℕ) (pairs all : List Sides) → n ≡ p.nets.points → bonds ≡ cluster_classes p → pairs ≡ all → All (AreSides p.nets.points (cluster_classes p)) all → All (AreSides n bonds) pairs
sides-of p n bonds pairs all points same are valid =
    subst (λ (m : ℕ). All (AreSides m bonds) pairs) (sym points)
    (subst (λ (b : List ℕ). All (AreSides p.nets.points b) pairs) (sym same)
    (subst (All (AreSides p.nets.points (cluster_classes p))) (sym are) valid))

-- a rig that was proven to have the program's partition has its points
pub points-of : (p : Program) (n : ℕ) (classes : List ℕ) → length classes ≡ n → classes ≡ programmed_of p.nets → n ≡ p.nets.points
points-of p n classes size is = sym size ∙ ap length is ∙ length-programmed p

-- an empty list, and one that is not
pub none-of : (xs : List Sides) → eqb (length xs) 0 ≡ true → xs ≡ []
none-of [] e = refl
none-of (x ∷ xs) e = absurd (omega (arith, eqb-true (length (x ∷ xs)) 0 e))

pub some-of : (xs : List Sides) → eqb (length xs) 0 ≡ false → xs ≡ [] → ⊥
some-of [] e is = absurd (let is : true ≡ false = e in cc)
some-of (x ∷ xs) e is = cc
