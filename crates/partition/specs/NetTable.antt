-- The nets over a number of points, and the points that count.
--     judged_points t         the points that count
--     all_nets t              the named nets, then each other judged point as a net of its own
--     head_of net             the least point of a net
--     numbered_nets t         the nets with their numbers
--     net_at t p              the number of the net that holds a point
--     head_at t p             the head of the net that holds a point
--     programmed_of t         the partition whose classes are the nets
--     IsNetTable t            what a list of nets must be
use Rattle.std.specs.Prelude.{◌≡◌, ℕ, ◌<◌, false, not, List, [], ◌∷◌, ◌++◌, map, filter, length, min, All, AllPairs, Contains, slice_index_or}
use Rattle.std.specs.List.{list_any, enumerate_from, position_or_len}
use Rattle.std.specs.List.Sorted.{IsStrictlyIncreasing}
use Rattle.partition.specs.Classes.{points_below, has, classes_by}

-- what contracts see of `Nets`
pub record NetTable : Type 0 where
  pub points : ℕ
  pub named : List (List ℕ)
  pub ignored : List ℕ

-- the points that count: all but the ignored ones
abbrev pub judged_points : NetTable → List ℕ
judged_points t = filter (λ p. not (has t.ignored p)) (points_below t.points)

-- the named nets in order, then each other judged point alone, in order
abbrev pub all_nets : NetTable → List (List ℕ)
all_nets t = t.named ++ map (λ p. p ∷ []) (filter (λ p. not (list_any (λ net. has net p) t.named)) (judged_points t))

-- the nets with their numbers
abbrev pub numbered_nets : NetTable → List (ℕ × List ℕ)
numbered_nets t = enumerate_from 0 (all_nets t)

-- the least point of a net
abbrev pub head_of : List ℕ → ℕ
head_of [] = 0
head_of (p ∷ []) = p
head_of (p ∷ q ∷ ps) = min p (head_of (q ∷ ps))

-- the number of the net that holds a point
abbrev pub net_at : NetTable → ℕ → ℕ
net_at t p = position_or_len (λ net. has net p) (all_nets t)

-- the head of the net that holds a point
abbrev pub head_at : NetTable → ℕ → ℕ
head_at t p = head_of (slice_index_or (all_nets t) (net_at t p) [])

-- how many nets there are
abbrev pub net_count : NetTable → ℕ
net_count t = length (all_nets t)

-- the partition whose classes are the nets
abbrev pub programmed_of : NetTable → List ℕ
programmed_of t = classes_by (judged_points t) t.points (net_at t)

-- no point stands in both lists
abbrev pub Disjoint : List ℕ → List ℕ → Type 0
Disjoint xs ys = All (λ x. has ys x ≡ false) xs

-- some point counts; the named nets are not empty and ascend, their points count, and no two share a point; the ignored points ascend
pub record IsNetTable (t : NetTable) : Type 0 where
  pub some_point : 0 < length (judged_points t)
  pub nonempty : All (λ net. 0 < length net) t.named
  pub ascending : All IsStrictlyIncreasing t.named
  pub in_range : All (λ net. All (Contains (judged_points t)) net) t.named
  pub disjoint : AllPairs Disjoint t.named
  pub ignored_ascending : IsStrictlyIncreasing t.ignored
  pub ignored_in_range : All (λ p. p < t.points) t.ignored
