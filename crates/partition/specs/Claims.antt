-- Which net holds each point, as `Nets` finds it out and keeps it.
--     nobody                     the number that stands at a point of no net
--     Claimed heard owners       the owner of each point is the net of the list that holds it
--     ClaimedTo lists i owners   so it is for the first i nets, which have no fault
--     ClaimedAll lists i owners  so it is for these and for one further list, of ignored points
--     owned_by owners k          the points of one owner, ascending
--     NumberedAlone ..           the points of no list have numbers of their own, and the ignored ones have none
--     IsKeptNets ..              what `Nets` keeps
use Rattle.std.specs.Prelude.{◌≡◌, ◌≢◌, ℕ, ◌-◌, ◌<◌, ◌≤◌, ◌^◌, ◌==◌, not, List, [], ◌++◌, ◌+◌, length, take, filter, slice_index_or, IsTrue, IsFalse}
use Rattle.std.specs.Prelude.{if◌then◌else◌}
use Rattle.std.specs.List.{concat, flat_map, list_any}
use Rattle.partition.specs.Classes.{points_below, has, no_class}
use Rattle.partition.specs.NetTable.{NetTable, IsNetTable, all_nets, judged_points, net_at, net_count}
use Rattle.partition.specs.NetFaults.{listed, net_faults, point_faults}
use Rattle.partition.specs.declared.nets.NetsRefusal.{NetsRefusal}

-- the number that stands at a point of no net
abbrev pub nobody : ℕ
nobody = 4294967295

-- the owner of a point
abbrev pub owner_at : List ℕ → ℕ → ℕ
owner_at owners p = slice_index_or owners p nobody

-- the points that are listed have their net as owner, each is listed once, and no other point has an owner
pub record Claimed (heard : List (List ℕ)) (owners : List ℕ) : Type 0 where
  pub marked : (k p : ℕ) → k < length heard → IsTrue (has (slice_index_or heard k []) p) → (p < length owners) × (owner_at owners p ≡ k)
  pub owned : (p : ℕ) → p < length owners → owner_at owners p ≢ nobody
      → (owner_at owners p < length heard) × IsTrue (has (slice_index_or heard (owner_at owners p) []) p)
  pub counted : length (concat heard) ≡ length (filter (λ o. not (o == nobody)) owners)

-- so it is for the first i nets, which have no fault
pub record ClaimedTo (lists : List (List ℕ)) (i : ℕ) (owners : List ℕ) : Type 0 where
  pub claimed : Claimed (take i lists) owners
  pub faultless : flat_map (net_faults (length owners) lists) (points_below i) ≡ []

-- the faults of the points of list i
abbrev pub faults_in : ℕ → List (List ℕ) → ℕ → List NetsRefusal
faults_in n lists i = flat_map (point_faults n lists i) (points_below (length (listed lists i)))

-- so it is for one more list, whose points have no fault
pub record ClaimedIn (lists : List (List ℕ)) (i : ℕ) (owners : List ℕ) : Type 0 where
  pub claimed : Claimed (take (i + 1) lists) owners
  pub faultless : faults_in (length owners) lists i ≡ []

-- the faults of the first i nets, then those of the points of list i
abbrev pub faults_to : ℕ → List (List ℕ) → ℕ → List NetsRefusal
faults_to n lists i = flat_map (net_faults n lists) (points_below i) ++ faults_in n lists i

-- so it is for the first i nets and for list i; none of them has a fault
pub record ClaimedAll (lists : List (List ℕ)) (i : ℕ) (owners : List ℕ) : Type 0 where
  pub claimed : Claimed (take (i + 1) lists) owners
  pub faultless : faults_to (length owners) lists i ≡ []

-- the points of one owner, in ascending order
abbrev pub owned_by : List ℕ → ℕ → List ℕ
owned_by owners k = filter (λ p. owner_at owners p == k) (points_below (length owners))

-- The points of the lists below `first` keep their owner, those of list `first` get none; a point alone has the number of its place among
-- those, after the others.
pub record NumberedAlone (owners : List ℕ) (first : ℕ) (alone numbers : List ℕ) : Type 0 where
  pub kept : (p : ℕ) → owner_at owners p ≢ nobody → owner_at owners p ≢ first → owner_at numbers p ≡ owner_at owners p
  pub ignored : (p : ℕ) → p < length owners → owner_at owners p ≡ first → owner_at numbers p ≡ nobody
  pub later : (p : ℕ) → p < length owners → owner_at owners p ≡ nobody → first ≤ owner_at numbers p
  pub inside : (p : ℕ) → p < length owners → owner_at owners p ≡ nobody → owner_at numbers p - first < length alone
  pub place : (p : ℕ) → p < length owners → owner_at owners p ≡ nobody → slice_index_or alone (owner_at numbers p - first) 0 ≡ p

-- the points of no named net, in ascending order
abbrev pub lone_points : NetTable → List ℕ
lone_points t = filter (λ p. not (list_any (λ net. has net p) t.named)) (judged_points t)

-- the class of a point in the partition by nets: the first point of its net, and none where the point does not count
abbrev pub head_class : NetTable → ℕ → ℕ
head_class t p = if has (judged_points t) p then slice_index_or (slice_index_or (all_nets t) (net_at t p) []) 0 0 else no_class

-- the net of each judged point, that the others have none, and the points of no named net
pub record IsKeptNets (t : NetTable) (net_numbers lone : List ℕ) : Type 0 where
  pub valid : IsNetTable t
  pub numbers : (p : ℕ) → IsTrue (has (judged_points t) p) → owner_at net_numbers p ≡ net_at t p
  pub others : (p : ℕ) → p < t.points → IsFalse (has (judged_points t) p) → owner_at net_numbers p ≡ nobody
  pub size : length net_numbers ≡ t.points
  pub alone : lone ≡ lone_points t
  pub few : net_count t ≤ t.points
  pub small : t.points < 2 ^ 16
