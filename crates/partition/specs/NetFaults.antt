-- What is wrong with lists of nets and of ignored points over n points, and the table that they give where nothing is.
--     all_faults n lists ignored       the faults: of the nets, then of the ignored points, each in order as listed, and last that no point counts
--     first_fault n lists ignored      the first of them
--     ascending_net n net              the points of a net in ascending order
--     table_of n lists ignored         the nets of the list and the ignored points, each ascending
use Rattle.std.specs.Prelude.{ℕ, ◌==◌, nat_lt, List, [], ◌∷◌, ◌++◌, Option, length, take, map, filter, slice_get, slice_index, slice_index_or, if◌then◌else◌}
use Rattle.std.specs.List.{concat, flat_map, list_all}
use Rattle.partition.specs.Classes.{points_below, has}
use Rattle.partition.specs.NetTable.{NetTable}
use Rattle.partition.specs.declared.nets.NetsRefusal.{NetsRefusal}
use Rattle.partition.specs.declared.nets.NetsRefusal.TheVariants.{OutOfRange, Twice, EmptyNet, NoneJudged}

-- the fault of a point, if it has one: it is no point of the matrix, or it was listed before
abbrev pub point_fault : ℕ → List ℕ → ℕ → List NetsRefusal
point_fault n before p = if nat_lt p n then (if has before p then Twice p ∷ [] else []) else OutOfRange p ∷ []

-- the points of net i as listed
abbrev pub listed : List (List ℕ) → ℕ → List ℕ
listed lists i = slice_index_or lists i []

-- all points that are listed before place j of net i
abbrev pub listed_before : List (List ℕ) → ℕ → ℕ → List ℕ
listed_before lists i j = concat (take i lists) ++ take j (listed lists i)

-- the fault of the point at place j of net i
abbrev pub point_faults : ℕ → List (List ℕ) → ℕ → ℕ → List NetsRefusal
point_faults n lists i j = point_fault n (listed_before lists i j) (slice_index (listed lists i) j)

-- the faults of net i: that it is empty, or those of its points
abbrev pub net_faults : ℕ → List (List ℕ) → ℕ → List NetsRefusal
net_faults n lists i =
    if length (listed lists i) == 0 then EmptyNet i ∷ [] else flat_map (point_faults n lists i) (points_below (length (listed lists i)))

-- the fault of the ignored point at place j: one that stands in a net was listed before
abbrev pub ignored_faults : ℕ → List (List ℕ) → List ℕ → ℕ → List NetsRefusal
ignored_faults n lists ignored j = point_fault n (concat lists ++ take j ignored) (slice_index ignored j)

-- that every point is ignored
abbrev pub none_judged : ℕ → List ℕ → List NetsRefusal
none_judged n ignored = if list_all (has ignored) (points_below n) then NoneJudged ∷ [] else []

-- all faults
abbrev pub all_faults : ℕ → List (List ℕ) → List ℕ → List NetsRefusal
all_faults n lists ignored =
    flat_map (net_faults n lists) (points_below (length lists))
    ++ (flat_map (ignored_faults n lists ignored) (points_below (length ignored)) ++ none_judged n ignored)

-- the first of them
abbrev pub first_fault : ℕ → List (List ℕ) → List ℕ → Option NetsRefusal
first_fault n lists ignored = slice_get (all_faults n lists ignored) 0

-- the points below n that are in the net, in ascending order
abbrev pub ascending_net : ℕ → List ℕ → List ℕ
ascending_net n net = filter (has net) (points_below n)

-- the table of the nets over n points, of which those that are not ignored count
abbrev pub table_of : ℕ → List (List ℕ) → List ℕ → NetTable
table_of n lists ignored = record { points = n; named = map (ascending_net n) lists; ignored = ascending_net n ignored }
