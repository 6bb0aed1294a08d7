-- The points that a check of continuity compares with the heads of their nets, and what is printed of them.
--     compared_of names nets    each point of a net but the head, in order of net, then of point
--     trial_of classes c        how it comes out where the points have these classes
--     reading_of trial          the reading that it is
--     checked_text trials       what is printed
use Rattle.std.specs.Prelude.{ℕ, Bool, List, [], ◌∷◌, ◌++◌, map, flat_map, drop, count_by, not, ◌==◌, codes, decimal, if◌then◌else◌}
use Rattle.partition.specs.Classes.{class_at}
use Rattle.partition.specs.NetTable.{head_of}
use Rattle.rig.specs.declared.event.Event.{Event}
use Rattle.rig.specs.declared.event.Event.TheVariants.{Reading}

-- a point, with its net's name and head
pub record Compared : Type 0 where
  pub name : List ℕ
  pub head : ℕ
  pub point : ℕ

-- points of a net with its head
abbrev pub compared_with : List ℕ → ℕ → List ℕ → List Compared
compared_with name head points = map (λ p. record { name = name; head = head; point = p }) points

-- the points of a net, which ascend, but the head, which is the first of them
abbrev pub compared_in : List ℕ → List ℕ → List Compared
compared_in name net = compared_with name (head_of net) (drop 1 net)

-- those of all nets, by their names
abbrev pub compared_of : List (List ℕ × List ℕ) → List Compared
compared_of named = flat_map (λ (n : List ℕ × List ℕ). compared_in n.0 n.1) named

-- a point that was compared, and whether it conducts with its head
pub record Trial : Type 0 where
  pub compared : Compared
  pub met : Bool

-- a point is joined with its head exactly where they have one class
abbrev pub trial_of : List ℕ → Compared → Trial
trial_of classes c = record { compared = c; met = class_at classes c.head == class_at classes c.point }

abbrev pub reading_of : Trial → Event
reading_of t = Reading (t.compared.head ∷ []) (t.compared.point ∷ []) t.met

-- `open NET POINT`
abbrev pub open_line : List ℕ → ℕ → List ℕ
open_line name point = codes "open " ++ name ++ codes " " ++ decimal point ++ codes "\n"

abbrev pub lines_of : Trial → List ℕ
lines_of t = if t.met then [] else open_line t.compared.name t.compared.point

-- how many points are open
abbrev pub open_count : List Trial → ℕ
open_count trials = count_by (λ (t : Trial). not t.met) trials

-- `PASS`, or `FAIL` and their number
abbrev pub result_line : ℕ → List ℕ
result_line n = if n == 0 then codes "PASS\n" else codes "FAIL " ++ decimal n ++ codes "\n"

abbrev pub checked_text : List Trial → List ℕ
checked_text trials = flat_map lines_of trials ++ result_line (open_count trials)
