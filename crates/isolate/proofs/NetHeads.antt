-- The head of a point's net is the head of its class.
use Rattle.std.proofs.Common.{◌≡◌, ◌<◌, ℕ, List, [], ◌∷◌, length, get_or, sym, ◌∙◌, arith, true, ◌^◌}
use Rattle.std.specs.List.Sorted.{IsStrictlyIncreasing}
use Rattle.partition.specs.Classes.{class_at, has}
use Rattle.partition.specs.NetTable.{NetTable, IsNetTable, all_nets, net_at, judged_points, programmed_of, head_of}
use Rattle.partition.proofs.classes.ClassLaws.{class_at-classes_by, has-head, length-classes_by}
use Rattle.partition.proofs.tables.NetLaws.{judged-ascends, judged-below}
use Rattle.partition.proofs.classes.Programmed.{programmed-IsPartition}
use Rattle.partition.proofs.classes.JudgedPartition.{class-js, js-class}
use Rattle.partition.specs.Partitions.{HasClass}
use Rattle.partition.proofs.classes.FirstPoint.{head_of-first}
use Rattle.partition.proofs.tables.KeptLemmas.{net_at-below}
use Rattle.partition.proofs.tables.NetClasses.{net_some, net_increasing, first_class}

head_of-increasing : (net : List ℕ) → 0 < length net → IsStrictlyIncreasing net → head_of net ≡ get_or net 0 0
head_of-increasing [] some up = absurd (omega arith)
head_of-increasing (p ∷ ps) some up = head_of-first p ps up

pub class_at-programmed : (t : NetTable) → IsNetTable t → (p : ℕ) → has (judged_points t) p ≡ true
    → class_at (programmed_of t) p ≡ head_of (get_or (all_nets t) (net_at t p) [])
class_at-programmed t ok p counts =
    let below = net_at-below t ok p counts in
    class_at-classes_by (judged_points t) t.points (net_at t) p (judged-below t p counts) counts
    ∙ sym (first_class t ok p counts)
    ∙ sym (head_of-increasing (get_or (all_nets t) (net_at t p) []) (net_some t ok (net_at t p) below) (net_increasing t ok (net_at t p) below))

pub length-programmed : (t : NetTable) → length (programmed_of t) ≡ t.points
length-programmed t = length-classes_by (judged_points t) t.points (net_at t)

-- the points with a class are the judged ones
pub programmed-judged : (t : NetTable) → IsNetTable t → t.points < 2 ^ 16 → (p : ℕ) → HasClass (programmed_of t) p → has (judged_points t) p ≡ true
programmed-judged t ok few p h = class-js (judged_points t) t.points (programmed_of t) few (judged-below t) (judged-ascends t) (programmed-IsPartition t ok) p h

pub judged-programmed : (t : NetTable) → IsNetTable t → t.points < 2 ^ 16 → (p : ℕ) → has (judged_points t) p ≡ true → HasClass (programmed_of t) p
judged-programmed t ok few p h = js-class (judged_points t) t.points (programmed_of t) few (judged-below t) (judged-ascends t) (programmed-IsPartition t ok) p h

some_has : (js : List ℕ) → 0 < length js → (p : ℕ) × has js p ≡ true
some_has [] some = absurd (omega arith)
some_has (p ∷ ps) some = (p, has-head p ps)

pub programmed-some : (t : NetTable) → IsNetTable t → t.points < 2 ^ 16 → (p : ℕ) × HasClass (programmed_of t) p
programmed-some t ok few =
    let h = some_has (judged_points t) ok.some_point in
    (h.0, judged-programmed t ok few h.0 h.1)
