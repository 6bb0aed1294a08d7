-- How far a check has come.
use Rattle.std.proofs.Common.{◌≡◌, ◌+◌, ◌-◌, ◌<◌, ◌≤◌, ◌++◌, ◌∷◌, [], ℕ, List, None, take, drop, length, get_or, sym, ◌∙◌, ap, subst, arith, append_assoc}
use Rattle.rig.specs.RigState.{RigState}
use Rattle.rig.specs.Calls.{AreGroups, IsGroup}
use Rattle.rig.specs.Readings.{Reads}
use Rattle.std.proofs.lemmas.List.{map-append, take-append-drop, take_more, take_all, get_or-drop, get_or_default, length-drop}
use Rattle.rig.proofs.Reading.{Reads-none, Reads-then}
use Rattle.std.specs.Prelude.{All}
use Rattle.std.specs.List.Sorted.{IsStrictlyIncreasing}
use Rattle.partition.specs.NetTable.{head_of}
use Rattle.partition.proofs.PickedLemmas.{increasing_below}
use Rattle.partition.proofs.classes.FirstPoint.{head_of-first}
use Rattle.rig.proofs.Groups.{IsGroup-one, Contains-one}
use Rattle.continuity_check.specs.Compared.{Compared, compared_with, compared_in}
use Rattle.continuity_check.proofs.Comparing.{Compares-none, Compares-then}
use Rattle.continuity_check.specs.Trials.{SheetView, Compares}

-- these points were compared, and none of the readings was refused
pub record Checking (start now : RigState) (before after : SheetView) (compared : List Compared) : Type 0 where
  pub reads : Reads start now None
  pub compares : Compares start now before after compared
  pub fits : after.opens ≤ now.spent

pub Checking-none : (s : RigState) (sheet : SheetView) → sheet.opens ≤ s.spent → Checking s s sheet sheet []
Checking-none s sheet fits = record { reads = Reads-none s; compares = Compares-none s sheet; fits = fits }

-- more points
pub Checking-more : {start now next : RigState} {a b c : SheetView} {done : List Compared} (more all : List Compared)
    → Checking start now a b done → Reads now next None → Compares now next b c more → c.opens ≤ next.spent → done ++ more ≡ all → Checking start next a c all
Checking-more {start} {now} {next} {a} {b} {c} {done} more all so_far reads compares fits is =
    let whole = Compares-then so_far.reads so_far.compares compares in
    record {
      reads = Reads-then so_far.reads reads;
      compares = subst (λ (points : List Compared). Compares start next a c points) is whole;
      fits = fits;
    }

-- one more point of a net
pub compared_with-more : (name points : List ℕ) (head i p : ℕ) → i < length points → p ≡ get_or points i p
    → compared_with name head (take i points) ++ record { name = name; head = head; point = p } ∷ [] ≡ compared_with name head (take (i + 1) points)
compared_with-more name points head i p inside is =
    ap (λ (k : ℕ). compared_with name head (take i points) ++ record { name = name; head = head; point = k } ∷ []) is
    ∙ sym (map-append (λ (k : ℕ). record { name = name; head = head; point = k }) (take i points) (get_or points i p ∷ []))
    ∙ ap (compared_with name head) (sym (take_more points i p inside))

-- the points before a point, that point, and the others
pub compared_with-split : (name points : List ℕ) (head i p : ℕ) → i < length points → p ≡ get_or points i p
    → compared_with name head (take i points) ++ ((record { name = name; head = head; point = p } ∷ []) ++ compared_with name head (drop (i + 1) points)) ≡ compared_with name head points
compared_with-split name points head i p inside is =
    let others = compared_with name head (drop (i + 1) points) in
    sym (append_assoc (compared_with name head (take i points)) (record { name = name; head = head; point = p } ∷ []) others)
    ∙ ap (λ (l : List Compared). l ++ others) (compared_with-more name points head i p inside is)
    ∙ sym (map-append (λ (k : ℕ). record { name = name; head = head; point = k }) (take (i + 1) points) (drop (i + 1) points))
    ∙ ap (compared_with name head) (take-append-drop (i + 1) points)

pub compared_with-all : (name points : List ℕ) (head i : ℕ) → length points ≤ i → compared_with name head (take i points) ≡ compared_with name head points
compared_with-all name points head i end = ap (compared_with name head) (take_all i points end)

-- the head of a net against each of its other points
pub net_groups : (n head : ℕ) (net : List ℕ) → IsGroup n net → head ≡ get_or net 0 head → All (λ p. AreGroups n (head ∷ []) (p ∷ [])) (drop 1 net)
net_groups n head net group is k d lt =
    let inside : 1 + k < length net = omega (arith, length-drop 1 net) in
    let here = get_or-drop 1 net k d in
    let first = get_or_default net 0 head 0 group.some in
    let later = get_or_default net (1 + k) d 0 inside in
    let below = increasing_below net group.ascending 0 (1 + k) (omega arith) inside in
    let p = get_or (drop 1 net) k d in
    record {
      left = IsGroup-one n head (omega (arith, group.in_range 0 head group.some));
      right = IsGroup-one n p (omega (arith, group.in_range (1 + k) d inside));
      apart = λ q in_head in_point. let one = Contains-one head q in_head in let other = Contains-one p q in_point in absurd (omega arith);
    }

-- the head of a net whose points ascend is its first point
pub first_point : (head : ℕ) (net : List ℕ) → 0 < length net → IsStrictlyIncreasing net → head ≡ get_or net 0 head → head ≡ head_of net
first_point head [] some up is = absurd (omega arith)
first_point head (p ∷ ps) some up is = is ∙ sym (head_of-first p ps up)

pub compared_in-is : (name : List ℕ) (head : ℕ) (net : List ℕ) → 0 < length net → IsStrictlyIncreasing net → head ≡ get_or net 0 head
    → compared_with name head (drop 1 net) ≡ compared_in name net
compared_in-is name head net some up is = ap (λ (h : ℕ). compared_with name h (drop 1 net)) (first_point head net some up is)

pub rest_is : (net : List ℕ) → take (length net - 1) (drop 1 net) ≡ drop 1 net
rest_is net = take_all (length net - 1) (drop 1 net) (omega (arith, length-drop 1 net))
