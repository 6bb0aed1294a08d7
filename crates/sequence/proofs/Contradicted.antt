-- Where continuity or isolation stopped, the readings do not agree with the nets.
use Rattle.std.proofs.Common.{◌≡◌, ℕ, List, [], ◌∷◌, length, get_or, refl, sym, ◌∙◌, ap, subst, arith, true, false, eqb, Option, Some, None}
use Rattle.std.specs.Prelude.{All, Contains, IfSome}
use Rattle.std.specs.Int.{bit_at}
use Rattle.std.proofs.lemmas.Bool.{eqb-true}
use Rattle.std.proofs.lemmas.List.Elements.{All-contains, All-head, Contains-get_or}
use Rattle.partition.specs.Classes.{class_at, has}
use Rattle.partition.specs.Heads.{heads}
use Rattle.partition.specs.NetTable.{all_nets, head_of, judged_points, programmed_of}
use Rattle.partition.specs.Partitions.{HasClass, Meets}
use Rattle.partition.proofs.classes.HeadLemmas.{heads_below-are, heads_below-increasing}
use Rattle.rig.specs.declared.event.Event.{Event}
use Rattle.rig.specs.declared.event.Event.TheVariants.{Reading}
use Rattle.rig.specs.RigState.{RigState}
use Rattle.rig.specs.Trail.{AgreesWith, ReadsAmong}
use Rattle.wirelist.specs.Programs.{IsProgram}
use Rattle.wirelist.specs.declared.program.Program.{Program}
use Rattle.isolate.specs.Coded.{IsShortReading, coded}
use Rattle.isolate.specs.Opens.{IsOpen}
use Rattle.isolate.proofs.Coding.{coded-points, coded_by-apart}
use Rattle.isolate.proofs.NetHeads.{class_at-programmed, programmed-judged}
use Rattle.sequence.specs.Wired.{Contradicts, IsOfJudged}
use Rattle.sequence.proofs.Judged.{few-points, last-holds}

-- a point does not conduct with the head of its net
pub open-contradicts : (p : Program) → IsProgram p → (state : RigState) (net point : ℕ) → IsOpen state p.nets net point → IsOfJudged p state → Contradicts p state
open-contradicts p ok state net point read judged = λ agrees.
    let m = programmed_of p.nets in
    let head = head_of (get_or (all_nets p.nets) net []) in
    let last = last-holds (AgreesWith m) (ReadsAmong m) state (Reading (head ∷ []) (point ∷ []) false) agrees.readings judged read.last in
    let has_head : HasClass m head = All-head (HasClass m) head [] last.1.0 in
    let has_point : HasClass m point = All-head (HasClass m) point [] last.1.1 in
    let counts : has (judged_points p.nets) point ≡ true = programmed-judged p.nets ok.nets (few-points p ok) point has_point in
    let is : class_at m point ≡ head = class_at-programmed p.nets ok.nets point counts ∙ ap (λ (n : ℕ). head_of (get_or (all_nets p.nets) n [])) (sym read.number) in
    let own : class_at m head ≡ class_at m point = ap (class_at m) (sym is) ∙ agrees.partition.own point has_point in
    let no : false ≡ true = last.0.1 (record { left = head; right = point; in_left = here head; in_right = here point; judged = has_head; joined = own }) in
    absurd (cc)
  where
    here : (q : ℕ) → Contains (q ∷ []) q
    here q = (0, omega arith, refl)

nothing_said : (o : Option (List Event)) → IfSome o (All (λ _. Unit {0}))
nothing_said None = tt
nothing_said (Some es) = λ k d lt. tt

in_list : (list : List ℕ) (bit value q : ℕ) → Contains (coded list bit value) q → Contains list q
in_list list bit value q has = All-contains (Contains list) (coded list bit value) q (coded-points list bit value) has

-- heads conduct in whose codes a bit differs
pub short-contradicts : (p : Program) (state : RigState) (bit : ℕ) → IsShortReading state (heads (programmed_of p.nets)) bit → Contradicts p state
short-contradicts p state bit short = λ agrees.
    let m = programmed_of p.nets in
    let list = heads m in
    let zeros = coded list bit 0 in
    let ones = coded list bit 1 in
    let last = last-holds (AgreesWith m) (λ _. Unit {0}) state (Reading zeros ones true) agrees.readings (nothing_said state.trail) short.last in
    let meets : Meets m zeros ones = last.0.0 refl in
    let left = (heads_below-are m (length m) meets.left (in_list list bit 0 meets.left meets.in_left)).1 in
    let right = (heads_below-are m (length m) meets.right (in_list list bit 1 meets.right meets.in_right)).1 in
    let same : meets.left ≡ meets.right = sym left ∙ meets.joined ∙ right in
    coded_by-apart (length m) list (heads_below-increasing m (length m))
    (λ i inside. (heads_below-are m (length m) (get_or list i 0) (Contains-get_or list i 0 inside)).0)
    (λ code. eqb (bit_at code bit) 0) (λ code. eqb (bit_at code bit) 1)
    (λ i zero one. absurd (let a = eqb-true (bit_at i bit) 0 zero in let b = eqb-true (bit_at i bit) 1 one in omega arith))
    meets.left meets.in_left (subst (Contains ones) (sym same) meets.in_right)
