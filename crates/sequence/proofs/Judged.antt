-- The points that count, in a trail and in a partition.
use Rattle.std.proofs.Common.{◌≡◌, ◌<◌, ◌^◌, ℕ, List, [], ◌∷◌, ◌++◌, Option, Some, None, sym, subst, arith}
use Rattle.std.specs.Prelude.{All, IfSome, IsSomeAnd, option_map}
use Rattle.std.proofs.lemmas.List.Elements.{All-append, All-head}
use Rattle.partition.specs.Classes.{judged_in}
use Rattle.partition.specs.NetTable.{judged_points, programmed_of}
use Rattle.partition.specs.Partitions.{IsClassing, IsOver}
use Rattle.partition.proofs.Ascending.{same_ascending}
use Rattle.partition.proofs.classes.JudgedPartition.{class-js, class-judged, js-class, judged-class, judged_in-ascends}
use Rattle.partition.proofs.tables.NetClasses.{programmed_valid}
use Rattle.partition.proofs.tables.NetLaws.{judged-ascends, judged-below}
use Rattle.partition.proofs.classes.Programmed.{programmed-IsPartition}
use Rattle.rig.specs.declared.event.Event.{Event}
use Rattle.rig.specs.RigState.{RigState}
use Rattle.rig.specs.Trail.{EndsWith, Extends}
use Rattle.rig.proofs.Happening.{all_right}
use Rattle.wirelist.specs.Programs.{IsProgram}
use Rattle.wirelist.specs.declared.program.Program.{Program}

-- ---- trails

-- what holds of all events holds after more of them
pub all-after : (P : Event → Type 0) (old new : Option (List Event)) → IfSome old (All P) → Extends P old new → IfSome new (All P)
all-after P None new h is = let Q : Option (List Event) → Type 0 = λ o. IfSome o (All P) in subst Q (sym is) tt
all-after P (Some old) new h (more, all, is) = let Q : Option (List Event) → Type 0 = λ o. IfSome o (All P) in subst Q (sym is) (All-append P old more h all)

-- and of the last one
last-of : (P : Event → Type 0) (es : List Event) (e : Event) → All P (es ++ e ∷ []) → P e
last-of P es e all = All-head P e [] (all_right P es (e ∷ []) all)

pub last-holds : (P Q : Event → Type 0) (state : RigState) (e : Event) → IsSomeAnd state.trail (All P) → IfSome state.trail (All Q) → EndsWith state e → P e × Q e
last-holds P Q state e told also (before, is) =
    let A : Option (List Event) → Type 0 = λ o. IsSomeAnd o (All P) in
    let B : Option (List Event) → Type 0 = λ o. IfSome o (All Q) in
    at before (subst A is told) (subst B is also)
  where
    at : (o : Option (List Event)) → IsSomeAnd (option_map (λ es. es ++ e ∷ []) o) (All P) → IfSome (option_map (λ es. es ++ e ∷ []) o) (All Q) → P e × Q e
    at None h k = absurd h
    at (Some es) h k = (last-of P es e h, last-of Q es e k)

-- ---- the points of a program

module _ (p : Program) (ok : IsProgram p) where
  pub few-points : p.nets.points < 2 ^ 16
  few-points = let most = ok.points in omega arith

  pub judged-programmed_in : judged_in (programmed_of p.nets) ≡ judged_points p.nets
  judged-programmed_in =
      let t = p.nets in
      let m = programmed_of t in
      let valid = programmed_valid t ok.nets few-points in
      let is = programmed-IsPartition t ok.nets in
      same_ascending 0 0 (judged_in m) (judged_points t) (judged_in-ascends m) (judged-ascends t)
      (λ q h. class-js (judged_points t) t.points m few-points (judged-below t) (judged-ascends t) is q (judged-class m q valid.partition h))
      (λ q h. class-judged m q (js-class (judged_points t) t.points m few-points (judged-below t) (judged-ascends t) is q h))

  -- a partition over the nets is one of these points
  pub judged-over_in : (m : List ℕ) → IsClassing m → IsOver (programmed_of p.nets) m → judged_in m ≡ judged_points p.nets
  judged-over_in m classing over =
      let t = p.nets in
      let is = programmed-IsPartition t ok.nets in
      same_ascending 0 0 (judged_in m) (judged_points t) (judged_in-ascends m) (judged-ascends t)
      (λ q h. class-js (judged_points t) t.points (programmed_of t) few-points (judged-below t) (judged-ascends t) is q ((over.judged q).0 (judged-class m q classing h)))
      (λ q h. class-judged m q ((over.judged q).1 (js-class (judged_points t) t.points (programmed_of t) few-points (judged-below t) (judged-ascends t) is q h)))
