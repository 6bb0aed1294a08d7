-- A partition whose points are those that the nets judge is a measured one.
use Rattle.std.proofs.Common.{◌≡◌, ◌<◌, ◌≤◌, ◌^◌, ℕ, refl, Bool, true, false, List, length, subst, arith, ◌∙◌}
use Rattle.partition.specs.Classes.{IsPartition, class_at, has, judged_in, no_class}
use Rattle.partition.specs.NetTable.{IsNetTable, NetTable, judged_points, net_at, programmed_of}
use Rattle.partition.specs.Partitions.{HasClass, IsClassing, IsOver}
use Rattle.difference.specs.Measured.{IsMeasured}
use Rattle.partition.proofs.Ascending.{same_ascending}
use Rattle.partition.proofs.classes.ClassLaws.{length-classes_by}
use Rattle.partition.proofs.classes.JudgedPartition.{class-inside, class-js, class-judged, classing-IsPartition, js-class, judged-class, judged_in-ascends}
use Rattle.partition.proofs.tables.NetLaws.{judged-ascends, judged-below}
use Rattle.partition.proofs.classes.Programmed.{programmed-IsPartition}

-- of the points below n those that count have a class, and no other
pub record AgreesTo (t : NetTable) (m : List ℕ) (n : ℕ) : Type 0 where
  pub size : length m ≡ t.points
  pub some : (p : ℕ) → p < n → has (judged_points t) p ≡ true → HasClass m p
  pub none : (p : ℕ) → p < n → has (judged_points t) p ≡ false → class_at m p ≡ no_class

module _ (t : NetTable) (m : List ℕ) (ok : IsClassing m) where
  from_members : length m ≡ t.points → ((p : ℕ) → has (judged_points t) p ≡ true → HasClass m p) → ((p : ℕ) → HasClass m p → has (judged_points t) p ≡ true) → IsMeasured t m
  from_members size some counts =
      let same : judged_in m ≡ judged_points t =
      same_ascending 0 0 (judged_in m) (judged_points t) (judged_in-ascends m) (judged-ascends t)
      (λ p h. counts p (judged-class m p ok h)) (λ p h. class-judged m p (some p h)) in
      subst (λ (js : List ℕ). IsPartition js t.points m) same (subst (λ (n : ℕ). IsPartition (judged_in m) n m) size (classing-IsPartition m ok))

  -- where it agrees at all points
  pub measured_from : (n : ℕ) → t.points ≤ n → AgreesTo t m n → IsMeasured t m
  measured_from n all a =
      from_members a.size (λ p h. let inside = judged-below t p h in a.some p (omega arith) h)
      (λ p h. let inside = class-inside m p h in let size = a.size in at p (omega arith) h (has (judged_points t) p) refl)
    where
      at : (p : ℕ) → p < n → HasClass m p → (b : Bool) → has (judged_points t) p ≡ b → has (judged_points t) p ≡ true
      at p l h true e = e
      at p l h false e = absurd (let none = a.none p l e in omega arith)

  -- where it has the points of the programmed partition
  pub measured-over : IsNetTable t → t.points < 2 ^ 16 → IsOver (programmed_of t) m → IsMeasured t m
  measured-over valid few over =
      let is = programmed-IsPartition t valid in
      from_members (over.size ∙ length-classes_by (judged_points t) t.points (net_at t))
      (λ p h. (over.judged p).1 (js-class (judged_points t) t.points (programmed_of t) few (judged-below t) (judged-ascends t) is p h))
      (λ p h. class-js (judged_points t) t.points (programmed_of t) few (judged-below t) (judged-ascends t) is p ((over.judged p).0 h))
