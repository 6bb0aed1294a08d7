-- The partition whose classes are the nets.
use Rattle.std.proofs.Common.{◌≡◌, ℕ, true, List, [], slice_index_or}
use Rattle.partition.specs.Classes.{has, IsPartition, Same}
use Rattle.partition.specs.NetTable.{NetTable, numbered_nets, all_nets, net_at, judged_points, programmed_of, IsNetTable}
use Rattle.partition.proofs.Members.{In}
use Rattle.partition.proofs.classes.ClassLaws.{classes_by-same, same-classes_by, classes_by-IsPartition}
use Rattle.partition.proofs.tables.NetLaws.{NetFacts, net_facts}

module _ (t : NetTable) (ok : IsNetTable t) where
  abbrev js : List ℕ
  js = judged_points t

  facts : NetFacts t
  facts = net_facts t ok

  -- a point of a numbered net has that number
  pub number_at : (n : ℕ × List ℕ) (p : ℕ) → In n (numbered_nets t) → has n.1 p ≡ true → net_at t p ≡ n.0
  number_at n p i h =
      let k = facts.judged_in n p i h in
      facts.one_net (net_at t p, slice_index_or (all_nets t) (net_at t p) []) n p (facts.numbered_at p k) i (facts.has_at p k) h

  -- two points have one programmed class exactly where they are in one net
  pub programmed-same : (p q : ℕ) → has js p ≡ true → has js q ≡ true → net_at t p ≡ net_at t q → Same (programmed_of t) p q
  programmed-same p q kp kq e = classes_by-same js t.points (net_at t) p q (facts.below p kp) (facts.below q kq) kp kq e

  pub same-programmed : (p q : ℕ) → has js p ≡ true → has js q ≡ true → Same (programmed_of t) p q → net_at t p ≡ net_at t q
  same-programmed p q kp kq s = same-classes_by js t.points (net_at t) p q (facts.below p kp) (facts.below q kq) kp kq s

  pub programmed-IsPartition : IsPartition js t.points (programmed_of t)
  programmed-IsPartition = classes_by-IsPartition js t.points (net_at t) facts.below
