use Rattle.std.proofs.Common.{◌≡◌, ◌≤◌, ◌<◌, ℕ, List, length, get_or, inl, inr, sym, ◌∙◌, ap, subst, arith, below_more, min}
use Rattle.std.specs.Prelude.{Contains}
use Rattle.std.proofs.lemmas.Bool.{cases_lt}
use Rattle.std.proofs.lemmas.List.{get_or_default}
use Rattle.partition.specs.NetTable.{NetTable, net_at}
use Rattle.outcome_lines.proofs.firsts.first_net.Goals as goal

-- the point at a place
read : (t : NetTable) (group : List ℕ) (i q net : ℕ) → i < length group → q ≡ get_or group i q → net ≡ net_at t q → net ≡ net_at t (get_or group i 0)
read t group i q net lt is at = at ∙ ap (net_at t) (is ∙ get_or_default group i q 0 lt)

-- the lesser of two numbers is one of them
one_of : (t : NetTable) (group : List ℕ) (a b : ℕ) → (q : ℕ) × Contains group q × (a ≡ net_at t q) → (q : ℕ) × Contains group q × (b ≡ net_at t q)
    → (q : ℕ) × Contains group q × (min a b ≡ net_at t q)
one_of t group a b x y = elim (cases_lt a b) as (λ _. (q : ℕ) × Contains group q × (min a b ≡ net_at t q)) [
  | inl less ↦ (x.0, x.1, (let e : min a b ≡ a = omega arith in e ∙ x.2))
  | inr more ↦ (y.0, y.1, (let e : min a b ≡ b = omega arith in e ∙ y.2))
]

pub loop-point-preserved : goal.loop-point-preserved
loop-point-preserved c =
    let t = c.args.nets.now in
    let group = c.args.group.now in
    let i = c.loop-point.point-index in
    let least = c.min-first.ensures in
    let here = read t group i c.point-item.result c.net_of.result c.loop-point-test.true c.point-item.is c.net_of.ensures.number in
    let q = c.point-item.result in
    let all = one_of t group c.loop-point.first c.net_of.result c.loop-point.invariant.one (q, (i, c.loop-point-test.true, sym c.point-item.is), c.net_of.ensures.number) in
    record {
      least = below_more (λ (k : ℕ). c.min-first.result ≤ net_at t (get_or group k 0)) i (λ k lt. let low = c.loop-point.invariant.least k lt in omega arith) (omega arith);
      one = (all.0, all.1, least ∙ all.2);
    }

pub returns : goal.returns
returns c = record {
  least = λ q there.
      let low = c.loop-point.invariant.least there.0 (omega (arith, there.1)) in
      let is : get_or c.args.group.now there.0 0 ≡ q = get_or_default c.args.group.now there.0 0 q there.1 ∙ there.2 in
      subst (λ (x : ℕ). c.loop-point.first ≤ net_at c.args.nets.now x) is low;
  one = c.loop-point.invariant.one;
}
