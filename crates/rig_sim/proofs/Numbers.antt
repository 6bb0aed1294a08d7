-- The numbers at which something goes another way.
use Rattle.std.proofs.Common.{◌≡◌, ℕ, zero, suc, ◌+◌, ◌-◌, ◌^◌, ◌<◌, ◌≤◌, min, Bool, true, false, cond, List, [], ◌∷◌, length, get_or, subst, arith}
use Rattle.std.specs.Prelude.{IsTrue, Contains, nat_le, ◌↔◌, All}
use Rattle.std.proofs.lemmas.Bool.Decides.{nat_tests}
use Rattle.std.proofs.lemmas.List.Elements.{All-contains}
use Rattle.harness.specs.Rows.{most_call}
use Rattle.rig_sim.specs.Counters.{numbers_to}

one_or_none : (b : Bool) → cond b 1 0 ≤ 1
one_or_none true = omega arith
one_or_none false = omega arith

one_stays : (k a b : ℕ) → a ≤ b → cond (nat_le k a) 1 0 ≤ cond (nat_le k b) 1 0
one_stays k a b less = grind (arith, nat_tests)

-- more calls, no fewer numbers
pub numbers_to-mono : (ks : List ℕ) (a b : ℕ) → a ≤ b → numbers_to a ks ≤ numbers_to b ks
numbers_to-mono [] a b less = omega arith
numbers_to-mono (k ∷ ks) a b less = let h = one_stays k a b less in let i = numbers_to-mono ks a b less in omega arith

one_more : (k n : ℕ) → k ≡ n + 1 → cond (nat_le k n) 1 0 + 1 ≤ cond (nat_le k (n + 1)) 1 0
one_more k n e = grind (arith, nat_tests)

-- one more call, the number of which is listed
numbers_to-next : (ks : List ℕ) (n : ℕ) (i : ℕ) → i < length ks → get_or ks i (n + 1) ≡ n + 1 → numbers_to n ks + 1 ≤ numbers_to (n + 1) ks
numbers_to-next [] n i short at = absurd (omega arith)
numbers_to-next (k ∷ ks) n zero short at = let h = one_more k n at in let i = numbers_to-mono ks n (n + 1) (omega arith) in omega arith
numbers_to-next (k ∷ ks) n (suc i) short at = let h = one_stays k n (n + 1) (omega arith) in let j = numbers_to-next ks n i (omega arith) at in omega arith

pub numbers_to-most : (ks : List ℕ) (n : ℕ) → numbers_to n ks ≤ length ks
numbers_to-most [] n = omega arith
numbers_to-most (k ∷ ks) n = let h = one_or_none (nat_le k n) in let i = numbers_to-most ks n in omega arith

small_number : (listed : List ℕ) (k : ℕ) → All (λ n. n ≤ most_call) listed → Contains listed k → k ≤ most_call
small_number listed k small h = All-contains (λ n. n ≤ most_call) listed k small h

-- the next number, whether or not the counter stands at its last value
pub next_listed : (listed : List ℕ) (count next : ℕ) (r : Bool) → All (λ n. n ≤ most_call) listed → next ≡ min (count + 1) (2 ^ 64 - 1) → IsTrue r ↔ Contains listed next → IsTrue r ↔ Contains listed (count + 1)
next_listed listed count next r small next_is told = (
  (λ yes. let h = told.0 yes in let few = small_number listed next small h in let e : next ≡ count + 1 = omega arith in subst (Contains listed) e h),
  (λ h. let few = small_number listed (count + 1) small h in let e : count + 1 ≡ next = omega arith in told.1 (subst (Contains listed) e h)),
)

pub next_kept : (listed : List ℕ) (count next : ℕ) → count < 2 ^ 64 → next ≡ min (count + 1) (2 ^ 64 - 1) → numbers_to count listed ≤ numbers_to next listed
next_kept listed count next fits next_is = numbers_to-mono listed count next (omega arith)

pub next_more : (listed : List ℕ) (count next : ℕ) → All (λ n. n ≤ most_call) listed → next ≡ min (count + 1) (2 ^ 64 - 1) → Contains listed (count + 1) → numbers_to count listed + 1 ≤ numbers_to next listed
next_more listed count next small next_is h =
    let few = small_number listed (count + 1) small h in
    let e : count + 1 ≡ next = omega arith in
    subst (λ k. numbers_to count listed + 1 ≤ numbers_to k listed) e (numbers_to-next listed count h.0 h.1 h.2)
