-- One text after another.
use Rattle.std.proofs.Common.{◌≡◌, ◌++◌, ℕ, List, Result, ◌∙◌, ap, subst, append_assoc}
use Rattle.std.specs.Prelude.{OnOk}
use Rattle.base.specs.declared.memory.Memory.{Memory}

-- a text was appended
pub record Wrote (out text after : List ℕ) : Type 0 where
  pub is : after ≡ out ++ text

pub start : (out text after : List ℕ) → after ≡ out ++ text → Wrote out text after
start out text after is = record { is = is }

-- a text behind those that were appended
pub more : {out text before : List ℕ} → Wrote out text before → (y after : List ℕ) → after ≡ before ++ y → Wrote out (text ++ y) after
more {out} {text} {before} wrote y after step = record { is = step ∙ ap (λ (l : List ℕ). l ++ y) wrote.is ∙ append_assoc out text y }

-- the last one, which may have been refused
pub last : {out text before : List ℕ} → Wrote out text before → (r : Result (Unit {0}) Memory) (y after : List ℕ) → OnOk r (after ≡ before ++ y) → OnOk r (after ≡ out ++ (text ++ y))
last {out} {text} {before} wrote r y after step = let w = more wrote y (before ++ y) (λ i. before ++ y) in subst (λ (l : List ℕ). OnOk r (after ≡ l)) w.is step

-- the same text by another name
pub named : (r : Result (Unit {0}) Memory) (out after x y : List ℕ) → x ≡ y → OnOk r (after ≡ out ++ x) → OnOk r (after ≡ out ++ y)
named r out after x y is step = subst (λ (l : List ℕ). OnOk r (after ≡ out ++ l)) is step
