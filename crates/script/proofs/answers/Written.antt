-- What an output got and what a clock tells, where they tell it.
use Rattle.std.proofs.Common.{◌≡◌, ℕ, List, [], ◌++◌, take, drop, Option, Some, None, sym, ◌∙◌, ap, subst, take-append-drop, append-nil, append_assoc, arith}
use Rattle.std.specs.Io.KnownBytes.{Appends}
use Rattle.bench_edge.specs.Clocks.{first_moment, later_moments, Ticks}
use Rattle.script.specs.Growth.{IsPrefix}
use Rattle.script.specs.Saying.{WritesFront}

-- what a told output got
pub appended : (old new : Option (List ℕ)) (xs bytes : List ℕ) → old ≡ Some xs → Appends old new bytes → new ≡ Some (xs ++ bytes)
appended None new xs bytes told wrote = cc
appended (Some ys) None xs bytes told wrote = absurd wrote
appended (Some ys) (Some zs) xs bytes told wrote = let same : ys ≡ xs = cc in ap (λ (l : List ℕ). Some l) (wrote ∙ ap (λ (l : List ℕ). l ++ bytes) same)

-- nothing was written
pub appends_nothing : (got : Option (List ℕ)) → Appends got got []
appends_nothing None = tt
appends_nothing (Some xs) = sym (append-nil xs)

-- two writes
pub appends_and : (a b c : Option (List ℕ)) (xs ys : List ℕ) → Appends a b xs → Appends b c ys → Appends a c (xs ++ ys)
appends_and None b c xs ys first second = tt
appends_and (Some p) None c xs ys first second = absurd first
appends_and (Some p) (Some q) None xs ys first second = absurd second
appends_and (Some p) (Some q) (Some r) xs ys first second = second ∙ ap (λ (l : List ℕ). l ++ ys) first ∙ append_assoc p xs ys

-- what a told clock told
pub ticked : (old new : Option (List ℕ)) (now : ℕ) (moments : List ℕ) → old ≡ Some moments → Ticks old new now → (now ≡ first_moment moments) × (new ≡ Some (later_moments moments))
ticked None new now moments told ticks = cc
ticked (Some list) new now moments told ticks = let same : list ≡ moments = cc in subst (λ (l : List ℕ). (now ≡ first_moment l) × (new ≡ Some (later_moments l))) same ticks

-- a front of a line is a prefix of it
pub front_of : (n : ℕ) (line : List ℕ) → IsPrefix (take n line) line
front_of n line = record { behind = drop n line; is = sym (take-append-drop n line) }

-- what was written of a line
pub record Part (got line : List ℕ) (new : Option (List ℕ)) : Type 0 where
  pub rest : List ℕ
  pub got_is : new ≡ Some (got ++ rest)
  pub front : IsPrefix rest line

pub part_of : (line xs : List ℕ) (old new : Option (List ℕ)) → old ≡ Some xs → WritesFront line old new → Part xs line new
part_of line xs old new told wrote = record {
  rest = take wrote.count line;
  got_is = appended old new xs (take wrote.count line) told wrote.wrote;
  front = front_of wrote.count line;
}

-- nothing of a line
pub writes_nothing : (line : List ℕ) (got : Option (List ℕ)) → WritesFront line got got
writes_nothing line got = record { count = 0; within = omega arith; wrote = appends_nothing got }
