-- How a run of disk calls goes on.
use Rattle.std.proofs.Common.{◌≡◌, ◌⊎◌, inl, inr, ⊎_elim, ℕ, suc, ◌+◌, ◌-◌, ◌≤◌, IsTrue, Option, Some, None, is_some, List, ◌∷◌, length, take, refl, sym, ◌∙◌, ap, subst, arith}
use Rattle.disk_edge.specs.Disk.{Content, IsImage, DiskState, may_leave, now, IsImageOfSome, might_have_left_since, LeavesOnly, IsAsBefore, EachImage}

-- one moment more: what the new content allows comes to what there was
one_more : (content : Content) (contents : List Content) (moment : ℕ) (image : List ℕ) → moment + 1 ≤ length contents → IsImageOfSome (take (length contents + 1 - moment) (content ∷ contents)) image → IsImageOfSome (take (length contents - moment) contents) image ⊎ IsImage content image
one_more content contents moment image le left =
    let steps : length contents + 1 - moment ≡ suc (length contents - moment) = omega arith in
    let now_or_earlier = subst (λ (k : ℕ). IsImageOfSome (take k (content ∷ contents)) image) steps left in
    ⊎_elim (λ here. inr here) (λ earlier. inl earlier) now_or_earlier

pub goes_on : (old new : DiskState) → new.honest ≡ old.honest → is_some new.reads_as ≡ is_some old.reads_as → new.past ≡ old.present ∷ old.past → LeavesOnly old new (IsImage new.present)
goes_on old new honest tells past = record {
  honest = honest;
  tells = tells;
  later = omega (arith, ap length past);
  each = λ _ _ moment image le left.
      let run = subst (λ (l : List Content). IsImageOfSome (take (length l + 1 - moment) (new.present ∷ l)) image) past left in
      let split = one_more new.present (old.present ∷ old.past) moment image (omega arith) run in
      let same : suc (length old.past) - moment ≡ length old.past + 1 - moment = omega arith in
      ⊎_elim (λ earlier. inl (subst (λ (k : ℕ). IsImageOfSome (take k (old.present ∷ old.past)) image) same earlier)) (λ here. inr here) split;
}

-- a call that leaves all as it was
pub stays : (old new : DiskState) (P : List ℕ → Type 0) → IsAsBefore old new → LeavesOnly old new P
stays old new P same = record {
  honest = same.honest;
  tells = ap is_some same.reads_as;
  later = omega (arith, ap length same.past);
  each = λ _ _ moment image le left.
      let past = subst (λ (l : List Content). IsImageOfSome (take (length l + 1 - moment) (new.present ∷ l)) image) same.past left in
      inl (subst (λ (p : Content). IsImageOfSome (take (length old.past + 1 - moment) (p ∷ old.past)) image) same.present past);
}

pub and_then : (old mid new : DiskState) (P : List ℕ → Type 0) → LeavesOnly old mid P → LeavesOnly mid new P → LeavesOnly old new P
and_then old mid new P first second = record {
  honest = second.honest ∙ first.honest;
  tells = second.tells ∙ first.tells;
  later = omega (arith, first.later, second.later);
  each = λ honest tells moment image le left. ⊎_elim (first.each honest tells moment image le) (λ here. inr here) (second.each (first.honest ∙ honest) (first.tells ∙ tells) moment image (omega (arith, le, first.later)) left);
}

pub weaker : (old new : DiskState) (P Q : List ℕ → Type 0) → (IsTrue old.honest → IsTrue (is_some old.reads_as) → (image : List ℕ) → P image → Q image) → LeavesOnly old new P → LeavesOnly old new Q
weaker old new P Q implies leaves = record {
  honest = leaves.honest;
  tells = leaves.tells;
  later = leaves.later;
  each = λ honest tells moment image le left. ⊎_elim (λ before. inl before) (λ here. inr (implies honest tells image here)) (leaves.each honest tells moment image le left);
}

-- since this moment there is no other
pub only_now : (disk : DiskState) (image : List ℕ) → might_have_left_since disk (now disk) image → may_leave disk image
only_now disk image left =
    let one : now disk + 1 - now disk ≡ 1 = omega arith in
    ⊎_elim (λ here. here) (λ none. absurd none) (subst (λ (k : ℕ). IsImageOfSome (take k (disk.present ∷ disk.past)) image) one left)

-- each image since a call began could be left as it began, or has P
pub since_began : (old new : DiskState) (P : List ℕ → Type 0) → LeavesOnly old new P → IsTrue old.honest → IsTrue (is_some old.reads_as) → (image : List ℕ) → might_have_left_since new (now old) image → may_leave old image ⊎ P image
since_began old new P leaves honest tells image left = ⊎_elim (λ before. inl (only_now old image before)) (λ here. inr here) (leaves.each honest tells (now old) image (omega arith) left)

-- each image now was possible at an earlier moment's end
now_counts : (content : Content) (contents : List Content) (moment : ℕ) (image : List ℕ) → moment ≤ length contents → IsImage content image → IsImageOfSome (take (length contents + 1 - moment) (content ∷ contents)) image
now_counts content contents moment image le left =
    let steps : length contents + 1 - moment ≡ suc (length contents - moment) = omega arith in
    subst (λ (k : ℕ). IsImageOfSome (take k (content ∷ contents)) image) (sym steps) (inl left)

-- what a crash may leave now, it might have left since each earlier moment
pub counts_now : (disk : DiskState) (moment : ℕ) (image : List ℕ) → moment ≤ now disk → may_leave disk image → might_have_left_since disk moment image
counts_now disk moment image le left = now_counts disk.present disk.past moment image le left

-- a call that leaves nothing but what might have been left before
pub nothing_new : (old new : DiskState) (P Q : List ℕ → Type 0) → ((image : List ℕ) → P image → may_leave old image) → LeavesOnly old new P → LeavesOnly old new Q
nothing_new old new P Q was leaves = record {
  honest = leaves.honest;
  tells = leaves.tells;
  later = leaves.later;
  each = λ honest tells moment image le left. ⊎_elim (λ before. inl before) (λ here. inl (counts_now old moment image le (was image here))) (leaves.each honest tells moment image le left);
}

-- what a crash may leave at a call's end: what it might leave at its begin, or what the call adds
pub each_now : (old new : DiskState) (P Q : List ℕ → Type 0) → LeavesOnly old new P → IsTrue old.honest → IsTrue (is_some old.reads_as) → ((image : List ℕ) → may_leave old image → Q image) → (image : List ℕ) → may_leave new image → Q image ⊎ P image
each_now old new P Q leaves honest tells was image left =
    ⊎_elim (λ before. inl (was image before)) (λ here. inr here) (since_began old new P leaves honest tells image (counts_now new (now old) image leaves.later left))

-- two facts of one call's images
pub both : (old new : DiskState) (P Q : List ℕ → Type 0) → LeavesOnly old new P → LeavesOnly old new Q → LeavesOnly old new (λ image. P image × Q image)
both old new P Q first second = record {
  honest = first.honest;
  tells = first.tells;
  later = first.later;
  each = λ honest tells moment image le left. ⊎_elim
      (λ before. inl before)
      (λ has_p. ⊎_elim (λ before. inl before) (λ has_q. inr (has_p, has_q)) (second.each honest tells moment image le left))
      (first.each honest tells moment image le left);
}

-- two calls that leave all as it was
pub before_and : (a b c : DiskState) → IsAsBefore a b → IsAsBefore b c → IsAsBefore a c
before_and a b c first second = record {
  reads_as = second.reads_as ∙ first.reads_as;
  present = second.present ∙ first.present;
  past = second.past ∙ first.past;
  honest = second.honest ∙ first.honest;
}

-- a disk that was not called
pub none_images : (disk : DiskState) (P : List ℕ → Type 0) → LeavesOnly disk disk P
none_images disk P = stays disk disk P (record { reads_as = refl; present = refl; past = refl; honest = refl })

some_of : {A : Type 0} (o : Option A) → IsTrue (is_some o) → (x : A) × (o ≡ Some x)
some_of None is = cc
some_of (Some x) is = (x, refl)

-- what a crash may leave after calls: what it might leave before them, or what they add
pub each_after : (old new : DiskState) (P Q : List ℕ → Type 0) → LeavesOnly old new P → EachImage old Q → EachImage new (λ image. Q image ⊎ P image)
each_after old new P Q leaves was honest file told image left =
    let was_honest : IsTrue old.honest = sym leaves.honest ∙ honest in
    let was_told : IsTrue (is_some old.reads_as) = sym leaves.tells ∙ ap is_some told in
    let first = some_of old.reads_as was_told in
    each_now old new P Q leaves was_honest was_told (was was_honest first.0 first.1) image left
