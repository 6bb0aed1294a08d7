-- Marks in the places of the writes since the last sync.
use Rattle.std.proofs.Common.{◌≡◌, ◌≢◌, ◌⊎◌, inl, inr, ⊎_elim, ℕ, ◌+◌, ◌-◌, ◌<◌, ◌≤◌, Bool, true, false, Some, List, ◌∷◌, length, take, drop, get_or, refl, sym, ◌∙◌, ap, subst, arith, length-drop}
use Rattle.std.specs.List.{slice_get}
use Rattle.std.proofs.lemmas.List.{take_all, get_or-drop}
use Rattle.std.proofs.lemmas.Option.{slice_get_read}
use Rattle.std.proofs.lemmas.Bool.{cases_lt}
use Rattle.disk_edge.specs.Disk.{Content, IsImage, Range}
use Rattle.disk_edge.specs.Image.{IsMarked}
use Rattle.disk_edge.specs.MemDisk.{Standing, after_call, after_calls}
use Rattle.disk_edge.specs.Since.{IsLastSync}
use Rattle.disk_edge.specs.declared.mem_disk.Call.{Call}
use Rattle.disk_edge.specs.declared.mem_disk.Call.TheVariants.{Length, Read, Write, Sync}
use Rattle.disk_edge.proofs.SinceCalls.{after_step}

-- the calls from a number on
abbrev pub rest : List Call → ℕ → List Call
rest calls from = take (length calls - from) (drop from calls)

pub in_rest : (calls items : List Call) (from k : ℕ) (call : Call) → items ≡ calls → k < length (rest items from) → call ≡ get_or (rest items from) k call → (from + k < length calls) × (call ≡ get_or calls (from + k) call)
in_rest calls items from k call same lt is =
    let all : rest items from ≡ drop from items = take_all (length items - from) (drop from items) (omega (arith, length-drop from items)) in (
      omega (arith, lt, ap length all, length-drop from items, ap length same),
      is ∙ ap (λ (l : List Call). get_or l k call) all ∙ get_or-drop from items k call ∙ ap (λ (l : List Call). get_or l (from + k) call) same,
    )

-- one range more
marked_range : (mark at n : ℕ) (ranges : List Range) (bytes old new : List ℕ) → IsMarked mark ranges bytes old → length new ≡ length old
    → ((place : ℕ) → (place < at) ⊎ (at + n ≤ place) → get_or new place 0 ≡ get_or old place 0)
    → ((place : ℕ) → place < length old → at ≤ place → place < at + n → get_or new place 0 ≡ mark)
    → IsMarked mark (record { from = at; to = at + n } ∷ ranges) bytes new
marked_range mark at n ranges bytes old new marked long outside inside = record {
  long = long ∙ marked.long;
  outside = λ place out. outside place out.0 ∙ marked.outside place out.1;
  inside = λ place lt reached. ⊎_elim
      (λ before. outside place (inl before) ∙ marked.inside place lt (λ out. reached (inl before, out)))
      (λ at_least. ⊎_elim
      (λ within. inside place (omega (arith, lt, marked.long)) at_least within)
      (λ behind. outside place (inr behind) ∙ marked.inside place lt (λ out. reached (inr behind, out)))
      (cases_lt place (at + n)))
      (cases_lt place at);
}

written_more : (s : Standing) (at : ℕ) (bytes : List ℕ) (done : Bool) → (after_call s (Write at bytes done)).present.written ≡ record { from = at; to = at + length bytes } ∷ s.present.written
written_more s at bytes true = refl
written_more s at bytes false = refl

written_stays : (s : Standing) (call : Call) → call ≢ Sync true → ((at : ℕ) (bytes : List ℕ) (done : Bool) → call ≢ Write at bytes done) → (after_call s call).present.written ≡ s.present.written
written_stays s Length unsynced unwritten = refl
written_stays s (Read at n) unsynced unwritten = refl
written_stays s (Write at bytes done) unsynced unwritten = absurd (unwritten at bytes done refl)
written_stays s (Sync true) unsynced unwritten = absurd (unsynced refl)
written_stays s (Sync false) unsynced unwritten = refl

module _ (first : List ℕ) (calls items : List Call) (from k mark : ℕ) (call : Call) (same : items ≡ calls) (lt : k < length (rest items from)) (is : call ≡ get_or (rest items from) k call) where
  next_is : after_calls first (take (from + (k + 1)) calls) ≡ after_call (after_calls first (take (from + k) calls)) call
  next_is =
      let here = in_rest calls items from k call same lt is in
      let index : from + (k + 1) ≡ from + k + 1 = omega arith in
      ap (λ (n : ℕ). after_calls first (take n calls)) index ∙ after_step first calls (from + k) call here.0 here.1

  pub mark_write : (at n : ℕ) (written : List ℕ) (done : Bool) (bytes old new : List ℕ) → call ≡ Write at written done → n ≡ length written
      → IsMarked mark (after_calls first (take (from + k) calls)).present.written bytes old → length new ≡ length old
      → ((place : ℕ) → (place < at) ⊎ (at + n ≤ place) → get_or new place 0 ≡ get_or old place 0)
      → ((place : ℕ) → place < length old → at ≤ place → place < at + n → get_or new place 0 ≡ mark)
      → IsMarked mark (after_calls first (take (from + (k + 1)) calls)).present.written bytes new
  mark_write at n written done bytes old new writes counts marked long outside inside =
      let s = after_calls first (take (from + k) calls) in
      let ranges_are : record { from = at; to = at + n } ∷ s.present.written ≡ (after_calls first (take (from + (k + 1)) calls)).present.written =
      ap (λ (m : ℕ). record { from = at; to = at + m } ∷ s.present.written) counts
      ∙ sym (written_more s at written done)
      ∙ ap (λ (c : Call). (after_call s c).present.written) (sym writes)
      ∙ ap (λ (t : Standing). t.present.written) (sym next_is) in
      subst (λ (ranges : List Range). IsMarked mark ranges bytes new) ranges_are (marked_range mark at n s.present.written bytes old new marked long outside inside)

  pub mark_other : (bytes old : List ℕ) → IsLastSync first calls from → ((at : ℕ) (written : List ℕ) (done : Bool) → call ≢ Write at written done)
      → IsMarked mark (after_calls first (take (from + k) calls)).present.written bytes old → IsMarked mark (after_calls first (take (from + (k + 1)) calls)).present.written bytes old
  mark_other bytes old last unwritten marked =
      let here = in_rest calls items from k call same lt is in
      let s = after_calls first (take (from + k) calls) in
      let there : slice_get calls (from + k) ≡ Some call = slice_get_read calls (length calls) (from + k) call refl here.0 here.1 in
      let ranges_are : s.present.written ≡ (after_calls first (take (from + (k + 1)) calls)).present.written =
      sym (written_stays s call (λ sync. last.no_later (from + k) (omega arith) (there ∙ ap Some sync)) unwritten)
      ∙ ap (λ (t : Standing). t.present.written) (sym next_is) in
      subst (λ (ranges : List Range). IsMarked mark ranges bytes old) ranges_are marked

-- bytes with marks are an image where the bytes are
pub marked_image : (mark : ℕ) (content : Content) (bytes image : List ℕ) → IsImage content bytes → IsMarked mark content.written bytes image → IsImage content image
marked_image mark content bytes image left marked = record {
  no_shorter = omega (arith, left.no_shorter, marked.long);
  no_longer = omega (arith, left.no_longer, marked.long);
  elsewhere = λ place lt out. marked.outside place out ∙ left.elsewhere place lt out;
}

-- so are the bytes as last synced
pub synced_image : (content : Content) (bytes image : List ℕ) → IsImage content bytes → image ≡ content.synced → IsImage content image
synced_image content bytes image left same = record {
  no_shorter = omega (arith, ap length same);
  no_longer = omega (arith, ap length same, left.no_shorter, left.no_longer);
  elsewhere = λ place lt out. ap (λ (l : List ℕ). get_or l place 0) same;
}
