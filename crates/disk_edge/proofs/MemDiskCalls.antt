-- One call more of a disk in memory.
use Rattle.std.proofs.Common.{◌≡◌, ℕ, Bool, true, false, List, [], ◌∷◌, ◌++◌, length, refl, sym, ◌∙◌, ap, subst}
use Rattle.std.specs.List.{fold}
use Rattle.disk_edge.specs.Disk.{IsImage, LeavesOnly, touched, settled}
use Rattle.disk_edge.specs.MemDisk.{Standing, after_call, after_calls, fresh, state_of}
use Rattle.disk_edge.specs.MemDiskLaws.{reads_image}
use Rattle.disk_edge.specs.declared.mem_disk.Call.{Call}
use Rattle.disk_edge.specs.declared.mem_disk.Call.TheVariants.{Write, Sync}
use Rattle.disk_edge.proofs.Moments.{goes_on, weaker}
use Rattle.disk_edge.proofs.Images.{only_settled_bytes}

after_more : (s : Standing) (calls : List Call) (call : Call) → fold after_call s (calls ++ call ∷ []) ≡ after_call (fold after_call s calls) call
after_more s [] call = refl
after_more s (c ∷ calls) call = after_more (after_call s c) calls call

pub after_push : (first : List ℕ) (calls more : List Call) (call : Call) → more ≡ calls ++ call ∷ [] → after_calls first more ≡ after_call (after_calls first calls) call
after_push first calls more call is = ap (after_calls first) is ∙ after_more (fresh first) calls call

only_settled : (first : List ℕ) (calls : List Call) (image : List ℕ) → IsImage (settled (after_calls first calls).bytes) image → IsImage (after_calls first calls).present image
only_settled first calls image left =
    subst (IsImage (after_calls first calls).present) (sym (only_settled_bytes (after_calls first calls).bytes image left)) (reads_image first calls)

-- after a sync a crash leaves what is read, which it may have left before
pub synced_less : (first : List ℕ) (calls more : List Call) (m n : ℕ) → more ≡ calls ++ Sync true ∷ [] → LeavesOnly (state_of (after_calls first calls) m) (state_of (after_calls first more) n) (IsImage (after_calls first calls).present)
synced_less first calls more m n is =
    let s = after_calls first calls in
    let after = after_call s (Sync true) in
    subst (λ (x : Standing). LeavesOnly (state_of s m) (state_of x n) (IsImage s.present)) (sym (after_push first calls more (Sync true) is))
    (weaker (state_of s m) (state_of after n) (IsImage (settled s.bytes)) (IsImage s.present) (λ _ _. only_settled first calls) (goes_on (state_of s m) (state_of after n) refl refl refl))

-- a write, done or not
pub wrote : (first : List ℕ) (calls more : List Call) (m n at : ℕ) (bytes : List ℕ) (done : Bool) (length_is : ℕ) → more ≡ calls ++ Write at bytes done ∷ [] → length bytes ≡ length_is → LeavesOnly (state_of (after_calls first calls) m) (state_of (after_calls first more) n) (IsImage (touched (after_calls first calls).present at length_is))
wrote first calls more m n at bytes true length_is is long =
    let s = after_calls first calls in
    let after = after_call s (Write at bytes true) in
    subst (λ (x : Standing). LeavesOnly (state_of s m) (state_of x n) (IsImage (touched s.present at length_is))) (sym (after_push first calls more (Write at bytes true) is))
    (subst (λ (k : ℕ). LeavesOnly (state_of s m) (state_of after n) (IsImage (touched s.present at k))) long (goes_on (state_of s m) (state_of after n) refl refl refl))
wrote first calls more m n at bytes false length_is is long =
    let s = after_calls first calls in
    let after = after_call s (Write at bytes false) in
    subst (λ (x : Standing). LeavesOnly (state_of s m) (state_of x n) (IsImage (touched s.present at length_is))) (sym (after_push first calls more (Write at bytes false) is))
    (subst (λ (k : ℕ). LeavesOnly (state_of s m) (state_of after n) (IsImage (touched s.present at k))) long (goes_on (state_of s m) (state_of after n) refl refl refl))
