-- The calls of a disk in memory since its last sync, one call after the other.
use Rattle.std.proofs.Common.{◌≡◌, ◌≢◌, ◌⊎◌, inl, inr, ⊎_elim, ℕ, zero, suc, ◌+◌, ◌<◌, ◌≤◌, true, false, Some, List, [], ◌∷◌, ◌++◌, length, take, get_or, refl, sym, ◌∙◌, ap, subst, arith, length-append}
use Rattle.std.specs.List.{slice_get}
use Rattle.std.proofs.lemmas.List.{length-take-le, take-append-le, take_all, take_more}
use Rattle.std.proofs.lemmas.Option.{slice_get_within}
use Rattle.disk_edge.specs.Disk.{settled}
use Rattle.disk_edge.specs.MemDisk.{Standing, after_call, after_calls}
use Rattle.disk_edge.specs.Since.{IsLastSync}
use Rattle.disk_edge.specs.declared.mem_disk.Call.{Call}
use Rattle.disk_edge.specs.declared.mem_disk.Call.TheVariants.{Length, Read, Write, Sync}
use Rattle.disk_edge.proofs.MemDiskCalls.{after_push}

-- one call more
pub take_step : (calls : List Call) (i : ℕ) (call : Call) → i < length calls → call ≡ get_or calls i call → take (i + 1) calls ≡ take i calls ++ call ∷ []
take_step calls i call lt is = take_more calls i call lt ∙ ap (λ (c : Call). take i calls ++ c ∷ []) (sym is)

pub after_step : (first : List ℕ) (calls : List Call) (i : ℕ) (call : Call) → i < length calls → call ≡ get_or calls i call → after_calls first (take (i + 1) calls) ≡ after_call (after_calls first (take i calls)) call
after_step first calls i call lt is = after_push first (take i calls) (take (i + 1) calls) call (take_step calls i call lt is)

get_push : (calls : List Call) (call : Call) (k : ℕ) (x : Call) → slice_get (calls ++ call ∷ []) k ≡ Some x → (slice_get calls k ≡ Some x) ⊎ ((k ≡ length calls) × (call ≡ x))
get_push [] call zero x is = inr (refl, cc)
get_push [] call (suc k) x is = absurd (cc)
get_push (c ∷ calls) call zero x is = inl is
get_push (c ∷ calls) call (suc k) x is = ⊎_elim (λ within. inl within) (λ last. inr (ap suc last.0, last.1)) (get_push calls call k x is)

-- what was synced stays until a sync is done
synced_stays : (s : Standing) (call : Call) → call ≢ Sync true → (after_call s call).present.synced ≡ s.present.synced
synced_stays s Length other = refl
synced_stays s (Read at n) other = refl
synced_stays s (Write at bytes true) other = refl
synced_stays s (Write at bytes false) other = refl
synced_stays s (Sync true) other = absurd (other refl)
synced_stays s (Sync false) other = refl

pub no_sync_yet : (first : List ℕ) → IsLastSync first [] 0
no_sync_yet first = record { within = omega arith; settles = refl; synced = refl; no_later = λ k le is. cc }

pub other_call : (first : List ℕ) (calls : List Call) (number : ℕ) (call : Call) → IsLastSync first calls number → call ≢ Sync true → IsLastSync first (calls ++ call ∷ []) number
other_call first calls number call last other =
    let same : take number (calls ++ call ∷ []) ≡ take number calls = take-append-le number calls (call ∷ []) last.within in
    record {
      within = omega (arith, last.within, length-append calls (call ∷ []));
      settles = subst (λ (l : List Call). (after_calls first l).present ≡ settled (after_calls first l).bytes) (sym same) last.settles;
      synced = ap (λ (s : Standing). s.present.synced) (after_push first calls (calls ++ call ∷ []) call refl) ∙ synced_stays (after_calls first calls) call other ∙ last.synced ∙ ap (λ (l : List Call). (after_calls first l).bytes) (sym same);
      no_later = λ k le is. ⊎_elim (λ within. last.no_later k le within) (λ here. other here.1) (get_push calls call k (Sync true) is);
    }

pub done_sync : (first : List ℕ) (calls : List Call) → IsLastSync first (calls ++ Sync true ∷ []) (length calls + 1)
done_sync first calls =
    let more = calls ++ Sync true ∷ [] in
    let all : take (length calls + 1) more ≡ more = take_all (length calls + 1) more (omega (arith, length-append calls (Sync true ∷ []))) in
    let after : after_calls first more ≡ after_call (after_calls first calls) (Sync true) = after_push first calls more (Sync true) refl in
    record {
      within = omega (arith, length-append calls (Sync true ∷ []));
      settles = subst (λ (l : List Call). (after_calls first l).present ≡ settled (after_calls first l).bytes) (sym all) (subst (λ (s : Standing). s.present ≡ settled s.bytes) (sym after) refl);
      synced = subst (λ (l : List Call). (after_calls first more).present.synced ≡ (after_calls first l).bytes) (sym all) (subst (λ (s : Standing). s.present.synced ≡ s.bytes) (sym after) refl);
      no_later = λ k le is. ⊎_elim (λ within. past k (omega (arith, le)) within) (λ here. omega (arith, le, here.0)) (get_push calls (Sync true) k (Sync true) is);
    }
  where
    past : (k : ℕ) → length calls ≤ k → slice_get calls k ≡ Some (Sync true) → ⊥
    past k le is = omega (arith, le, slice_get_within calls k (Sync true) is)

-- the next call, where it is such a sync and where it is not
pub step_done : (first : List ℕ) (calls : List Call) (i number : ℕ) (call : Call) → i < length calls → call ≡ get_or calls i call → call ≡ Sync true → number ≡ i + 1 → IsLastSync first (take (i + 1) calls) number
step_done first calls i number call lt is sync counts =
    let long : length (take i calls) + 1 ≡ number = omega (arith, counts, length-take-le i calls (omega (arith, lt))) in
    let more : take i calls ++ Sync true ∷ [] ≡ take (i + 1) calls = ap (λ (c : Call). take i calls ++ c ∷ []) (sym sync) ∙ sym (take_step calls i call lt is) in
    subst (λ (l : List Call). IsLastSync first l number) more (subst (IsLastSync first (take i calls ++ Sync true ∷ [])) long (done_sync first (take i calls)))

pub step_other : (first : List ℕ) (calls : List Call) (i number : ℕ) (call : Call) → i < length calls → call ≡ get_or calls i call → call ≢ Sync true → IsLastSync first (take i calls) number → IsLastSync first (take (i + 1) calls) number
step_other first calls i number call lt is other last =
    subst (λ (l : List Call). IsLastSync first l number) (sym (take_step calls i call lt is)) (other_call first (take i calls) number call last other)

-- all calls
pub step_all : (first : List ℕ) (calls all : List Call) (i number : ℕ) → calls ≡ all → length calls ≤ i → IsLastSync first (take i calls) number → IsLastSync first all number
step_all first calls all i number same past last =
    subst (λ (l : List Call). IsLastSync first l number) (take_all i calls past ∙ same) last
