-- One entry between its gates.
use Rattle.std.proofs.Common.{◌≡◌, ℕ, zero, suc, ◌+◌, ◌-◌, ◌<◌, ◌≤◌, Some, List, [], ◌∷◌, ◌++◌, length, take, drop, get_or, slice_index, slice_range, refl, sym, ◌∙◌, ap, arith, length-append}
use Rattle.std.specs.List.{flat_map, slice_get}
use Rattle.std.proofs.lemmas.List.{take_at, get_or_default}
use Rattle.journal.specs.Format.{entry, written, AtRest, magic}
use Rattle.journal.specs.Gates.{places, bodies_behind, bodies_between, AreInOrder, IsAt}
use Rattle.journal.proofs.Bytes.{length-sized}
use Rattle.journal.proofs.writing.Places.{same_entries}

-- a gate and the next one
pub gate_steps : (gates : List ℕ) (number gate next : ℕ) → AreInOrder gates → 1 ≤ number → number < length gates → gate ≡ get_or gates (number - 1) gate → next ≡ get_or gates number next → gate + 5 ≤ next
gate_steps gates number gate next order one within is_gate is_next =
    let index : number - 1 + 1 ≡ number = omega arith in
    let step = (order.steps (number - 1) (omega arith)).0 in
    let here : gate ≡ slice_index gates (number - 1) = is_gate ∙ get_or_default gates (number - 1) gate 0 (omega arith) in
    let there : next ≡ slice_index gates (number - 1 + 1) = is_next ∙ get_or_default gates number next 0 within ∙ ap (slice_index gates) (sym index) in
    omega (arith, step, here, there)

place_within : (at : ℕ) (bodies : List (List ℕ)) (k : ℕ) → slice_index (places at bodies) k ≤ at + length (flat_map entry bodies)
place_within at [] zero = omega arith
place_within at [] (suc k) = omega arith
place_within at (body ∷ bodies) zero = omega arith
place_within at (body ∷ bodies) (suc k) = omega (arith, place_within (at + 5 + length body) bodies k, length-append (entry body) (flat_map entry bodies), length-sized body)

pub gate_within : (file gates : List ℕ) (number next : ℕ) → IsAt file gates → number < length gates → next ≡ get_or gates number next → next ≤ length file
gate_within file gates number next is within is_next =
    let bodies = bodies_between file gates in
    let here : next ≡ slice_index (places 8 bodies) number = is_next ∙ get_or_default gates number next 0 within ∙ ap (λ (l : List ℕ). slice_index l number) is.places in
    omega (arith, here, place_within 8 bodies number, ap length is.bytes, length-append (written bodies) (0 ∷ drop (length (written bodies) + 1) file), length-append magic (flat_map entry bodies))

behind_get : (file : List ℕ) (gate : ℕ) (gates : List ℕ) (k : ℕ) → k < length gates → slice_get (bodies_behind file gate gates) k ≡ Some (slice_range file (slice_index (gate ∷ gates) k + 5) (slice_index gates k))
behind_get file gate [] k lt = absurd (omega (arith, lt))
behind_get file gate (next ∷ gates) zero lt = refl
behind_get file gate (next ∷ gates) (suc k) lt = behind_get file next gates k (omega (arith, lt))

between_get : (file gates : List ℕ) (k : ℕ) → k + 1 < length gates → slice_get (bodies_between file gates) k ≡ Some (slice_range file (slice_index gates k + 5) (slice_index gates (k + 1)))
between_get file [] k lt = absurd (omega (arith, lt))
between_get file (gate ∷ gates) k lt =
    let more : k + 1 ≡ suc k = omega arith in
    behind_get file gate gates k (omega (arith, lt)) ∙ ap (λ (n : ℕ). Some (slice_range file (slice_index (gate ∷ gates) k + 5) (slice_index (gate ∷ gates) n))) (sym more)

-- what is read between a gate's length and the next gate is the entry of that number
pub entry_is : (file gates buf items : List ℕ) (bodies : List (List ℕ)) (number gate next len : ℕ) → IsAt file gates → AtRest file bodies → 1 ≤ number → number < length gates → gate ≡ get_or gates (number - 1) gate → next ≡ get_or gates number next
    → gate + 5 ≤ next → length buf ≡ next - (gate + 5) → len ≡ length buf → buf ≡ slice_range file (gate + 5) (gate + 5 + length buf) → slice_get bodies (number - 1) ≡ Some (take len (buf ++ drop (length buf) items))
entry_is file gates buf items bodies number gate next len is rest one within is_gate is_next step long len_is filled =
    let index : number - 1 + 1 ≡ number = omega arith in
    let here : slice_index gates (number - 1) ≡ gate = sym (is_gate ∙ get_or_default gates (number - 1) gate 0 (omega arith)) in
    let there : slice_index gates (number - 1 + 1) ≡ next = ap (slice_index gates) index ∙ sym (is_next ∙ get_or_default gates number next 0 within) in
    let whole : take len (buf ++ drop (length buf) items) ≡ buf = take_at buf (drop (length buf) items) len (sym len_is) in
    let ends : gate + 5 + length buf ≡ next = omega (arith, long, step) in
    ap (λ (b : List (List ℕ)). slice_get b (number - 1)) (same_entries file gates bodies is rest)
    ∙ between_get file gates (number - 1) (omega arith)
    ∙ ap (λ (n : ℕ). Some (slice_range file (n + 5) (slice_index gates (number - 1 + 1)))) here
    ∙ ap (λ (n : ℕ). Some (slice_range file (gate + 5) n)) (there ∙ sym ends)
    ∙ ap Some (sym filled ∙ sym whole)
