-- The places of the gates, and the entries between them.
use Rattle.std.proofs.Common.{◌≡◌, ⊎_elim, ℕ, ◌+◌, ◌-◌, ◌<◌, ◌≤◌, IsSomeAnd, Option, Some, None, is_some, List, [], ◌∷◌, ◌++◌, length, take, drop, slice_index, slice_range, refl, sym, ◌∙◌, ap, subst, arith, append_assoc, length-append}
use Rattle.std.specs.Option.{ForSome}
use Rattle.std.specs.List.{flat_map}
use Rattle.std.specs.Int.{w32, to_be_bytes}
use Rattle.std.proofs.lemmas.Bool.{cases_eq}
use Rattle.std.proofs.lemmas.Option.{same_Some}
use Rattle.std.proofs.lemmas.List.{take_at, drop_at, get_or_append_left, get_or_push}
use Rattle.disk_edge.specs.Disk.{Content, DiskState, IsDurable, IsImage, EachImage}
use Rattle.disk_edge.proofs.Images.{only_settled_bytes}
use Rattle.journal.specs.declared.TheConstants.{LONGEST_BODY, LONGEST_FILE}
use Rattle.journal.specs.Format.{sized, entry, Fits, AllFit, written, end_after, AtRest, magic}
use Rattle.journal.specs.Gates.{places, bodies_behind, bodies_between, last_gate, AreInOrder, IsAt, IsKept}
use Rattle.journal.specs.Journal.{HasEntries, TellsEntries, IsNext}
use Rattle.journal.proofs.Bytes.{length-sized, written_unique, length-written}
use Rattle.journal.proofs.writing.Stages.{behind_gate}
use Rattle.journal.proofs.writing.Entries.{told_by}

-- a body stands behind its gate and its length
slice_of_body : (front body back : List ℕ) → slice_range (front ++ (entry body ++ back)) (length front + 5) (length front + 5 + length body) ≡ body
unfolding sized
slice_of_body front body back =
    let head = front ++ 1 ∷ to_be_bytes w32 (length body) in
    let long : length head ≡ length front + 5 = length-append front (1 ∷ to_be_bytes w32 (length body)) in
    let regrouped : front ++ (entry body ++ back) ≡ head ++ (body ++ back) =
    ap (λ (l : List ℕ). front ++ l) (append_assoc (1 ∷ to_be_bytes w32 (length body)) body back) ∙ sym (append_assoc front (1 ∷ to_be_bytes w32 (length body)) (body ++ back)) in
    let count : (length front + 5 + length body) - (length front + 5) ≡ length body = omega arith in
    ap (λ (n : ℕ). take n (drop (length front + 5) (front ++ (entry body ++ back)))) count
    ∙ ap (λ (l : List ℕ). take (length body) (drop (length front + 5) l)) regrouped
    ∙ ap (take (length body)) (drop_at head (body ++ back) (length front + 5) long)
    ∙ take_at body back (length body) refl

behind_places : (file : List ℕ) (gate next : ℕ) (bodies : List (List ℕ)) → bodies_behind file gate (places next bodies) ≡ slice_range file (gate + 5) next ∷ bodies_between file (places next bodies)
behind_places file gate next [] = refl
behind_places file gate next (body ∷ bodies) = refl

-- cut at the places of its gates, a file gives its entries
pub between_places : (file front : List ℕ) (bodies : List (List ℕ)) (back : List ℕ) (at : ℕ) → at ≡ length front → file ≡ front ++ (flat_map entry bodies ++ back) → bodies_between file (places at bodies) ≡ bodies
between_places file front [] back at is whole = refl
between_places file front (body ∷ bodies) back at is whole =
    let back_here = flat_map entry bodies ++ back in
    let regrouped : file ≡ front ++ (entry body ++ back_here) = whole ∙ ap (λ (l : List ℕ). front ++ l) (append_assoc (entry body) (flat_map entry bodies) back) in
    let this : slice_range file (at + 5) (at + 5 + length body) ≡ body =
    ap (λ (n : ℕ). slice_range file (n + 5) (n + 5 + length body)) is ∙ ap (λ (f : List ℕ). slice_range f (length front + 5) (length front + 5 + length body)) regrouped ∙ slice_of_body front body back_here in
    let long : at + 5 + length body ≡ length (front ++ entry body) = omega (arith, is, length-append front (entry body), length-sized body) in
    let others = between_places file (front ++ entry body) bodies back (at + 5 + length body) long (regrouped ∙ sym (append_assoc front (entry body) back_here)) in
    behind_places file at (at + 5 + length body) bodies ∙ (λ i. this i ∷ others i)

pub length-places : (at : ℕ) (bodies : List (List ℕ)) → length (places at bodies) ≡ length bodies + 1
length-places at [] = refl
length-places at (body ∷ bodies) = omega (arith, length-places (at + 5 + length body) bodies)

last_place : (at : ℕ) (bodies : List (List ℕ)) → slice_index (places at bodies) (length bodies) ≡ at + length (flat_map entry bodies)
last_place at [] = omega arith
last_place at (body ∷ bodies) = omega (arith, last_place (at + 5 + length body) bodies, length-append (entry body) (flat_map entry bodies), length-sized body)

pub last_gate-places : (bodies : List (List ℕ)) → last_gate (places 8 bodies) ≡ length (written bodies)
last_gate-places bodies =
    let index : length (places 8 bodies) - 1 ≡ length bodies = omega (arith, length-places 8 bodies) in
    let long : length (written bodies) ≡ 8 + length (flat_map entry bodies) = length-append magic (flat_map entry bodies) in
    ap (slice_index (places 8 bodies)) index ∙ last_place 8 bodies ∙ sym long

places-push_at : (at : ℕ) (bodies : List (List ℕ)) (body : List ℕ) → places at (bodies ++ body ∷ []) ≡ places at bodies ++ (at + length (flat_map entry bodies) + 5 + length body) ∷ []
places-push_at at [] body = (λ i. at ∷ (same i ∷ []))
  where
    same : at + 5 + length body ≡ at + 0 + 5 + length body
    same = omega arith
places-push_at at (b ∷ bodies) body =
    let same : at + 5 + length b + length (flat_map entry bodies) + 5 + length body ≡ at + length (flat_map entry (b ∷ bodies)) + 5 + length body = omega (arith, length-append (entry b) (flat_map entry bodies), length-sized b) in
    ap (λ (l : List ℕ). at ∷ l) (places-push_at (at + 5 + length b) bodies body ∙ ap (λ (n : ℕ). places (at + 5 + length b) bodies ++ n ∷ []) same)

pub places-push : (bodies : List (List ℕ)) (body : List ℕ) → places 8 (bodies ++ body ∷ []) ≡ places 8 bodies ++ (length (written bodies) + 5 + length body) ∷ []
places-push bodies body = places-push_at 8 bodies body ∙ ap (λ (n : ℕ). places 8 bodies ++ (n + 5 + length body) ∷ []) (sym (length-append magic (flat_map entry bodies)))

module _ (file gates : List ℕ) (bodies : List (List ℕ)) where
  -- a file at rest, and the places of its gates
  pub is_at : AtRest file bodies → gates ≡ places 8 bodies → IsAt file gates
  is_at rest are =
      let cut : bodies_between file gates ≡ bodies =
      ap (bodies_between file) are ∙ between_places file magic bodies (0 ∷ rest.rest) 8 refl (rest.bytes ∙ append_assoc magic (flat_map entry bodies) (0 ∷ rest.rest)) in
      let behind : rest.rest ≡ drop (length (written bodies) + 1) file =
      sym (behind_gate (written bodies) 0 rest.rest) ∙ ap (drop (length (written bodies) + 1)) (sym rest.bytes) in
      record {
        bytes = subst (λ (b : List (List ℕ)). file ≡ written b ++ 0 ∷ drop (length (written b) + 1) file) (sym cut) (rest.bytes ∙ ap (λ (l : List ℕ). written bodies ++ 0 ∷ l) behind);
        fit = subst AllFit (sym cut) rest.fit;
        places = subst (λ (b : List (List ℕ)). gates ≡ places 8 b) (sym cut) are;
      }

  -- no other entries stand in it
  pub same_entries : IsAt file gates → AtRest file bodies → bodies ≡ bodies_between file gates
  same_entries is rest =
      let behind = drop (length (written (bodies_between file gates)) + 1) file in
      (written_unique bodies (bodies_between file gates) (0 ∷ rest.rest) (0 ∷ behind) rest.fit is.fit (λ one. absurd (cc)) (λ one. absurd (cc)) (sym rest.bytes ∙ is.bytes)).0

  pub are_places : IsAt file gates → AtRest file bodies → gates ≡ places 8 bodies
  are_places is rest = is.places ∙ ap (places 8) (sym (same_entries is rest))

  pub end_is : IsAt file gates → AtRest file bodies → last_gate gates ≡ length (written bodies)
  end_is is rest = ap last_gate (are_places is rest) ∙ last_gate-places bodies

pub between_rest : (file gates : List ℕ) → IsAt file gates → AtRest file (bodies_between file gates)
between_rest file gates is = record { rest = drop (length (written (bodies_between file gates)) + 1) file; bytes = is.bytes; fit = is.fit }

-- where the next entry goes
pub next_for : (disk : DiskState) (gates bytes : List ℕ) (end : ℕ) (bodies : List (List ℕ)) (body : List ℕ) → IsKept disk gates → end ≡ last_gate gates → bytes ≡ entry body ++ 0 ∷ [] → Fits body → HasEntries disk bodies → IsNext disk end bytes bodies body
next_for disk gates bytes end bodies body kept is_end spelled fits has = record {
  durable = kept.durable;
  entries = has;
  place = λ file told. is_end ∙ end_is file gates bodies (kept.reads file told) (has file told);
  spelled = spelled;
  fits = fits;
}

pub end_within : (disk : DiskState) (gates : List ℕ) → IsKept disk gates → ForSome disk.reads_as (λ file. last_gate gates < length file)
end_within disk gates kept file told =
    let is = kept.reads file told in
    let bodies = bodies_between file gates in
    omega (arith, ap length is.bytes, length-append (written bodies) (0 ∷ drop (length (written bodies) + 1) file), end_is file gates bodies is (between_rest file gates is))

-- one more place
pub gates_push : (gates : List ℕ) (next length_is : ℕ) → AreInOrder gates → next ≡ last_gate gates + 5 + length_is → length_is ≤ LONGEST_BODY → next ≤ LONGEST_FILE → AreInOrder (gates ++ next ∷ [])
gates_push gates next n order is fits room =
    let some = order.some in
    let last : last_gate (gates ++ next ∷ []) ≡ next = get_or_push gates next 0 (length (gates ++ next ∷ []) - 1) (omega (arith, length-append gates (next ∷ []))) in
    record {
      some = omega (arith, length-append gates (next ∷ []));
      steps = λ k lt. ⊎_elim
          (λ here.
          let old : slice_index (gates ++ next ∷ []) k ≡ slice_index gates k = get_or_append_left gates (next ∷ []) 0 k (omega arith) in
          let index : length gates - 1 ≡ k = omega arith in
          let was : last_gate gates ≡ slice_index gates k = ap (slice_index gates) index in
          let new : slice_index (gates ++ next ∷ []) (k + 1) ≡ next = get_or_push gates next 0 (k + 1) (sym here) in
          (omega (arith, old, was, new), omega (arith, old, was, new)))
          (λ before.
          let below : k + 1 < length gates = omega (arith, length-append gates (next ∷ [])) in
          let first : slice_index (gates ++ next ∷ []) k ≡ slice_index gates k = get_or_append_left gates (next ∷ []) 0 k (omega arith) in
          let second : slice_index (gates ++ next ∷ []) (k + 1) ≡ slice_index gates (k + 1) = get_or_append_left gates (next ∷ []) 0 (k + 1) below in
          let step = order.steps k below in
          (omega (arith, first, second, step.0), omega (arith, first, second, step.1)))
          (cases_eq (k + 1) (length gates));
      few = omega (arith, last, order.few, length-append gates (next ∷ []));
      within = omega (arith, last);
    }

pub kept_after : (old new : DiskState) (gates bytes body : List ℕ) (end next : ℕ) → IsKept old gates → end ≡ last_gate gates → bytes ≡ entry body ++ 0 ∷ [] → Fits body → next ≡ end + 5 + length body
    → is_some new.reads_as ≡ is_some old.reads_as → IsDurable new → ((bodies : List (List ℕ)) (b : List ℕ) → IsNext old end bytes bodies b → HasEntries new (bodies ++ b ∷ [])) → IsKept new (gates ++ next ∷ [])
kept_after old new gates bytes body end next kept is_end spelled fits is tells durable put = record {
  reads = λ file told.
      let known = told_by old.reads_as (sym tells ∙ ap is_some told) in
      let before = kept.reads known.0 known.1 in
      let bodies = bodies_between known.0 gates in
      let rest = between_rest known.0 gates before in
      let has : HasEntries old bodies = λ f t. subst (λ (x : List ℕ). AtRest x bodies) (same_Some known.0 f (sym known.1 ∙ t)) rest in
      let now = put bodies body (next_for old gates bytes end bodies body kept is_end spelled fits has) file told in
      let ends : next ≡ length (written bodies) + 5 + length body = omega (arith, is_end, end_is known.0 gates bodies before rest) in
      is_at file (gates ++ next ∷ []) (bodies ++ body ∷ []) now (ap (λ (l : List ℕ). l ++ next ∷ []) before.places ∙ ap (λ (n : ℕ). places 8 bodies ++ n ∷ []) ends ∙ sym (places-push bodies body));
  durable = durable;
}

-- each image of a disk that made sure of its bytes stands as it is read
pub each_stands : (disk : DiskState) (bodies : List (List ℕ)) → IsDurable disk → HasEntries disk bodies → EachImage disk (λ image. AtRest image bodies)
each_stands disk bodies durable has honest file told image left =
    let same = only_settled_bytes file image (subst (λ (c : Content). IsImage c image) (durable honest file told) left) in
    subst (λ (f : List ℕ). AtRest f bodies) (sym same) (has file told)

-- a disk that tells its entries
pub told_file : (o : Option (List ℕ)) (P : List ℕ → Type 0) → IsSomeAnd o P → (file : List ℕ) × (o ≡ Some file) × P file
told_file None P tells = absurd tells
told_file (Some file) P tells = (file, refl, tells)

pub told_end : (disk : DiskState) (gates : List ℕ) (bodies : List (List ℕ)) → IsKept disk gates → TellsEntries disk bodies → last_gate gates ≡ end_after bodies
told_end disk gates bodies kept tells =
    let known = told_file disk.reads_as (λ (file : List ℕ). AtRest file bodies) tells in
    end_is known.0 gates bodies (kept.reads known.0 known.1) known.2 ∙ length-written bodies

pub told_count : (disk : DiskState) (gates : List ℕ) (bodies : List (List ℕ)) → IsKept disk gates → TellsEntries disk bodies → length gates - 1 ≡ length bodies
told_count disk gates bodies kept tells =
    let known = told_file disk.reads_as (λ (file : List ℕ). AtRest file bodies) tells in
    omega (arith, ap length (are_places known.0 gates bodies (kept.reads known.0 known.1) known.2), length-places 8 bodies)

pub length-bytes : (bytes body : List ℕ) → bytes ≡ entry body ++ 0 ∷ [] → length bytes ≡ length body + 6
length-bytes bytes body spelled = omega (arith, ap length spelled, length-append (entry body) (0 ∷ []), length-sized body)
