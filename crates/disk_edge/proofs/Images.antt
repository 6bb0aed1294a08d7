-- What a crash may leave, by the parts of a list.
use Rattle.std.proofs.Common.{◌≡◌, inl, inr, ℕ, ◌+◌, ◌<◌, ◌≤◌, List, length, sym, ◌∙◌, arith, length-drop}
use Rattle.std.proofs.lemmas.List.{length-take, get_or-take, get_or-drop}
use Rattle.std.proofs.lemmas.Grind.{same_number_lists}
use Rattle.disk_edge.specs.Disk.{IsImage, settled, touched, IsTorn}

-- after a sync a crash leaves the bytes, and nothing else
pub only_settled_bytes : (bytes image : List ℕ) → IsImage (settled bytes) image → image ≡ bytes
only_settled_bytes bytes image left =
    same_number_lists _ _ (omega (arith, left.no_shorter, left.no_longer)) (λ k h. left.elsewhere k (omega (arith, left.no_shorter, left.no_longer)) tt)

-- after a sync and a write, a crash leaves the bytes torn
pub torn_settled : (bytes image : List ℕ) (at n : ℕ) → at ≤ length bytes → IsImage (touched (settled bytes) at n) image → IsTorn at n bytes image
torn_settled bytes image at n le left = record {
  before = same_number_lists _ _ (omega (arith, left.no_shorter, length-take at image, length-take at bytes)) (λ k h.
      let below : k < at = omega (arith, length-take at image, h) in
      get_or-take at image k 0 below ∙ left.elsewhere k (omega arith) (inl below, tt) ∙ sym (get_or-take at bytes k 0 below));
  after = same_number_lists _ _ (omega (arith, left.no_shorter, left.no_longer, length-drop (at + n) image, length-drop (at + n) bytes)) (λ k h.
      get_or-drop (at + n) image k 0 ∙ left.elsewhere (at + n + k) (omega (arith, left.no_shorter, left.no_longer, length-drop (at + n) image, h)) (inr (omega arith), tt) ∙ sym (get_or-drop (at + n) bytes k 0));
  no_shorter = left.no_shorter;
  no_longer = left.no_longer;
}
