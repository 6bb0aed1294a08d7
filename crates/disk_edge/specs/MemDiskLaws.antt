-- What a disk in memory reads as is one of its images.
use Rattle.std.specs.Prelude.{◌≡◌, ℕ, ◌+◌, ◌<◌, ◌≤◌, max, List, [], ◌∷◌, ◌++◌, length, take, drop, true, false, Some, refl, slice_index}
use Rattle.std.specs.List.{fold}
use Rattle.std.proofs.Common.{inl, inr, ◌∙◌, subst, arith, rules, length-append, length-drop}
use Rattle.std.proofs.lemmas.List.{places, length-take}
use Rattle.disk_edge.specs.Disk.{Content, IsImage, IsOutside, overwritten, touched, settled}
use Rattle.disk_edge.specs.MemDisk.{Standing, after_call, after_calls, fresh}
use Rattle.disk_edge.specs.declared.mem_disk.Call.{Call}
use Rattle.disk_edge.specs.declared.mem_disk.Call.TheVariants.{Length, Read, Write, Sync}

pub length-overwritten : (old : List ℕ) (at : ℕ) (bytes : List ℕ)
    → (length old ≤ length (overwritten old at bytes)) × (length (overwritten old at bytes) ≤ max (length old) (at + length bytes))
length-overwritten old at bytes = (
  omega (
    arith,
    length-append (take at old ++ bytes) (drop (at + length bytes) old),
    length-append (take at old) bytes,
    length-take at old,
    length-drop (at + length bytes) old,
  ),
  omega (
    arith,
    length-append (take at old ++ bytes) (drop (at + length bytes) old),
    length-append (take at old) bytes,
    length-take at old,
    length-drop (at + length bytes) old,
  ),
)

-- the bytes outside the range stay
pub overwritten_elsewhere : (old : List ℕ) (at : ℕ) (bytes : List ℕ) (place : ℕ) → place < length old
    → IsOutside place (record { from = at; to = at + length bytes })
    → slice_index (overwritten old at bytes) place ≡ slice_index old place
overwritten_elsewhere old at bytes place lt (inl before) = search (rules, places)
overwritten_elsewhere old at bytes place lt (inr behind) = search (rules, places)

unwritten : (content : Content) (bytes : List ℕ) (at n : ℕ) → IsImage content bytes → IsImage (touched content at n) bytes
unwritten content bytes at n image = record {
  no_shorter = image.no_shorter;
  no_longer = omega (arith, image.no_longer);
  elsewhere = λ place lt outside. image.elsewhere place lt outside.1;
}

written : (content : Content) (old : List ℕ) (at : ℕ) (bytes : List ℕ) → IsImage content old
    → IsImage (touched content at (length bytes)) (overwritten old at bytes)
written content old at bytes image = record {
  no_shorter = omega (arith, image.no_shorter, (length-overwritten old at bytes).0);
  no_longer = omega (arith, image.no_longer, (length-overwritten old at bytes).1);
  elsewhere = λ place lt outside. overwritten_elsewhere old at bytes place (omega (arith, lt, image.no_shorter)) outside.0 ∙ image.elsewhere place lt outside.1;
}

pub settled_image : (bytes : List ℕ) → IsImage (settled bytes) bytes
settled_image bytes = record { no_shorter = omega arith; no_longer = omega arith; elsewhere = λ place lt outside. refl }

after_image : (s : Standing) (call : Call) → IsImage s.present s.bytes → IsImage (after_call s call).present (after_call s call).bytes
after_image s Length image = image
after_image s (Read at n) image = image
after_image s (Write at bytes true) image = written s.present s.bytes at bytes image
after_image s (Write at bytes false) image = unwritten s.present s.bytes at (length bytes) image
after_image s (Sync true) image = settled_image s.bytes
after_image s (Sync false) image = image

after_images : (s : Standing) (calls : List Call) → IsImage s.present s.bytes → IsImage (fold after_call s calls).present (fold after_call s calls).bytes
after_images s [] image = image
after_images s (call ∷ calls) image = after_images (after_call s call) calls (after_image s call image)

pub reads_image : (first : List ℕ) (calls : List Call) → IsImage (after_calls first calls).present (after_calls first calls).bytes
reads_image first calls = after_images (fresh first) calls (settled_image first)

pub image_law : (first : List ℕ) (calls : List Call) (all : List ℕ) → Some (after_calls first calls).bytes ≡ Some all
    → IsImage (after_calls first calls).present all
image_law first calls all told =
    let same : (after_calls first calls).bytes ≡ all = cc in
    subst (IsImage (after_calls first calls).present) same (reads_image first calls)
