-- Which of its images a disk in memory gives.
use Rattle.std.specs.Prelude.{◌≡◌, ◌≢◌, ℕ, ◌<◌, List, Some, length, slice_index}
use Rattle.std.specs.List.{AllByRecursion}
use Rattle.std.specs.Option.{ForSome}
use Rattle.disk_edge.specs.Disk.{DiskState, IsOutside, Range}

-- this place lies outside each of the ranges
abbrev pub IsOutsideAll : List Range → ℕ → Type 0
IsOutsideAll ranges place = AllByRecursion (IsOutside place) ranges

-- the bytes, but for this mark in each place of one of the ranges
pub record IsMarked (mark : ℕ) (ranges : List Range) (bytes image : List ℕ) : Type 0 where
  pub long : length image ≡ length bytes
  pub outside : (place : ℕ) → IsOutsideAll ranges place → slice_index image place ≡ slice_index bytes place
  pub inside : (place : ℕ) → place < length bytes → (IsOutsideAll ranges place → ⊥) → slice_index image place ≡ mark

-- Pick 0 is the bytes as last synced, 2 and 3 the bytes as they read with a mark where a write since reached or tried to reach,
-- and each other pick the bytes as they read.
pub record IsPicked (disk : DiskState) (pick : ℕ) (image : List ℕ) : Type 0 where
  pub synced : pick ≡ 0 → image ≡ disk.present.synced
  pub ones : pick ≡ 2 → ForSome disk.reads_as (λ all. IsMarked 1 disk.present.written all image)
  pub all_bits : pick ≡ 3 → ForSome disk.reads_as (λ all. IsMarked 255 disk.present.written all image)
  pub read : pick ≢ 0 → pick ≢ 2 → pick ≢ 3 → disk.reads_as ≡ Some image
