use Rattle.std.proofs.Common.{◌≡◌, ℕ, ◌<◌, length, take}
use Rattle.partition.specs.Classes.{class_at}
use Rattle.difference.specs.Rebuild.{piece_label}
use Rattle.difference.proofs.rebuilding.label_pieces.Given as goal

abbrev pub invariant-loop-piece : goal.invariant-loop-piece
invariant-loop-piece l = (q : ℕ) → q < length l.initial.labels → class_at l.labels q ≡ piece_label (take l.piece-index l.pieces) q (class_at l.initial.labels q)
