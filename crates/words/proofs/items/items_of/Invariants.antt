use Rattle.std.proofs.Common.{length, ◌-◌, ◌≡◌, ◌++◌, None, map, option_map, string_bytes, drop}
use Rattle.words.specs.Items.{read}
use Rattle.words.specs.Steps.{opt_now, item_of}
use Rattle.words.proofs.items.items_of.Given as goal

abbrev pub invariant-loop-i : goal.invariant-loop-i
invariant-loop-i l = read None (map string_bytes l.words) ≡ option_map (λ xs. map item_of l.items.items ++ xs) (read (opt_now l.waiting) (map string_bytes (drop l.i l.words)))

abbrev pub decreases-loop-i : goal.decreases-loop-i
decreases-loop-i l = length l.words - l.i
