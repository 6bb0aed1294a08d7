use Rattle.std.proofs.Common.{◌≡◌, ◌++◌, map, drop}
use Rattle.words.specs.Items.{plains, options}
use Rattle.words.specs.Steps.{item_of}
use Rattle.words.specs.Forms.{setting_of}
use Rattle.words.proofs.parts.parts_of.Given as goal

abbrev pub invariant-loop-item : goal.invariant-loop-item
invariant-loop-item l = record {
  words : plains (map item_of l.items) ≡ map (λ w. w.now) l.plains.items ++ plains (map item_of (drop l.item-index l.items));
  settings : options (map item_of l.items) ≡ map setting_of l.options.items ++ options (map item_of (drop l.item-index l.items));
}
