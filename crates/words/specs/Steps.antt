-- One step of the product's own check.
use Rattle.std.specs.Prelude.{◌≡◌, List, ◌∷◌, Option, Some, None, option_map}
use Rattle.std.specs.Borrow.{Bor}
use Rattle.words.specs.Items as items
use Rattle.words.specs.Items.{Text, read}
use Rattle.words.specs.declared.items.Item as declared
use Rattle.words.specs.declared.items.Item.TheVariants as item
use Rattle.words.specs.declared.items.Step.{Step}
use Rattle.words.specs.declared.items.Step.TheVariants as step

-- what an optional text holds
abbrev pub opt_now : Option (Bor Text) → Option Text
opt_now o = option_map (λ s. s.now) o

-- the item that the program keeps
abbrev pub item_of : declared.Item → items.Item
item_of (item.Plain word) = items.plain word.now
item_of (item.Named name value) = items.option name.now value.now

-- whatever words follow, the word is refused
abbrev pub Refuses : Option Text → Text → Type 0
Refuses waiting word = (rest : List Text) → read waiting (word ∷ rest) ≡ None

-- whatever words follow, the step leads to the items
abbrev pub GoesOn : Option Text → Text → Step → Type 0
GoesOn waiting word (step.Waits name) = (rest : List Text) → read waiting (word ∷ rest) ≡ read (Some name.now) rest
GoesOn waiting word (step.Takes taken) = (rest : List Text) → read waiting (word ∷ rest) ≡ option_map (λ xs. item_of taken ∷ xs) (read None rest)
