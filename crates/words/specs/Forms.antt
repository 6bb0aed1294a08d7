-- The form of a command: its word, and the names of its options. A new command has a line here.
use Rattle.std.specs.Prelude.{◌≡◌, ◌⊎◌, List, [], ◌∷◌, codes}
use Rattle.words.specs.Items.{Text}
use Rattle.words.specs.declared.forms.Verb.{Verb}
use Rattle.words.specs.declared.forms.Verb.TheVariants.{Continuity, Learn, Run, Import, Serve, Report, Unit, Export, Soak}
use Rattle.words.specs.declared.parts.Setting.{Setting}

-- an option as its name and its value
abbrev pub setting_of : Setting → Text × Text
setting_of s = (s.name.now, s.value.now)

-- one option of this name
abbrev pub HasOne : Text → List (Text × Text) → Type 0
HasOne name options = (value : Text) × (options ≡ (name, value) ∷ [])

-- one option of each name, in either order
abbrev pub HasBoth : Text → Text → List (Text × Text) → Type 0
HasBoth first second options =
    (value : Text) × (other : Text)
    × ((options ≡ (first, value) ∷ (second, other) ∷ []) ⊎ (options ≡ (second, other) ∷ (first, value) ∷ []))

abbrev pub IsForm : Verb → Text → List (Text × Text) → Type 0
IsForm Continuity word options = (word ≡ codes "continuity") × HasBoth (codes "serial") (codes "attempt") options
IsForm Learn word options = (word ≡ codes "learn") × HasBoth (codes "serial") (codes "attempt") options
IsForm Run word options = (word ≡ codes "run") × (options ≡ [])
IsForm Import word options = (word ≡ codes "import") × (options ≡ [])
IsForm Serve word options = (word ≡ codes "serve") × HasBoth (codes "port") (codes "count") options
IsForm Report word options = (word ≡ codes "report") × (options ≡ [])
IsForm Unit word options = (word ≡ codes "unit") × HasOne (codes "serial") options
IsForm Export word options = (word ≡ codes "export") × (options ≡ [])
IsForm Soak word options = (word ≡ codes "soak") × HasOne (codes "size") options
