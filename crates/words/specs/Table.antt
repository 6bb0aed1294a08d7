-- The table of all commands that the program is to have, and what `clap` reads of the one command that it is given.
use Rattle.std.specs.Prelude.{Option, ◌≡◌, ◌⊎◌, List, [], ◌∷◌, Some, None, true, codes, if◌then◌else◌}
use Rattle.std.specs.Str.{bytes_eq}
use Rattle.clap.specs.Words.{App, Rule, new_app, new_rule, with_rule}
use Rattle.words.specs.Items.{Text, Item, read, plains, options}

abbrev pub option_rule : Text → Rule
option_rule name = record (new_rule name) { long = Some name }

abbrev pub command_rule : Rule
command_rule = record (new_rule (codes "command")) { required = true }

-- with an option
abbrev pub with_option : Text → App → App
with_option name a = with_rule a (option_rule name)

abbrev with_args : App
with_args =
    with_option (codes "size") (with_option (codes "count") (with_option (codes "port") (with_option (codes "attempt") (with_option (codes "serial")
    (with_rule (new_app (codes "bench")) command_rule)))))

-- the words have no program's name before them
abbrev pub with_no_name : App → App
with_no_name a = record a { top = record a.top { no_binary_name = true } }

-- there is no `--help`
abbrev pub with_no_help : App → App
with_no_help a = record a { top = record a.top { disable_help_flag = true } }

abbrev pub the_app : App
the_app = with_no_help (with_no_name with_args)

-- the items are one word and these options, in any place
abbrev pub IsAlone : Text → List Item → Type 0
IsAlone word xs = (plains xs ≡ word ∷ []) × (options xs ≡ [])

abbrev pub HasOne : Text → Text → List Item → Type 0
HasOne word n xs = (plains xs ≡ word ∷ []) × (value : Text) × (options xs ≡ (n, value) ∷ [])

abbrev pub AreBoth : Text × Text → Text × Text → List (Text × Text) → Type 0
AreBoth a b xs = (xs ≡ a ∷ b ∷ []) ⊎ (xs ≡ b ∷ a ∷ [])

abbrev pub HasBoth : Text → Text → Text → List Item → Type 0
HasBoth word n m xs = (plains xs ≡ word ∷ []) × (value : Text) × (other : Text) × AreBoth (n, value) (m, other) (options xs)

-- the table of the commands
abbrev pub IsOfTable : List Item → Type 0
IsOfTable xs =
    HasBoth (codes "continuity") (codes "serial") (codes "attempt") xs
    ⊎ HasBoth (codes "learn") (codes "serial") (codes "attempt") xs
    ⊎ IsAlone (codes "run") xs
    ⊎ IsAlone (codes "import") xs
    ⊎ IsAlone (codes "report") xs
    ⊎ IsAlone (codes "export") xs
    ⊎ HasOne (codes "unit") (codes "serial") xs
    ⊎ HasBoth (codes "serve") (codes "port") (codes "count") xs
    ⊎ HasOne (codes "soak") (codes "size") xs

-- the words fall into the items of a command
abbrev pub AreOfTable : List Text → Type 0
AreOfTable words = (xs : List Item) × (read None words ≡ Some xs) × IsOfTable xs

-- the value of the option of this name, if there is one
abbrev pub value_in : Text → List (Text × Text) → Option Text
value_in name [] = None
value_in name ((n, value) ∷ xs) = if bytes_eq n name then Some value else value_in name xs

-- where the words are a command, this is the value of its option
abbrev pub HasValue : List Text → Text → Option Text → Type 0
HasValue words name value = (xs : List Item) → (read None words ≡ Some xs) → IsOfTable xs → value ≡ value_in name (options xs)
