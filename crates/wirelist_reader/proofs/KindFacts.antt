-- The kind of a row, and what it tells.
use Rattle.std.proofs.Common.{◌≡◌, ℕ, Bool, true, false, cond, List, [], ◌∷◌, Some, refl, sym, ◌∙◌, ap}
use Rattle.std.specs.Prelude.{bytes_eq, find}
use Rattle.wirelist_reader.specs.Kinds.{kind_of, kind_word, all_kinds}
use Rattle.wirelist_reader.specs.Rows.{field_at, is_kind, is_named, is_component}
use Rattle.wirelist_reader.specs.declared.kind.Kind.{Kind}
use Rattle.wirelist_reader.specs.declared.kind.Kind.TheVariants.{Part, Points, Net, Ignore, Resistor, Diode, Insulation, Withstand, Attempts}
use Rattle.wirelist_reader.proofs.Numbers.{bytes_equal, bytes_same}

-- what is found passes the test
pub found_passes : {X : Type 0} (p : X → Bool) (xs : List X) (x : X) → find p xs ≡ Some x → p x ≡ true
found_passes p [] x e = cc
found_passes p (y ∷ ys) x e = go (p y) refl e (found_passes p ys x)
  where
    go : (b : Bool) → p y ≡ b → cond b (Some y) (find p ys) ≡ Some x → (find p ys ≡ Some x → p x ≡ true) → p x ≡ true
    go true t f later = let same : y ≡ x = cc in ap p (sym same) ∙ t
    go false t f later = later f

-- a word that names a kind is that kind's word
pub kind_word_of : (word : List ℕ) (kind : Kind) → kind_of word ≡ Some kind → word ≡ kind_word kind
kind_word_of word kind e = bytes_equal word (kind_word kind) (found_passes (λ k. bytes_eq word (kind_word k)) all_kinds kind e)

-- each kind's word names it
pub kind_of_word : (kind : Kind) → kind_of (kind_word kind) ≡ Some kind
kind_of_word Part = refl
kind_of_word Points = refl
kind_of_word Net = refl
kind_of_word Ignore = refl
kind_of_word Resistor = refl
kind_of_word Diode = refl
kind_of_word Insulation = refl
kind_of_word Withstand = refl
kind_of_word Attempts = refl

-- a row is of the kind that its first field names
pub is_kind_of : (row : List (List ℕ)) (kind : Kind) → is_kind kind row ≡ true → kind_of (field_at row 0) ≡ Some kind
is_kind_of row kind e = ap kind_of (bytes_equal (field_at row 0) (kind_word kind) e) ∙ kind_of_word kind

pub kind_of_is : (row : List (List ℕ)) (kind : Kind) → kind_of (field_at row 0) ≡ Some kind → is_kind kind row ≡ true
kind_of_is row kind e = bytes_same (field_at row 0) (kind_word kind) (kind_word_of (field_at row 0) kind e)

-- which rows give names, and which are of components
abbrev pub named_kind : Kind → Bool
named_kind Part = false
named_kind Points = false
named_kind Net = true
named_kind Ignore = false
named_kind Resistor = true
named_kind Diode = true
named_kind Insulation = false
named_kind Withstand = false
named_kind Attempts = false

abbrev pub component_kind : Kind → Bool
component_kind Part = false
component_kind Points = false
component_kind Net = false
component_kind Ignore = false
component_kind Resistor = true
component_kind Diode = true
component_kind Insulation = false
component_kind Withstand = false
component_kind Attempts = false

named_by_word : (kind : Kind) (row : List (List ℕ)) → field_at row 0 ≡ kind_word kind → is_named row ≡ named_kind kind
named_by_word Part row e = rw e refl
named_by_word Points row e = rw e refl
named_by_word Net row e = rw e refl
named_by_word Ignore row e = rw e refl
named_by_word Resistor row e = rw e refl
named_by_word Diode row e = rw e refl
named_by_word Insulation row e = rw e refl
named_by_word Withstand row e = rw e refl
named_by_word Attempts row e = rw e refl

component_by_word : (kind : Kind) (row : List (List ℕ)) → field_at row 0 ≡ kind_word kind → is_component row ≡ component_kind kind
component_by_word Part row e = rw e refl
component_by_word Points row e = rw e refl
component_by_word Net row e = rw e refl
component_by_word Ignore row e = rw e refl
component_by_word Resistor row e = rw e refl
component_by_word Diode row e = rw e refl
component_by_word Insulation row e = rw e refl
component_by_word Withstand row e = rw e refl
component_by_word Attempts row e = rw e refl

pub named_of_kind : (row : List (List ℕ)) (kind : Kind) → is_kind kind row ≡ true → is_named row ≡ named_kind kind
named_of_kind row kind e = named_by_word kind row (bytes_equal (field_at row 0) (kind_word kind) e)

pub component_of_kind : (row : List (List ℕ)) (kind : Kind) → is_kind kind row ≡ true → is_component row ≡ component_kind kind
component_of_kind row kind e = component_by_word kind row (bytes_equal (field_at row 0) (kind_word kind) e)
