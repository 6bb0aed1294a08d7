-- The words of a line, and the command that they are.
use Rattle.std.proofs.Common.{◌≡◌, ℕ, Bool, true, false, IsTrue, List, [], ◌∷◌, None, refl, sym, ap, ◌∙◌}
use Rattle.partition.specs.Names.{IsName, is_name}
use Rattle.lines.specs.Words.{words_of}
use Rattle.serials.specs.Commands.{read_alone, read_with, read_staffed, command_of, read_command}

module _ (line : List ℕ) where
  pub of_words : (words : List (List ℕ)) → words_of line ≡ words → command_of words ≡ read_command line
  unfolding read_command
  of_words words is = ap command_of (sym is)

  is_false : (b : Bool) → (IsTrue b → ⊥) → b ≡ false
  is_false true wrong = absurd (wrong refl)
  is_false false wrong = refl

  -- an id that is no name
  unnamed : (word id : List ℕ) (more : List (List ℕ)) → is_name id ≡ false → None ≡ command_of (word ∷ id ∷ more)
  unnamed word id [] isnt = rw isnt refl
  unnamed word id (a ∷ []) isnt = rw isnt refl
  unnamed word id (a ∷ b ∷ []) isnt = refl
  unnamed word id (a ∷ b ∷ c ∷ []) isnt = rw isnt refl
  unnamed word id (a ∷ b ∷ c ∷ d ∷ more) isnt = refl

  pub no_name : (word id : List ℕ) (more : List (List ℕ)) → words_of line ≡ word ∷ id ∷ more → (IsName id → ⊥) → None ≡ read_command line
  no_name word id more is wrong = unnamed word id more (is_false (is_name id) wrong) ∙ of_words (word ∷ id ∷ more) is

  pub two_words : (word id name : List ℕ) → words_of line ≡ word ∷ id ∷ [] → IsName id × (name ≡ id) → read_alone word name ≡ read_command line
  two_words word id name is named = ap (read_alone word) named.1 ∙ named_is ∙ of_words (word ∷ id ∷ []) is
    where
      named_is : read_alone word id ≡ command_of (word ∷ id ∷ [])
      named_is = let yes_named : is_name id ≡ true = named.0 in rw yes_named refl

  pub three_words : (word id last name : List ℕ) → words_of line ≡ word ∷ id ∷ last ∷ [] → IsName id × (name ≡ id) → read_with word name last ≡ read_command line
  three_words word id last name is named = ap (λ (n : List ℕ). read_with word n last) named.1 ∙ named_is ∙ of_words (word ∷ id ∷ last ∷ []) is
    where
      named_is : read_with word id last ≡ command_of (word ∷ id ∷ last ∷ [])
      named_is = let yes_named : is_name id ≡ true = named.0 in rw yes_named refl

  pub five_words : (word id serial operator fixture name : List ℕ) → words_of line ≡ word ∷ id ∷ serial ∷ operator ∷ fixture ∷ [] → IsName id × (name ≡ id)
      → read_staffed word name serial operator fixture ≡ read_command line
  five_words word id serial operator fixture name is named =
      ap (λ (n : List ℕ). read_staffed word n serial operator fixture) named.1 ∙ named_is ∙ of_words (word ∷ id ∷ serial ∷ operator ∷ fixture ∷ []) is
    where
      named_is : read_staffed word id serial operator fixture ≡ command_of (word ∷ id ∷ serial ∷ operator ∷ fixture ∷ [])
      named_is = let yes_named : is_name id ≡ true = named.0 in rw yes_named refl
