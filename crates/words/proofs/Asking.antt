-- Words of the form of a command, and the values that `clap` has of them.
use Rattle.std.proofs.Common.{◌≡◌, inl, inr, ℕ, ◌<◌, ◌≤◌, Bool, true, false, length, map, get_or, Bor, arith, List, [], ◌∷◌, Option, Some, None, refl, sym, ◌∙◌, ap, subst, codes}
use Rattle.std.specs.Prelude.{IfSome, IfNone, MatchOption, decimal}
use Rattle.std.specs.Str.{bytes_eq}
use Rattle.words.specs.Items.{Text, Item, read, plains, options}
use Rattle.words.specs.Table.{IsOfTable, value_in}
use Rattle.words.specs.Forms.{IsForm, HasOne, HasBoth}
use Rattle.words.specs.Values.{NamesUnit, NamesService, HasValues}
use Rattle.words.specs.Words.{Asks, IsCommand, InAnyOrder, IsUnitName, IsService, word_of, options_of, unit_options, service_options}
use Rattle.words.specs.declared.forms.Verb.{Verb}
use Rattle.words.specs.declared.forms.Verb.TheVariants as verb
use Rattle.words.specs.declared.command.Command.{Command}
use Rattle.words.specs.declared.command.Command.TheVariants.{Continuity, Learn, Run, Import, Serve, Report, Unit, Export, Soak}
use Rattle.words.specs.declared.command.Service.{Service}
use Rattle.words.specs.declared.command.UnitName.{UnitName}
use Rattle.words.proofs.Places.{form_place}

-- each form is one of the table
pub of_table : (v : Verb) (xs : List Item) (word : Text) → plains xs ≡ word ∷ [] → IsForm v word (options xs) → IsOfTable xs
of_table verb.Continuity xs word one (is, both) = inl (one ∙ ap (λ (w : Text). w ∷ []) is, both.0, both.1, both.2)
of_table verb.Learn xs word one (is, both) = inr (inl (one ∙ ap (λ (w : Text). w ∷ []) is, both.0, both.1, both.2))
of_table verb.Soak xs word one (is, size) = inr (inr (inr (inr (inr (inr (inr (inr (one ∙ ap (λ (w : Text). w ∷ []) is, size.0, size.1))))))))
of_table verb.Run xs word one (is, none) = inr (inr (inl (one ∙ ap (λ (w : Text). w ∷ []) is, none)))
of_table verb.Import xs word one (is, none) = inr (inr (inr (inl (one ∙ ap (λ (w : Text). w ∷ []) is, none))))
of_table verb.Report xs word one (is, none) = inr (inr (inr (inr (inl (one ∙ ap (λ (w : Text). w ∷ []) is, none)))))
of_table verb.Export xs word one (is, none) = inr (inr (inr (inr (inr (inl (one ∙ ap (λ (w : Text). w ∷ []) is, none))))))
of_table verb.Unit xs word one (is, serial) = inr (inr (inr (inr (inr (inr (inl (one ∙ ap (λ (w : Text). w ∷ []) is, serial.0, serial.1)))))))
of_table verb.Serve xs word one (is, both) = inr (inr (inr (inr (inr (inr (inr (inl (one ∙ ap (λ (w : Text). w ∷ []) is, both.0, both.1, both.2))))))))

-- ---- two options

-- two names are not the same, and each is itself
record AreApart (first second : Text) : Type 0 where
  own : bytes_eq first first ≡ true
  also : bytes_eq second second ≡ true
  before : bytes_eq first second ≡ false
  behind : bytes_eq second first ≡ false

module _ (value : Text → Option Text) (O : List (Text × Text)) (first second : Text) (apart : AreApart first second) (at_first : value first ≡ value_in first O)
    (at_second : value second ≡ value_in second O) (one other : Text) where
  both_settings : HasBoth first second O → value first ≡ Some one → value second ≡ Some other → InAnyOrder O ((first, one) ∷ (second, other) ∷ [])
  both_settings (v, w, inl e) is_first is_second =
      let f : value first ≡ Some v = at_first ∙ ap (value_in first) e ∙ rw apart.own refl in
      let s : value second ≡ Some w = at_second ∙ ap (value_in second) e ∙ rw (apart.before, apart.also) refl in
      let same : v ≡ one = cc in
      let also : w ≡ other = cc in
      inl (e ∙ rw (same, also) refl)
  both_settings (v, w, inr e) is_first is_second =
      let f : value first ≡ Some v = at_first ∙ ap (value_in first) e ∙ rw (apart.behind, apart.own) refl in
      let s : value second ≡ Some w = at_second ∙ ap (value_in second) e ∙ rw apart.also refl in
      let same : v ≡ one = cc in
      let also : w ≡ other = cc in
      inr (e ∙ rw (same, also) refl)

  both_values : InAnyOrder O ((first, one) ∷ (second, other) ∷ []) → (value first ≡ Some one) × (value second ≡ Some other)
  both_values (inl e) = (at_first ∙ ap (value_in first) e ∙ rw apart.own refl, at_second ∙ ap (value_in second) e ∙ rw (apart.before, apart.also) refl)
  both_values (inr e) = (at_first ∙ ap (value_in first) e ∙ rw (apart.behind, apart.own) refl, at_second ∙ ap (value_in second) e ∙ rw apart.also refl)

serial_attempt : AreApart (codes "serial") (codes "attempt")
serial_attempt = record { own = refl; also = refl; before = refl; behind = refl }

port_count : AreApart (codes "port") (codes "count")
port_count = record { own = refl; also = refl; before = refl; behind = refl }

module _ (value : Text → Option Text) (O : List (Text × Text)) (at_serial : value (codes "serial") ≡ value_in (codes "serial") O) (at_attempt : value (codes "attempt") ≡ value_in (codes "attempt") O) (unit : UnitName) where
  unit_settings : HasBoth (codes "serial") (codes "attempt") O → NamesUnit value unit → InAnyOrder O (unit_options unit)
  unit_settings has names = both_settings value O _ _ serial_attempt at_serial at_attempt unit.serial (decimal unit.attempt) has names.serial names.attempt

  unit_values : InAnyOrder O (unit_options unit) → IsUnitName unit → NamesUnit value unit
  unit_values given in_range =
      let both = both_values value O _ _ serial_attempt at_serial at_attempt unit.serial (decimal unit.attempt) given in
      record { serial = both.0; attempt = both.1; in_range = in_range }

module _ (value : Text → Option Text) (O : List (Text × Text)) (at_port : value (codes "port") ≡ value_in (codes "port") O) (at_count : value (codes "count") ≡ value_in (codes "count") O) (service : Service) where
  service_settings : HasBoth (codes "port") (codes "count") O → NamesService value service → InAnyOrder O (service_options service)
  service_settings has names = both_settings value O _ _ port_count at_port at_count (decimal service.port) (decimal service.count) has names.port names.count

  service_values : InAnyOrder O (service_options service) → IsService service → NamesService value service
  service_values given in_range =
      let both = both_values value O _ _ port_count at_port at_count (decimal service.port) (decimal service.count) given in
      record { port = both.0; count = both.1; in_range = in_range }

-- ---- one option

module _ (value : Text → Option Text) (O : List (Text × Text)) (name : Text) (own : bytes_eq name name ≡ true) (at_name : value name ≡ value_in name O) (one : Text) where
  one_setting : HasOne name O → value name ≡ Some one → InAnyOrder O ((name, one) ∷ [])
  one_setting (v, e) is =
      let n : value name ≡ Some v = at_name ∙ ap (value_in name) e ∙ rw own refl in
      let same : v ≡ one = cc in
      inl (e ∙ rw same refl)

  one_value : InAnyOrder O ((name, one) ∷ []) → value name ≡ Some one
  one_value (inl e) = at_name ∙ ap (value_in name) e ∙ rw own refl
  one_value (inr e) = at_name ∙ ap (value_in name) e ∙ rw own refl

-- ---- the command of the values

module _ (words : List Text) (xs : List Item) (word : Text) (falls : read None words ≡ Some xs) (one : plains xs ≡ word ∷ []) (value : Text → Option Text)
    (values : (name : Text) → bytes_eq (codes "command") name ≡ false → value name ≡ value_in name (options xs)) where
  asks_of : (v : Verb) (command : Command) → IsForm v word (options xs) → HasValues v value command → Asks words command
  asks_of verb.Continuity (Continuity unit) (is, both) names = record {
    items = xs;
    falls = falls;
    word = one ∙ ap (λ (w : Text). w ∷ []) is;
    settings = unit_settings value (options xs) (values _ refl) (values _ refl) unit both names;
    in_range = names.in_range;
  }
  asks_of verb.Learn (Learn unit) (is, both) names = record {
    items = xs;
    falls = falls;
    word = one ∙ ap (λ (w : Text). w ∷ []) is;
    settings = unit_settings value (options xs) (values _ refl) (values _ refl) unit both names;
    in_range = names.in_range;
  }
  asks_of verb.Run Run (is, none) values = record { items = xs; falls = falls; word = one ∙ ap (λ (w : Text). w ∷ []) is; settings = inl none; in_range = tt }
  asks_of verb.Import Import (is, none) values = record { items = xs; falls = falls; word = one ∙ ap (λ (w : Text). w ∷ []) is; settings = inl none; in_range = tt }
  asks_of verb.Serve (Serve service) (is, both) names = record {
    items = xs;
    falls = falls;
    word = one ∙ ap (λ (w : Text). w ∷ []) is;
    settings = service_settings value (options xs) (values _ refl) (values _ refl) service both names;
    in_range = names.in_range;
  }
  asks_of verb.Report Report (is, none) values = record { items = xs; falls = falls; word = one ∙ ap (λ (w : Text). w ∷ []) is; settings = inl none; in_range = tt }
  asks_of verb.Unit (Unit serial) (is, has) names = record {
    items = xs;
    falls = falls;
    word = one ∙ ap (λ (w : Text). w ∷ []) is;
    settings = one_setting value (options xs) _ refl (values _ refl) serial has names.serial_is;
    in_range = names.named;
  }
  asks_of verb.Export Export (is, none) values = record { items = xs; falls = falls; word = one ∙ ap (λ (w : Text). w ∷ []) is; settings = inl none; in_range = tt }
  asks_of verb.Soak (Soak size) (is, has) names = record {
    items = xs;
    falls = falls;
    word = one ∙ ap (λ (w : Text). w ∷ []) is;
    settings = one_setting value (options xs) _ refl (values _ refl) (decimal size) has names.size_is;
    in_range = names.in_range;
  }
  asks_of verb.Soak other form names = absurd names
  asks_of verb.Continuity other form names = absurd names
  asks_of verb.Learn other form names = absurd names
  asks_of verb.Run other form names = absurd names
  asks_of verb.Import other form names = absurd names
  asks_of verb.Serve other form names = absurd names
  asks_of verb.Report other form names = absurd names
  asks_of verb.Unit other form names = absurd names
  asks_of verb.Export other form names = absurd names

  items_are : (command : Command) (asks : Asks words command) → asks.items ≡ xs
  items_are command asks = let a = asks.falls in cc

  word_is : (command : Command) (asks : Asks words command) → word ≡ word_of command
  word_is command asks =
      let same : word ∷ [] ≡ word_of command ∷ [] = sym one ∙ ap plains (sym (items_are command asks)) ∙ asks.word in
      cc

  settings_are : (command : Command) (asks : Asks words command) → InAnyOrder (options xs) (options_of command)
  settings_are command asks = subst (λ (ys : List Item). InAnyOrder (options ys) (options_of command)) (items_are command asks) asks.settings

  values_are : (v : Verb) (command : Command) → IsForm v word (options xs) → Asks words command → HasValues v value command
  values_are verb.Continuity (Continuity unit) form asks = unit_values value (options xs) (values _ refl) (values _ refl) unit (settings_are (Continuity unit) asks) asks.in_range
  values_are verb.Learn (Learn unit) form asks = unit_values value (options xs) (values _ refl) (values _ refl) unit (settings_are (Learn unit) asks) asks.in_range
  values_are verb.Run Run form asks = tt
  values_are verb.Import Import form asks = tt
  values_are verb.Serve (Serve service) form asks = service_values value (options xs) (values _ refl) (values _ refl) service (settings_are (Serve service) asks) asks.in_range
  values_are verb.Report Report form asks = tt
  values_are verb.Unit (Unit serial) form asks = record { serial_is = one_value value (options xs) _ refl (values _ refl) serial (settings_are (Unit serial) asks); named = asks.in_range }
  values_are verb.Export Export form asks = tt
  values_are verb.Soak (Soak size) form asks = record { size_is = one_value value (options xs) _ refl (values _ refl) (decimal size) (settings_are (Soak size) asks); in_range = asks.in_range }
  values_are verb.Soak other form asks = let both = form_place verb.Soak word (options xs) other form (word_is other asks) in cc
  values_are verb.Continuity other form asks = let both = form_place verb.Continuity word (options xs) other form (word_is other asks) in cc
  values_are verb.Learn other form asks = let both = form_place verb.Learn word (options xs) other form (word_is other asks) in cc
  values_are verb.Run other form asks = let both = form_place verb.Run word (options xs) other form (word_is other asks) in cc
  values_are verb.Import other form asks = let both = form_place verb.Import word (options xs) other form (word_is other asks) in cc
  values_are verb.Serve other form asks = let both = form_place verb.Serve word (options xs) other form (word_is other asks) in cc
  values_are verb.Report other form asks = let both = form_place verb.Report word (options xs) other form (word_is other asks) in cc
  values_are verb.Unit other form asks = let both = form_place verb.Unit word (options xs) other form (word_is other asks) in cc
  values_are verb.Export other form asks = let both = form_place verb.Export word (options xs) other form (word_is other asks) in cc

  pub the_command : (v : Verb) (found : Option Command) → IsForm v word (options xs) → IfSome found (HasValues v value) → IfNone found ((command : Command) → HasValues v value command → ⊥)
      → MatchOption found (IsCommand words → ⊥) (Asks words)
  the_command v None form some none = λ (command, asks). none command (values_are v command form asks)
  the_command v (Some command) form some none = asks_of v command form some

-- ---- words of no form

pub no_items : (words : List Text) → read None words ≡ None → IsCommand words → ⊥
no_items words falls (command, asks) = let a = asks.falls in cc

module _ (words : List Text) (xs : List Item) (falls : read None words ≡ Some xs) (command : Command) (asks : Asks words command) where
  pub the_word : plains xs ≡ word_of command ∷ []
  the_word =
      let a = asks.falls in
      let same : asks.items ≡ xs = cc in
      ap plains (sym same) ∙ asks.word

  the_settings : InAnyOrder (options xs) (options_of command)
  the_settings =
      let a = asks.falls in
      let same : asks.items ≡ xs = cc in
      subst (λ (ys : List Item). InAnyOrder (options ys) (options_of command)) same asks.settings

has_both : (first second v w : Text) (O : List (Text × Text)) → InAnyOrder O ((first, v) ∷ (second, w) ∷ []) → HasBoth first second O
has_both first second v w O (inl e) = (v, w, inl e)
has_both first second v w O (inr e) = (v, w, inr e)

has_one : (name v : Text) (O : List (Text × Text)) → InAnyOrder O ((name, v) ∷ []) → HasOne name O
has_one name v O (inl e) = (v, e)
has_one name v O (inr e) = (v, e)

has_none : (O : List (Text × Text)) → InAnyOrder O [] → O ≡ []
has_none O (inl none) = none
has_none O (inr none) = none

form_of : (command : Command) (O : List (Text × Text)) → InAnyOrder O (options_of command) → (v : Verb) × IsForm v (word_of command) O
form_of (Continuity unit) O settings = (verb.Continuity, (refl, has_both _ _ _ _ O settings))
form_of (Learn unit) O settings = (verb.Learn, (refl, has_both _ _ _ _ O settings))
form_of Run O settings = (verb.Run, (refl, has_none O settings))
form_of Import O settings = (verb.Import, (refl, has_none O settings))
form_of (Serve service) O settings = (verb.Serve, (refl, has_both _ _ _ _ O settings))
form_of Report O settings = (verb.Report, (refl, has_none O settings))
form_of (Unit serial) O settings = (verb.Unit, (refl, has_one _ _ O settings))
form_of Export O settings = (verb.Export, (refl, has_none O settings))
form_of (Soak size) O settings = (verb.Soak, (refl, has_one _ _ O settings))

pub no_form : (words : List Text) (xs : List Item) (word : Text) → read None words ≡ Some xs → plains xs ≡ word ∷ [] → ((v : Verb) → IsForm v word (options xs) → ⊥) → IsCommand words → ⊥
no_form words xs word falls one none (command, asks) =
    let form = form_of command (options xs) (the_settings words xs falls command asks) in
    let same : word ∷ [] ≡ word_of command ∷ [] = sym one ∙ the_word words xs falls command asks in
    let is : word ≡ word_of command = cc in
    none form.0 (subst (λ (w : Text). IsForm form.0 w (options xs)) (sym is) form.1)

one-of : (texts : List (Bor Text)) (d : Bor Text) → 1 ≤ length texts → length texts < 2 → map (λ w. w.now) texts ≡ (get_or texts 0 d).now ∷ []
one-of [] d some few = absurd (omega arith)
one-of (t ∷ []) d some few = refl
one-of (t ∷ u ∷ rest) d some few = absurd (omega arith)

-- the same of the parts that the program keeps
pub no_form_of : (words : List Text) (xs : List Item) (texts : List (Bor Text)) (d : Bor Text) (settings : List (Text × Text)) → read None words ≡ Some xs → map (λ w. w.now) texts ≡ plains xs
    → 1 ≤ length texts → length texts < 2 → settings ≡ options xs → ((v : Verb) → IsForm v (get_or texts 0 d).now settings → ⊥) → IsCommand words → ⊥
no_form_of words xs texts d settings falls are some few same none =
    no_form words xs (get_or texts 0 d).now falls (sym are ∙ one-of texts d some few) (λ v form. none v (subst (λ (o : List (Text × Text)). IsForm v (get_or texts 0 d).now o) (sym same) form))
