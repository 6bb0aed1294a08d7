-- `clap` takes the words of a command.
use Rattle.std.proofs.Common.{◌≡◌, ◌∙◌, ◌⊎◌, inl, inr, sym, refl, ap, ℕ, Bool, true, false, ◌&&◌, ◌||◌, ◌==◌, List, [], ◌∷◌, ◌++◌, map, fold, append_assoc, Option, Some, None, is_some, option_map, option_and_then, find, slice_get, codes, if◌then◌else◌}
use Rattle.std.specs.Str.{bytes_eq}
use Rattle.std.proofs.lemmas.List.{append-nil, map-append}
use Rattle.clap.specs.Lexer.{long_of, short_of, strip_byte}
use Rattle.clap.proofs.WalkLemmas.{first_value-rows}
use Rattle.clap.specs.Matches.{first_value}
use Rattle.clap.specs.declared.parser.matches.Found.{Found}
use Rattle.clap.specs.Walk.{first_of, rows_of, Held, Row, Rule, Waiting, Walk, arg_by_id, arg_by_long, at_row, more_values, has_row, with_values, without, idle, option, nothing_held, reacted, settled, settled_rows, used, walked, finished}
use Rattle.clap.specs.Simple.{Shape, built, argument_words, is_simple, matches_of, names_of}
use Rattle.clap.specs.Takes.{takes, settle_passes, turn_passes, walk_passes, use_passes, is_given}
use Rattle.clap.specs.Values.{reading_of}
use Rattle.clap.specs.declared.builder.action.ArgAction.TheVariants.{Set}
use Rattle.clap.specs.declared.builder.value_parser.ValueParser.TheVariants as vp
use Rattle.clap.specs.declared.parser.matches.ValueSource.TheVariants.{CommandLine}
use Rattle.words.specs.Items as items
use Rattle.words.specs.Items.{Text, Item, read, plains, options, plain}
use Rattle.words.specs.Table.{the_app, AreOfTable, HasValue, value_in, IsOfTable, IsAlone, HasOne, HasBoth, option_rule, command_rule}

-- the arguments as building fills them in
abbrev filled_option : Text → Rule
filled_option name = record (option_rule name) { action = Some Set; range = Some (record { start_inclusive = 1; end_inclusive = 1 }); parser = Some vp.String }

abbrev filled_command : Rule
filled_command = record command_rule { action = Some Set; range = Some (record { start_inclusive = 1; end_inclusive = 1 }); parser = Some vp.String; index = Some 1 }

abbrev the_rules : List Rule
the_rules = filled_command ∷ filled_option (codes "serial") ∷ filled_option (codes "attempt") ∷ filled_option (codes "port") ∷ filled_option (codes "count") ∷ filled_option (codes "size") ∷ []

abbrev the_shape : Shape
the_shape = (built the_app).top

rules_are : the_shape.rules ≡ the_rules
rules_are = refl

simple_is : is_simple the_app ≡ true
simple_is = refl

names_are : names_of (built the_app) ≡ []
names_are = refl

words_are : (words : List Text) → argument_words (built the_app) words ≡ words
words_are words = refl

-- the row of an item
abbrev id_of : Item → Text
id_of (plain word) = codes "command"
id_of (items.option name value) = name

abbrev value_of : Item → Text
value_of (plain word) = word
value_of (items.option name value) = value

abbrev row : Item → Row
row x = record { id = id_of x; values = value_of x ∷ []; count = None; source = Some CommandLine; reading = reading_of vp.String }

-- where the walk stands between two words
abbrev at_word : Waiting → Held → ℕ → Walk
at_word waiting h p = record { held = h; waiting = waiting; position = p; is_trailing = false; stopped = None }

-- what is held settles, and is then the rows of these items
record Settles (h : Held) (done : List Item) : Type 0 where
  pub passes : settle_passes the_rules false h ≡ true
  pub rows : settled_rows the_rules h.pending h.rows ≡ map row done

-- the place of the next word that is no option
abbrev place : List Item → ℕ
place [] = 1
place (plain word ∷ xs) = 2
place (items.option name value ∷ xs) = place xs

-- an option's name is known, and an item is not there yet
abbrev IsKnown : Text → Type 0
IsKnown name = (name ≡ codes "serial") ⊎ (name ≡ codes "attempt") ⊎ (name ≡ codes "port") ⊎ (name ≡ codes "count") ⊎ (name ≡ codes "size")

abbrev CanFollow : List Item → Item → Type 0
CanFollow done (plain word) = (has_row (codes "command") (map row done) ≡ false) × (place done ≡ 1) × (strip_byte 45 word ≡ None)
CanFollow done (items.option name value) = (has_row name (map row done) ≡ false) × IsKnown name

abbrev Fits : List Item → List Item → Type 0
Fits done [] = Unit {0}
Fits done (x ∷ xs) = CanFollow done x × Fits (done ++ (x ∷ [])) xs

-- the walk passes these words and holds the items after them
record Ends (waiting : Waiting) (h : Held) (p : ℕ) (words : List Text) (all : List Item) : Type 0 where
  pub passes : walk_passes the_shape [] (at_word waiting h p) words ≡ true
  pub held : Held
  pub ended : fold (walked the_rules []) (at_word waiting h p) words ≡ at_word idle held (place all)
  pub settles : Settles held all

or_false : (a b : Bool) → (a || b) ≡ false → (a ≡ false) × (b ≡ false)
or_false true b e = absurd (cc e)
or_false false b e = (refl, e)

and_false : (b : Bool) → (b && false) ≡ false
and_false true = refl
and_false false = refl

-- the argument of an item
known_rule : (name : Text) → IsKnown name → arg_by_long the_rules name ≡ Some (filled_option name)
known_rule name (inl e) = rw e refl
known_rule name (inr (inl e)) = rw e refl
known_rule name (inr (inr (inl e))) = rw e refl
known_rule name (inr (inr (inr (inl e)))) = rw e refl
known_rule name (inr (inr (inr (inr e)))) = rw e refl

known_id : (name : Text) → IsKnown name → arg_by_id the_rules name ≡ Some (filled_option name)
known_id name (inl e) = rw e refl
known_id name (inr (inl e)) = rw e refl
known_id name (inr (inr (inl e))) = rw e refl
known_id name (inr (inr (inr (inl e)))) = rw e refl
known_id name (inr (inr (inr (inr e)))) = rw e refl

known_same : (name : Text) → IsKnown name → bytes_eq name name ≡ true
known_same name (inl e) = rw e refl
known_same name (inr (inl e)) = rw e refl
known_same name (inr (inr (inl e))) = rw e refl
known_same name (inr (inr (inr (inl e)))) = rw e refl
known_same name (inr (inr (inr (inr e)))) = rw e refl

abbrev rule_for : Item → Rule
rule_for (plain word) = filled_command
rule_for (items.option name value) = filled_option name

-- an id that has no row gets one at the end
at_row-new : (id : Text) (change : Row → List Row) (missing rows : List Row) → has_row id rows ≡ false → at_row id change missing rows ≡ rows ++ missing
at_row-new id change missing [] e = refl
at_row-new id change missing (r ∷ rs) e =
    let both = or_false (bytes_eq r.id id) (has_row id rs) e in
    rw both.0 (ap (λ more. r ∷ more) (at_row-new id change missing rs both.1))

with_values-new : (id : Text) (values : List Text) (rows : List Row) → has_row id rows ≡ false
    → with_values id (reading_of vp.String) CommandLine values (without id rows) ≡ rows ++ (record { id = id; values = values; count = None; source = Some CommandLine; reading = reading_of vp.String } ∷ [])
with_values-new id values rows e =
    rw (at_row-new id (λ _. []) [] rows e, append-nil rows) (at_row-new id (more_values CommandLine values) _ rows e)

used_new : (x : Item) (rows : List Row) → has_row (id_of x) rows ≡ false → used (rule_for x) (value_of x ∷ []) rows ≡ rows ++ (row x ∷ [])
used_new (plain word) rows e = with_values-new (codes "command") (word ∷ []) rows e
used_new (items.option name value) rows e = with_values-new name (value ∷ []) rows e

use_new : (x : Item) (rows : List Row) → has_row (id_of x) rows ≡ false → use_passes false (rule_for x) (value_of x ∷ []) rows ≡ true
use_new (plain word) rows e = rw e refl
use_new (items.option name value) rows e = rw e refl

can-fresh : (done : List Item) (x : Item) → CanFollow done x → has_row (id_of x) (map row done) ≡ false
can-fresh done (plain word) c = c.0
can-fresh done (items.option name value) c = c.0

can-arg : (done : List Item) (x : Item) → CanFollow done x → arg_by_id the_rules (id_of x) ≡ Some (rule_for x)
can-arg done (plain word) c = refl
can-arg done (items.option name value) c = known_id name c.1

map-more : (done : List Item) (x : Item) → map row (done ++ (x ∷ [])) ≡ map row done ++ (row x ∷ [])
map-more done x = map-append row done (x ∷ [])

-- an item that is pending settles
settles_pending : (h : Held) (done : List Item) (x : Item) → CanFollow done x → h.pending ≡ Some (id_of x, value_of x ∷ []) → h.rows ≡ map row done → Settles h (done ++ (x ∷ []))
settles_pending h done x c pending rows =
    let fresh = can-fresh done x c in
    record {
      passes = rw (pending, rows, can-arg done x c) (use_new x (map row done) fresh);
      rows = rw (pending, rows, can-arg done x c) (used_new x (map row done) fresh ∙ sym (map-more done x));
    }

-- an item that was used with its word has settled
settles_used : (h : Held) (done : List Item) (x : Item) → CanFollow done x → Settles h done → Settles (reacted the_rules (rule_for x) (value_of x ∷ []) h) (done ++ (x ∷ []))
settles_used h done x c s = record {
  passes = refl;
  rows = rw s.rows (used_new x (map row done) (can-fresh done x c) ∙ sym (map-more done x));
}

-- the place stays at an option
place-option : (done : List Item) (name value : Text) → place (done ++ (items.option name value ∷ [])) ≡ place done
place-option [] name value = refl
place-option (plain word ∷ xs) name value = refl
place-option (items.option n v ∷ xs) name value = place-option xs name value

place-plain : (done : List Item) (word : Text) → place (done ++ (plain word ∷ [])) ≡ 2
place-plain [] word = refl
place-plain (plain w ∷ xs) word = refl
place-plain (items.option n v ∷ xs) word = place-plain xs word

test_false : (t : Bool) (bs : Text) → ◌≡◌ {A = Option Text} (if t then Some bs else None) None → t ≡ false
test_false true bs e = absurd (cc e)
test_false false bs e = refl

-- a word that begins with no dash is none of the flags
no_dash : (word : Text) → strip_byte 45 word ≡ None → (bytes_eq word (codes "--") ≡ false) × (long_of word ≡ None) × (short_of word ≡ None)
no_dash [] e = (refl, refl, refl)
no_dash (b ∷ bs) e = let other = test_false (b == 45) bs e in rw other (refl, refl, refl)

-- the steps of the walk
step_attached : (h : Held) (p : ℕ) (done : List Item) (word name value : Text) → bytes_eq word (codes "--") ≡ false → long_of word ≡ Some (name, Some value)
    → CanFollow done (items.option name value) → Settles h done
    → (turn_passes the_shape [] (at_word idle h p) word ≡ true) × (walked the_rules [] (at_word idle h p) word ≡ at_word idle (reacted the_rules (filled_option name) (value ∷ []) h) p)
unfolding walked
step_attached h p done word name value other long c s = (
  rw (other, long, known_rule name c.1, s.passes, s.rows, c.0) refl,
  rw (other, long, known_rule name c.1) refl,
)

step_waits : (h : Held) (p : ℕ) (done : List Item) (word name : Text) → bytes_eq word (codes "--") ≡ false → long_of word ≡ Some (name, None)
    → IsKnown name → Settles h done
    → (turn_passes the_shape [] (at_word idle h p) word ≡ true) × (walked the_rules [] (at_word idle h p) word ≡ at_word (option name) (record (settled the_rules h) { pending = Some (name, []) }) p)
unfolding walked
step_waits h p done word name other long known s = (
  rw (other, long, known_rule name known, s.passes) refl,
  rw (other, long, known_rule name known) refl,
)

step_value : (h : Held) (p : ℕ) (word name : Text) → strip_byte 45 word ≡ None → IsKnown name → h.pending ≡ Some (name, [])
    → (turn_passes the_shape [] (at_word (option name) h p) word ≡ true) × (walked the_rules [] (at_word (option name) h p) word ≡ at_word idle (record h { pending = Some (name, word ∷ []) }) p)
unfolding walked
step_value h p word name dash known pending =
    let flags = no_dash word dash in (
      rw (flags.0, flags.1, flags.2) refl,
      rw (flags.0, flags.1, flags.2, known_id name known, pending, known_same name known) refl,
    )

step_plain : (h : Held) (done : List Item) (word : Text) → strip_byte 45 word ≡ None → Settles h done
    → (turn_passes the_shape [] (at_word idle h 1) word ≡ true) × (walked the_rules [] (at_word idle h 1) word ≡ at_word idle (record (settled the_rules h) { pending = Some (codes "command", word ∷ []) }) 2)
unfolding walked
step_plain h done word dash s =
    let flags = no_dash word dash in (
      rw (flags.0, flags.1, flags.2, s.passes, and_false) refl,
      rw (flags.0, flags.1, flags.2, and_false) refl,
    )

-- what a step leaves: the walk passes the word, and then the words after it
abbrev waiting_of : Option Text → Waiting
waiting_of None = idle
waiting_of (Some name) = option name

-- the state between two words, where an option may wait for its value
abbrev State : Option Text → Held → List Item → Type 0
State None h done = Settles h done
State (Some name) h done = (h.pending ≡ Some (name, [])) × (h.rows ≡ map row done) × IsKnown name × (has_row name (map row done) ≡ false)

-- a step and the rest make the whole
after : (waiting next : Waiting) (h h2 : Held) (p p2 : ℕ) (word : Text) (words : List Text) (all : List Item)
    → (turn_passes the_shape [] (at_word waiting h p) word ≡ true) × (walked the_rules [] (at_word waiting h p) word ≡ at_word next h2 p2)
    → Ends next h2 p2 words all → Ends waiting h p (word ∷ words) all
unfolding walk_passes
after waiting next h h2 p p2 word words all step rest = record {
  passes = rw (step.0, step.1) rest.passes;
  held = rest.held;
  ended = rw step.1 rest.ended;
  settles = rest.settles;
}

-- the items after the first
some_of : (o : Option (List Item)) (x : Item) (xs : List Item) → option_map (λ ys. x ∷ ys) o ≡ Some xs → (ys : List Item) × (o ≡ Some ys) × (xs ≡ x ∷ ys)
some_of None x xs e = absurd (cc e)
some_of (Some ys) x xs e = (ys, refl, cc)

none_of : (o : Option Text) → is_some o ≡ false → o ≡ None
none_of None e = refl
none_of (Some t) e = absurd (cc e)

-- the walk over the words after one
abbrev Goes : List Text → Type 0
Goes words = (waiting : Option Text) (h : Held) (done xs : List Item) → read waiting words ≡ Some xs → State waiting h done → Fits done xs → Ends (waiting_of waiting) h (place done) words (done ++ xs)

move : (waiting : Waiting) (h : Held) (p : ℕ) (words : List Text) (done ys xs : List Item) (x : Item) → xs ≡ x ∷ ys → Ends waiting h p words ((done ++ (x ∷ [])) ++ ys) → Ends waiting h p words (done ++ xs)
move waiting h p words done ys xs x e ends = rw (e, ← append_assoc done (x ∷ []) ys) ends

goes_plain : (word : Text) (words : List Text) (h : Held) (done xs : List Item) → Goes words → strip_byte 45 word ≡ None
    → option_map (λ ys. plain word ∷ ys) (read None words) ≡ Some xs → Settles h done → Fits done xs → Ends idle h (place done) (word ∷ words) (done ++ xs)
goes_plain word words h done xs more dash e s f =
    let rest = some_of (read None words) (plain word) xs e in
    let fits = rw rest.2 at f in
    let h2 : Held = record (settled the_rules h) { pending = Some (codes "command", word ∷ []) } in
    let settles = settles_pending h2 done (plain word) fits.0 refl s.rows in
    let ends = rw (place-plain done word) at (more None h2 (done ++ (plain word ∷ [])) rest.0 rest.1 settles fits.1) in
    rw fits.0.1 (after idle idle h h2 1 2 word words (done ++ xs) (step_plain h done word dash s) (move idle h2 2 words done rest.0 xs (plain word) rest.2 ends))

goes_attached : (word : Text) (words : List Text) (h : Held) (done xs : List Item) (name value : Text) → Goes words → bytes_eq word (codes "--") ≡ false → long_of word ≡ Some (name, Some value)
    → option_map (λ ys. items.option name value ∷ ys) (read None words) ≡ Some xs → Settles h done → Fits done xs → Ends idle h (place done) (word ∷ words) (done ++ xs)
goes_attached word words h done xs name value more other long e s f =
    let x = items.option name value in
    let rest = some_of (read None words) x xs e in
    let fits = rw rest.2 at f in
    let h2 : Held = reacted the_rules (filled_option name) (value ∷ []) h in
    let settles = settles_used h done x fits.0 s in
    let ends = rw (place-option done name value) at (more None h2 (done ++ (x ∷ [])) rest.0 rest.1 settles fits.1) in
    after idle idle h h2 (place done) (place done) word words (done ++ xs) (step_attached h (place done) done word name value other long fits.0 s) (move idle h2 (place done) words done rest.0 xs x rest.2 ends)

goes_value : (name word : Text) (words : List Text) (h : Held) (done xs : List Item) → Goes words → strip_byte 45 word ≡ None
    → option_map (λ ys. items.option name word ∷ ys) (read None words) ≡ Some xs → State (Some name) h done → Fits done xs → Ends (option name) h (place done) (word ∷ words) (done ++ xs)
goes_value name word words h done xs more dash e s f =
    let x = items.option name word in
    let rest = some_of (read None words) x xs e in
    let fits = rw rest.2 at f in
    let h2 : Held = record h { pending = Some (name, word ∷ []) } in
    let settles = settles_pending h2 done x fits.0 refl s.1 in
    let ends = rw (place-option done name word) at (more None h2 (done ++ (x ∷ [])) rest.0 rest.1 settles fits.1) in
    after (option name) idle h h2 (place done) (place done) word words (done ++ xs) (step_value h (place done) word name dash s.2 s.0) (move idle h2 (place done) words done rest.0 xs x rest.2 ends)

if_else : {A : Type 0} (t : Bool) (o : Option A) (x : A) → (if t then None else o) ≡ Some x → (t ≡ false) × (o ≡ Some x)
if_else true o x e = absurd (cc e)
if_else false o x e = (refl, e)

-- the option that waits is the first of the items
first_known : (name : Text) (words : List Text) (done xs : List Item) → read (Some name) words ≡ Some xs → Fits done xs → IsKnown name × (has_row name (map row done) ≡ false)
unfolding read
first_known name [] done xs e f = absurd (cc e)
first_known name (word ∷ words) done xs e f =
    let test = if_else (is_some (strip_byte 45 word)) _ xs e in
    let rest = some_of (read None words) (items.option name word) xs test.1 in
    let fits = rw rest.2 at f in
    (fits.0.1, fits.0.0)

goes_word : (word : Text) (words : List Text) (h : Held) (done xs : List Item) (l : Option (Text × Option Text)) → Goes words → bytes_eq word (codes "--") ≡ false → long_of word ≡ l
    → items.began l word (λ waiting. read waiting words) ≡ Some xs → Settles h done → Fits done xs → Ends idle h (place done) (word ∷ words) (done ++ xs)
goes_word word words h done xs None more other long e s f =
    let rest = some_of (read None words) (plain word) xs e in
    let fits = rw rest.2 at f in
    goes_plain word words h done xs more fits.0.2 e s f
goes_word word words h done xs (Some (name, Some value)) more other long e s f = goes_attached word words h done xs name value more other long e s f
goes_word word words h done xs (Some (name, None)) more other long e s f =
    let known = first_known name words done xs e f in
    let h2 : Held = record (settled the_rules h) { pending = Some (name, []) } in
    after idle (option name) h h2 (place done) (place done) word words (done ++ xs) (step_waits h (place done) done word name other long known.0 s)
    (more (Some name) h2 done xs e (refl, s.rows, known.0, known.1) f)

goes : (words : List Text) → Goes words
unfolding read walk_passes
goes [] None h done xs e s f = let nil : ◌≡◌ {A = List Item} [] xs = cc in rw (← nil, append-nil done) (record { passes = refl; held = h; ended = refl; settles = s })
goes [] (Some name) h done xs e s f = absurd (cc e)
goes (word ∷ words) None h done xs e s f =
    let test = if_else (bytes_eq word (codes "--")) _ xs e in
    goes_word word words h done xs (long_of word) (goes words) test.0 refl test.1 s f
goes (word ∷ words) (Some name) h done xs e s f =
    let test = if_else (is_some (strip_byte 45 word)) _ xs e in
    goes_value name word words h done xs (goes words) (none_of _ test.0) test.1 s f

if_same : {A : Type 0} (t : Bool) (x : A) → (if t then x else x) ≡ x
if_same true x = refl
if_same false x = refl

-- no argument has a default, so the end of the walk adds no row
finished_is : (h : Held) (all : List Item) → Settles h all → finished the_rules h ≡ map row all
finished_is h all s = rw (if_same, if_same, if_same, if_same, if_same, if_same) s.rows

-- words whose items fit are taken
takes_fits : (words : List Text) (xs : List Item) → read None words ≡ Some xs → Fits [] xs → is_given (codes "command") (map row xs) ≡ true → takes the_app words ≡ true
takes_fits words xs e f given =
    let start : Settles nothing_held [] = record { passes = refl; rows = refl } in
    let ends = goes words None nothing_held [] xs e start f in
    let finish = finished_is ends.held xs ends.settles in
    rw (ends.ended, ends.passes, ends.settles.passes, finish, given) refl

-- and the matches are the rows of the items
pub matches_fit : (words : List Text) (xs : List Item) → read None words ≡ Some xs → Fits [] xs → matches_of the_app words ≡ map row xs
matches_fit words xs e f =
    let start : Settles nothing_held [] = record { passes = refl; rows = refl } in
    let ends = goes words None nothing_held [] xs e start f in
    let finish = finished_is ends.held xs ends.settles in
    rw ends.ended finish

-- the lists of items with few words and options
no_items : (xs : List Item) → plains xs ≡ [] → options xs ≡ [] → xs ≡ []
no_items [] p o = refl
no_items (plain w ∷ xs) p o = absurd (cc p)
no_items (items.option n v ∷ xs) p o = absurd (cc o)

one_plain : (xs : List Item) (w : Text) → plains xs ≡ w ∷ [] → options xs ≡ [] → xs ≡ plain w ∷ []
one_plain [] w p o = absurd (cc p)
one_plain (plain v ∷ xs) w p o =
    let same : v ≡ w = cc in
    let rest : plains xs ≡ [] = cc in
    rw (same, no_items xs rest o) refl
one_plain (items.option n v ∷ xs) w p o = absurd (cc o)

one_option : (xs : List Item) (n v : Text) → plains xs ≡ [] → options xs ≡ (n, v) ∷ [] → xs ≡ items.option n v ∷ []
one_option [] n v p o = absurd (cc o)
one_option (plain w ∷ xs) n v p o = absurd (cc p)
one_option (items.option m u ∷ xs) n v p o =
    let same : ◌≡◌ {A = Text × Text} (m, u) (n, v) = cc in
    let name : m ≡ n = ap (λ (x : Text × Text). x.0) same in
    let value : u ≡ v = ap (λ (x : Text × Text). x.1) same in
    let rest : options xs ≡ [] = cc in
    rw (no_items xs p rest, name, value) refl

two_options : (xs : List Item) (n v m u : Text) → plains xs ≡ [] → options xs ≡ (n, v) ∷ (m, u) ∷ [] → xs ≡ items.option n v ∷ items.option m u ∷ []
two_options [] n v m u p o = absurd (cc o)
two_options (plain w ∷ xs) n v m u p o = absurd (cc p)
two_options (items.option a b ∷ xs) n v m u p o =
    let same : ◌≡◌ {A = Text × Text} (a, b) (n, v) = cc in
    let name : a ≡ n = ap (λ (x : Text × Text). x.0) same in
    let value : b ≡ v = ap (λ (x : Text × Text). x.1) same in
    let rest : options xs ≡ (m, u) ∷ [] = cc in
    rw (one_option xs m u p rest, name, value) refl

-- a word among one option, and among two
word_and_option : (xs : List Item) (w n v : Text) → plains xs ≡ w ∷ [] → options xs ≡ (n, v) ∷ []
    → (xs ≡ plain w ∷ items.option n v ∷ []) ⊎ (xs ≡ items.option n v ∷ plain w ∷ [])
word_and_option [] w n v p o = absurd (cc p)
word_and_option (plain a ∷ xs) w n v p o =
    let same : a ≡ w = cc in
    let rest : plains xs ≡ [] = cc in
    inl (rw (same, one_option xs n v rest o) refl)
word_and_option (items.option a b ∷ xs) w n v p o =
    let same : ◌≡◌ {A = Text × Text} (a, b) (n, v) = cc in
    let name : a ≡ n = ap (λ (x : Text × Text). x.0) same in
    let value : b ≡ v = ap (λ (x : Text × Text). x.1) same in
    let rest : options xs ≡ [] = cc in
    inr (rw (one_plain xs w p rest, name, value) refl)

word_and_options : (xs : List Item) (w n v m u : Text) → plains xs ≡ w ∷ [] → options xs ≡ (n, v) ∷ (m, u) ∷ []
    → (xs ≡ plain w ∷ items.option n v ∷ items.option m u ∷ []) ⊎ (xs ≡ items.option n v ∷ plain w ∷ items.option m u ∷ []) ⊎ (xs ≡ items.option n v ∷ items.option m u ∷ plain w ∷ [])
word_and_options [] w n v m u p o = absurd (cc p)
word_and_options (plain a ∷ xs) w n v m u p o =
    let same : a ≡ w = cc in
    let rest : plains xs ≡ [] = cc in
    inl (rw (same, two_options xs n v m u rest o) refl)
word_and_options (items.option a b ∷ xs) w n v m u p o =
    let same : ◌≡◌ {A = Text × Text} (a, b) (n, v) = cc in
    let name : a ≡ n = ap (λ (x : Text × Text). x.0) same in
    let value : b ≡ v = ap (λ (x : Text × Text). x.1) same in
    let rest : options xs ≡ (m, u) ∷ [] = cc in
    elim (word_and_option xs w m u p rest) [
      | inl e ↦ inr (inl (rw (e, name, value) refl))
      | inr e ↦ inr (inr (rw (e, name, value) refl))
    ]

-- what `clap` takes of items that are written out
abbrev Taken : List Item → Type 0
Taken xs = Fits [] xs × (is_given (codes "command") (map row xs) ≡ true)

taken_alone : (word : Text) (xs : List Item) → strip_byte 45 word ≡ None → IsAlone word xs → Taken xs
taken_alone word xs dash r = rw (one_plain xs word r.0 r.1) (((refl, refl, dash), tt), refl)

-- an option is known, and its name is not the word's
record IsAside (n : Text) : Type 0 where
  known : IsKnown n
  before : bytes_eq n (codes "command") ≡ false
  behind : bytes_eq (codes "command") n ≡ false

-- two options have other names
record AreApart (n m : Text) : Type 0 where
  one : IsAside n
  two : IsAside m
  before : bytes_eq n m ≡ false
  behind : bytes_eq m n ≡ false

swapped : {n m : Text} → AreApart n m → AreApart m n
swapped a = record { one = a.two; two = a.one; before = a.behind; behind = a.before }

taken_one : (word n : Text) (xs : List Item) → strip_byte 45 word ≡ None → IsAside n → HasOne word n xs → Taken xs
taken_one word n xs dash a r = elim (word_and_option xs word n r.1 r.0 r.2) [
  | inl e ↦ rw e (((refl, refl, dash), ((rw a.behind refl, a.known), tt)), refl)
  | inr e ↦ rw e (((refl, a.known), ((rw a.before refl, refl, dash), tt)), rw a.before refl)
]

taken_order : (word n m v u : Text) (xs : List Item) → strip_byte 45 word ≡ None → AreApart n m → plains xs ≡ word ∷ [] → options xs ≡ (n, v) ∷ (m, u) ∷ [] → Taken xs
taken_order word n m v u xs dash a p o = elim (word_and_options xs word n v m u p o) [
  | inl e ↦ rw e (((refl, refl, dash), ((rw a.one.behind refl, a.one.known), ((rw (a.two.behind, a.before) refl, a.two.known), tt))), refl)
  | inr (inl e) ↦ rw e (((refl, a.one.known), ((rw a.one.before refl, refl, dash), ((rw (a.before, a.two.behind) refl, a.two.known), tt))), rw a.one.before refl)
  | inr (inr e) ↦ rw e (((refl, a.one.known), ((rw a.before refl, a.two.known), ((rw (a.one.before, a.two.before) refl, refl, dash), tt))), rw (a.one.before, a.two.before) refl)
]

taken_both : (word n m : Text) (xs : List Item) → strip_byte 45 word ≡ None → AreApart n m → HasBoth word n m xs → Taken xs
taken_both word n m xs dash a r = elim r.3 [
  | inl o ↦ taken_order word n m r.1 r.2 xs dash a r.0 o
  | inr o ↦ taken_order word m n r.2 r.1 xs dash (swapped a) r.0 o
]

serial : IsAside (codes "serial")
serial = record { known = inl refl; before = refl; behind = refl }

attempt : IsAside (codes "attempt")
attempt = record { known = inr (inl refl); before = refl; behind = refl }

port : IsAside (codes "port")
port = record { known = inr (inr (inl refl)); before = refl; behind = refl }

count : IsAside (codes "count")
count = record { known = inr (inr (inr (inl refl))); before = refl; behind = refl }

size : IsAside (codes "size")
size = record { known = inr (inr (inr (inr refl))); before = refl; behind = refl }

taken_table : (xs : List Item) → IsOfTable xs → Taken xs
taken_table xs (inl r) = taken_both _ _ _ xs refl (record { one = serial; two = attempt; before = refl; behind = refl }) r
taken_table xs (inr (inl r)) = taken_both _ _ _ xs refl (record { one = serial; two = attempt; before = refl; behind = refl }) r
taken_table xs (inr (inr (inl r))) = taken_alone _ xs refl r
taken_table xs (inr (inr (inr (inl r)))) = taken_alone _ xs refl r
taken_table xs (inr (inr (inr (inr (inl r))))) = taken_alone _ xs refl r
taken_table xs (inr (inr (inr (inr (inr (inl r)))))) = taken_alone _ xs refl r
taken_table xs (inr (inr (inr (inr (inr (inr (inl r))))))) = taken_one _ _ xs refl serial r
taken_table xs (inr (inr (inr (inr (inr (inr (inr (inl r)))))))) = taken_both _ _ _ xs refl (record { one = port; two = count; before = refl; behind = refl }) r
taken_table xs (inr (inr (inr (inr (inr (inr (inr (inr r)))))))) = taken_one _ _ xs refl size r

pub takes_command : (words : List Text) → AreOfTable words → takes the_app words ≡ true
takes_command words c = let t = taken_table c.0 c.2 in takes_fits words c.0 c.1 t.0 t.1

-- the value that `clap` has of an option
pub first-row : (name : Text) (xs : List Item) → bytes_eq (codes "command") name ≡ false → first_of name (map row xs) ≡ value_in name (options xs)
first-row name [] other = refl
first-row name (plain word ∷ xs) other = rw other (first-row name xs other)
first-row name (items.option n v ∷ xs) other =
    elim (bytes_eq n name) as (λ t. option_and_then (λ (r : Row). slice_get r.values 0) (if t then Some (row (items.option n v)) else find (λ (r : Row). bytes_eq r.id name) (map row xs)) ≡ (if t then Some v else value_in name (options xs))) [
      | true ↦ refl
      | false ↦ first-row name xs other
    ]

pub value_of_matches : (words : List Text) (name : Text) (f : Found) → bytes_eq (codes "command") name ≡ false → rows_of f ≡ matches_of the_app words → HasValue words name (first_value f name)
value_of_matches words name f other rows = λ xs e r.
    let t = taken_table xs r in
    first_value-rows f name ∙ ap (first_of name) (rows ∙ matches_fit words xs e t.0) ∙ first-row name xs other
