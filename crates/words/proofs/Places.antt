-- A command's word, by its place among the words of all commands.
use Rattle.std.proofs.Common.{◌≡◌, ℕ, List, refl, sym, ◌∙◌, ap, codes, if◌then◌else◌}
use Rattle.std.specs.Str.{bytes_eq}
use Rattle.words.specs.Items.{Text}
use Rattle.words.specs.Forms.{IsForm}
use Rattle.words.specs.Words.{word_of}
use Rattle.words.specs.declared.forms.Verb.{Verb}
use Rattle.words.specs.declared.forms.Verb.TheVariants as verb
use Rattle.words.specs.declared.command.Command.{Command}
use Rattle.words.specs.declared.command.Command.TheVariants.{Continuity, Learn, Run, Import, Serve, Report, Unit, Export, Soak}

-- the place of a word
abbrev place : Text → ℕ
place word =
    if bytes_eq word (codes "continuity") then 0 else
    if bytes_eq word (codes "learn") then 1 else
    if bytes_eq word (codes "run") then 2 else
    if bytes_eq word (codes "import") then 3 else
    if bytes_eq word (codes "serve") then 4 else
    if bytes_eq word (codes "report") then 5 else
    if bytes_eq word (codes "unit") then 6 else
    if bytes_eq word (codes "export") then 7 else
    if bytes_eq word (codes "soak") then 8 else
    9

-- the place of a form
abbrev pub place_of_form : Verb → ℕ
place_of_form verb.Continuity = 0
place_of_form verb.Learn = 1
place_of_form verb.Run = 2
place_of_form verb.Import = 3
place_of_form verb.Serve = 4
place_of_form verb.Report = 5
place_of_form verb.Unit = 6
place_of_form verb.Export = 7
place_of_form verb.Soak = 8

-- and of a command
abbrev pub place_of : Command → ℕ
place_of (Continuity unit) = 0
place_of (Learn unit) = 1
place_of Run = 2
place_of Import = 3
place_of (Serve service) = 4
place_of Report = 5
place_of (Unit serial) = 6
place_of Export = 7
place_of (Soak size) = 8

at_form : (v : Verb) (word : Text) (O : List (Text × Text)) → IsForm v word O → place word ≡ place_of_form v
at_form verb.Continuity word O form = ap place form.0
at_form verb.Learn word O form = ap place form.0
at_form verb.Run word O form = ap place form.0
at_form verb.Import word O form = ap place form.0
at_form verb.Serve word O form = ap place form.0
at_form verb.Report word O form = ap place form.0
at_form verb.Unit word O form = ap place form.0
at_form verb.Export word O form = ap place form.0
at_form verb.Soak word O form = ap place form.0

at_command : (c : Command) → place (word_of c) ≡ place_of c
at_command (Continuity unit) = refl
at_command (Learn unit) = refl
at_command Run = refl
at_command Import = refl
at_command (Serve service) = refl
at_command Report = refl
at_command (Unit serial) = refl
at_command Export = refl
at_command (Soak size) = refl

-- a form and a command of one word have one place
pub form_place : (v : Verb) (word : Text) (O : List (Text × Text)) (c : Command) → IsForm v word O → word ≡ word_of c → place_of_form v ≡ place_of c
form_place v word O c form is = sym (at_form v word O form) ∙ ap place is ∙ at_command c

-- and so have two commands
pub command_place : (c d : Command) → word_of c ≡ word_of d → place_of c ≡ place_of d
command_place c d is = sym (at_command c) ∙ ap place is ∙ at_command d
