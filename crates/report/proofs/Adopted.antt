-- The program that was adopted last, record by record.
use Rattle.std.proofs.Common.{◌≡◌, ℕ, ◌+◌, ◌<◌, List, [], ◌∷◌, ◌++◌, length, take, get_or, Option, None, Some, refl, sym, ◌∙◌, ap}
use Rattle.std.specs.Prelude.{All, IfSome, filter_map, option_copied}
use Rattle.std.specs.Borrow.{Bor}
use Rattle.std.specs.List.{last_or, cons_option}
use Rattle.std.specs.Option.{option_or}
use Rattle.std.proofs.lemmas.List.{take_more}
use Rattle.std.proofs.lemmas.List.Elements.{All-head, All-tail}
use Rattle.wirelist.specs.declared.program.Program.{Program}
use Rattle.records.specs.RecordRanges.{IsBody, IsRecord}
use Rattle.records.specs.declared.record.Body.{Body}
use Rattle.records.specs.declared.record.Body.TheVariants.{Adopt, Enrol, Calibrate, Tested, Rework, Release, Scrap, Mark}
use Rattle.records.specs.declared.record.StationRecord.{StationRecord}
use Rattle.serials.specs.Scan.{last_program, program_in}
use Rattle.serials.proofs.Pushed.{last_of-push}
use Rattle.outcome_lines.specs.Labels.{HasLabels}
use Rattle.report.specs.Programs.{program_after}

-- ---- one record more

-- the records up to one of them
pub up_to : (R : List StationRecord) (k : ℕ) (r : StationRecord) → k < length R → r ≡ get_or R k r → take (k + 1) R ≡ take k R ++ r ∷ []
up_to R k r inside is = take_more R k r inside ∙ ap (λ (x : StationRecord). take k R ++ x ∷ []) (sym is)

none_new : (o : Option Program) → option_or None o ≡ o
none_new None = refl
none_new (Some p) = refl

by_body : (adopted : Option Program) (id : List ℕ) (moment : ℕ) (b : Body) → option_or (program_in (record { id = id; moment = moment; body = b })) adopted ≡ program_after adopted b
by_body adopted id moment (Adopt p) = refl
by_body adopted id moment (Enrol s) = none_new adopted
by_body adopted id moment (Calibrate d) = none_new adopted
by_body adopted id moment (Tested s a t o) = none_new adopted
by_body adopted id moment (Rework s) = none_new adopted
by_body adopted id moment (Release s) = none_new adopted
by_body adopted id moment (Scrap s) = none_new adopted
by_body adopted id moment Mark = none_new adopted

pub program_more : (R : List StationRecord) (k : ℕ) (r : StationRecord) → k < length R → r ≡ get_or R k r → (adopted after : Option Program) → adopted ≡ last_program (take k R) → after ≡ program_after adopted r.body
    → after ≡ last_program (take (k + 1) R)
program_more R k r inside is adopted after so_far step =
    step
    ∙ ap (λ (o : Option Program). program_after o r.body) so_far
    ∙ sym (by_body (last_program (take k R)) r.id r.moment r.body)
    ∙ sym (last_of-push program_in (take k R) r)
    ∙ ap last_program (sym (up_to R k r inside is))

-- ---- its labels

labels_by_body : (id : List ℕ) (moment : ℕ) (b : Body) → IsBody b → IfSome (program_in (record { id = id; moment = moment; body = b })) HasLabels
labels_by_body id moment (Adopt p) program = record { names = program.one_each; inside = program.components.inside }
labels_by_body id moment (Enrol s) ok = tt
labels_by_body id moment (Calibrate d) ok = tt
labels_by_body id moment (Tested s a t o) ok = tt
labels_by_body id moment (Rework s) ok = tt
labels_by_body id moment (Release s) ok = tt
labels_by_body id moment (Scrap s) ok = tt
labels_by_body id moment Mark ok = tt

behind : (o y : Option Program) (ys : List Program) → IfSome o HasLabels → IfSome y HasLabels → ((z : Option Program) → IfSome z HasLabels → IfSome (last_or z ys) HasLabels)
    → IfSome (last_or o (cons_option y ys)) HasLabels
behind o None ys here new rest = rest o here
behind o (Some p) ys here new rest = rest (Some p) new

last_labels : (o : Option Program) (R : List StationRecord) → IfSome o HasLabels → All IsRecord R → IfSome (last_or o (filter_map program_in R)) HasLabels
last_labels o [] here all = here
last_labels o (r ∷ R) here all =
    let first = All-head IsRecord r R all in
    behind o (program_in r) (filter_map program_in R) here (labels_by_body r.id r.moment r.body first.body) (λ z there. last_labels z R there (All-tail IsRecord r R all))

pub program_labels : (R : List StationRecord) → All IsRecord R → IfSome (last_program R) HasLabels
program_labels R all = last_labels None R tt all

-- what holds of what a reference points to
pub copied_some : (P : Program → Type 0) (o : Option (Bor Program)) → IfSome (option_copied o) P → IfSome o (λ (p : Bor Program). P p.now)
copied_some P None h = tt
copied_some P (Some p) h = h
