-- What holds of each decision, and how the bodies take the table apart.
use Rattle.std.proofs.Common.{◌≡◌, ◌⊎◌, inl, inr, ℕ, zero, suc, ◌≤◌, Bool, true, false, not, nat_le, if◌then◌else◌, List, [], ◌∷◌, length, slice_get, Option, None, Some, option_and_then, is_none, refl, sym, ap, ◌∙◌, subst, arith}
use Rattle.std.specs.Option.{option_or}
use Rattle.std.proofs.lemmas.Bool.{leb-false}
use Rattle.wirelist.specs.declared.program.Program.{Program}
use Rattle.records.specs.declared.record.Staff.{Staff}
use Rattle.records.specs.declared.record.StationRecord.{StationRecord}
use Rattle.serials.specs.declared.command.Command.{Command}
use Rattle.serials.specs.declared.command.Command.TheVariants as command
use Rattle.serials.specs.declared.decision.Rule.{Rule}
use Rattle.serials.specs.declared.decision.Rule.TheVariants as rule
use Rattle.serials.specs.declared.decision.Decision.{Decision}
use Rattle.serials.specs.declared.decision.Decision.TheVariants as decision
use Rattle.serials.specs.declared.facts.SerialFacts.{SerialFacts}
use Rattle.serials.specs.Commands.{id_of}
use Rattle.serials.specs.Scan.{by_id, has_id, tests, last_program}
use Rattle.serials.specs.SamePrograms.{same_program}
use Rattle.serials.specs.Facts.{history}
use Rattle.serials.specs.Decide.{when, no_wirelist, differs, calibration_over, not_marked, staff_missing, not_enrolled, released, scrapped, passed_already, rework_owed, attempts_used, table, first_rule, allowed, by_rules, again, decided, decide, repeats_at}
use Rattle.serials.specs.Decided.{IsDecided}
use Rattle.serials.specs.Laws.{TakenIdLaw}
use Rattle.serials.specs.RuleParts.{a_test, unit_rule, test_rule, testing_rule, IsFewTests}
use Rattle.serials.proofs.Pushed.{first_number-within}

-- no rule applies, so none behind the first does
later : (a b : Option Rule) → option_or a b ≡ None → b ≡ None
later None b e = e
later (Some r) b e = absurd cc

earlier : (a b : Option Rule) → option_or a b ≡ None → a ≡ None
earlier None b e = refl
earlier (Some r) b e = absurd cc

not_when : (b : Bool) (r : Rule) → when b r ≡ None → b ≡ false
not_when true r e = absurd cc
not_when false r e = refl

none_in : (xs : List (Option Rule)) → first_rule xs ≡ None → (k : ℕ) (o : Option Rule) → slice_get xs k ≡ Some o → o ≡ None
none_in [] e k o is = absurd cc
none_in (x ∷ xs) e zero o is = let same : x ≡ o = cc in sym same ∙ earlier x (first_rule xs) e
none_in (x ∷ xs) e (suc k) o is = none_in xs (later x (first_rule xs) e) k o is

-- a test that no rule is against is one of the program's attempts
pub few_tests : (R : List StationRecord) (c : Command) (moment : ℕ) (p : Program) → first_rule (table R c moment p) ≡ None → IsFewTests R c p.attempts
few_tests R (command.Test id serial staff) moment p none =
    let c : Command = command.Test id serial staff in
    let attempts = none_in (table R c moment p) none 14 (attempts_used R p c) refl in
    leb-false p.attempts (length (tests R serial)) (not_when (nat_le p.attempts (length (tests R serial))) (rule.AttemptsUsed p.attempts) attempts)
few_tests R others moment p none = tt

allowed_is : (R : List StationRecord) (c : Command) (p : Program) → IsFewTests R c p.attempts → IsDecided R c p (allowed R c)
allowed_is R (command.Test id serial staff) p few = (tt, omega arith, omega arith)
allowed_is R others p few = tt

by_rules_is : (R : List StationRecord) (c : Command) (moment : ℕ) (p : Program) (o : Option Rule) → first_rule (table R c moment p) ≡ o → IsDecided R c p (by_rules R c o)
by_rules_is R c moment p (Some r) is = tt
by_rules_is R c moment p None is = allowed_is R c p (few_tests R c moment p is)

again_is : (R : List StationRecord) (c : Command) (p : Program) (n : ℕ) (b : Bool) → (1 ≤ n) × (n ≤ length R) → IsDecided R c p (if b then decision.Same n else decision.No (rule.IdTaken n))
again_is R c p n true within = within
again_is R c p n false within = tt

decided_is : (R : List StationRecord) (c : Command) (moment : ℕ) (p : Program) (o : Option ℕ) → by_id R (id_of c) ≡ o → IsDecided R c p (decided R c moment p o)
decided_is R c moment p (Some n) is = again_is R c p n (repeats_at R n c p) (first_number-within (has_id (id_of c)) R n is)
decided_is R c moment p None is = by_rules_is R c moment p (first_rule (table R c moment p)) refl

pub decide_is : (R : List StationRecord) (c : Command) (moment : ℕ) (p : Program) → IsDecided R c p (decide R c moment p)
unfolding decide
decide_is R c moment p = decided_is R c moment p (by_id R (id_of c)) refl

-- the number of a record is not 0
pub is_number : (R : List StationRecord) (id : List ℕ) (n : ℕ) → by_id R id ≡ Some n → 1 ≤ n
is_number R id n is = (first_number-within (has_id id) R n is).0

-- ---- the two ways of a decision

pub decide-again : (R : List StationRecord) (c : Command) (moment : ℕ) (p : Program) (id : List ℕ) (n : ℕ) → id ≡ id_of c → by_id R id ≡ Some n → decide R c moment p ≡ again R n c p
unfolding decide
decide-again R c moment p id n same is = ap (λ (o : Option ℕ). decided R c moment p o) (ap (λ (k : List ℕ). by_id R k) (sym same) ∙ is)

pub decide-rules : (R : List StationRecord) (c : Command) (moment : ℕ) (p : Program) (id : List ℕ) (o : Option Rule) → id ≡ id_of c → by_id R id ≡ None → o ≡ first_rule (table R c moment p)
    → decide R c moment p ≡ by_rules R c o
unfolding decide
decide-rules R c moment p id o same is ruled = ap (λ (k : Option ℕ). decided R c moment p k) (ap (λ (k : List ℕ). by_id R k) (sym same) ∙ is) ∙ ap (by_rules R c) (sym ruled)

pub all_decided : (R : List StationRecord) (c : Command) (moment : ℕ) (p : Program) (d : Decision) → d ≡ decide R c moment p → IsDecided R c p d
all_decided R c moment p d is = subst (λ (x : Decision). IsDecided R c p x) (sym is) (decide_is R c moment p)

-- ---- rules one after the other

pub or_none : (a : Option Rule) → option_or a None ≡ a
or_none None = refl
or_none (Some r) = refl

or_two : (a b c : Option Rule) → option_or (option_or a b) c ≡ option_or a (option_or b c)
or_two None b c = refl
or_two (Some r) b c = refl

or_three : (a b c d : Option Rule) → option_or (option_or a (option_or b c)) d ≡ option_or a (option_or b (option_or c d))
or_three a b c d = or_two a (option_or b c) d ∙ ap (option_or a) (or_two b c d)

or_five : (a b c d e r : Option Rule) → option_or (option_or a (option_or b (option_or c (option_or d e)))) r ≡ option_or a (option_or b (option_or c (option_or d (option_or e r))))
or_five a b c d e r =
    or_two a (option_or b (option_or c (option_or d e))) r ∙ ap (option_or a) (or_two b (option_or c (option_or d e)) r ∙ ap (option_or b) (or_three c d e r))

or_last : (a b c : Option Rule) → option_or a (option_or b c) ≡ option_or a (option_or b (option_or c None))
or_last a b c = ap (λ (x : Option Rule). option_or a (option_or b x)) (sym (or_none c))

pub enrol_table : (a b : Option Rule) → option_or a b ≡ option_or a (option_or b None)
enrol_table a b = ap (option_or a) (sym (or_none b))

-- the rules against a test are those of the station, and then those of the unit
pub test_table : (R : List StationRecord) (id serial : List ℕ) (staff : Option Staff) (moment : ℕ) (p : Program)
    → option_or (testing_rule R staff moment p) (option_or (unit_rule (history R serial)) (test_rule (history R serial) p.attempts)) ≡ first_rule (table R (command.Test id serial staff) moment p)
test_table R id serial staff moment p =
    let c : Command = command.Test id serial staff in
    let f : SerialFacts = history R serial in
    ap (λ (x : Option Rule). option_or (testing_rule R staff moment p) x)
    (or_three (not_enrolled R c) (released R c) (scrapped R c) (test_rule f p.attempts)
    ∙ ap (λ (x : Option Rule). option_or (not_enrolled R c) (option_or (released R c) (option_or (scrapped R c) x))) (or_last (passed_already R c) (rework_owed R c) (attempts_used R p c)))
    ∙ or_five (no_wirelist R c) (differs R p c) (calibration_over R moment c) (not_marked R c) (staff_missing R c)
    (option_or (not_enrolled R c) (option_or (released R c) (option_or (scrapped R c) (option_or (passed_already R c) (option_or (rework_owed R c) (option_or (attempts_used R p c) None))))))

-- with the adopted program, the calibration and the mark decide
pub testing_adopted : (R : List StationRecord) (staff : Option Staff) (moment : ℕ) (p q : Program) → Some q ≡ last_program R → true ≡ same_program q p
    → option_or (calibration_over R moment (a_test staff)) (option_or (not_marked R (a_test staff)) (staff_missing R (a_test staff))) ≡ testing_rule R staff moment p
testing_adopted R staff moment p q is same =
    let more : Option Rule = option_or (calibration_over R moment (a_test staff)) (option_or (not_marked R (a_test staff)) (staff_missing R (a_test staff))) in
    subst (λ (o : Option Program). more ≡ option_or (when (is_none o) rule.NoWirelist) (option_or (option_and_then (λ (x : Program). when (not (same_program x p)) rule.Differs) o) more)) is
    (ap (λ (b : Bool). option_or (when (not b) rule.Differs) more) same)

-- the rules against a command are those against the variant that it is
pub at_command : (R : List StationRecord) (c d : Command) (moment : ℕ) (p : Program) (o : Option Rule) → c ≡ d → o ≡ first_rule (table R d moment p) → o ≡ first_rule (table R c moment p)
at_command R c d moment p o is same = same ∙ ap (λ (x : Command). first_rule (table R x moment p)) (sym is)

-- the rules of the station let a test pass, and those of the unit decide
pub test_passed : (R : List StationRecord) (id serial : List ℕ) (staff : Option Staff) (moment : ℕ) (p : Program) (o : Option Rule) → None ≡ testing_rule R staff moment p
    → o ≡ option_or (unit_rule (history R serial)) (test_rule (history R serial) p.attempts) → o ≡ first_rule (table R (command.Test id serial staff) moment p)
test_passed R id serial staff moment p o none is =
    is ∙ ap (λ (x : Option Rule). option_or x (option_or (unit_rule (history R serial)) (test_rule (history R serial) p.attempts))) none ∙ test_table R id serial staff moment p

-- ---- the law of ids

same_or_taken : (n : ℕ) (b : Bool) → let d : Decision = if b then decision.Same n else decision.No (rule.IdTaken n) in (d ≡ decision.Same n) ⊎ (d ≡ decision.No (rule.IdTaken n))
same_or_taken n true = inl refl
same_or_taken n false = inr refl

pub taken_id : TakenIdLaw
taken_id R c moment p number is =
    subst (λ (d : Decision). (d ≡ decision.Same number) ⊎ (d ≡ decision.No (rule.IdTaken number))) (sym (decide-again R c moment p (id_of c) number refl is)) (same_or_taken number (repeats_at R number c p))
