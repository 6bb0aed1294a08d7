-- The tallies of recorded tests.
use Rattle.std.proofs.Common.{◌≡◌, ◌⊎◌, ⊎_elim, ℕ, ◌+◌, ◌≤◌, Bool, true, false, List, [], ◌∷◌, ◌++◌, length, Option, Some, None, refl, sym, ◌∙◌, ap, subst, arith, length-append}
use Rattle.std.specs.Prelude.{◌&&◌, ◌==◌, bytes_eq, filter_map, IfSome, MatchOption, ⊤, if◌then◌else◌}
use Rattle.std.specs.List.{AllByRecursion}
use Rattle.std.proofs.lemmas.Bool.{eqb-true}
use Rattle.std.proofs.lemmas.Bool.Decides.{nat_tests}
use Rattle.std.proofs.lemmas.List.Elements.{filter_map-append}
use Rattle.std.proofs.lemmas.Slice.Eq.{bytes_eq-Decides}
use Rattle.rig.specs.RigState.{RigState}
use Rattle.rig.specs.declared.event.Tally.{Tally}
use Rattle.wirelist.specs.declared.program.Program.{Program}
use Rattle.wirelist.specs.declared.outcome.Outcome.{Outcome}
use Rattle.unit_outcome.specs.Enough.{Enough}
use Rattle.unit_outcome.specs.Tested.{AddsTally, IsTallyOf}
use Rattle.records.specs.declared.record.Body.{Body}
use Rattle.records.specs.declared.record.Body.TheVariants as body
use Rattle.records.specs.declared.record.Staff.{Staff}
use Rattle.records.specs.declared.record.StationRecord.{StationRecord}
use Rattle.serials.specs.Scan.{outcome_in, tests as tests_of}
use Rattle.station.specs.RigAfter.{Leaves}
use Rattle.script.specs.Shown.{is_tally_of, or_this, last_tally, IsShown}
use Rattle.script.proofs.disk.Growing.{all_push}
use Rattle.script.proofs.on_rig.Shapes.{IsNext}

-- ---- the last tally, with one more at the end

other-push : (serial : List ℕ) (attempt : ℕ) (tallies : List Tally) (one : Tally) → is_tally_of serial attempt one ≡ false → last_tally serial attempt (tallies ++ one ∷ []) ≡ last_tally serial attempt tallies
other-push serial attempt [] one is = ap (λ (b : Bool). or_this None b one) is
other-push serial attempt (t ∷ tallies) one is = ap (λ (o : Option Tally). or_this o (is_tally_of serial attempt t) t) (other-push serial attempt tallies one is)

own-push : (serial : List ℕ) (attempt : ℕ) (tallies : List Tally) (one : Tally) → is_tally_of serial attempt one ≡ true → last_tally serial attempt (tallies ++ one ∷ []) ≡ Some one
own-push serial attempt [] one is = ap (λ (b : Bool). or_this None b one) is
own-push serial attempt (t ∷ tallies) one is = ap (λ (o : Option Tally). or_this o (is_tally_of serial attempt t) t) (own-push serial attempt tallies one is)

both_true : (a b : Bool) → a ≡ true → b ≡ true → a && b ≡ true
both_true a b first second = cc

each_true : (a b : Bool) → a && b ≡ true → (a ≡ true) × (b ≡ true)
each_true true true is = (refl, refl)
each_true true false is = cc
each_true false b is = cc

equal_numbers : (a b : ℕ) → a ≡ b → (a == b) ≡ true
equal_numbers a b is = grind (arith, nat_tests)

is_own : (serial : List ℕ) (attempt : ℕ) (tally : Tally) → IsTallyOf serial attempt tally → is_tally_of serial attempt tally ≡ true
is_own serial attempt tally of = both_true (bytes_eq tally.serial serial) (tally.attempt == attempt) ((bytes_eq-Decides tally.serial serial).1 of.0) (equal_numbers tally.attempt attempt of.1)

not_true : (b : Bool) → (b ≡ true → ⊥) → b ≡ false
not_true true never = absurd (never refl)
not_true false never = refl

-- ---- records whose tests have tallies

-- no later test of its serial has its attempt
abbrev pub IsPast : List StationRecord → Body → Type 0
IsPast R (body.Tested serial attempt staff outcome) = attempt ≤ length (tests_of R serial)
IsPast R others = ⊤

-- the records, and the tallies so far
pub record HasTallies (p : Program) (A R : List StationRecord) (tallies : Option (List Tally)) : Type 0 where
  pub shown : IfSome tallies (λ list. AllByRecursion (λ (r : StationRecord). IsShown p list r.body) A)
  pub past : AllByRecursion (λ (r : StationRecord). IsPast R r.body) A

all_map : {A : Type 0} (P Q : A → Type 0) → ((x : A) → P x → Q x) → (xs : List A) → AllByRecursion P xs → AllByRecursion Q xs
all_map P Q more [] all = tt
all_map P Q more (x ∷ xs) all = (more x all.0, all_map P Q more xs all.1)

all_zip : {A : Type 0} (P Q S : A → Type 0) → ((x : A) → P x → Q x → S x) → (xs : List A) → AllByRecursion P xs → AllByRecursion Q xs → AllByRecursion S xs
all_zip P Q S more [] p q = tt
all_zip P Q S more (x ∷ xs) p q = (more x p.0 q.0, all_zip P Q S more xs p.1 q.1)

-- a tally of a later attempt is none of an earlier record
later_is_other : (R : List StationRecord) (serial : List ℕ) (attempt : ℕ) (serial' : List ℕ) (attempt' : ℕ) (tally : Tally) → attempt ≤ length (tests_of R serial) → attempt' ≡ length (tests_of R serial') + 1 → IsTallyOf serial' attempt' tally → is_tally_of serial attempt tally ≡ false
later_is_other R serial attempt serial' attempt' tally past next of = not_true (is_tally_of serial attempt tally) (λ is.
    let each = each_true (bytes_eq tally.serial serial) (tally.attempt == attempt) is in
    let same : serial' ≡ serial = sym of.0 ∙ (bytes_eq-Decides tally.serial serial).0 each.0 in
    let number : tally.attempt ≡ attempt = eqb-true tally.attempt attempt each.1 in
    omega (arith, past, next, of.1, number, ap (λ (s : List ℕ). length (tests_of R s)) same))

-- what is shown of a record is shown after a later tally
shown_later : (p : Program) (R : List StationRecord) (list : List Tally) (one : Tally) (serial' : List ℕ) (attempt' : ℕ) → attempt' ≡ length (tests_of R serial') + 1 → IsTallyOf serial' attempt' one → (b : Body) → IsPast R b → IsShown p list b → IsShown p (list ++ one ∷ []) b
shown_later p R list one serial' attempt' next of (body.Tested serial attempt staff outcome) past shown =
    (shown.0, other-push serial attempt list one (later_is_other R serial attempt serial' attempt' one past next of) ∙ shown.1, shown.2)
shown_later p R list one serial' attempt' next of (body.Adopt q) past shown = tt
shown_later p R list one serial' attempt' next of (body.Enrol s) past shown = tt
shown_later p R list one serial' attempt' next of (body.Calibrate d) past shown = tt
shown_later p R list one serial' attempt' next of body.Mark past shown = tt
shown_later p R list one serial' attempt' next of (body.Rework s) past shown = tt
shown_later p R list one serial' attempt' next of (body.Release s) past shown = tt
shown_later p R list one serial' attempt' next of (body.Scrap s) past shown = tt

-- a tally of the next test came
tally_came : (p : Program) (A R : List StationRecord) (old new : Option (List Tally)) (serial : List ℕ) (attempt : ℕ) → HasTallies p A R old → attempt ≡ length (tests_of R serial) + 1
    → MatchOption old (new ≡ None) (λ tallies. (tally : Tally) × (new ≡ Some (tallies ++ tally ∷ [])) × IsTallyOf serial attempt tally) → HasTallies p A R new
tally_came p A R None new serial attempt has next came = subst (λ (o : Option (List Tally)). HasTallies p A R o) (sym came) has
tally_came p A R (Some list) new serial attempt has next came = subst (λ (o : Option (List Tally)). HasTallies p A R o) (sym came.1) (record {
  shown = all_zip (λ (r : StationRecord). IsPast R r.body) (λ (r : StationRecord). IsShown p list r.body) (λ (r : StationRecord). IsShown p (list ++ came.0 ∷ []) r.body)
      (λ r past shown. shown_later p R list came.0 serial attempt next came.2 r.body past shown) A has.past has.shown;
  past = has.past;
})

pub tallies_stay : (p : Program) (A R : List StationRecord) (old new : RigState) → new.tallies ≡ old.tallies → HasTallies p A R old.tallies → HasTallies p A R new.tallies
tallies_stay p A R old new is has = subst (λ (o : Option (List Tally)). HasTallies p A R o) (sym is) has

pub tallies_grow : (p : Program) (A R : List StationRecord) (old new : RigState) → HasTallies p A R old.tallies → (new.tallies ≡ old.tallies) ⊎ ((serial : List ℕ) × (attempt : ℕ) × (attempt ≡ length (tests_of R serial) + 1) × AddsTally (IsTallyOf serial attempt) old new) → HasTallies p A R new.tallies
tallies_grow p A R old new has grows = ⊎_elim
    (λ same. tallies_stay p A R old new same has)
    (λ one. tally_came p A R old.tallies new.tallies one.0 one.1 has one.2 one.3)
    grows

-- ---- one more record

tests-push : (R : List StationRecord) (r : StationRecord) (serial : List ℕ) → length (tests_of (R ++ r ∷ []) serial) ≡ length (tests_of R serial) + length (tests_of (r ∷ []) serial)
tests-push R r serial = ap length (filter_map-append (outcome_in serial) R (r ∷ [])) ∙ length-append (filter_map (outcome_in serial) R) (filter_map (outcome_in serial) (r ∷ []))

past_more : (R : List StationRecord) (r : StationRecord) (b : Body) → IsPast R b → IsPast (R ++ r ∷ []) b
past_more R r (body.Tested serial attempt staff outcome) past = omega (arith, past, tests-push R r serial)
past_more R r (body.Adopt q) past = tt
past_more R r (body.Enrol s) past = tt
past_more R r (body.Calibrate d) past = tt
past_more R r body.Mark past = tt
past_more R r (body.Rework s) past = tt
past_more R r (body.Release s) past = tt
past_more R r (body.Scrap s) past = tt

same_bytes : (serial : List ℕ) → bytes_eq serial serial ≡ true
same_bytes serial = (bytes_eq-Decides serial serial).1 refl

own_test : (r : StationRecord) (serial : List ℕ) (attempt : ℕ) (staff : Option Staff) (outcome : Outcome) → r.body ≡ body.Tested serial attempt staff outcome → length (tests_of (r ∷ []) serial) ≡ 1
own_test r serial attempt staff outcome is =
    let found : outcome_in serial r ≡ Some outcome = ap (λ (b : Body). outcome_in serial (record r { body = b })) is ∙ ap (λ (x : Bool). if x then Some outcome else None) (same_bytes serial) in
    rw found refl

-- the record of the next test
past_own : (R : List StationRecord) (r : StationRecord) (b : Body) → r.body ≡ b → IsNext R b → IsPast (R ++ r ∷ []) b
past_own R r (body.Tested serial attempt staff outcome) is next = omega (arith, next, tests-push R r serial, own_test r serial attempt staff outcome is)
past_own R r (body.Adopt q) is next = tt
past_own R r (body.Enrol s) is next = tt
past_own R r (body.Calibrate d) is next = tt
past_own R r body.Mark is next = tt
past_own R r (body.Rework s) is next = tt
past_own R r (body.Release s) is next = tt
past_own R r (body.Scrap s) is next = tt

-- the records are one more, of what the rig shows
record_more : (p : Program) (A R : List StationRecord) (r : StationRecord) (tallies : Option (List Tally)) → HasTallies p A R tallies → IsNext R r.body → IfSome tallies (λ list. IsShown p list r.body) → HasTallies p (A ++ r ∷ []) (R ++ r ∷ []) tallies
record_more p A R r None has next shown = record {
  shown = tt;
  past = all_push (λ (x : StationRecord). IsPast (R ++ r ∷ []) x.body) A r (all_map (λ (x : StationRecord). IsPast R x.body) (λ (x : StationRecord). IsPast (R ++ r ∷ []) x.body) (λ x past. past_more R r x.body past) A has.past) (past_own R r r.body refl next);
}
record_more p A R r (Some list) has next shown = record {
  shown = all_push (λ (x : StationRecord). IsShown p list x.body) A r has.shown shown;
  past = all_push (λ (x : StationRecord). IsPast (R ++ r ∷ []) x.body) A r (all_map (λ (x : StationRecord). IsPast R x.body) (λ (x : StationRecord). IsPast (R ++ r ∷ []) x.body) (λ x past. past_more R r x.body past) A has.past) (past_own R r r.body refl next);
}

-- the tally of a test that was recorded
tally_tested : (p : Program) (A R : List StationRecord) (old new : Option (List Tally)) (serial : List ℕ) (attempt : ℕ) (staff : Option Staff) (outcome : Outcome) → HasTallies p A R old → attempt ≡ length (tests_of R serial) + 1
    → MatchOption old (new ≡ None) (λ tallies. (tally : Tally) × (new ≡ Some (tallies ++ tally ∷ [])) × (IsTallyOf serial attempt tally × Enough p outcome tally))
    → HasTallies p A R new × IfSome new (λ list. IsShown p list (body.Tested serial attempt staff outcome))
tally_tested p A R None new serial attempt staff outcome has next came =
    (subst (λ (o : Option (List Tally)). HasTallies p A R o) (sym came) has, subst (λ (o : Option (List Tally)). IfSome o (λ list. IsShown p list (body.Tested serial attempt staff outcome))) (sym came) tt)
tally_tested p A R (Some list) new serial attempt staff outcome has next (tally, is, (of, enough)) = (
  tally_came p A R (Some list) new serial attempt has next (tally, is, of),
  subst (λ (o : Option (List Tally)). IfSome o (λ l. IsShown p l (body.Tested serial attempt staff outcome))) (sym is) (tally, own-push serial attempt list tally (is_own serial attempt tally of), enough),
)

pub some_all : {A : Type 0} (o : Option A) (P : A → Type 0) → ((x : A) → P x) → IfSome o P
some_all None P all = tt
some_all (Some x) P all = all x

-- a record that is no test
other_added : (p : Program) (A R : List StationRecord) (old new : RigState) (b : Body) → HasTallies p A R old.tallies → new ≡ old → ((list : List Tally) → IsShown p list b) → HasTallies p A R new.tallies × IfSome new.tallies (λ list. IsShown p list b)
other_added p A R old new b has same shown = (tallies_stay p A R old new (ap (λ (r : RigState). r.tallies) same) has, some_all new.tallies (λ list. IsShown p list b) shown)

-- what the rig shows of the record that was added
pub shown_added : (p : Program) (A R : List StationRecord) (old new : RigState) (b : Body) → HasTallies p A R old.tallies → IsNext R b → Leaves p b old new → HasTallies p A R new.tallies × IfSome new.tallies (λ list. IsShown p list b)
shown_added p A R old new (body.Tested serial attempt staff outcome) has next leaves = tally_tested p A R old.tallies new.tallies serial attempt staff outcome has next leaves.tally
shown_added p A R old new (body.Adopt q) has next leaves = other_added p A R old new (body.Adopt q) has leaves (λ list. tt)
shown_added p A R old new (body.Enrol s) has next leaves = other_added p A R old new (body.Enrol s) has leaves (λ list. tt)
shown_added p A R old new (body.Calibrate d) has next leaves = other_added p A R old new (body.Calibrate d) has leaves (λ list. tt)
shown_added p A R old new body.Mark has next leaves = other_added p A R old new body.Mark has leaves (λ list. tt)
shown_added p A R old new (body.Rework s) has next leaves = other_added p A R old new (body.Rework s) has leaves (λ list. tt)
shown_added p A R old new (body.Release s) has next leaves = other_added p A R old new (body.Release s) has leaves (λ list. tt)
shown_added p A R old new (body.Scrap s) has next leaves = other_added p A R old new (body.Scrap s) has leaves (λ list. tt)

pub tallies_added : (p : Program) (A R : List StationRecord) (old new : RigState) (r : StationRecord) → HasTallies p A R old.tallies → IsNext R r.body → Leaves p r.body old new → HasTallies p (A ++ r ∷ []) (R ++ r ∷ []) new.tallies
tallies_added p A R old new r has next leaves = let both = shown_added p A R old new r.body has next leaves in record_more p A R r new.tallies both.0 next both.1
