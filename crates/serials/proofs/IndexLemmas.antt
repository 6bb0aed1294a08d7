-- The index of some records, with one record more.
use Rattle.std.proofs.Common.{◌≡◌, ℕ, zero, suc, ◌+◌, ◌<◌, Bool, true, false, ◌||◌, cond, if◌then◌else◌, ◌≤◌, List, [], ◌∷◌, ◌++◌, length, take, get_or, slice_get, filter_map, add-one, Option, None, Some, option_and_then, is_some, unwrap_or, IfSome, bytes_eq, refl, sym, ap, ◌∙◌, subst, arith, length-append}
use Rattle.std.specs.Option.{option_or}
use Rattle.std.specs.List.{cons_option}
use Rattle.std.specs.Map.{lookup}
use Rattle.std.specs.BTreeMap.{BTreeMap, get, is_at}
use Rattle.std.proofs.Math.Seq.{take-suc}
use Rattle.std.proofs.lemmas.List.{length-take}
use Rattle.std.specs.Ordering.{nat_cmp, is_eq}
use Rattle.std.specs.Cmp.Lexicographic.{slice_cmp}
use Rattle.std.proofs.lemmas.Map.Text.{is_eq-slice_cmp}
use Rattle.std.proofs.lemmas.Slice.Eq.{bytes_eq-Decides}
use Rattle.wirelist.specs.declared.program.Program.{Program}
use Rattle.records.specs.declared.record.Body.{Body}
use Rattle.records.specs.declared.record.Body.TheVariants.{Adopt, Enrol, Calibrate, Tested, Rework, Release, Scrap, Mark}
use Rattle.records.specs.declared.record.StationRecord.{StationRecord}
use Rattle.serials.specs.declared.facts.SerialFacts.{SerialFacts}
use Rattle.serials.specs.declared.facts.StationFacts.{StationFacts}
use Rattle.serials.specs.declared.index.Index.{Index}
use Rattle.serials.specs.Scan.{has_id, outcome_in, names_in, program_in, day_in, marks, last_program, last_calibration, first_mark, is_known}
use Rattle.serials.specs.Facts.{history, facts_of}
use Rattle.serials.specs.FactsAfter.{facts_after, station_after, entry_after, no_facts}
use Rattle.serials.specs.IsIndex.{IsIndex, program_at}
use Rattle.serials.proofs.Pushed.{first_number-push, last_of-push}
use Rattle.serials.proofs.HistoryLemmas.{history-after, known-after}

slice_get-append : {A : Type 0} (xs ys : List A) (k : ℕ) → k < length xs → slice_get (xs ++ ys) k ≡ slice_get xs k
slice_get-append [] ys k lt = absurd (omega arith)
slice_get-append (x ∷ xs) ys zero lt = refl
slice_get-append (x ∷ xs) ys (suc k) lt = slice_get-append xs ys k (omega arith)

pub slice_get-push : {A : Type 0} (xs : List A) (y : A) → slice_get (xs ++ y ∷ []) (length xs) ≡ Some y
slice_get-push [] y = refl
slice_get-push (x ∷ xs) y = slice_get-push xs y

-- ---- one entry more

same_bytes : (a b : List ℕ) → bytes_eq a b ≡ true → a ≡ b
same_bytes a b e = (bytes_eq-Decides a b).0 e

-- which way a test of two texts goes, either way round
either_way : (a b : List ℕ) (x y : Bool) → bytes_eq a b ≡ x → bytes_eq b a ≡ y → x ≡ y
either_way a b true true e f = refl
either_way a b false false e f = refl
either_way a b true false e f = let back = (bytes_eq-Decides b a).1 (sym (same_bytes a b e)) in cc
either_way a b false true e f = let back = (bytes_eq-Decides a b).1 (sym (same_bytes b a f)) in cc

bytes_eq-comm : (a b : List ℕ) → bytes_eq a b ≡ bytes_eq b a
bytes_eq-comm a b = either_way a b (bytes_eq a b) (bytes_eq b a) refl refl

-- a key that was not there
new_entry : (id q : List ℕ) (number : ℕ) (o : Option ℕ) (b : Bool) → bytes_eq id q ≡ b → (id ≡ q → o ≡ None) → cond b (Some number) o ≡ option_or o (if b then Some number else None)
new_entry id q number o true e absent = let none = absent (same_bytes id q e) in rw none refl
new_entry id q number None false e absent = refl
new_entry id q number (Some k) false e absent = refl

pub id_inserted : (m n : BTreeMap (List ℕ) ℕ) (id q : List ℕ) (number : ℕ) → get (slice_cmp nat_cmp) m id ≡ None
    → get (slice_cmp nat_cmp) n q ≡ cond (is_eq (slice_cmp nat_cmp id q)) (Some number) (get (slice_cmp nat_cmp) m q)
    → get (slice_cmp nat_cmp) n q ≡ option_or (get (slice_cmp nat_cmp) m q) (if bytes_eq q id then Some number else None)
id_inserted m n id q number absent is =
    let at : ℕ → Option ℕ = λ k. Some k in
    is
    ∙ ap (λ (b : Bool). cond b (Some number) (get (slice_cmp nat_cmp) m q)) (is_eq-slice_cmp id q)
    ∙ new_entry id q number (get (slice_cmp nat_cmp) m q) (bytes_eq id q) refl (λ e. ap (λ (k : List ℕ). get (slice_cmp nat_cmp) m k) (sym e) ∙ absent)
    ∙ ap (λ (b : Bool). option_or (get (slice_cmp nat_cmp) m q) (if b then Some number else None)) (bytes_eq-comm id q)

there_stays : (o : Option ℕ) (number : ℕ) (b : Bool) → (b ≡ true → is_some o ≡ true) → o ≡ option_or o (if b then Some number else None)
there_stays None number true there = let found = there refl in absurd cc
there_stays None number false there = refl
there_stays (Some k) number b there = refl

pub id_there : (m : BTreeMap (List ℕ) ℕ) (id q : List ℕ) (number : ℕ) → is_some (get (slice_cmp nat_cmp) m id) ≡ true
    → get (slice_cmp nat_cmp) m q ≡ option_or (get (slice_cmp nat_cmp) m q) (if bytes_eq q id then Some number else None)
id_there m id q number there =
    there_stays (get (slice_cmp nat_cmp) m q) number (bytes_eq q id) (λ e. ap (λ (k : List ℕ). is_some (get (slice_cmp nat_cmp) m k)) (same_bytes q id e) ∙ there)

-- a key that is taken off again
taken_off : (id q : List ℕ) (number : ℕ) (o : Option ℕ) (b : Bool) → bytes_eq id q ≡ b → (id ≡ q → o ≡ None) → cond b None (option_or o (if b then Some number else None)) ≡ o
taken_off id q number o true e absent = sym (absent (same_bytes id q e))
taken_off id q number None false e absent = refl
taken_off id q number (Some k) false e absent = refl

pub id_removed : (m n w : BTreeMap (List ℕ) ℕ) (id q : List ℕ) (number : ℕ) → get (slice_cmp nat_cmp) m id ≡ None
    → get (slice_cmp nat_cmp) n q ≡ option_or (get (slice_cmp nat_cmp) m q) (if bytes_eq q id then Some number else None)
    → get (slice_cmp nat_cmp) w q ≡ cond (is_eq (slice_cmp nat_cmp id q)) None (get (slice_cmp nat_cmp) n q)
    → get (slice_cmp nat_cmp) w q ≡ get (slice_cmp nat_cmp) m q
id_removed m n w id q number absent noted is =
    is
    ∙ ap (λ (b : Bool). cond b None (get (slice_cmp nat_cmp) n q)) (is_eq-slice_cmp id q)
    ∙ ap (λ (o : Option ℕ). cond (bytes_eq id q) None o) noted
    ∙ ap (λ (b : Bool). cond (bytes_eq id q) None (option_or (get (slice_cmp nat_cmp) m q) (if b then Some number else None))) (bytes_eq-comm q id)
    ∙ taken_off id q number (get (slice_cmp nat_cmp) m q) (bytes_eq id q) refl (λ e. ap (λ (k : List ℕ). get (slice_cmp nat_cmp) m k) (sym e) ∙ absent)

-- facts that are written under the serial of a record
same_entry : (m : BTreeMap (List ℕ) SerialFacts) (serial q : List ℕ) (body : Body) (number : ℕ) (b : Bool) → bytes_eq serial q ≡ b
    → cond b (Some (facts_after (unwrap_or (get (slice_cmp nat_cmp) m serial) no_facts) body number)) (get (slice_cmp nat_cmp) m q)
    ≡ (if b then Some (facts_after (unwrap_or (get (slice_cmp nat_cmp) m q) no_facts) body number) else get (slice_cmp nat_cmp) m q)
same_entry m serial q body number true e = ap (λ (k : List ℕ). Some (facts_after (unwrap_or (get (slice_cmp nat_cmp) m k) no_facts) body number)) (same_bytes serial q e)
same_entry m serial q body number false e = refl

pub unit_inserted : (m n : BTreeMap (List ℕ) SerialFacts) (serial q : List ℕ) (body : Body) (number : ℕ) → names_in q body ≡ bytes_eq serial q
    → get (slice_cmp nat_cmp) n q ≡ cond (is_eq (slice_cmp nat_cmp serial q)) (Some (facts_after (unwrap_or (get (slice_cmp nat_cmp) m serial) no_facts) body number)) (get (slice_cmp nat_cmp) m q)
    → get (slice_cmp nat_cmp) n q ≡ entry_after (get (slice_cmp nat_cmp) m q) q body number
unit_inserted m n serial q body number named is =
    is
    ∙ ap (λ (b : Bool). cond b (Some (facts_after (unwrap_or (get (slice_cmp nat_cmp) m serial) no_facts) body number)) (get (slice_cmp nat_cmp) m q)) (is_eq-slice_cmp serial q)
    ∙ same_entry m serial q body number (bytes_eq serial q) refl
    ∙ ap (λ (b : Bool). if b then Some (facts_after (unwrap_or (get (slice_cmp nat_cmp) m q) no_facts) body number) else get (slice_cmp nat_cmp) m q) (sym named)

-- ---- one record more

entry_read : (o : Option SerialFacts) (f : SerialFacts) (b : Bool) → unwrap_or (if b then Some f else o) no_facts ≡ (if b then f else unwrap_or o no_facts)
entry_read o f true = refl
entry_read o f false = refl

entry_there : (o : Option SerialFacts) (f : SerialFacts) (b : Bool) → is_some (if b then Some f else o) ≡ (is_some o || b)
entry_there None f true = refl
entry_there None f false = refl
entry_there (Some g) f true = refl
entry_there (Some g) f false = refl

within_more : {A : Type 0} (xs : List A) (y : A) (o : Option ℕ) → IfSome o (λ k. k < length xs) → IfSome o (λ k. k < length (xs ++ y ∷ []))
within_more xs y None there = tt
within_more xs y (Some k) there = omega (arith, length-append xs (y ∷ []))

program_stays : (R : List StationRecord) (r : StationRecord) (o : Option ℕ) → IfSome o (λ k. k < length R) → program_at (R ++ r ∷ []) o ≡ program_at R o
program_stays R r None there = refl
program_stays R r (Some k) there = ap (λ (x : Option StationRecord). option_and_then program_in x) (slice_get-append R (r ∷ []) k there)

-- what holds of the station
pub record IsStation (R : List StationRecord) (f : StationFacts) : Type 0 where
  pub there : IfSome f.adopted (λ place. place < length R)
  pub adopted : program_at R f.adopted ≡ last_program R
  pub calibrated : f.calibrated ≡ last_calibration R
  pub marked : f.marked ≡ first_mark R

module _ (R : List StationRecord) (f : StationFacts) (is : IsStation R f) (id : List ℕ) (moment : ℕ) where
  abbrev with_body : Body → StationRecord
  with_body b = record { id = id; moment = moment; body = b }

  abbrev more : Body → List StationRecord
  more b = R ++ with_body b ∷ []

  none_marked : (b : Body) → marks (with_body b) ≡ false → first_mark (more b) ≡ first_mark R
  none_marked b isnt = first_number-push marks R (with_body b) ∙ ap (λ (c : Bool). option_or (first_mark R) (if c then Some (length R + 1) else None)) isnt ∙ or_none (first_mark R)
    where
      or_none : (o : Option ℕ) → option_or o None ≡ o
      or_none None = refl
      or_none (Some k) = refl

  none_calibrated : (b : Body) → day_in (with_body b) ≡ None → last_calibration (more b) ≡ last_calibration R
  none_calibrated b isnt = last_of-push day_in R (with_body b) ∙ ap (λ (o : Option ℕ). option_or o (last_calibration R)) isnt

  none_adopted : (b : Body) → program_in (with_body b) ≡ None → program_at (more b) f.adopted ≡ last_program (more b)
  none_adopted b isnt =
      program_stays R (with_body b) f.adopted is.there
      ∙ is.adopted
      ∙ sym (last_of-push program_in R (with_body b) ∙ ap (λ (o : Option Program). option_or o (last_program R)) isnt)

  -- a record that says nothing of the station
  stays : (b : Body) → program_in (with_body b) ≡ None → day_in (with_body b) ≡ None → marks (with_body b) ≡ false → IsStation (more b) f
  stays b no_program no_day no_mark = record {
    there = within_more R (with_body b) f.adopted is.there;
    adopted = none_adopted b no_program;
    calibrated = is.calibrated ∙ sym (none_calibrated b no_day);
    marked = is.marked ∙ sym (none_marked b no_mark);
  }

  pub station-after : (b : Body) → IsStation (more b) (station_after f b (length R))
  station-after (Adopt p) = record {
    there = omega (arith, length-append R (with_body (Adopt p) ∷ []));
    adopted =
        ap (λ (x : Option StationRecord). option_and_then program_in x) (slice_get-push R (with_body (Adopt p))) ∙ sym (last_of-push program_in R (with_body (Adopt p)));
    calibrated = is.calibrated ∙ sym (none_calibrated (Adopt p) refl);
    marked = is.marked ∙ sym (none_marked (Adopt p) refl);
  }
  station-after (Calibrate day) = record {
    there = within_more R (with_body (Calibrate day)) f.adopted is.there;
    adopted = none_adopted (Calibrate day) refl;
    calibrated = sym (last_of-push day_in R (with_body (Calibrate day)));
    marked = is.marked ∙ sym (none_marked (Calibrate day) refl);
  }
  station-after Mark = record {
    there = within_more R (with_body Mark) f.adopted is.there;
    adopted = none_adopted Mark refl;
    calibrated = is.calibrated ∙ sym (none_calibrated Mark refl);
    marked = ap (λ (o : Option ℕ). option_or o (Some (length R + 1))) is.marked ∙ sym (first_number-push marks R (with_body Mark));
  }
  station-after (Enrol s) = stays (Enrol s) refl refl refl
  station-after (Tested s attempt staff o) = stays (Tested s attempt staff o) refl refl refl
  station-after (Rework s) = stays (Rework s) refl refl refl
  station-after (Release s) = stays (Release s) refl refl refl
  station-after (Scrap s) = stays (Scrap s) refl refl refl

-- what a map of numbers has once a record is noted in it
abbrev pub NotesId : BTreeMap (List ℕ) ℕ → BTreeMap (List ℕ) ℕ → List ℕ → ℕ → Type 0
NotesId m n id number = (q : List ℕ) → get (slice_cmp nat_cmp) n q ≡ option_or (get (slice_cmp nat_cmp) m q) (if bytes_eq q id then Some number else None)

-- what a map of facts has
abbrev pub NotesSerial : BTreeMap (List ℕ) SerialFacts → BTreeMap (List ℕ) SerialFacts → Body → ℕ → Type 0
NotesSerial m n body number = (q : List ℕ) → get (slice_cmp nat_cmp) n q ≡ entry_after (get (slice_cmp nat_cmp) m q) q body number

pub index-after : (R : List StationRecord) (r : StationRecord) (old new : Index) → IsIndex R old
    → NotesId old.numbers new.numbers r.id (length R + 1) → NotesSerial old.units new.units r.body (length R + 1) → new.station ≡ station_after old.station r.body (length R)
    → IsIndex (R ++ r ∷ []) new
index-after R r old new is ids units station =
    let now = station-after R old.station (record { there = is.there; adopted = is.adopted; calibrated = is.calibrated; marked = is.marked }) r.id r.moment r.body in
    let standing : IsStation (R ++ r ∷ []) new.station = subst (λ (f : StationFacts). IsStation (R ++ r ∷ []) f) (sym station) now in
    record {
      numbers = λ id. ids id ∙ ap (λ (o : Option ℕ). option_or o (if bytes_eq id r.id then Some (length R + 1) else None)) (is.numbers id) ∙ sym (first_number-push (has_id id) R r);
      units = λ q.
          ap (λ (o : Option SerialFacts). unwrap_or o no_facts) (units q)
          ∙ entry_read (get (slice_cmp nat_cmp) old.units q) (facts_after (unwrap_or (get (slice_cmp nat_cmp) old.units q) no_facts) r.body (length R + 1)) (names_in q r.body)
          ∙ ap (λ (f : SerialFacts). if names_in q r.body then facts_after f r.body (length R + 1) else f) (is.units q)
          ∙ sym (history-after R q r);
      known = λ q.
          ap (λ (o : Option SerialFacts). is_some o) (units q)
          ∙ entry_there (get (slice_cmp nat_cmp) old.units q) (facts_after (unwrap_or (get (slice_cmp nat_cmp) old.units q) no_facts) r.body (length R + 1)) (names_in q r.body)
          ∙ ap (λ (b : Bool). b || names_in q r.body) (is.known q)
          ∙ sym (known-after R q r);
      there = standing.there;
      adopted = standing.adopted;
      calibrated = standing.calibrated;
      marked = standing.marked;
    }

-- an index with the same answers
pub index-same : (R : List StationRecord) (old new : Index) → IsIndex R old → ((q : List ℕ) → get (slice_cmp nat_cmp) new.numbers q ≡ get (slice_cmp nat_cmp) old.numbers q)
    → ((q : List ℕ) → get (slice_cmp nat_cmp) new.units q ≡ get (slice_cmp nat_cmp) old.units q) → new.station ≡ old.station → IsIndex R new
index-same R old new is ids units station =
    let before : IsStation R old.station = record { there = is.there; adopted = is.adopted; calibrated = is.calibrated; marked = is.marked } in
    let standing : IsStation R new.station = subst (λ (f : StationFacts). IsStation R f) (sym station) before in
    record {
      numbers = λ id. ids id ∙ is.numbers id;
      units = λ q. ap (λ (o : Option SerialFacts). unwrap_or o no_facts) (units q) ∙ is.units q;
      known = λ q. ap (λ (o : Option SerialFacts). is_some o) (units q) ∙ is.known q;
      there = standing.there;
      adopted = standing.adopted;
      calibrated = standing.calibrated;
      marked = standing.marked;
    }

pub unchanged_get : {X : Type 0} (m n : BTreeMap (List ℕ) X) → n.entries ≡ m.entries → (q : List ℕ) → get (slice_cmp nat_cmp) n q ≡ get (slice_cmp nat_cmp) m q
unchanged_get {X} m n same q = ap (λ (es : List (List ℕ × X)). lookup (is_at (slice_cmp nat_cmp q)) es) same

-- the record at a place is noted
pub note_ok : (records : List StationRecord) (place : ℕ) (r : StationRecord) (old new : Index) → place < length records → r ≡ get_or records place r → IsIndex (take place records) old
    → NotesId old.numbers new.numbers r.id (place + 1) → NotesSerial old.units new.units r.body (place + 1) → new.station ≡ station_after old.station r.body place
    → IsIndex (take (place + 1) records) new
note_ok records place r old new lt there is ids units station =
    let len : place ≡ length (take place records) = omega (arith, length-take place records) in
    let more : take place records ++ r ∷ [] ≡ take (place + 1) records =
    ap (λ (x : StationRecord). take place records ++ x ∷ []) there ∙ sym (rw add-one (take-suc records place r lt)) in
    let after : IsIndex (take place records ++ r ∷ []) new =
    index-after (take place records) r old new is
    (subst (λ (k : ℕ). NotesId old.numbers new.numbers r.id (k + 1)) len ids)
    (subst (λ (k : ℕ). NotesSerial old.units new.units r.body (k + 1)) len units)
    (subst (λ (k : ℕ). new.station ≡ station_after old.station r.body k) len station) in
    subst (λ (R : List StationRecord). IsIndex R new) more after

-- a serial has no more tests than there are records
given : {B : Type 0} (o : Option B) (ys : List B) → length (cons_option o ys) ≤ length ys + 1
given None ys = omega arith
given (Some y) ys = omega arith

filter_map-le : {A B : Type 0} (f : A → Option B) (xs : List A) → length (filter_map f xs) ≤ length xs
filter_map-le f [] = omega arith
filter_map-le f (x ∷ xs) = let rest = filter_map-le f xs in let one = given (f x) (filter_map f xs) in omega arith

pub tests_few : (R : List StationRecord) (serial : List ℕ) (f : SerialFacts) → f ≡ history R serial → f.tests ≤ length R
tests_few R serial f is = let same = ap (λ (g : SerialFacts). g.tests) is in let few = filter_map-le (outcome_in serial) R in omega arith

-- what the map of facts has of a serial is what the records say, where they name it
read_facts : (R : List StationRecord) (serial : List ℕ) (o : Option SerialFacts) (b : Bool) → unwrap_or o no_facts ≡ history R serial → is_some o ≡ b → o ≡ (if b then Some (history R serial) else None)
read_facts R serial None true said known = absurd cc
read_facts R serial None false said known = refl
read_facts R serial (Some f) true said known = ap (λ (g : SerialFacts). Some g) said
read_facts R serial (Some f) false said known = absurd cc

pub facts_read : (R : List StationRecord) (index : Index) → IsIndex R index → (serial : List ℕ) → get (slice_cmp nat_cmp) index.units serial ≡ facts_of R serial
facts_read R index is serial = read_facts R serial (get (slice_cmp nat_cmp) index.units serial) (is_known R serial) (is.units serial) (is.known serial)
