-- Counts of tests and of serials.
use Rattle.std.proofs.Common.{◌≡◌, ℕ, suc, ◌+◌, ◌<◌, ◌≤◌, Bool, true, false, not, ◌||◌, cond, List, [], ◌∷◌, ◌++◌, length, take, get_or, Option, None, Some, refl, sym, ◌∙◌, ap, arith, bytes_eq, append-nil}
use Rattle.std.specs.Prelude.{count_by, filter, filter_map, option_to_list, is_some, option_map, unwrap_or}
use Rattle.std.specs.Ordering.{eq_by_cmp, nat_cmp}
use Rattle.std.specs.Cmp.Lexicographic.{slice_cmp}
use Rattle.std.specs.Set.{distinct_count, is_member, unique_keys}
use Rattle.std.specs.List.{cons_option, list_any}
use Rattle.std.specs.Option.{option_map_or}
use Rattle.std.proofs.lemmas.List.Elements.{filter_map-append}
use Rattle.std.proofs.lemmas.List.Filters.{length-filter_both}
use Rattle.std.proofs.lemmas.List.Sums.{sum_by-append, sum_by-cons}
use Rattle.std.proofs.lemmas.Map.Made.{distinct_count-le}
use Rattle.std.proofs.lemmas.Map.Text.{is_eq-slice_cmp}
use Rattle.wirelist.specs.declared.outcome.Outcome.{Outcome}
use Rattle.wirelist.specs.declared.outcome.Outcome.TheVariants.{Pass, Wiring, Parts, Insulation, Withstand}
use Rattle.records.specs.declared.record.Body.{Body}
use Rattle.records.specs.declared.record.Body.TheVariants.{Adopt, Enrol, Calibrate, Tested, Rework, Release, Scrap, Mark}
use Rattle.records.specs.declared.record.StationRecord.{StationRecord}
use Rattle.report.specs.declared.counts.Event.{Event}
use Rattle.report.specs.declared.counts.Event.TheVariants as event
use Rattle.report.specs.declared.counts.SerialCounts.{SerialCounts}
use Rattle.report.specs.declared.results.Results.{Results}
use Rattle.serials.specs.Scan.{is_pass}
use Rattle.report.specs.LotText.{different, enrolled_in, released_in, scrapped_in, first_test, found_in, is_tested, passed_first, results, is_wiring, is_parts, is_insulation, is_withstand}
use Rattle.report.specs.Counting.{counted, counted_after, counted_with, serial_at, serial_by, serials_counted, total_of}
use Rattle.report.proofs.Adopted.{up_to}

-- ---- results

same_results : (r s : Results) → r.pass ≡ s.pass → r.wiring ≡ s.wiring → r.parts ≡ s.parts → r.insulation ≡ s.insulation → r.withstand ≡ s.withstand → r ≡ s
same_results r s a b c d e = λ i. record { pass = a i; wiring = b i; parts = c i; insulation = d i; withstand = e i }

count-push : (p : Outcome → Bool) (os : List Outcome) (o : Outcome) → count_by p (os ++ o ∷ []) ≡ count_by p os + cond (p o) 1 0
count-push p os o = sum_by-append (λ (x : Outcome). cond (p x) 1 0) os (o ∷ []) ∙ omega arith

-- the counts with one more, by whether it is of each verdict
abbrev plus : Results → Outcome → Results
plus r o = record {
  pass = r.pass + cond (is_pass o) 1 0;
  wiring = r.wiring + cond (is_wiring o) 1 0;
  parts = r.parts + cond (is_parts o) 1 0;
  insulation = r.insulation + cond (is_insulation o) 1 0;
  withstand = r.withstand + cond (is_withstand o) 1 0;
}

plus-is : (r : Results) (o : Outcome) → plus r o ≡ counted_after r o
plus-is r Pass = same_results _ _ refl (omega arith) (omega arith) (omega arith) (omega arith)
plus-is r (Wiring d) = same_results _ _ (omega arith) refl (omega arith) (omega arith) (omega arith)
plus-is r (Parts faults) = same_results _ _ (omega arith) (omega arith) refl (omega arith) (omega arith)
plus-is r (Insulation faults) = same_results _ _ (omega arith) (omega arith) (omega arith) refl (omega arith)
plus-is r (Withstand bit volts leak) = same_results _ _ (omega arith) (omega arith) (omega arith) (omega arith) refl

counted-push : (os : List Outcome) (o : Outcome) → counted (os ++ o ∷ []) ≡ counted_after (counted os) o
counted-push os o =
    same_results _ _ (count-push is_pass os o) (count-push is_wiring os o) (count-push is_parts os o) (count-push is_insulation os o) (count-push is_withstand os o)
    ∙ plus-is (counted os) o

counted_by : (os : List Outcome) (id : List ℕ) (moment : ℕ) (b : Body)
    → counted (os ++ filter_map found_in (record { id = id; moment = moment; body = b } ∷ [])) ≡ counted_with (counted os) b
counted_by os id moment (Tested s a t o) = counted-push os o
counted_by os id moment (Adopt p) = ap counted (append-nil os)
counted_by os id moment (Enrol s) = ap counted (append-nil os)
counted_by os id moment (Calibrate d) = ap counted (append-nil os)
counted_by os id moment (Rework s) = ap counted (append-nil os)
counted_by os id moment (Release s) = ap counted (append-nil os)
counted_by os id moment (Scrap s) = ap counted (append-nil os)
counted_by os id moment Mark = ap counted (append-nil os)

pub counted_more : (R : List StationRecord) (k : ℕ) (r : StationRecord) → k < length R → r ≡ get_or R k r → (found after : Results) → found ≡ counted (results (take k R)) → after ≡ counted_with found r.body
    → after ≡ counted (results (take (k + 1) R))
counted_more R k r inside is found after so_far step =
    step
    ∙ ap (λ (f : Results). counted_with f r.body) so_far
    ∙ sym (counted_by (results (take k R)) r.id r.moment r.body)
    ∙ ap counted (sym (filter_map-append found_in (take k R) (r ∷ [])))
    ∙ ap (λ (S : List StationRecord). counted (results S)) (sym (up_to R k r inside is))

total_after : (r : Results) (o : Outcome) → total_of (counted_after r o) ≡ total_of r + 1
total_after r Pass = omega arith
total_after r (Wiring d) = omega arith
total_after r (Parts faults) = omega arith
total_after r (Insulation faults) = omega arith
total_after r (Withstand bit volts leak) = omega arith

pub total_with : (r : Results) (b : Body) → total_of (counted_with r b) ≤ total_of r + 1
total_with r (Tested s a t o) = omega (arith, total_after r o)
total_with r (Adopt p) = omega arith
total_with r (Enrol s) = omega arith
total_with r (Calibrate d) = omega arith
total_with r (Rework s) = omega arith
total_with r (Release s) = omega arith
total_with r (Scrap s) = omega arith
total_with r Mark = omega arith

-- each outcome is of one verdict
one_each : (o : Outcome) → cond (is_pass o) 1 0 + cond (is_wiring o) 1 0 + cond (is_parts o) 1 0 + cond (is_insulation o) 1 0 + cond (is_withstand o) 1 0 ≡ 1
one_each Pass = refl
one_each (Wiring d) = refl
one_each (Parts faults) = refl
one_each (Insulation faults) = refl
one_each (Withstand bit volts leak) = refl

pub total_all : (os : List Outcome) → total_of (counted os) ≡ length os
total_all [] = refl
total_all (o ∷ os) =
    let rest = total_all os in
    let one = one_each o in
    let pass = sum_by-cons (λ (x : Outcome). cond (is_pass x) 1 0) o os in
    let wiring = sum_by-cons (λ (x : Outcome). cond (is_wiring x) 1 0) o os in
    let parts = sum_by-cons (λ (x : Outcome). cond (is_parts x) 1 0) o os in
    let insulation = sum_by-cons (λ (x : Outcome). cond (is_insulation x) 1 0) o os in
    let withstand = sum_by-cons (λ (x : Outcome). cond (is_withstand x) 1 0) o os in
    omega arith

-- ---- serials

pub serials_more : (kind : Event) (R : List StationRecord) (k : ℕ) (r : StationRecord) → k < length R → r ≡ get_or R k r → (names after : List (List ℕ)) → names ≡ filter_map (serial_at kind) (take k R)
    → after ≡ names ++ option_to_list (serial_by kind r.body) → after ≡ filter_map (serial_at kind) (take (k + 1) R)
serials_more kind R k r inside is names after so_far step =
    step
    ∙ ap (λ (ns : List (List ℕ)). ns ++ option_to_list (serial_by kind r.body)) so_far
    ∙ ap (λ (ns : List (List ℕ)). filter_map (serial_at kind) (take k R) ++ ns) (one (serial_by kind r.body))
    ∙ sym (filter_map-append (serial_at kind) (take k R) (r ∷ []))
    ∙ ap (λ (S : List StationRecord). filter_map (serial_at kind) S) (sym (up_to R k r inside is))
  where
    one : (o : Option (List ℕ)) → option_to_list o ≡ cons_option o []
    one None = refl
    one (Some s) = refl

enrolments_by : (id : List ℕ) (moment : ℕ) (b : Body) → serial_by event.Enrolment b ≡ enrolled_in (record { id = id; moment = moment; body = b })
enrolments_by id moment (Adopt p) = refl
enrolments_by id moment (Enrol s) = refl
enrolments_by id moment (Calibrate d) = refl
enrolments_by id moment (Tested s a t o) = refl
enrolments_by id moment (Rework s) = refl
enrolments_by id moment (Release s) = refl
enrolments_by id moment (Scrap s) = refl
enrolments_by id moment Mark = refl

releases_by : (id : List ℕ) (moment : ℕ) (b : Body) → serial_by event.Release b ≡ released_in (record { id = id; moment = moment; body = b })
releases_by id moment (Adopt p) = refl
releases_by id moment (Enrol s) = refl
releases_by id moment (Calibrate d) = refl
releases_by id moment (Tested s a t o) = refl
releases_by id moment (Rework s) = refl
releases_by id moment (Release s) = refl
releases_by id moment (Scrap s) = refl
releases_by id moment Mark = refl

scraps_by : (id : List ℕ) (moment : ℕ) (b : Body) → serial_by event.Scrap b ≡ scrapped_in (record { id = id; moment = moment; body = b })
scraps_by id moment (Adopt p) = refl
scraps_by id moment (Enrol s) = refl
scraps_by id moment (Calibrate d) = refl
scraps_by id moment (Tested s a t o) = refl
scraps_by id moment (Rework s) = refl
scraps_by id moment (Release s) = refl
scraps_by id moment (Scrap s) = refl
scraps_by id moment Mark = refl

same_maps : (f g : StationRecord → Option (List ℕ)) → ((r : StationRecord) → f r ≡ g r) → (R : List StationRecord) → filter_map f R ≡ filter_map g R
same_maps f g same [] = refl
same_maps f g same (r ∷ R) = ap (λ (o : Option (List ℕ)). cons_option o (filter_map f R)) (same r) ∙ ap (cons_option (g r)) (same_maps f g same R)

enrolments_are : (R : List StationRecord) → filter_map (serial_at event.Enrolment) R ≡ filter_map enrolled_in R
enrolments_are = same_maps (serial_at event.Enrolment) enrolled_in (λ r. enrolments_by r.id r.moment r.body)

releases_are : (R : List StationRecord) → filter_map (serial_at event.Release) R ≡ filter_map released_in R
releases_are = same_maps (serial_at event.Release) released_in (λ r. releases_by r.id r.moment r.body)

scraps_are : (R : List StationRecord) → filter_map (serial_at event.Scrap) R ≡ filter_map scrapped_in R
scraps_are = same_maps (serial_at event.Scrap) scrapped_in (λ r. scraps_by r.id r.moment r.body)

-- ---- different texts

same_any : (p q : List ℕ → Bool) → ((x : List ℕ) → p x ≡ q x) → (xs : List (List ℕ)) → list_any p xs ≡ list_any q xs
same_any p q same [] = refl
same_any p q same (x ∷ xs) = ap (λ (b : Bool). b || list_any p xs) (same x) ∙ ap (λ (b : Bool). q x || b) (same_any p q same xs)

same_keys : (xs : List (List ℕ)) → unique_keys (eq_by_cmp (slice_cmp nat_cmp)) xs ≡ unique_keys bytes_eq xs
same_keys [] = refl
same_keys (x ∷ xs) =
    ap (λ (b : Bool). cond b (unique_keys (eq_by_cmp (slice_cmp nat_cmp)) xs) (x ∷ unique_keys (eq_by_cmp (slice_cmp nat_cmp)) xs)) (same_any (eq_by_cmp (slice_cmp nat_cmp) x) (bytes_eq x) (is_eq-slice_cmp x) xs)
    ∙ ap (λ (ks : List (List ℕ)). cond (is_member bytes_eq xs x) ks (x ∷ ks)) (same_keys xs)

pub different-is : (xs : List (List ℕ)) → distinct_count (eq_by_cmp (slice_cmp nat_cmp)) xs ≡ different xs
different-is xs = ap (λ (ks : List (List ℕ)). length ks) (same_keys xs)

filter_map_few : (f : StationRecord → Option (List ℕ)) (R : List StationRecord) → length (filter_map f R) ≤ length R
filter_map_few f [] = omega arith
filter_map_few f (r ∷ R) = step (f r) (filter_map_few f R)
  where
    step : (o : Option (List ℕ)) → length (filter_map f R) ≤ length R → length (cons_option o (filter_map f R)) ≤ suc (length R)
    step None le = omega arith
    step (Some s) le = omega arith

filter_few : (p : List ℕ → Bool) (xs : List (List ℕ)) → length (filter p xs) ≤ length xs
filter_few p xs = let both = length-filter_both p (λ x. not (p x)) (λ x. refl) xs in omega arith

-- no more serials than records
pub different_few : (p : List ℕ → Bool) (f : StationRecord → Option (List ℕ)) (R : List StationRecord) → different (filter p (filter_map f R)) ≤ length R
different_few p f R =
    let some = distinct_count-le bytes_eq (filter p (filter_map f R)) in
    let kept = filter_few p (filter_map f R) in
    let all = filter_map_few f R in
    omega arith

same_filter : (p q : List ℕ → Bool) → ((x : List ℕ) → p x ≡ q x) → (xs : List (List ℕ)) → filter p xs ≡ filter q xs
same_filter p q same [] = refl
same_filter p q same (x ∷ xs) = step (p x) refl (same_filter p q same xs)
  where
    step : (b : Bool) → p x ≡ b → filter p xs ≡ filter q xs → filter p (x ∷ xs) ≡ filter q (x ∷ xs)
    step true e rest = let f : q x ≡ true = sym (same x) ∙ e in rw (e, f, rest) refl
    step false e rest = let f : q x ≡ false = sym (same x) ∙ e in rw (e, f, rest) refl

-- ---- all counts of serials

some_mapped : (o : Option Outcome) → is_some (option_map is_pass o) ≡ is_some o
some_mapped None = refl
some_mapped (Some o) = refl

passed_mapped : (o : Option Outcome) → unwrap_or (option_map is_pass o) false ≡ option_map_or is_pass o false
passed_mapped None = refl
passed_mapped (Some o) = refl

same_counts : (a b : SerialCounts) → a.enrolled ≡ b.enrolled → a.tested ≡ b.tested → a.passed ≡ b.passed → a.released ≡ b.released → a.scrapped ≡ b.scrapped → a ≡ b
same_counts a b e t p r s = λ i. record { enrolled = e i; tested = t i; passed = p i; released = r i; scrapped = s i }

pub counts_are : (R : List StationRecord) (firsts : List ℕ → Option Bool) (enrolled tested passed released scrapped : List (List ℕ)) (counts : SerialCounts)
    → ((serial : List ℕ) → firsts serial ≡ option_map is_pass (first_test R serial))
    → enrolled ≡ filter_map (serial_at event.Enrolment) R → released ≡ filter_map (serial_at event.Release) R → scrapped ≡ filter_map (serial_at event.Scrap) R
    → tested ≡ filter (λ q. is_some (firsts q)) enrolled → passed ≡ filter (λ q. unwrap_or (firsts q) false) enrolled
    → counts.enrolled ≡ different enrolled → counts.tested ≡ different tested → counts.passed ≡ different passed → counts.released ≡ different released → counts.scrapped ≡ different scrapped
    → counts ≡ serials_counted R
counts_are R firsts enrolled tested passed released scrapped counts are e r s t p ce ct cp cr cs =
    let all = e ∙ enrolments_are R in
    same_counts counts (serials_counted R)
    (ce ∙ ap different all)
    (ct ∙ ap different (t ∙ same_filter _ (is_tested R) (λ q. ap (λ (o : Option Bool). is_some o) (are q) ∙ some_mapped (first_test R q)) enrolled ∙ ap (λ (xs : List (List ℕ)). filter (is_tested R) xs) all))
    (cp ∙ ap different (p ∙ same_filter _ (passed_first R) (λ q. ap (λ (o : Option Bool). unwrap_or o false) (are q) ∙ passed_mapped (first_test R q)) enrolled ∙ ap (λ (xs : List (List ℕ)). filter (passed_first R) xs) all))
    (cr ∙ ap different (r ∙ releases_are R))
    (cs ∙ ap different (s ∙ scraps_are R))
