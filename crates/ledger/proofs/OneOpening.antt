-- A file is opened in one way.
use Rattle.std.proofs.Common.{◌≡◌, ℕ, ◌+◌, List, [], ◌∷◌, ◌++◌, length, refl, sym, ◌∙◌, ap}
use Rattle.std.proofs.lemmas.List.{length-map}
use Rattle.std.proofs.lemmas.List.Elements.{All-head, All-tail}
use Rattle.journal.specs.Format.{end_after}
use Rattle.journal.proofs.LawLemmas as journal
use Rattle.journal.proofs.wholes.Wrong.{one_wrong, not_wrong}
use Rattle.records.specs.declared.record.StationRecord.{StationRecord}
use Rattle.records.specs.RecordBytes.{record_bytes}
use Rattle.records.specs.RecordRanges.{IsRecord, Spells}
use Rattle.records.proofs.OneRecord.{one_record}
use Rattle.ledger.specs.Kept.{AreRecords, spellings}
use Rattle.ledger.specs.Opening.{found, no_journal, bad_record, failed, no_memory, Says, HasNoRecord}
use Rattle.ledger.specs.Laws.{OpensInOneWay}

-- records with one spelling are one
pub one_list : (R S : List StationRecord) → AreRecords R → AreRecords S → spellings R ≡ spellings S → R ≡ S
one_list [] [] first second same = refl
one_list [] (s ∷ S) first second same = cc
one_list (r ∷ R) [] first second same = cc
one_list (r ∷ R) (s ∷ S) first second same =
    let heads : record_bytes r ≡ record_bytes s = cc in
    let tails : spellings R ≡ spellings S = cc in
    let head : r ≡ s = one_record r s (All-head IsRecord r R first) (All-head IsRecord s S second) heads in
    ap (λ (x : StationRecord). x ∷ R) head ∙ ap (λ (l : List StationRecord). s ∷ l) (one_list R S (All-tail IsRecord r R first) (All-tail IsRecord s S second) tails)

abbrev NoRecord : List ℕ → Type 0
NoRecord body = (r : StationRecord) → Spells body r → ⊥

spells_itself : (r : StationRecord) (R : List StationRecord) → AreRecords (r ∷ R) → (body : List ℕ) → body ≡ record_bytes r → Spells body r
spells_itself r R in_range body is = record { in_range = All-head IsRecord r R in_range; bytes_are = is }

-- the records before the first entry that is none
first_same : (R S : List StationRecord) (a b : List ℕ) (xs ys : List (List ℕ)) → AreRecords R → AreRecords S → NoRecord a → NoRecord b → spellings R ++ a ∷ xs ≡ spellings S ++ b ∷ ys → spellings R ≡ spellings S
first_same [] [] a b xs ys fR fS na nb same = refl
first_same [] (s ∷ S) a b xs ys fR fS na nb same = let head : a ≡ record_bytes s = cc in absurd (na s (spells_itself s S fS a head))
first_same (r ∷ R) [] a b xs ys fR fS na nb same = let head : b ≡ record_bytes r = cc in absurd (nb r (spells_itself r R fR b head))
first_same (r ∷ R) (s ∷ S) a b xs ys fR fS na nb same =
    let head : record_bytes r ≡ record_bytes s = cc in
    let tails : spellings R ++ a ∷ xs ≡ spellings S ++ b ∷ ys = cc in
    ap (λ (x : List ℕ). x ∷ spellings R) head ∙ ap (λ (l : List (List ℕ)). record_bytes s ∷ l) (first_same R S a b xs ys (All-tail IsRecord r R fR) (All-tail IsRecord s S fS) na nb tails)

-- entries that are all records have none that is not
not_both : (R S : List StationRecord) (b : List ℕ) (bs : List (List ℕ)) → AreRecords R → NoRecord b → spellings R ≡ spellings S ++ b ∷ bs → ⊥
not_both [] [] b bs fR nb same = cc
not_both [] (s ∷ S) b bs fR nb same = cc
not_both (r ∷ R) [] b bs fR nb same = let head : b ≡ record_bytes r = cc in nb r (spells_itself r R fR b head)
not_both (r ∷ R) (s ∷ S) b bs fR nb same = let tails : spellings R ≡ spellings S ++ b ∷ bs = cc in not_both R S b bs (All-tail IsRecord r R fR) nb tails

found_or_not : (file : List ℕ) (R : List StationRecord) (k p : ℕ) → Says file (found R) → HasNoRecord file k p → ⊥
found_or_not file R k p a b =
    not_both R b.first.R b.first.body b.first.more a.1.in_range b.first.no_record (journal.one_list file (spellings R) b.bodies a.1.holds b.holds ∙ b.first.bodies_are)

same_first : (file : List ℕ) (k p k' p' : ℕ) → HasNoRecord file k p → HasNoRecord file k' p' → (k ≡ k') × (p ≡ p')
same_first file k p k' p' a b =
    let same : spellings a.first.R ≡ spellings b.first.R =
    first_same a.first.R b.first.R a.first.body b.first.body a.first.more b.first.more a.first.in_range b.first.in_range a.first.no_record b.first.no_record
    (sym a.first.bodies_are ∙ journal.one_list file a.bodies b.bodies a.holds b.holds ∙ b.first.bodies_are) in
    let long : length a.first.R ≡ length b.first.R = sym (length-map a.first.R record_bytes) ∙ ap length same ∙ length-map b.first.R record_bytes in
    (a.first.counts ∙ ap (λ (n : ℕ). n + 1) long ∙ sym b.first.counts, a.first.stands ∙ ap end_after same ∙ sym b.first.stands)

pub one_way : (file : List ℕ) → OpensInOneWay file
one_way file (found R) (found S) a b = ap found (one_list R S a.1.in_range b.1.in_range (journal.one_list file (spellings R) (spellings S) a.1.holds b.1.holds))
one_way file (found R) (no_journal why) a b = absurd (not_wrong file why (a.0, (spellings R, a.1.holds)) b)
one_way file (found R) (bad_record k p) a b = absurd (found_or_not file R k p a b)
one_way file (found R) failed a b = absurd b
one_way file (found R) no_memory a b = absurd b
one_way file (no_journal why) (found R) a b = absurd (not_wrong file why (b.0, (spellings R, b.1.holds)) a)
one_way file (no_journal why) (no_journal why') a b = ap no_journal (one_wrong file why why' a b)
one_way file (no_journal why) (bad_record k p) a b = absurd (not_wrong file why (b.within, (b.bodies, b.holds)) a)
one_way file (no_journal why) failed a b = absurd b
one_way file (no_journal why) no_memory a b = absurd b
one_way file (bad_record k p) (found R) a b = absurd (found_or_not file R k p b a)
one_way file (bad_record k p) (no_journal why) a b = absurd (not_wrong file why (a.within, (a.bodies, a.holds)) b)
one_way file (bad_record k p) (bad_record k' p') a b = let same = same_first file k p k' p' a b in cc (same.0, same.1)
one_way file (bad_record k p) failed a b = absurd b
one_way file (bad_record k p) no_memory a b = absurd b
one_way file failed b x y = absurd x
one_way file no_memory b x y = absurd x
