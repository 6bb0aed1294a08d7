-- What a head asks, check by check.
use Rattle.std.proofs.Common.{◌≡◌, ◌∙◌, sym, refl, ap, subst, arith, ℕ, suc, ◌≤◌, ◌<◌, Bool, true, false, cond, List, [], ◌∷◌, map, codes, All, Option, Some, None}
use Rattle.std.specs.Prelude.{◌&&◌, bytes_eq, is_some}
use Rattle.std.specs.Fmt.{decimal}
use Rattle.std.specs.List.{filter, find, count_by}
use Rattle.std.specs.Str.Parse.{digits_value}
use Rattle.std.proofs.lemmas.Bool.{leb-true, le-leb}
use Rattle.std.proofs.lemmas.Fmt.{decimal_is_IsNumeral}
use Rattle.std.proofs.lemmas.Slice.Eq.{bytes_eq-Decides}
use Rattle.httparse.specs.Grammar.{RequestHead}
use Rattle.httparse.specs.Spans.{span_bytes, header_bytes, name_and_value}
use Rattle.httparse.specs.declared.spans.HeaderSpan.{HeaderSpan}
use Rattle.lines.specs.Numbers.{IsNumberWord}
use Rattle.http_exchange.specs.declared.page.Submission.{Submission}
use Rattle.http_exchange.specs.declared.page.Page.{Page}
use Rattle.http_exchange.specs.declared.request.Refusal.TheVariants as refusal
use Rattle.http_exchange.specs.Heads.{same_name, values_of}
use Rattle.http_exchange.specs.Routes.{page_at, path_of, verb_of, verb_name}
use Rattle.http_exchange.specs.Requests.{refused, is_length, sized, posted, page_asked, routed, coded, asked_by}
use Rattle.http_exchange.proofs.FieldLemmas.{map-filter, filter-none, filter-one, filter-two, filter-first}

not_true : (b : Bool) → (b ≡ true → ⊥) → b ≡ false
not_true true n = absurd (n refl)
not_true false n = refl

and_both : (a b : Bool) → a ≡ true → b ≡ true → (a && b) ≡ true
and_both a b e f = rw (e, f) refl

and_left : (a b : Bool) → (a && b) ≡ true → a ≡ true
and_left true b e = refl
and_left false b e = cc

and_right : (a b : Bool) → (a && b) ≡ true → b ≡ true
and_right true b e = e
and_right false b e = cc

-- a length is a number as it is printed
pub length_told : (text : List ℕ) (n : ℕ) → IsNumberWord text 0 999999999 n → digits_value 10 text ≡ n
length_told text n word = ap (digits_value 10) word.printed ∙ (decimal_is_IsNumeral n (let most = word.not_above in omega (arith, most))).1

pub is_length_told : (text : List ℕ) (n : ℕ) → IsNumberWord text 0 999999999 n → is_length text ≡ true
is_length_told text n word =
    let same = length_told text n word in
    and_both _ _ ((bytes_eq-Decides text (decimal (digits_value 10 text))).1 (word.printed ∙ ap decimal (sym same)))
    (rw same (le-leb n 999999999 word.not_above))

pub no_length_told : (text : List ℕ) → ((n : ℕ) → IsNumberWord text 0 999999999 n → ⊥) → is_length text ≡ false
no_length_told text none = not_true (is_length text) (λ e. none (digits_value 10 text) (record {
  printed = (bytes_eq-Decides text (decimal (digits_value 10 text))).0 (and_left _ _ e);
  not_below = omega arith;
  not_above = leb-true (digits_value 10 text) 999999999 (and_right _ _ e);
}))

-- the values of the fields with one name, by where the fields are
pub values-are : (name bytes : List ℕ) (fields : List HeaderSpan) (h : RequestHead) → map (header_bytes bytes) fields ≡ map name_and_value h.fields
    → values_of name h ≡ map (λ s. span_bytes bytes s.value) (filter (λ s. same_name (span_bytes bytes s.name) name) fields)
values-are name bytes fields h are =
    let test : List ℕ × List ℕ → Bool = λ p. same_name p.0 name in
    let value : List ℕ × List ℕ → List ℕ = λ p. p.1 in
    map-filter name_and_value test value h.fields
    ∙ ap (λ (l : List (List ℕ × List ℕ)). map value (filter test l)) (sym are)
    ∙ sym (map-filter (header_bytes bytes) test value fields)

-- the first that passes is one of them
pub find-All : {A : Type 0} (P : A → Type 0) (p : A → Bool) (xs : List A) (x : A) → All P xs → find p xs ≡ Some x → P x
find-All P p [] x all e = absurd (cc e)
find-All {A} P p (y ∷ xs) x all e = by (p y) e (λ first. find-All P p xs x (λ k d within. all (suc k) d (omega (arith, within))) first)
  where
    by : (v : Bool) → cond v (Some y) (find p xs) ≡ Some x → (find p xs ≡ Some x → P x) → P x
    by true first rest = let same : y ≡ x = cc in subst P same (all 0 y (omega arith))
    by false first rest = rest first

-- whether there is one
pub some-is : {A : Type 0} (o : Option A) → is_some o ≡ true → (x : A) × (o ≡ Some x)
some-is None e = absurd (cc e)
some-is (Some x) e = (x, refl)

pub none-is : {A : Type 0} (o : Option A) → is_some o ≡ false → o ≡ None
none-is None e = refl
none-is (Some x) e = absurd (cc e)

-- no field with the name
pub posted-none : (s : Submission) (name bytes : List ℕ) (fields : List HeaderSpan) (h : RequestHead)
    → find (λ f. same_name (span_bytes bytes f.name) name) fields ≡ None
    → map (header_bytes bytes) fields ≡ map name_and_value h.fields
    → refused refusal.Length ≡ posted s (values_of name h)
posted-none s name bytes fields h none are =
    ap (posted s) (sym (values-are name bytes fields h are ∙ ap (map (λ (f : HeaderSpan). span_bytes bytes f.value)) (filter-none _ fields none)))

-- one field with the name
pub posted-one : (s : Submission) (name bytes : List ℕ) (fields : List HeaderSpan) (h : RequestHead) (f : HeaderSpan)
    → find (λ f. same_name (span_bytes bytes f.name) name) fields ≡ Some f
    → count_by (λ f. same_name (span_bytes bytes f.name) name) fields ≤ 1
    → map (header_bytes bytes) fields ≡ map name_and_value h.fields
    → posted s (span_bytes bytes f.value ∷ []) ≡ posted s (values_of name h)
posted-one s name bytes fields h f first few are =
    ap (posted s) (sym (values-are name bytes fields h are ∙ ap (map (λ (f : HeaderSpan). span_bytes bytes f.value)) (filter-one _ fields f first few)))

-- two fields with the name
pub posted-two : (s : Submission) (name bytes : List ℕ) (fields : List HeaderSpan) (h : RequestHead) (f : HeaderSpan)
    → find (λ f. same_name (span_bytes bytes f.name) name) fields ≡ Some f
    → 1 < count_by (λ f. same_name (span_bytes bytes f.name) name) fields
    → map (header_bytes bytes) fields ≡ map name_and_value h.fields
    → refused refusal.Request ≡ posted s (values_of name h)
posted-two s name bytes fields h f first many are =
    let (other, rest, two) = filter-two _ fields f first many in
    ap (posted s) (sym (values-are name bytes fields h are ∙ ap (map (λ (f : HeaderSpan). span_bytes bytes f.value)) two))

-- a length, and no length
pub posted-length : (s : Submission) (text : List ℕ) (n : ℕ) → IsNumberWord text 0 999999999 n → sized s n ≡ posted s (text ∷ [])
posted-length s text n word = rw (is_length_told text n word, length_told text n word) refl

pub posted-unsized : (s : Submission) (text : List ℕ) → ((n : ℕ) → IsNumberWord text 0 999999999 n → ⊥) → refused refusal.Request ≡ posted s (text ∷ [])
posted-unsized s text none = rw (no_length_told text none) refl

-- a body that is coded
pub asked-coded : (bytes : List ℕ) (fields : List HeaderSpan) (h : RequestHead) (f : HeaderSpan)
    → find (λ f. same_name (span_bytes bytes f.name) (codes "transfer-encoding")) fields ≡ Some f
    → map (header_bytes bytes) fields ≡ map name_and_value h.fields
    → refused refusal.Coding ≡ asked_by h
unfolding asked_by
asked-coded bytes fields h f first are =
    let (more, some) = filter-first _ fields f first in
    ap (coded h) (sym (values-are (codes "transfer-encoding") bytes fields h are ∙ ap (map (λ (f : HeaderSpan). span_bytes bytes f.value)) some))

-- a body that is not
pub asked-routed : (bytes : List ℕ) (fields : List HeaderSpan) (h : RequestHead)
    → find (λ f. same_name (span_bytes bytes f.name) (codes "transfer-encoding")) fields ≡ None
    → map (header_bytes bytes) fields ≡ map name_and_value h.fields
    → routed h (page_at (path_of h.target)) ≡ asked_by h
unfolding asked_by
asked-routed bytes fields h none are =
    ap (coded h) (sym (values-are (codes "transfer-encoding") bytes fields h are ∙ ap (map (λ (f : HeaderSpan). span_bytes bytes f.value)) (filter-none _ fields none)))

pub routed-nowhere : (h : RequestHead) (path : List ℕ) → path ≡ path_of h.target → page_at path ≡ None → refused refusal.NotFound ≡ routed h (page_at (path_of h.target))
routed-nowhere h path same none = ap (routed h) (sym (ap page_at (sym same) ∙ none))

pub routed-otherwise : (h : RequestHead) (path method : List ℕ) (p : Page) → path ≡ path_of h.target → method ≡ h.method → page_at path ≡ Some p
    → (method ≡ verb_name (verb_of p) → ⊥) → refused (refusal.Method (verb_of p)) ≡ routed h (page_at (path_of h.target))
routed-otherwise h path method p same is page other =
    let differ : bytes_eq h.method (verb_name (verb_of p)) ≡ false =
    not_true _ (λ e. other (is ∙ (bytes_eq-Decides h.method (verb_name (verb_of p))).0 e)) in
    let there : routed h (Some p) ≡ refused (refusal.Method (verb_of p)) = rw differ refl in
    sym there ∙ ap (routed h) (sym (ap page_at (sym same) ∙ page))

pub routed-there : (h : RequestHead) (path method : List ℕ) (p : Page) → path ≡ path_of h.target → method ≡ h.method → page_at path ≡ Some p
    → method ≡ verb_name (verb_of p) → page_asked h p ≡ routed h (page_at (path_of h.target))
routed-there h path method p same is page own =
    let equal : bytes_eq h.method (verb_name (verb_of p)) ≡ true = (bytes_eq-Decides h.method (verb_name (verb_of p))).1 (sym is ∙ own) in
    let there : routed h (Some p) ≡ page_asked h p = rw equal refl in
    sym there ∙ ap (routed h) (sym (ap page_at (sym same) ∙ page))
