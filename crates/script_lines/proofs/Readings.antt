-- How a script is read.
use Rattle.std.proofs.Common.{◌≡◌, ℕ, suc, ◌+◌, ◌<◌, ◌≤◌, Bool, true, false, List, [], ◌∷◌, ◌++◌, length, get_or, take, drop, Option, Some, None, Result, Ok, Err, subst, refl, sym, ◌∙◌, ap, append_assoc, append-nil, arith}
use Rattle.std.specs.Prelude.{IfErr, IsErrAnd, if◌then◌else◌}
use Rattle.std.specs.List.{position}
use Rattle.std.specs.Io.KnownBytes.{Consumes, Keeps, IsAtEnd}
use Rattle.std.proofs.lemmas.Bool.{eqb-true}
use Rattle.std.proofs.lemmas.List.Quantifiers.{position-Some}
use Rattle.std.proofs.lemmas.Bool.Decides.{nat_tests}
use Rattle.std.proofs.lemmas.Bool.{lt-ltb}
use Rattle.std.proofs.lemmas.List.Sums.{fails_before_first}
use Rattle.std.proofs.lemmas.List.{get_or-take, length-take}
use Rattle.std.proofs.Math.Seq.{drop-cons}
use Rattle.std.specs.List.{position_or_len}
use Rattle.std.proofs.Common.{cond, ltb, take-append-drop, add-one}
use Rattle.lines.specs.Lines.{in_front, is_lf, between_lfs}
use Rattle.lines.specs.Laws.{with_lfs}
use Rattle.script_lines.specs.Script.{CommandLine, NoLf, is_too_long, asking, commands_from, command_lines, too_long_from, too_long_at}

-- a line in front of a line feed
lf_line : (line after : List ℕ) → NoLf line → between_lfs (line ++ 10 ∷ after) ≡ line ∷ between_lfs after
lf_line [] after none = refl
lf_line (x ∷ xs) after none =
    let first : is_lf x ≡ false = none 0 (omega arith) in
    rw first (rw (lf_line xs after (λ i within. none (suc i) (omega arith))) refl)

-- without a line feed all is one line
pub last_line : (line : List ℕ) → 0 < length line → NoLf line → between_lfs line ≡ line ∷ []
last_line [] some none = absurd (omega arith)
last_line (x ∷ []) some none = let first : is_lf x ≡ false = none 0 (omega arith) in rw first refl
last_line (x ∷ y ∷ xs) some none =
    let first : is_lf x ≡ false = none 0 (omega arith) in
    rw first (rw (last_line (y ∷ xs) (omega arith) (λ i within. none (suc i) (omega arith))) refl)

-- The first line is at least as long as a front without a line feed.
pub record Long (xs ys : List ℕ) : Type 0 where
  pub line : List ℕ
  pub more : List (List ℕ)
  pub is : between_lfs (xs ++ ys) ≡ line ∷ more
  pub long : length xs ≤ length line

long_one : (x : ℕ) (ys : List ℕ) (lines : List (List ℕ)) → between_lfs (x ∷ ys) ≡ in_front x lines → Long (x ∷ []) ys
long_one x ys [] e = record { line = x ∷ []; more = []; is = e; long = omega arith }
long_one x ys (line ∷ more) e = record { line = x ∷ line; more = more; is = e; long = omega arith }

pub long_line : (xs ys : List ℕ) → 0 < length xs → NoLf xs → Long xs ys
long_line [] ys some none = absurd (omega arith)
long_line (x ∷ []) ys some none =
    let first : is_lf x ≡ false = none 0 (omega arith) in
    long_one x ys (between_lfs ys) (rw first refl)
long_line (x ∷ y ∷ xs) ys some none =
    let first : is_lf x ≡ false = none 0 (omega arith) in
    let rest = long_line (y ∷ xs) ys (omega arith) (λ i within. none (suc i) (omega arith)) in
    record { line = x ∷ rest.line; more = rest.more; is = rw first (rw rest.is refl); long = omega (arith, rest.long) }

with_lfs-push : (lines : List (List ℕ)) (line : List ℕ) → with_lfs (lines ++ line ∷ []) ≡ with_lfs lines ++ (line ++ 10 ∷ [])
with_lfs-push [] line = append-nil (line ++ 10 ∷ [])
with_lfs-push (first ∷ lines) line = ap (λ (l : List ℕ). (first ++ 10 ∷ []) ++ l) (with_lfs-push lines line) ∙ sym (append_assoc (first ++ 10 ∷ []) (with_lfs lines) (line ++ 10 ∷ []))

-- these lines were read and asked this, and what is left begins with the line of this number
pub record Reading (input : List ℕ) (number : ℕ) (asked : List CommandLine) (rest : List ℕ) : Type 0 where
  pub lines : List (List ℕ)
  pub input_is : input ≡ with_lfs lines ++ rest
  pub between : (behind : List ℕ) → between_lfs (with_lfs lines ++ behind) ≡ lines ++ between_lfs behind
  pub asks : (more : List (List ℕ)) → commands_from 1 (lines ++ more) ≡ asked ++ commands_from number more
  pub long : (more : List (List ℕ)) → too_long_from 1 (lines ++ more) ≡ too_long_from number more

pub reads_first : (input : List ℕ) → Reading input 1 [] input
reads_first input = record { lines = []; input_is = refl; between = λ behind. refl; asks = λ more. refl; long = λ more. refl }

asks_one : (number : ℕ) (line : List ℕ) (more : List (List ℕ)) → is_too_long number line ≡ false → commands_from number (line ∷ more) ≡ asking number line ++ commands_from (number + 1) more
asks_one number line more short = ap (λ (b : Bool). if b then [] else asking number line ++ commands_from (number + 1) more) short

asks_none : (number : ℕ) (line : List ℕ) (more : List (List ℕ)) → is_too_long number line ≡ true → commands_from number (line ∷ more) ≡ []
asks_none number line more long = ap (λ (b : Bool). if b then [] else asking number line ++ commands_from (number + 1) more) long

long_one_more : (number : ℕ) (line : List ℕ) (more : List (List ℕ)) → is_too_long number line ≡ false → too_long_from number (line ∷ more) ≡ too_long_from (number + 1) more
long_one_more number line more short = ap (λ (b : Bool). if b then Some number else too_long_from (number + 1) more) short

long_here : (number : ℕ) (line : List ℕ) (more : List (List ℕ)) → is_too_long number line ≡ true → too_long_from number (line ∷ more) ≡ Some number
long_here number line more long = ap (λ (b : Bool). if b then Some number else too_long_from (number + 1) more) long

module _ (input : List ℕ) (number : ℕ) (asked : List CommandLine) (rest : List ℕ) (reading : Reading input number asked rest) where
  pub reads_more : (line after : List ℕ) → rest ≡ line ++ 10 ∷ after → NoLf line → is_too_long number line ≡ false → Reading input (number + 1) (asked ++ asking number line) after
  reads_more line after split none short =
      let regroup : (tail : List ℕ) → with_lfs (reading.lines ++ line ∷ []) ++ tail ≡ with_lfs reading.lines ++ (line ++ 10 ∷ tail) = λ tail.
      ap (λ (l : List ℕ). l ++ tail) (with_lfs-push reading.lines line) ∙ append_assoc (with_lfs reading.lines) (line ++ 10 ∷ []) tail ∙ ap (λ (l : List ℕ). with_lfs reading.lines ++ l) (append_assoc line (10 ∷ []) tail) in
      let lines_more : (more : List (List ℕ)) → (reading.lines ++ line ∷ []) ++ more ≡ reading.lines ++ line ∷ more = λ more. append_assoc reading.lines (line ∷ []) more in
      record {
        lines = reading.lines ++ line ∷ [];
        input_is = reading.input_is ∙ ap (λ (l : List ℕ). with_lfs reading.lines ++ l) split ∙ sym (regroup after);
        between = λ behind. ap between_lfs (regroup behind) ∙ reading.between (line ++ 10 ∷ behind) ∙ ap (λ (l : List (List ℕ)). reading.lines ++ l) (lf_line line behind none) ∙ sym (lines_more (between_lfs behind));
        asks = λ more. ap (commands_from 1) (lines_more more) ∙ reading.asks (line ∷ more) ∙ ap (λ (l : List CommandLine). asked ++ l) (asks_one number line more short) ∙ sym (append_assoc asked (asking number line) (commands_from (number + 1) more));
        long = λ more. ap (too_long_from 1) (lines_more more) ∙ reading.long (line ∷ more) ∙ long_one_more number line more short;
      }

  -- all that the script asks
  asks_all : command_lines input ≡ asked ++ commands_from number (between_lfs rest)
  asks_all = ap (λ (l : List ℕ). commands_from 1 (between_lfs l)) reading.input_is ∙ ap (commands_from 1) (reading.between rest) ∙ reading.asks (between_lfs rest)

  long_all : too_long_at input ≡ too_long_from number (between_lfs rest)
  long_all = ap (λ (l : List ℕ). too_long_from 1 (between_lfs l)) reading.input_is ∙ ap (too_long_from 1) (reading.between rest) ∙ reading.long (between_lfs rest)

  -- a front of it was asked
  pub asked_front : command_lines input ≡ asked ++ commands_from number (between_lfs rest)
  asked_front = asks_all

  -- the line that comes
  pub asked_with : (line : List ℕ) (more : List (List ℕ)) → between_lfs rest ≡ line ∷ more → is_too_long number line ≡ false → command_lines input ≡ (asked ++ asking number line) ++ commands_from (number + 1) more
  asked_with line more lines short =
      asks_all ∙ ap (λ (l : List (List ℕ)). asked ++ commands_from number l) lines ∙ ap (λ (l : List CommandLine). asked ++ l) (asks_one number line more short) ∙ sym (append_assoc asked (asking number line) (commands_from (number + 1) more))

  -- no line comes
  pub asked_end : rest ≡ [] → (asked ≡ command_lines input) × (too_long_at input ≡ None)
  asked_end nothing = (
    sym (asks_all ∙ ap (λ (l : List ℕ). asked ++ commands_from number (between_lfs l)) nothing ∙ append-nil asked),
    long_all ∙ ap (λ (l : List ℕ). too_long_from number (between_lfs l)) nothing,
  )

  -- the last line
  pub asked_last : (line : List ℕ) → between_lfs rest ≡ line ∷ [] → is_too_long number line ≡ false → (asked ++ asking number line ≡ command_lines input) × (too_long_at input ≡ None)
  asked_last line lines short = (
    sym (asked_with line [] lines short ∙ append-nil (asked ++ asking number line)),
    long_all ∙ ap (too_long_from number) lines ∙ long_one_more number line [] short,
  )

  -- a line that is too long
  pub asked_long : (line : List ℕ) (more : List (List ℕ)) → between_lfs rest ≡ line ∷ more → is_too_long number line ≡ true → (asked ≡ command_lines input) × (too_long_at input ≡ Some number)
  asked_long line more lines long = (
    sym (asks_all ∙ ap (λ (l : List (List ℕ)). asked ++ commands_from number l) lines ∙ ap (λ (l : List CommandLine). asked ++ l) (asks_none number line more long) ∙ append-nil asked),
    long_all ∙ ap (too_long_from number) lines ∙ long_here number line more long,
  )

pub first_of : (line after : List ℕ) → NoLf line → between_lfs (line ++ 10 ∷ after) ≡ line ∷ between_lfs after
first_of line after none = lf_line line after none

-- ---- what the reader finds

-- the first line feed
pub record FirstLf (pending : List ℕ) (end : ℕ) : Type 0 where
  pub split : pending ≡ take end pending ++ 10 ∷ drop (end + 1) pending
  pub no_lf : NoLf (take end pending)
  pub long : length (take end pending) ≡ end

pub at_lf : (pending : List ℕ) (end : ℕ) → Some end ≡ position is_lf pending → FirstLf pending end
at_lf pending end is =
    let at = position-Some is_lf pending end 0 (sym is) in
    let size : length (take end pending) ≡ end = omega (arith, length-take end pending, at.0) in
    let here : get_or pending end 0 ≡ 10 = eqb-true (get_or pending end 0) 10 at.1 in
    record {
      split = sym (take-append-drop end pending) ∙ ap (λ (l : List ℕ). take end pending ++ l) (drop-cons pending end 0 at.0 ∙ ap (λ (b : ℕ). b ∷ drop (suc end) pending) here ∙ ap (λ (n : ℕ). 10 ∷ drop n pending) (sym (add-one end)));
      no_lf = λ i within. let before : i < end = omega (arith, size) in ap is_lf (get_or-take end pending i 0 before) ∙ at.2 i before;
      long = size;
    }

pub behind_lf : (before pending behind : List ℕ) (end : ℕ) → before ≡ pending ++ behind → FirstLf pending end → before ≡ take end pending ++ 10 ∷ (drop (end + 1) pending ++ behind)
behind_lf before pending behind end split first = split ∙ ap (λ (l : List ℕ). l ++ behind) first.split ∙ append_assoc (take end pending) (10 ∷ drop (end + 1) pending) behind

-- a read that was refused, and one that came to the end
pub left_kept : (old new : Option (List ℕ)) (behind : List ℕ) → old ≡ Some behind → Keeps old new → new ≡ Some behind
left_kept None new behind told kept = cc
left_kept (Some xs) None behind told kept = absurd kept
left_kept (Some xs) (Some ys) behind told kept = let same : xs ≡ behind = cc in ap (λ (l : List ℕ). Some l) (kept ∙ same)

pub left_ends : (old new : Option (List ℕ)) (behind bytes : List ℕ) → old ≡ Some behind → Consumes old new bytes → bytes ≡ [] → IsAtEnd new → (behind ≡ []) × (new ≡ Some [])
left_ends None new behind bytes told consumed nothing at_end = cc
left_ends (Some xs) None behind bytes told consumed nothing at_end = absurd consumed
left_ends (Some xs) (Some ys) behind bytes told consumed nothing at_end =
    let same : xs ≡ behind = cc in
    (sym same ∙ consumed ∙ ap (λ (l : List ℕ). l ++ ys) nothing ∙ at_end, ap (λ (l : List ℕ). Some l) at_end)

-- no line feed
pub no_lf_in : (bytes : List ℕ) → position is_lf bytes ≡ None → NoLf bytes
no_lf_in bytes none i short = fails_before_first is_lf bytes i 0 (go (position_or_len is_lf bytes) none)
  where
    go : (n : ℕ) → cond (ltb n (length bytes)) (Some n) None ≡ None → i < n
    go n e = grind (arith, nat_tests)

-- more than 200 bytes
pub too_long_by : (number : ℕ) (line : List ℕ) → 200 < length line → is_too_long number line ≡ true
too_long_by number line more = rw (lt-ltb 200 (length line) more) refl

-- an error that is this one has what is said of this one
pub IfErr-by : {T E : Type 0} (r : Result T E) (P : E → Type 0) (e : E) → IsErrAnd r (λ y. y ≡ e) → P e → IfErr r P
IfErr-by (Ok x) P e is h = absurd is
IfErr-by (Err y) P e is h = subst P (sym is) h
