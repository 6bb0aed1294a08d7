use Rattle.std.proofs.Common.{◌≡◌, ◌∙◌, ℕ, ◌+◌, ◌<◌, List, [], ◌∷◌, ◌++◌, length, take, drop, ap, sym, refl, arith, append-nil}
use Rattle.std.specs.List.{position}
use Rattle.lines.specs.Lines.{is_lf, between_lfs}
use Rattle.script_lines.proofs.Readings.{at_lf, behind_lf, first_of, IfErr-by, long_line, last_line, no_lf_in, too_long_by, left_kept, left_ends}
use Rattle.script_lines.specs.declared.reader.LineStop.TheVariants.{Memory}
use Rattle.script_lines.proofs.reader.next_line.Goals as goal

pub returns-then-is_long-clause-stop : goal.returns-then-is_long-clause-stop
returns-then-is_long-clause-stop g c left told =
    let at = c.reads.invariant.told left told in
    let first = at_lf c.reads.pending c.in-Some.end (c.in-Some.ensures ∙ ap (λ (b : List ℕ). position is_lf b) c.as_slice.ensures) in
    record {
      line = take c.in-Some.end c.reads.pending;
      more = between_lfs (drop (c.in-Some.end + 1) c.reads.pending ++ at.0);
      lines = ap between_lfs (behind_lf (c.args.pending.now ++ left) c.reads.pending at.0 c.in-Some.end at.2 first) ∙ first_of (take c.in-Some.end c.reads.pending) (drop (c.in-Some.end + 1) c.reads.pending ++ at.0) first.no_lf;
      long = sym (c.is_long.ensures.long (take c.in-Some.end c.reads.pending) first.long) ∙ c.if-is_long.true;
    }

pub returns-in-Some-clause-line : goal.returns-in-Some-clause-line
returns-in-Some-clause-line g c left told =
    let at = c.reads.invariant.told left told in
    let first = at_lf c.reads.pending c.in-Some.end (c.in-Some.ensures ∙ ap (λ (b : List ℕ). position is_lf b) c.as_slice.ensures) in
    rw (c.in_ok-take_line.ensures.line, c.in_ok-take_line.ensures.rest) (record {
      behind = at.0;
      left_is = at.1;
      split = behind_lf (c.args.pending.now ++ left) c.reads.pending at.0 c.in-Some.end at.2 first;
      no_lf = first.no_lf;
      short = sym (c.is_long.ensures.long (take c.in-Some.end c.reads.pending) first.long) ∙ c.if-is_long.false;
    })

pub returns-then-len-gt-MOST_BYTES-clause-stop : goal.returns-then-len-gt-MOST_BYTES-clause-stop
returns-then-len-gt-MOST_BYTES-clause-stop g c left told =
    let at = c.reads.invariant.told left told in
    let none = no_lf_in c.reads.pending (sym (c.in_default.ensures ∙ ap (λ (b : List ℕ). position is_lf b) c.as_slice.ensures)) in
    let some : 0 < length c.reads.pending = omega (arith, c.if-len-gt-MOST_BYTES.true, c.len.ensures) in
    let long = long_line c.reads.pending at.0 some none in
    record {
      line = long.line;
      more = long.more;
      lines = ap between_lfs at.2 ∙ long.is;
      long = too_long_by c.args.number long.line (omega (arith, c.if-len-gt-MOST_BYTES.true, c.len.ensures, long.long));
    }

pub returns-in-Err-Failed-clause-stop : goal.returns-in-Err-Failed-clause-stop
returns-in-Err-Failed-clause-stop g c left told =
    let at = c.reads.invariant.told left told in
    record {
      behind = at.0;
      left_is = left_kept _ _ at.0 at.1 c.in-Err-Failed.ensures.bytes;
      split = at.2;
      no_lf = no_lf_in c.reads.pending (sym (c.in_default.ensures ∙ ap (λ (b : List ℕ). position is_lf b) c.as_slice.ensures));
    }

-- all that was to come is pending
all_pending : (before pending behind : List ℕ) → before ≡ pending ++ behind → behind ≡ [] → before ≡ pending
all_pending before pending behind split nothing = split ∙ ap (λ (l : List ℕ). pending ++ l) nothing ∙ append-nil pending

some_pending : (pending : List ℕ) → (pending ≡ [] → ⊥) → 0 < length pending
some_pending [] never = absurd (never refl)
some_pending (x ∷ xs) never = omega arith

pub returns-then-is_long-2-clause-stop : goal.returns-then-is_long-2-clause-stop
returns-then-is_long-2-clause-stop g c left told =
    let at = c.reads.invariant.told left told in
    let ends = left_ends _ _ at.0 (take c.in-Ok.count c.read.new.buf) at.1 c.in-Ok.ensures.bytes.0 (ap (λ (n : ℕ). take n c.read.new.buf) c.if-count-eq0.true) (c.in-Ok.ensures.bytes.1 c.if-count-eq0.true (omega arith)) in
    let none = no_lf_in c.reads.pending (sym (c.in_default.ensures ∙ ap (λ (b : List ℕ). position is_lf b) c.as_slice.ensures)) in
    let all = all_pending (c.args.pending.now ++ left) c.reads.pending at.0 at.2 ends.0 in
    let some : 0 < length c.reads.pending = some_pending c.reads.pending (λ nothing. let yes = c.is_empty.ensures.1 nothing in let other = c.if-is_empty.false in cc) in
    record {
      line = c.reads.pending;
      more = [];
      lines = ap between_lfs all ∙ last_line c.reads.pending some none;
      long = sym (c.is_long-then-count-eq0.ensures.long c.reads.pending (sym c.len-then-count-eq0.ensures)) ∙ c.if-is_long-2.true;
    }

pub returns-then-count-eq0-clause-line : goal.returns-then-count-eq0-clause-line
returns-then-count-eq0-clause-line g c left told =
    let at = c.reads.invariant.told left told in
    let ends = left_ends _ _ at.0 (take c.in-Ok.count c.read.new.buf) at.1 c.in-Ok.ensures.bytes.0 (ap (λ (n : ℕ). take n c.read.new.buf) c.if-count-eq0.true) (c.in-Ok.ensures.bytes.1 c.if-count-eq0.true (omega arith)) in
    let none = no_lf_in c.reads.pending (sym (c.in_default.ensures ∙ ap (λ (b : List ℕ). position is_lf b) c.as_slice.ensures)) in
    let all = all_pending (c.args.pending.now ++ left) c.reads.pending at.0 at.2 ends.0 in
    let some : 0 < length c.reads.pending = some_pending c.reads.pending (λ nothing. let yes = c.is_empty.ensures.1 nothing in let other = c.if-is_empty.false in cc) in
    rw (c.in_ok-last.ensures, c.as_slice-then-count-eq0.ensures) (record {
      left_is = ends.1;
      all = all;
      some = some;
      no_lf = none;
      short = sym (c.is_long-then-count-eq0.ensures.long c.reads.pending (sym c.len-then-count-eq0.ensures)) ∙ c.if-is_long-2.false;
    })

pub returns-then-is_long-clause-kept : goal.returns-then-is_long-clause-kept
returns-then-is_long-clause-kept g c left told =
    let at = c.reads.invariant.told left told in
    record { lost = []; behind = at.0; left_is = at.1; split = at.2; none_lost = λ _. refl }

pub returns-then-len-gt-MOST_BYTES-clause-kept : goal.returns-then-len-gt-MOST_BYTES-clause-kept
returns-then-len-gt-MOST_BYTES-clause-kept g c left told =
    let at = c.reads.invariant.told left told in
    record { lost = []; behind = at.0; left_is = at.1; split = at.2; none_lost = λ _. refl }

pub returns-in_err-take_line-clause-kept : goal.returns-in_err-take_line-clause-kept
returns-in_err-take_line-clause-kept g c =
    IfErr-by c.from_residual.result _ Memory c.from_residual.ensures.1 (λ left told.
    let at = c.reads.invariant.told left told in
    record { lost = []; behind = at.0; left_is = at.1; split = at.2 ∙ ap (λ (l : List ℕ). l ++ at.0) (sym c.in_err-take_line.ensures.err); none_lost = λ _. refl })
