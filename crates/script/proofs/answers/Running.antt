-- A script that is read and answered, line by line.
use Rattle.std.proofs.Common.{◌≡◌, ◌⊎◌, inl, inr, ⊎_elim, ℕ, ◌+◌, false, List, [], ◌∷◌, ◌++◌, Option, Some, None, refl, sym, ◌∙◌, ap, subst, append-nil, arith}
use Rattle.std.specs.Prelude.{map, nat_eq}
use Rattle.std.proofs.lemmas.Bool.Decides.{nat_tests}
use Rattle.disk_edge.specs.Disk.{DiskState, EachImage}
use Rattle.lines.specs.Lines.{between_lfs}
use Rattle.lines.specs.Laws.{with_lfs}
use Rattle.rig.specs.RigState.{RigState}
use Rattle.ledger.specs.Kept.{IsImageOf}
use Rattle.wirelist.specs.declared.program.Program.{Program}
use Rattle.unit_outcome.specs.Found.{Findings}
use Rattle.station.proofs.Repeating.{repeats_add_nothing}
use Rattle.station.specs.View.{StationState}
use Rattle.script_lines.specs.declared.reader.LineStop.{LineStop}
use Rattle.script_lines.specs.declared.reader.LineStop.TheVariants.{Failed, TooLong, Memory}
use Rattle.script_lines.specs.Script.{CommandLine, is_too_long, asking, commands_from, command_lines, too_long_at}
use Rattle.script_lines.specs.Reading.{ReadsWhole, ReadsLast, ReadsTooLong, ReadsNoLine, ReadsNot}
use Rattle.script_lines.proofs.Readings.{Reading, reads_first, reads_more, asked_front, asked_with, asked_end, asked_last, asked_long, first_of, last_line}
use Rattle.script.specs.Closing.{Closing, none, read_fault, write_fault, disk_fault, memory, not_at_zero, line_too_long, status_of, closing_line, closing_for}
use Rattle.script.specs.Said.{Asked, asks, asked_by_script}
use Rattle.script.specs.Scene.{Scene, IsScene}
use Rattle.script.specs.Saying.{WritesFront}
use Rattle.script.specs.Ends.{EndsIn}
use Rattle.script.specs.Asking.{Passes, EndsAsking}
use Rattle.script.specs.Growth.{IsPrefix}
use Rattle.script.specs.Headline.{ReadWhole, RepeatsAddNothing, ScriptHeadline}
use Rattle.script.proofs.answers.Written.{part_of}
use Rattle.script.proofs.answers.History.{Turn, asked_of, said_of, asked-push, turn_of, all_written, SoFar, starts, goes_further}
use Rattle.script.proofs.answers.Told.{told_so_far}
use Rattle.script.proofs.answers.Closings.{ends_in_line, between, ends_between}

-- what lines ask, one list behind the other
asks-append : (xs ys : List CommandLine) → map asks (xs ++ ys) ≡ map asks xs ++ map asks ys
asks-append [] ys = refl
asks-append (x ∷ xs) ys = ap (λ (l : List Asked). asks x ∷ l) (asks-append xs ys)

-- Of the script, these lines were read and asked this; what is pending and left comes next.
pub record Reads (script : List ℕ) (number : ℕ) (asked : List Asked) (pending : List ℕ) (left : Option (List ℕ)) : Type 0 where
  pub lines : List CommandLine
  pub asked_is : asked ≡ map asks lines
  pub behind : List ℕ
  pub left_is : left ≡ Some behind
  pub reading : Reading script number lines (pending ++ behind)

-- So much is answered.
pub record Running (began : StationState) (s : StationState) (number : ℕ) (pending : List ℕ) (got got' moments moments' left left' : Option (List ℕ)) : Type 0 where
  pub turns : List Turn
  pub so_far : SoFar began turns s got got' moments moments'
  pub reads : (script : List ℕ) → left ≡ Some script → Reads script number (asked_of turns) pending left'

pub begins : (began : StationState) (got moments left : Option (List ℕ)) → Running began began 1 [] got got moments moments left left
begins began got moments left = record {
  turns = [];
  so_far = starts began got moments;
  reads = λ script told. record { lines = []; asked_is = refl; behind = script; left_is = told; reading = reads_first script };
}

-- ---- one line more

-- the turns after a line, and what they asked
pub record Further (began : StationState) (turns : List Turn) (more : List Asked) (new : StationState) (got got' moments moments' : Option (List ℕ)) : Type 0 where
  pub turns' : List Turn
  pub so_far : SoFar began turns' new got got' moments moments'
  pub asked_is : asked_of turns' ≡ asked_of turns ++ more

pub passes : (began : StationState) (turns : List Turn) (s new : StationState) (more : List Asked) (got mid got' moments late moments' : Option (List ℕ)) → SoFar began turns s got mid moments late
    → Passes more s new mid got' late moments' → Further began turns more new got got' moments moments'
passes began turns s new more got mid got' moments late moments' so_far passed = ⊎_elim
    (λ over. let same = over.1 in
    record {
      turns' = turns;
      so_far = subst (λ (x : StationState). SoFar began turns x got got' moments moments') (sym same.station)
          (subst (λ (o : Option (List ℕ)). SoFar began turns s got o moments moments') (sym same.got_is)
          (subst (λ (o : Option (List ℕ)). SoFar began turns s got mid moments o) (sym same.moments_are) so_far));
      asked_is = sym (append-nil (asked_of turns)) ∙ ap (λ (l : List Asked). asked_of turns ++ l) (sym over.0);
    })
    (λ one. record {
      turns' = turns ++ turn_of one.2 ∷ [];
      so_far = goes_further began turns s new one.0 got mid got' moments late moments' so_far one.2;
      asked_is = asked-push turns (turn_of one.2) ∙ ap (λ (l : List Asked). asked_of turns ++ l) (sym one.1);
    })
    passed

module _ (began s : StationState) (number : ℕ) (pending : List ℕ) (got mid moments late left left' : Option (List ℕ)) (run : Running began s number pending got mid moments late left left') where
  pub goes_on : (line pending' : List ℕ) (left'' : Option (List ℕ)) (new : StationState) (got' moments' : Option (List ℕ))
      → ((behind : List ℕ) → left' ≡ Some behind → ReadsWhole (pending ++ behind) number line pending' left'')
      → Passes (map asks (asking number line)) s new mid got' late moments' → Running began new (number + 1) pending' got got' moments moments' left left''
  goes_on line pending' left'' new got' moments' reads passed =
      let more = passes began run.turns s new (map asks (asking number line)) got mid got' moments late moments' run.so_far passed in
      record {
        turns = more.turns';
        so_far = more.so_far;
        reads = λ script told.
            let read = run.reads script told in
            let whole = reads read.behind read.left_is in
            record {
              lines = read.lines ++ asking number line;
              asked_is = more.asked_is ∙ ap (λ (l : List Asked). l ++ map asks (asking number line)) read.asked_is ∙ sym (asks-append read.lines (asking number line));
              behind = whole.behind;
              left_is = whole.left_is;
              reading = reads_more script number read.lines (pending ++ read.behind) read.reading line (pending' ++ whole.behind) whole.split whole.no_lf whole.short;
            };
      }

-- ---- the end

-- a command whose id some record has adds nothing
repeated : (findings : Findings) (p : Program) → RepeatsAddNothing findings p
repeated findings p R c now number reply after taken step = (repeats_add_nothing findings p R c now number reply after taken step).1

-- it is one number, and not another
differ : (a b : ℕ) → a ≡ b → nat_eq a b ≡ false → ⊥
differ a b same not = grind (arith, nat_tests)

other_than : (status is_one other : ℕ) → status ≡ is_one → nat_eq is_one other ≡ false → status ≡ other → ⊥
other_than status is_one other is not was = let same : is_one ≡ other = sym is ∙ was in differ is_one other same not

-- the call ends within a line: so ends neither a script that was read nor one that could not be
record Within (status : ℕ) : Type 0 where
  pub done : status ≡ 0 → ⊥
  pub too_long : status ≡ 12 → ⊥
  pub read_fault : status ≡ 6 → ⊥

within_of : (closing : Closing) (status : ℕ) → status ≡ status_of closing → (closing ≡ write_fault) ⊎ (closing ≡ disk_fault) ⊎ (closing ≡ memory) ⊎ (closing ≡ not_at_zero) → Within status
within_of closing status is why = subst (λ (n : ℕ). Within n) (sym is) (⊎_elim
    (λ here. subst (λ (x : Closing). Within (status_of x)) (sym here) (record { done = λ was. cc; too_long = λ was. cc; read_fault = λ was. cc }))
    (⊎_elim
    (λ here. subst (λ (x : Closing). Within (status_of x)) (sym here) (record { done = λ was. cc; too_long = λ was. cc; read_fault = λ was. cc }))
    (⊎_elim
    (λ here. subst (λ (x : Closing). Within (status_of x)) (sym here) (record { done = λ was. cc; too_long = λ was. cc; read_fault = λ was. cc }))
    (λ here. subst (λ (x : Closing). Within (status_of x)) (sym here) (record { done = λ was. cc; too_long = λ was. cc; read_fault = λ was. cc }))))
    why)

within : (old : StationState) (asked : Asked) (status : ℕ) (rig : RigState) (disk : DiskState) (got got' moments moments' : Option (List ℕ)) → EndsIn old asked status rig disk got got' moments moments' → Within status
within old asked status rig disk got got' moments moments' ends = within_of ends.closing status ends.status_is (⊎_elim
    (λ unsaid. ⊎_elim (λ w. inl w) (λ m. inr (inr (inl m))) unsaid.why)
    (⊎_elim (λ lost. ⊎_elim (λ d. inr (inl d)) (λ m. inr (inr (inl m))) lost.why) (λ stuck. inr (inr (inr stuck.why))))
    ends.how)

module _ (scene : Scene) (script : List ℕ) (began s : StationState) (number : ℕ) (pending : List ℕ) (got mid moments late left left' : Option (List ℕ)) (run : Running began s number pending got mid moments late left left')
    (is_scene : IsScene began got moments scene) (script_told : left ≡ Some script) (standing : EachImage s.disk (IsImageOf s.records)) where
  -- the call ends in a line
  ends_within : (line : List ℕ) (more : List (List ℕ)) (left'' : Option (List ℕ)) (status : ℕ) (rig : RigState) (disk : DiskState) (got' moments' : Option (List ℕ)) (read : Reads script number (asked_of run.turns) pending left')
      → between_lfs (pending ++ read.behind) ≡ line ∷ more → is_too_long number line ≡ false → EndsAsking (map asks (asking number line)) s status rig disk mid got' late moments' → ScriptHeadline scene began script left'' status disk got'
  ends_within line more left'' status rig disk got' moments' read lines short ends =
      let told = told_so_far scene began run.turns s got mid moments late run.so_far is_scene in
      let all : command_lines script ≡ (read.lines ++ asking number line) ++ commands_from (number + 1) more = asked_with script number read.lines (pending ++ read.behind) read.reading line more lines short in
      let asked : asked_by_script script ≡ (asked_of run.turns ++ ends.0 ∷ []) ++ map asks (commands_from (number + 1) more) =
      ap (λ (l : List CommandLine). map asks l) all ∙ asks-append (read.lines ++ asking number line) (commands_from (number + 1) more)
      ∙ ap (λ (l : List Asked). l ++ map asks (commands_from (number + 1) more)) (asks-append read.lines (asking number line) ∙ ap (λ (l : List Asked). l ++ map asks (asking number line)) (sym read.asked_is) ∙ ap (λ (l : List Asked). asked_of run.turns ++ l) ends.1) in
      let kept = ends_in_line scene began run.turns s late told.0 standing (asked_by_script script) ends.0 mid status rig disk got' moments' told.1 (record { behind = map asks (commands_from (number + 1) more); is = asked }) ends.2 in
      let not = within s ends.0 status rig disk mid got' late moments' ends.2 in
      record {
        progress = kept.progress;
        word = kept.word;
        ends = record { done = λ was. absurd (not.done was); too_long = λ was. absurd (not.too_long was); read_fault = λ was. absurd (not.read_fault was); zero = kept.zero };
        repeated = repeated scene.findings began.program;
      }

  -- it ends between two lines
  ends_outside : (turns : List Turn) (t : StationState) (late' got' : Option (List ℕ)) (so_far : SoFar began turns t got got' moments late') (kept : EachImage t.disk (IsImageOf t.records)) (closing : Closing) (status : ℕ) → status ≡ status_of closing → (status ≡ 10 → ⊥)
      → (disk : DiskState) → disk ≡ t.disk → (got'' left'' : Option (List ℕ)) (rest : List ℕ) → got'' ≡ Some ((scene.got ++ all_written (said_of turns)) ++ rest) → IsPrefix rest (closing_line closing) → IsPrefix (asked_of turns) (asked_by_script script)
      → (status ≡ 0 → (asked_of turns ≡ asked_by_script script) × (rest ≡ []) × (too_long_at script ≡ None) × (left'' ≡ Some []))
      → (status ≡ 12 → (line : ℕ) × (too_long_at script ≡ Some line) × (closing ≡ line_too_long line) × (asked_of turns ≡ asked_by_script script))
      → (status ≡ 6 → ReadWhole script left'' (asked_of turns)) → ScriptHeadline scene began script left'' status disk got''
  ends_outside turns t late' got' so_far kept closing status is not_ten disk same got'' left'' rest got_is front lines done too_long whole =
      let told = told_so_far scene began turns t got got' moments late' so_far is_scene in
      let word = ends_between scene began turns t late' told.0 kept (asked_by_script script) closing status disk got'' rest lines same is not_ten got_is front in
      record {
        progress = between scene began turns t late' told.0 kept (asked_by_script script) rest closing;
        word = word.0;
        ends = record { done = done; too_long = too_long; read_fault = whole; zero = word.1 };
        repeated = repeated scene.findings began.program;
      }

  -- all lines were answered
  ends_done : (turns : List Turn) (t : StationState) (late' got' : Option (List ℕ)) (so_far : SoFar began turns t got got' moments late') (kept : EachImage t.disk (IsImageOf t.records)) (status : ℕ) → status ≡ 0 → (disk : DiskState) → disk ≡ t.disk → (left'' : Option (List ℕ)) → left'' ≡ Some []
      → asked_of turns ≡ asked_by_script script → too_long_at script ≡ None → ScriptHeadline scene began script left'' status disk got'
  ends_done turns t late' got' so_far kept status is disk same left'' at_end all none_long =
      let told = told_so_far scene began turns t got got' moments late' so_far is_scene in
      ends_outside turns t late' got' so_far kept none status is (λ ten. cc) disk same got' left'' [] (told.1 ∙ ap (λ (l : List ℕ). Some l) (sym (append-nil (scene.got ++ all_written (said_of turns)))))
      (record { behind = []; is = refl }) (record { behind = []; is = sym all ∙ sym (append-nil (asked_of turns)) })
      (λ zero. (all, refl, none_long, at_end)) (λ was. cc) (λ was. cc)

  -- no line comes
  pub ends_at_end : (left'' : Option (List ℕ)) (status : ℕ) → status ≡ 0 → (disk : DiskState) → disk ≡ s.disk → ((behind : List ℕ) → left' ≡ Some behind → (left'' ≡ Some []) × (pending ++ behind ≡ [])) → ScriptHeadline scene began script left'' status disk mid
  ends_at_end left'' status is disk same reads =
      let read = run.reads script script_told in
      let end = reads read.behind read.left_is in
      let all = asked_end script number read.lines (pending ++ read.behind) read.reading end.1 in
      ends_done run.turns s late mid run.so_far standing status is disk same left'' end.0 (read.asked_is ∙ ap (λ (l : List CommandLine). map asks l) all.0) all.1

  -- the last line was answered
  pub ends_after_last : (line : List ℕ) (left'' : Option (List ℕ)) (new : StationState) (got' moments' : Option (List ℕ)) → EachImage new.disk (IsImageOf new.records)
      → ((behind : List ℕ) → left' ≡ Some behind → ReadsLast (pending ++ behind) number line left'') → Passes (map asks (asking number line)) s new mid got' late moments'
      → (status : ℕ) → status ≡ 0 → (disk : DiskState) → disk ≡ new.disk → ScriptHeadline scene began script left'' status disk got'
  ends_after_last line left'' new got' moments' new_standing reads passed status is disk same =
      let read = run.reads script script_told in
      let last = reads read.behind read.left_is in
      let more = passes began run.turns s new (map asks (asking number line)) got mid got' moments late moments' run.so_far passed in
      let lines : between_lfs (pending ++ read.behind) ≡ line ∷ [] = ap between_lfs last.all ∙ last_line line last.some last.no_lf in
      let all = asked_last script number read.lines (pending ++ read.behind) read.reading line lines last.short in
      let asked : asked_of more.turns' ≡ asked_by_script script = more.asked_is ∙ ap (λ (l : List Asked). l ++ map asks (asking number line)) read.asked_is ∙ sym (asks-append read.lines (asking number line)) ∙ ap (λ (l : List CommandLine). map asks l) all.0 in
      ends_done more.turns' new moments' got' more.so_far new_standing status is disk same left'' last.left_is asked all.1

  -- the call ends in a line that ends with an LF, or in the last one
  pub ends_in_whole : (line pending' : List ℕ) (left'' : Option (List ℕ)) (status : ℕ) (rig : RigState) (disk : DiskState) (got' moments' : Option (List ℕ)) → ((behind : List ℕ) → left' ≡ Some behind → ReadsWhole (pending ++ behind) number line pending' left'')
      → EndsAsking (map asks (asking number line)) s status rig disk mid got' late moments' → ScriptHeadline scene began script left'' status disk got'
  ends_in_whole line pending' left'' status rig disk got' moments' reads ends =
      let read = run.reads script script_told in
      let whole = reads read.behind read.left_is in
      ends_within line (between_lfs (pending' ++ whole.behind)) left'' status rig disk got' moments' read (ap between_lfs whole.split ∙ first_of line (pending' ++ whole.behind) whole.no_lf) whole.short ends

  pub ends_in_last : (line : List ℕ) (left'' : Option (List ℕ)) (status : ℕ) (rig : RigState) (disk : DiskState) (got' moments' : Option (List ℕ)) → ((behind : List ℕ) → left' ≡ Some behind → ReadsLast (pending ++ behind) number line left'')
      → EndsAsking (map asks (asking number line)) s status rig disk mid got' late moments' → ScriptHeadline scene began script left'' status disk got'
  ends_in_last line left'' status rig disk got' moments' reads ends =
      let read = run.reads script script_told in
      let last = reads read.behind read.left_is in
      ends_within line [] left'' status rig disk got' moments' read (ap between_lfs last.all ∙ last_line line last.some last.no_lf) last.short ends

  -- a front of the script was asked
  front : (read : Reads script number (asked_of run.turns) pending left') → IsPrefix (asked_of run.turns) (asked_by_script script)
  front read = record {
    behind = map asks (commands_from number (between_lfs (pending ++ read.behind)));
    is = ap (λ (l : List CommandLine). map asks l) (asked_front script number read.lines (pending ++ read.behind) read.reading) ∙ asks-append read.lines (commands_from number (between_lfs (pending ++ read.behind)))
        ∙ ap (λ (l : List Asked). l ++ map asks (commands_from number (between_lfs (pending ++ read.behind)))) (sym read.asked_is);
  }

  -- a read failed
  ends_failed : (pending' : List ℕ) (left'' : Option (List ℕ)) → ((behind : List ℕ) → left' ≡ Some behind → ReadsNoLine (pending ++ behind) pending' left'') → (status : ℕ) → status ≡ 6 → (disk : DiskState) → disk ≡ s.disk
      → (got' : Option (List ℕ)) → WritesFront (closing_line read_fault) mid got' → ScriptHeadline scene began script left'' status disk got'
  ends_failed pending' left'' reads status is disk same got' closed =
      let told = told_so_far scene began run.turns s got mid moments late run.so_far is_scene in
      let part = part_of (closing_line read_fault) (scene.got ++ all_written (said_of run.turns)) mid got' told.1 closed in
      let read = run.reads script script_told in
      let no_line = reads read.behind read.left_is in
      ends_outside run.turns s late mid run.so_far standing read_fault status is (other_than status 6 10 is refl) disk same got' left'' part.rest part.got_is part.front (front read)
      (λ was. absurd (other_than status 6 0 is refl was)) (λ was. absurd (other_than status 6 12 is refl was))
      (λ six. record {
        lines = read.reading.lines;
        rest = pending';
        behind = no_line.behind;
        left_is = no_line.left_is;
        script_is = read.reading.input_is ∙ ap (λ (l : List ℕ). with_lfs read.reading.lines ++ l) no_line.split;
        no_lf = no_line.no_lf;
        asked = read.asked_is ∙ ap (λ (l : List CommandLine). map asks l) (sym (ap (commands_from 1) (sym (append-nil read.reading.lines)) ∙ read.reading.asks [] ∙ append-nil read.lines));
      })

  -- the next line is too long
  ends_too_long : (left'' : Option (List ℕ)) → ((behind : List ℕ) → left' ≡ Some behind → ReadsTooLong (pending ++ behind) number) → (status : ℕ) → status ≡ 12 → (disk : DiskState) → disk ≡ s.disk
      → (got' : Option (List ℕ)) → WritesFront (closing_line (line_too_long number)) mid got' → ScriptHeadline scene began script left'' status disk got'
  ends_too_long left'' reads status is disk same got' closed =
      let told = told_so_far scene began run.turns s got mid moments late run.so_far is_scene in
      let part = part_of (closing_line (line_too_long number)) (scene.got ++ all_written (said_of run.turns)) mid got' told.1 closed in
      let read = run.reads script script_told in
      let long = reads read.behind read.left_is in
      let all = asked_long script number read.lines (pending ++ read.behind) read.reading long.line long.more long.lines long.long in
      let asked : asked_of run.turns ≡ asked_by_script script = read.asked_is ∙ ap (λ (l : List CommandLine). map asks l) all.0 in
      ends_outside run.turns s late mid run.so_far standing (line_too_long number) status is (other_than status 12 10 is refl) disk same got' left'' part.rest part.got_is part.front (front read)
      (λ was. absurd (other_than status 12 0 is refl was)) (λ twelve. (number, all.1, refl, asked)) (λ was. absurd (other_than status 12 6 is refl was))

  -- memory ran out
  ends_memory : (left'' : Option (List ℕ)) (status : ℕ) → status ≡ 9 → (disk : DiskState) → disk ≡ s.disk → (got' : Option (List ℕ)) → WritesFront (closing_line memory) mid got' → ScriptHeadline scene began script left'' status disk got'
  ends_memory left'' status is disk same got' closed =
      let told = told_so_far scene began run.turns s got mid moments late run.so_far is_scene in
      let part = part_of (closing_line memory) (scene.got ++ all_written (said_of run.turns)) mid got' told.1 closed in
      ends_outside run.turns s late mid run.so_far standing memory status is (other_than status 9 10 is refl) disk same got' left'' part.rest part.got_is part.front (front (run.reads script script_told))
      (λ was. absurd (other_than status 9 0 is refl was)) (λ was. absurd (other_than status 9 12 is refl was)) (λ was. absurd (other_than status 9 6 is refl was))

  -- there is no next line to read
  pub ends_stopped : (stop : LineStop) (pending' : List ℕ) (left'' : Option (List ℕ)) → ((behind : List ℕ) → left' ≡ Some behind → ReadsNot (pending ++ behind) number stop pending' left'') → (status : ℕ) → status ≡ status_of (closing_for stop number) → (disk : DiskState) → disk ≡ s.disk
      → (got' : Option (List ℕ)) → WritesFront (closing_line (closing_for stop number)) mid got' → ScriptHeadline scene began script left'' status disk got'
  ends_stopped Failed pending' left'' reads status is disk same got' closed = ends_failed pending' left'' reads status is disk same got' closed
  ends_stopped TooLong pending' left'' reads status is disk same got' closed = ends_too_long left'' reads status is disk same got' closed
  ends_stopped Memory pending' left'' reads status is disk same got' closed = ends_memory left'' status is disk same got' closed
