use Rattle.std.proofs.Common.{◌≡◌, ◌≤◌, ◌<◌, ◌∙◌, List, ℕ, length, rules, sym, subst}
use Rattle.std.specs.Prelude.{IfOk}
use Rattle.wirelist_rows.specs.Filled.{rows_in}
use Rattle.wirelist_reader.specs.Refusals.{FindsOrMemory, most_bytes, rows_refusals}
use Rattle.wirelist_reader.specs.Rows.{program_of}
use Rattle.wirelist.specs.declared.program.Program.{Program}
use Rattle.wirelist.specs.declared.refusal.WireRefusal.{WireRefusal}
use Rattle.wirelist_reader.proofs.printed.ReadBackLaw.{answers_back, too_long}
use Rattle.wirelist_reader.proofs.ReadFacts.{short_file}
use Rattle.wirelist_reader.proofs.reading.read.Goals as goal

pub returns-clause-program : goal.returns-clause-program
returns-clause-program c =
    subst (λ (rows : List (List (List ℕ))). IfOk c.read_rows.result (λ p. p ≡ program_of rows)) (c.as_slice.ensures ∙ c.in_ok-rows.ensures.rows) c.read_rows.ensures.program

pub returns-clause-finds : goal.returns-clause-finds
returns-clause-finds c =
    let short : length c.args.bytes.now ≤ most_bytes = search rules in
    let rows : FindsOrMemory {A = Program} (rows_refusals (rows_in c.args.bytes.now)) c.read_rows.result =
    subst (λ (rows : List (List (List ℕ))). FindsOrMemory {A = Program} (rows_refusals rows) c.read_rows.result) (c.as_slice.ensures ∙ c.in_ok-rows.ensures.rows) c.read_rows.ensures.finds in
    subst (λ (faults : List WireRefusal). FindsOrMemory {A = Program} faults c.read_rows.result) (sym (short_file c.args.bytes.now short)) rows

pub returns-then-bytes-gt-MOST_BYTES-clause-printed : goal.returns-then-bytes-gt-MOST_BYTES-clause-printed
returns-then-bytes-gt-MOST_BYTES-clause-printed c =
    let long : most_bytes < length c.args.bytes.now = search rules in
    λ p ok text. absurd (too_long c.args.bytes.now long p ok text)

pub returns-clause-printed : goal.returns-clause-printed
returns-clause-printed c = answers_back c.args.bytes.now c.read_rows.result (returns-clause-program c) (returns-clause-finds c)
