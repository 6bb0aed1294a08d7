-- What a writer of rows holds behind a row.
use Rattle.std.proofs.Common.{◌≡◌, ◌≢◌, ℕ, ◌≤◌, Bool, false, List, [], ◌++◌, length, Option, None, Some, refl, sym, ◌∙◌, ap, append_assoc, append-nil}
use Rattle.std.specs.Prelude.{All, filter_map}
use Rattle.std.specs.Io.KnownBytes.{append_known, Appends, Keeps}
use Rattle.std.specs.List.{flat_map, list_any}
use Rattle.csv.specs.Writing.{default_writer, fields_written, has_written, row_text, text_written, writer_pending, writer_setup, writer_under}
use Rattle.csv.specs.declared.writer.QuoteStyle.TheVariants as style
use Rattle.csv.specs.declared.writer.Writer.{Writer}
use Rattle.csv.specs.declared.writer.WriterBuilder.{WriterBuilder}
use Rattle.wirelist.specs.Canonical.{line_of}
use Rattle.records.specs.declared.record.StationRecord.{StationRecord}
use Rattle.serials.specs.Scan.{marks}
use Rattle.report.specs.UnitText.{numbered_records}
use Rattle.report.specs.ResultText.{columns, result_row, result_text}
use Rattle.report.specs.Writing.{Adds, Holds, IsPlain}
use Rattle.report.proofs.PlainRows.{row_plain}

appended : (a b : Option (List ℕ)) (text more : List ℕ) → a ≡ Some text → Appends a b more → b ≡ Some (text ++ more)
appended None b text more is adds = absurd cc
appended (Some x) None text more is adds = absurd adds
appended (Some x) (Some y) text more is adds = let same : x ≡ text = cc in ap Some (adds ∙ ap (λ (l : List ℕ). l ++ more) same)

not_numeric : (b : WriterBuilder) → b ≡ default_writer → b.style ≢ style.NonNumeric
not_numeric b is e = let named = ap (λ (w : WriterBuilder). w.style) is in absurd cc

pub row_added : {W : Type 0} (held : W → Option (List ℕ)) (before after : Writer W) (fields : List (List ℕ)) → 2 ≤ length fields → All IsPlain fields
    → (fields_written before ≡ 0 → has_written before ≡ false → (writer_setup before).style ≢ style.NonNumeric → Appends (text_written held before) (text_written held after) (row_text (writer_setup before) fields))
    → fields_written after ≡ 0 → has_written after ≡ false → writer_setup after ≡ writer_setup before → Adds held before after (line_of fields)
row_added held before after fields two plain adds no_field clean setup text holds = record {
  setup = setup ∙ holds.setup;
  no_field = no_field;
  clean = clean;
  text_is =
      appended (text_written held before) (text_written held after) text (row_text (writer_setup before) fields) holds.text_is (adds holds.no_field holds.clean (not_numeric (writer_setup before) holds.setup))
      ∙ ap (λ (b : WriterBuilder). Some (text ++ row_text b fields)) holds.setup
      ∙ ap (λ (l : List ℕ). Some (text ++ l)) (row_plain fields two plain);
}

-- nothing more, and one text behind another
pub adds_none : {W : Type 0} (held : W → Option (List ℕ)) (rows : Writer W) → Adds held rows rows []
adds_none held rows text holds = record { setup = holds.setup; no_field = holds.no_field; clean = holds.clean; text_is = holds.text_is ∙ ap Some (sym (append-nil text)) }

pub adds_then : {W : Type 0} (held : W → Option (List ℕ)) (a b c : Writer W) (x y : List ℕ) → Adds held a b x → Adds held b c y → Adds held a c (x ++ y)
adds_then held a b c x y first second text holds =
    let h = second (text ++ x) (first text holds) in
    record { setup = h.setup; no_field = h.no_field; clean = h.clean; text_is = h.text_is ∙ ap Some (append_assoc text x y) }

-- a writer that has written nothing
pub fresh : {W : Type 0} (held : W → Option (List ℕ)) (rows : Writer W) (under : W) → writer_under rows ≡ under → held under ≡ Some [] → writer_pending rows ≡ [] → writer_setup rows ≡ default_writer
    → fields_written rows ≡ 0 → has_written rows ≡ false → Holds held rows []
fresh {W} held rows under is none pending setup no_field clean = record {
  setup = setup;
  no_field = no_field;
  clean = clean;
  text_is =
      ap (λ (w : W). append_known (held w) (writer_pending rows)) is
      ∙ ap (λ (o : Option (List ℕ)). append_known o (writer_pending rows)) none
      ∙ ap (λ (l : List ℕ). Some l) pending;
}

-- what was written is what the writer underneath holds after a flush
pub kept : (written : Option (List ℕ)) (text bytes : List ℕ) → written ≡ Some text → Keeps written (Some bytes) → bytes ≡ text
kept None text bytes is keeps = absurd cc
kept (Some x) text bytes is keeps = let same : x ≡ text = cc in keeps ∙ same

-- ---- the file

-- its text over records, with or without the further columns
abbrev pub file_text : Bool → List StationRecord → List ℕ
file_text with_staff R = line_of (columns with_staff) ++ flat_map line_of (filter_map (result_row with_staff) (numbered_records R))

pub file_is : (R : List StationRecord) → file_text (list_any marks R) R ≡ result_text R
unfolding result_text
file_is R = refl
