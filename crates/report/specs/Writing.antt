-- What a writer of rows holds.
use Rattle.std.specs.Prelude.{◌≡◌, ℕ, false, List, ◌++◌, Option, Some, option_to_list}
use Rattle.std.specs.List.{flat_map}
use Rattle.wirelist.specs.Canonical.{line_of}
use Rattle.csv.specs.Writing.{needs_quotes, default_writer, text_written, writer_setup, fields_written, has_written}
use Rattle.csv.specs.declared.writer.Writer.{Writer}

-- between two rows, it has written this text; `held` gives what stands in the writer underneath
pub record Holds {W : Type 0} (held : W → Option (List ℕ)) (rows : Writer W) (text : List ℕ) : Type 0 where
  pub setup : writer_setup rows ≡ default_writer
  pub no_field : fields_written rows ≡ 0
  pub clean : has_written rows ≡ false
  pub text_is : text_written held rows ≡ Some text

-- behind what was written stands a text more
abbrev pub Adds : {W : Type 0} → (W → Option (List ℕ)) → Writer W → Writer W → List ℕ → Type 0
Adds held before after more = (text : List ℕ) → Holds held before text → Holds held after (text ++ more)

-- the field calls for no quotes
abbrev pub IsPlain : List ℕ → Type 0
IsPlain field = needs_quotes default_writer field ≡ false

-- the line of a row, where there is one
abbrev pub lines_of : Option (List (List ℕ)) → List ℕ
lines_of row = flat_map line_of (option_to_list row)
