-- The canonical text of a program, as csv reads it.
use Rattle.std.proofs.Common.{◌≡◌, ℕ, List, ◌∷◌, ◌∙◌, ap, drop, refl}
use Rattle.csv.specs.Reading.{default_config, records, strip_bom}
use Rattle.wirelist.specs.Canonical.{canonical, rows_of}
use Rattle.wirelist.specs.Programs.{IsProgram}
use Rattle.wirelist.specs.declared.program.Program.{Program}
use Rattle.printed_rows.proofs.ReadBack.{rows_read}
use Rattle.printed_rows.proofs.ProgramRows.{rows_plain}

-- a text that begins with `par` begins with no byte order mark
no_mark : (rest : List ℕ) → strip_bom (112 ∷ 97 ∷ 114 ∷ rest) ≡ 112 ∷ 97 ∷ 114 ∷ rest
unfolding strip_bom
no_mark rest = refl

pub printed_records : (p : Program) → IsProgram p → records default_config (strip_bom (canonical p)) ≡ rows_of p
printed_records p ok = ap (records default_config) (no_mark (drop 3 (canonical p))) ∙ rows_read (rows_of p) (rows_plain p ok)
