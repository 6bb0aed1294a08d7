use Rattle.std.proofs.Common.{◌≡◌, ◌<◌, ℕ, List, Some, map, true}
use Rattle.csv.specs.Reading.{Reached, Ready, default_config, is_flexible, source_of, strip_bom}
use Rattle.wirelist_rows.specs.Filled.{filled}
use Rattle.csv.specs.declared.parser.State.TheVariants as st
use Rattle.csv.specs.declared.reader.Trim.TheVariants as trim
use Rattle.wirelist_rows.proofs.read.all_rows.Given as goal

abbrev pub invariant-loop-row : goal.invariant-loop-row
invariant-loop-row l = (l.row-iterator.rdr.trim ≡ trim.None) × Ready l.row-iterator.rdr × (0 < l.row-iterator.left) × (l.row-iterator.rdr.config ≡ default_config)
    × (y : List ℕ) × (source_of (λ s. Some s.now) l.row-iterator.rdr ≡ Some y)
    × (raw : List (List (List ℕ))) × (l.rows.items ≡ map filled raw) × Reached default_config st.StartRecord (strip_bom l.fn.bytes) raw l.row-iterator.rdr.state y
    × (is_flexible l.row-iterator.rdr ≡ true)
