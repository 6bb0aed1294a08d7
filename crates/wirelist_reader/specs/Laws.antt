-- The law of reading and printing.
use Rattle.std.specs.Prelude.{◌≡◌, []}
use Rattle.wirelist.specs.Canonical.{canonical}
use Rattle.wirelist.specs.declared.program.Program.{Program}
use Rattle.wirelist_rows.specs.Filled.{rows_in}
use Rattle.wirelist_reader.specs.Refusals.{refusals}
use Rattle.wirelist_reader.specs.Rows.{program_of}

-- the canonical text has no fault, and says the program
pub record IsReadBack (p : Program) : Type 0 where
  pub faultless : refusals (canonical p) ≡ []
  pub same : program_of (rows_in (canonical p)) ≡ p
