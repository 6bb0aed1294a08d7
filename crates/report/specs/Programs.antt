-- The adopted program, record by record.
use Rattle.std.specs.Prelude.{Option, Some}
use Rattle.wirelist.specs.declared.program.Program.{Program}
use Rattle.records.specs.declared.record.Body.{Body}
use Rattle.records.specs.declared.record.Body.TheVariants.{Adopt}

-- the program that is adopted once one more record, with these fields, stands at the end
abbrev pub program_after : Option Program → Body → Option Program
program_after adopted (Adopt p) = Some p
program_after adopted others = adopted
