use Rattle.std.proofs.Common.{◌≡◌, ◌++◌, take}
use Rattle.std.specs.Prelude.{option_copied}
use Rattle.std.specs.List.{flat_map}
use Rattle.serials.specs.Scan.{last_program}
use Rattle.report.specs.UnitText.{numbered_records, record_lines}
use Rattle.report.proofs.unit.write_records.Given as goal

abbrev pub invariant-loop-place : goal.invariant-loop-place
invariant-loop-place l = record {
  program : option_copied l.program ≡ last_program (take l.place l.records);
  text : l.out ≡ l.fn.out ++ flat_map (record_lines l.records l.serial) (take l.place (numbered_records l.records));
}
