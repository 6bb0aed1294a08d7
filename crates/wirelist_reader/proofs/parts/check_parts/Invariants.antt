use Rattle.std.proofs.Common.{◌≡◌, [], take}
use Rattle.std.specs.Prelude.{All, slice_index_or}
use Rattle.std.specs.List.{flat_map}
use Rattle.partition.specs.Classes.{points_below}
use Rattle.wirelist_reader.specs.Reading.{LiesInside}
use Rattle.wirelist_reader.specs.Refusals.{component_faults, no_ends}
use Rattle.wirelist_reader.proofs.parts.check_parts.Given as goal

abbrev pub invariant-loop-c : goal.invariant-loop-c
invariant-loop-c l = record {
  none : flat_map (λ c. component_faults l.nets (take c l.parts) (slice_index_or l.parts c no_ends)) (points_below l.c) ≡ [];
  inside : All (LiesInside l.nets) (take l.c l.parts);
}
