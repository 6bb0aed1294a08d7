use Rattle.wirelist_reader.proofs.BadPlaces.{NoneBad}
use Rattle.wirelist_reader.proofs.field.bad_place.Given as goal

abbrev pub invariant-loop-i : goal.invariant-loop-i
invariant-loop-i l = NoneBad l.kind l.row l.i
