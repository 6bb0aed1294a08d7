use Rattle.std.proofs.Common.{length, refl, rules}
use Rattle.wirelist_reader.proofs.BadPlaces.{NoneBad, none_bad_more, first_bad, none_bad_of_all}
use Rattle.wirelist_reader.proofs.field.bad_place.Goals as goal

pub returns-then-not-fits-clause-first : goal.returns-then-not-fits-clause-first
returns-then-not-fits-clause-first c =
    first_bad c.args.kind c.args.row.now c.loop-i.i (search rules) c.loop-i.invariant (search rules)

pub loop-i-preserved : goal.loop-i-preserved
loop-i-preserved c =
    none_bad_more c.args.kind c.args.row.now c.loop-i.i (search rules) c.loop-i.invariant (search rules)

pub returns-clause-first : goal.returns-clause-first
returns-clause-first c =
    let all : NoneBad c.args.kind c.args.row.now (length c.args.row.now) = search rules in
    rw (none_bad_of_all c.args.kind c.args.row.now all) refl
