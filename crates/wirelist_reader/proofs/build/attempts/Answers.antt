use Rattle.wirelist_reader.specs.declared.kind.Kind.TheVariants.{Attempts}
use Rattle.wirelist_reader.proofs.faultless.BuildFacts.{attempts_number}
use Rattle.wirelist_reader.proofs.faultless.BuildLists.{first_fits}
use Rattle.wirelist_reader.proofs.build.attempts.Goals as goal

pub number_at-requires : goal.number_at-requires
number_at-requires c =
    let first = first_fits Attempts c.args.rows.now c.in-Some.row.now c.requires c.in-Some.ensures in
    attempts_number c.in-Some.row.now first.1 first.0
