use Rattle.wirelist_reader.proofs.ReadFacts.{nets_faultless, nets_refused}
use Rattle.wirelist_reader.proofs.reading.read_nets.Goals as goal

pub returns-in-Ok-clause-finds : goal.returns-in-Ok-clause-finds
returns-in-Ok-clause-finds c =
    nets_faultless c.args.rows.now c.args.points c.in_ok-lists.lists c.in_ok-ignored.ignored c.requires.points c.in_ok-lists.ensures c.in_ok-ignored.ensures c.in-Ok.ensures.faultless

pub returns-in-Err-clause-finds : goal.returns-in-Err-clause-finds
returns-in-Err-clause-finds c =
    nets_refused c.args.rows.now c.args.points c.in_ok-lists.lists c.in_ok-ignored.ignored c.requires.points c.in_ok-lists.ensures c.in_ok-ignored.ensures c.in-Err.refusal c.told.result c.told.ensures c.in-Err.ensures.refused
