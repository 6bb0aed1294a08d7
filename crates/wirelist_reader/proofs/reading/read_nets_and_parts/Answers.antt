use Rattle.std.proofs.Common.{◌++◌}
use Rattle.wirelist_reader.specs.Refusals.{cluster_faults, net_faults, part_faults}
use Rattle.wirelist_reader.specs.Rows.{ends_of, program_of}
use Rattle.wirelist_reader.proofs.faultless.GivenRows.{fit_of_faultless}
use Rattle.wirelist_reader.proofs.ReadFacts.{found_in_left}
use Rattle.wirelist_reader.proofs.reading.read_nets_and_parts.Goals as goal

pub read_nets-requires-clause-fit : goal.read_nets-requires-clause-fit
read_nets-requires-clause-fit c = fit_of_faultless c.args.rows.now c.requires.rows

pub returns-in-Err-clause-finds : goal.returns-in-Err-clause-finds
returns-in-Err-clause-finds c =
    found_in_left (net_faults c.args.rows.now) (part_faults (program_of c.args.rows.now).nets (ends_of c.args.rows.now) ++ cluster_faults (program_of c.args.rows.now)) c.in-Err.refusal c.in-Err.ensures.finds
