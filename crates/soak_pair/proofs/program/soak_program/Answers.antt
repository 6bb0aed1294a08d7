use Rattle.soak_pair.proofs.SoakNets.{valid_by}
use Rattle.soak_pair.proofs.program.soak_program.Goals as goal

pub returns-clause-valid : goal.returns-clause-valid
returns-clause-valid c =
    valid_by c.args.points c.part_name.result c.in_ok-nets.nets c.in_ok-names.names c.new.result c.new-2.result c.part_name.ensures c.in_ok-nets.ensures c.in_ok-names.ensures c.new.ensures c.new-2.ensures c.requires.some c.requires.few
