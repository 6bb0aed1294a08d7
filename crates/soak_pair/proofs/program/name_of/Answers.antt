use Rattle.std.proofs.Common.{◌∙◌, sym, subst, arith}
use Rattle.partition.specs.Names.{IsName}
use Rattle.learned_program.proofs.NameLemmas.{learned_is_name}
use Rattle.soak_pair.proofs.program.name_of.Goals as goal

pub unreachable-requires : goal.unreachable-requires
unreachable-requires c = c.in_default.ensures (subst IsName (sym (c.as_bytes.ensures.value ∙ c.in_ok-text.ensures.ok)) (learned_is_name c.args.number (omega (arith, c.ranges.number))))
