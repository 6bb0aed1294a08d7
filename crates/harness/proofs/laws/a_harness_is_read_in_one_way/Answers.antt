use Rattle.harness.proofs.LawLemmas.{harness_law}
use Rattle.harness.proofs.laws.a_harness_is_read_in_one_way.Goals as goal

pub returns : goal.returns
returns c = harness_law c.args.bytes.now
