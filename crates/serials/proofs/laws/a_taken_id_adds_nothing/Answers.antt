use Rattle.serials.proofs.DecideLemmas.{taken_id}
use Rattle.serials.proofs.laws.a_taken_id_adds_nothing.Goals as goal

pub returns : goal.returns
returns c = taken_id
