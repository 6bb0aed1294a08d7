use Rattle.station.proofs.Repeating.{repeats_add_nothing}
use Rattle.station.proofs.laws.a_repeated_id_adds_nothing.Goals as goal

pub returns : goal.returns
returns c = repeats_add_nothing
