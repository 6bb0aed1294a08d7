use Rattle.std.proofs.lemmas.Slice.Eq.{slice_eq-Decides}
use Rattle.wirelist.proofs.EqualLemmas.{resistor_decides}
use Rattle.wirelist.proofs.parts.same_resistors.Goals as goal

pub returns : goal.returns
returns c = slice_eq-Decides resistor_decides c.args.a.now c.args.b.now c.eq.result c.eq.ensures
