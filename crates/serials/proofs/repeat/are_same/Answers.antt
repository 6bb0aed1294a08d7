use Rattle.serials.specs.SamePrograms.{same_program}
use Rattle.serials.proofs.ProgramLemmas.{tells_programs, same_program-Decides}
use Rattle.serials.proofs.repeat.are_same.Goals as goal

pub returns : goal.returns
returns c =
    let p = c.args.adopted.now in
    let q = c.args.p.now in
    tells_programs p q c.equal.result (same_program p q) c.equal.ensures (same_program-Decides p q)
