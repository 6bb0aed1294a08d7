use Rattle.learned_program.proofs.ProgramLaw.{learned_is_program}
use Rattle.learned_program.proofs.laws.learned_programs_are_programs.Goals as goal

pub returns : goal.returns
returns c = learned_is_program
