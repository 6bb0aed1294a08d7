use Rattle.std.proofs.Common.{sym, subst}
use Rattle.std.specs.Prelude.{Option, IfSome}
use Rattle.serials.specs.declared.command.Command.{Command}
use Rattle.station.specs.Commands.{IsAsked}
use Rattle.script.proofs.answers.Commanded.{asked_in_range}
use Rattle.script.proofs.script.answer_text.Goals as goal

pub answer_command-requires : goal.answer_command-requires
answer_command-requires g c = subst (λ (o : Option Command). IfSome o IsAsked) (sym c.read_command-command.ensures) (asked_in_range c.drop_cr-text.result.now)
