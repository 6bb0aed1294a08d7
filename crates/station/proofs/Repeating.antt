-- A command whose id some record has.
use Rattle.std.proofs.Common.{◌≡◌, inl, inr, ⊎_elim, ℕ, List, subst}
use Rattle.wirelist.specs.declared.program.Program.{Program}
use Rattle.unit_outcome.specs.Found.{Findings}
use Rattle.records.specs.declared.record.StationRecord.{StationRecord}
use Rattle.serials.specs.declared.command.Command.{Command}
use Rattle.serials.specs.declared.decision.Decision.{Decision}
use Rattle.serials.specs.declared.decision.Decision.TheVariants as decision
use Rattle.serials.specs.declared.decision.Rule.TheVariants.{IdTaken}
use Rattle.serials.proofs.DecideLemmas.{taken_id}
use Rattle.station.specs.declared.answer.Answer.TheVariants.{Same, No}
use Rattle.station.specs.declared.answer.Refused.TheVariants.{Rule}
use Rattle.station.specs.Laws.{RepeatLaw}
use Rattle.station.specs.Step.{Reply, answered, verdict_at, moment_at, StepBy}

module _ (findings : Findings) (p : Program) (R : List StationRecord) (c : Command) (moment number : ℕ) (reply : Reply) (after : List StationRecord) where
  same_again : StepBy findings p R c moment (decision.Same number) reply after → (reply ≡ answered (Same number (verdict_at R number))) × (after ≡ R)
  unfolding StepBy
  same_again step = ⊎_elim (λ done. (done.0, done.1)) (λ failed. absurd failed.1) step

  taken : StepBy findings p R c moment (decision.No (IdTaken number)) reply after → (reply ≡ answered (No (Rule (IdTaken number)))) × (after ≡ R)
  unfolding StepBy
  taken step = ⊎_elim (λ done. (done.0, done.1)) (λ failed. absurd failed.1) step

pub repeats_add_nothing : RepeatLaw
repeats_add_nothing findings p R c now number reply after is step = ⊎_elim
    (λ same. let says = same_again findings p R c (moment_at R now) number reply after (subst (λ (d : Decision). StepBy findings p R c (moment_at R now) d reply after) same step) in (inl says.0, says.1))
    (λ other. let says = taken findings p R c (moment_at R now) number reply after (subst (λ (d : Decision). StepBy findings p R c (moment_at R now) d reply after) other step) in (inr says.0, says.1))
    (taken_id R c (moment_at R now) p number is)
