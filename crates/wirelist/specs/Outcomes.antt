-- Verdicts of outcomes.
use Rattle.std.specs.Prelude.{◌<◌, ◌^◌, length, ⊤}
use Rattle.wirelist.specs.declared.outcome.Outcome.{Outcome}
use Rattle.wirelist.specs.declared.outcome.Outcome.TheVariants.{Pass, Wiring, Parts, Insulation, Withstand}
use Rattle.wirelist.specs.declared.outcome.Verdict.{Verdict}
use Rattle.wirelist.specs.declared.outcome.Verdict.TheVariants as verdict

-- the outcome with the lengths of its lists alone
abbrev pub verdict_of : Outcome → Verdict
verdict_of Pass = verdict.Pass
verdict_of (Wiring d) = verdict.Wiring (length d.opens) (length d.shorts) (length d.miswires)
verdict_of (Parts faults) = verdict.Parts (length faults)
verdict_of (Insulation faults) = verdict.Insulation (length faults)
verdict_of (Withstand bit volts leak) = verdict.Withstand bit volts

-- each list has fewer than 2^32 entries
abbrev pub AreCountable : Outcome → Type 0
AreCountable Pass = ⊤
AreCountable (Wiring d) = (length d.opens < 2 ^ 32) × (length d.shorts < 2 ^ 32) × (length d.miswires < 2 ^ 32)
AreCountable (Parts faults) = length faults < 2 ^ 32
AreCountable (Insulation faults) = length faults < 2 ^ 32
AreCountable (Withstand bit volts leak) = ⊤
