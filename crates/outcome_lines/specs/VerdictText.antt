-- The text of a verdict.
use Rattle.std.specs.Prelude.{ℕ, List, ◌++◌, codes, decimal}
use Rattle.wirelist.specs.declared.outcome.Verdict.{Verdict}
use Rattle.wirelist.specs.declared.outcome.Verdict.TheVariants.{Pass, Wiring, Parts, Insulation, Withstand}

-- `PASS`, `WIRING opens=a shorts=b miswires=c`, `PARTS n`, `INSULATION n` or `WITHSTAND bit=j volts=v`
abbrev pub verdict_text : Verdict → List ℕ
verdict_text Pass = codes "PASS"
verdict_text (Wiring opens shorts miswires) =
    codes "WIRING opens=" ++ decimal opens ++ codes " shorts=" ++ decimal shorts ++ codes " miswires=" ++ decimal miswires
verdict_text (Parts n) = codes "PARTS " ++ decimal n
verdict_text (Insulation n) = codes "INSULATION " ++ decimal n
verdict_text (Withstand bit volts) = codes "WITHSTAND bit=" ++ decimal bit ++ codes " volts=" ++ decimal volts
