-- The records of the examples, all of 2024-05-01.
use Rattle.std.specs.Prelude.{ℕ, List, [], ◌∷◌, Some, None, codes}
use Rattle.wirelist.specs.declared.outcome.Outcome.{Outcome}
use Rattle.wirelist.specs.declared.outcome.Outcome.TheVariants.{Pass, Wiring}
use Rattle.records.specs.declared.record.Body.{Body}
use Rattle.records.specs.declared.record.Body.TheVariants.{Adopt, Enrol, Tested, Rework, Release, Mark}
use Rattle.records.specs.declared.record.StationRecord.{StationRecord}
use Rattle.serials.specs.Dates.{day_text}
use Rattle.worked_examples.specs.Harnesses.{opens_alone}
use Rattle.worked_examples.specs.Programs.{small_program, cable}

-- the date of the records
abbrev pub date : List ℕ
date = day_text 19844

abbrev pub noted : List ℕ → Body → StationRecord
noted id body = record { id = id; moment = 1714521600; body = body }

-- point 3 of net B is open
abbrev pub open_at_3 : Outcome
open_at_3 = Wiring (opens_alone (record { net = 1; class = 3; points = 3 ∷ [] } ∷ []))

-- a unit that failed once, was reworked, passed and was released
abbrev pub reworked_unit : List StationRecord
reworked_unit =
    noted (codes "A1") (Adopt (small_program []))
    ∷ noted (codes "N1") (Enrol (codes "SN1"))
    ∷ noted (codes "S1") (Tested (codes "SN1") 1 None open_at_3)
    ∷ noted (codes "R1") (Rework (codes "SN1"))
    ∷ noted (codes "S2") (Tested (codes "SN1") 2 None Pass)
    ∷ noted (codes "L1") (Release (codes "SN1"))
    ∷ []

-- a cable that passed at once and was released
abbrev pub good_cable : List StationRecord
good_cable =
    noted (codes "A1") (Adopt cable)
    ∷ noted (codes "N1") (Enrol (codes "H0001"))
    ∷ noted (codes "S1") (Tested (codes "H0001") 1 None Pass)
    ∷ noted (codes "L1") (Release (codes "H0001"))
    ∷ []

-- a test that names who made it and where, after the mark
abbrev pub marked_unit : List StationRecord
marked_unit =
    noted (codes "A1") (Adopt (small_program []))
    ∷ noted (codes "N1") (Enrol (codes "SN1"))
    ∷ noted (codes "M1") Mark
    ∷ noted (codes "S1") (Tested (codes "SN1") 1 (Some (record { operator = codes "OP7"; fixture = codes "FX2" })) Pass)
    ∷ []
