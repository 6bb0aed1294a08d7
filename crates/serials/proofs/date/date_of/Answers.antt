use Rattle.std.proofs.Common.{arith, pos, ◌≡◌, FitsSigned, w64, ◌∙◌}
use Rattle.jiff.specs.Words.{epoch_day, IsYmd}
use Rattle.jiff.proofs.SpanFacts.{signed_arith, date_add-days, can_add-days}
use Rattle.std.proofs.lemmas.Int.{to_z-of_z}
use Rattle.jiff_core.specs.declared.civil.date.Date.{Date}
use Rattle.jiff_core.proofs.StandardFacts.{known_days}
use Rattle.serials.proofs.date.date_of.Goals as goal

-- 1970-01-01 has the number 0
start_is : (d : Date) → IsYmd (pos 1970) (pos 1) (pos 1) d → epoch_day d ≡ pos 0
start_is d parts =
    let month : d.month ≡ 1 = omega (arith, signed_arith, parts.1) in
    let day : d.day ≡ 1 = omega (arith, signed_arith, parts.2) in
    rw (parts.0, month, day) known_days.0

pub add-requires : goal.add-requires
add-requires c =
    let start = start_is c.date.result c.date.ensures in
    let fits : FitsSigned w64 c.from.result = omega (arith, signed_arith) in
    let only = simp to_z-of_z at c.days.ensures in
    let can = can_add-days c.date.result c.from.result c.days.result only in
    can.1 (omega (arith, signed_arith, c.requires, start))

pub returns : goal.returns
returns c =
    let start = start_is c.date.result c.date.ensures in
    let fits : FitsSigned w64 c.from.result = omega (arith, signed_arith) in
    let only = simp to_z-of_z at c.days.ensures in
    let sum = date_add-days c.date.result c.from.result c.days.result only in
    c.add.ensures ∙ sum ∙ omega (arith, signed_arith, start)
