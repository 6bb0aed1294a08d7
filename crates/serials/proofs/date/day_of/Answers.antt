use Rattle.std.proofs.Common.{arith, sym, ◌∙◌, ◌≡◌, pos, w8, w32, FitsSigned}
use mir.Syntax.{w16}
use Rattle.std.proofs.lemmas.Int.{to_z_pos, to_z-of_z}
use Rattle.jiff.proofs.SpanFacts.{signed_arith}
use Rattle.jiff.specs.Words.{epoch_day}
use Rattle.serials.specs.Dates.{civil_of}
use Rattle.serials.proofs.CivilDays.{civil_of-written, written-date, read-some, written-number, fits-number, fits-pos}
use Rattle.serials.proofs.date.day_of.Goals as goal

pub returns-in_default-clause-none : goal.returns-in_default-clause-none
returns-in_default-clause-none c = λ n within e. c.in_default.ensures.none (civil_of n) (civil_of-written n within) e

pub returns-in_default-new-clause-none : goal.returns-in_default-new-clause-none
returns-in_default-new-clause-none c = λ n within e.
    let s = c.in-Some.ensures.some in
    let year = to_z_pos w16 c.in-Some.year (omega (arith, s.0.year)) in
    let month = to_z_pos w8 c.in-Some.month (omega (arith, s.0.month)) in
    let day = to_z_pos w8 c.in-Some.day (omega (arith, s.0.day)) in
    let ok = rw (year, month, day) at c.in_default-new.ensures.succeeds in
    cc (ok.1 (written-date c.in-Some.year c.in-Some.month c.in-Some.day n within (s.1 ∙ sym e)))

pub returns-in-Ok-try_from-clause-some : goal.returns-in-Ok-try_from-clause-some
returns-in-Ok-try_from-clause-some c =
    let s = c.in-Some.ensures.some in
    let year = to_z_pos w16 c.in-Some.year (omega (arith, s.0.year)) in
    let month = to_z_pos w8 c.in-Some.month (omega (arith, s.0.month)) in
    let day = to_z_pos w8 c.in-Some.day (omega (arith, s.0.day)) in
    let parts = rw (year, month, day) at c.in-Ok.ensures.value in
    let known : c.to_unix_epoch_day.result ≡ epoch_day c.in-Ok.found = rw (← c.to_plain.ensures) c.to_unix_epoch_day.ensures.value in
    let fits : FitsSigned w32 c.to_unix_epoch_day.result = omega (arith, signed_arith, c.to_unix_epoch_day.ensures.bound) in
    let h = simp to_z-of_z at c.in-Ok-try_from.ensures in
    let number : epoch_day c.in-Ok.found ≡ pos c.in-Ok-try_from.number = sym known ∙ fits-number _ _ h.0 h.1 in
    let r = read-some c.in-Some.year c.in-Some.month c.in-Some.day c.in-Ok-try_from.number c.in-Ok.found parts number in
    (r.0, r.1 ∙ s.1)

pub returns-in-Err-clause-none : goal.returns-in-Err-clause-none
returns-in-Err-clause-none c = λ n within e.
    let s = c.in-Some.ensures.some in
    let year = to_z_pos w16 c.in-Some.year (omega (arith, s.0.year)) in
    let month = to_z_pos w8 c.in-Some.month (omega (arith, s.0.month)) in
    let day = to_z_pos w8 c.in-Some.day (omega (arith, s.0.day)) in
    let parts = rw (year, month, day) at c.in-Ok.ensures.value in
    let known : c.to_unix_epoch_day.result ≡ epoch_day c.in-Ok.found = rw (← c.to_plain.ensures) c.to_unix_epoch_day.ensures.value in
    let fits : FitsSigned w32 c.to_unix_epoch_day.result = omega (arith, signed_arith, c.to_unix_epoch_day.ensures.bound) in
    let number = written-number c.in-Some.year c.in-Some.month c.in-Some.day n c.in-Ok.found within (s.1 ∙ sym e) parts in
    let h = simp to_z-of_z at c.in-Err.ensures in
    h (fits-pos c.to_unix_epoch_day.result n (known ∙ number) within)
