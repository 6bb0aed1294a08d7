use Rattle.applications.proofs.one_application.Together.{IfErr-map, IfOk-map}
use Rattle.applications.proofs.one_application.Turns.{endure-off, endure-volts, endures, rise-endures}
use Rattle.applications.proofs.enduring.endure.Goals as goal

pub returns-in-Some-clause-ok : goal.returns-in-Some-clause-ok
returns-in-Some-clause-ok g c = rise-endures c.args.test c.in-Some.broken c.requires.test (rw c.in-Some.is at c.in_ok-risen.ensures.ok)

pub stay-requires-clause-at : goal.stay-requires-clause-at
stay-requires-clause-at g c = endure-volts c.args.test c.requires.zero c.requires.test (rw c.in-None.is at c.in_ok-risen.ensures.ok)

pub returns-in-None-clause-ok : goal.returns-in-None-clause-ok
returns-in-None-clause-ok g c =
    IfOk-map c.stay.result _ _ (λ broken h. endures c.args.test c.requires.zero c.requires.test (rw c.in-None.is at c.in_ok-risen.ensures.ok) _ broken h) c.stay.ensures.ok

pub returns-in-None-clause-err : goal.returns-in-None-clause-err
returns-in-None-clause-err g c =
    IfErr-map c.stay.result _ _ (λ stop h. endure-off c.args.test c.requires.zero c.requires.test (rw c.in-None.is at c.in_ok-risen.ensures.ok) stop h) c.stay.ensures.err
