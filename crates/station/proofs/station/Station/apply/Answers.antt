use Rattle.std.proofs.Common.{◌≡◌, ◌∙◌, ℕ, List, sym, ap, subst}
use Rattle.records.specs.declared.record.StationRecord.{StationRecord}
use Rattle.serials.specs.declared.decision.Decision.{Decision}
use Rattle.serials.specs.Decide.{decide}
use Rattle.station.specs.Ended.{rig_after}
use Rattle.station.specs.RigAfter.{TestOf, GrowsTallies}
use Rattle.station.specs.Step.{decision_at, moment_at}
use Rattle.station.specs.View.{StationState}
use Rattle.station.specs.AnswerText.{DecidesDays}
use Rattle.station.proofs.Days.{decides_days}
use Rattle.station.proofs.Following.{voltage_ends, tallies_grow}
use Rattle.station.proofs.station.Station.apply.Goals as goal

pub returns-clause-tallies : goal.returns-clause-tallies
returns-clause-tallies g c =
    let s = c.args.self in
    let d = c.decide-decision.result in
    let p = c.self.inside.program in
    let is : d ≡ decision_at s.program s.records c.args.c.now c.args.now =
    c.decide-decision.ensures.by_the_rules
    ∙ ap (λ (R : List StationRecord). decide R c.args.c.now c.next_moment-moment.result p) c.book.ensures.records
    ∙ ap (λ (m : ℕ). decide c.self.inside.ledger.records c.args.c.now m p) (c.next_moment-moment.ensures.moment ∙ ap (λ (R : List StationRecord). moment_at R c.args.now) (c.as_slice.ensures ∙ c.records.ensures.records))
    ∙ ap (λ (t : StationState). decide t.records c.args.c.now (moment_at t.records c.args.now) t.program) c.self.view_is in
    subst (λ (x : Decision). GrowsTallies (TestOf c.args.c.now x) s.rig (rig_after g.R.Rig.state c.carry_out.result)) is
    (tallies_grow g.R.Rig.state c.args.c.now d s c.carry_out.result c.carry_out.ensures.applied.rig)

pub returns-clause-voltage : goal.returns-clause-voltage
returns-clause-voltage g c = voltage_ends g.R.Rig.state c.args.c.now c.decide-decision.result c.args.self c.carry_out.result c.carry_out.ensures.applied.rig

pub carry_out-requires-clause-days : goal.carry_out-requires-clause-days
carry_out-requires-clause-days g c =
    let p = c.self.inside.program in
    subst DecidesDays (sym (c.decide-decision.ensures.by_the_rules ∙ ap (λ (R : List StationRecord). decide R c.args.c.now c.next_moment-moment.result p) c.book.ensures.records))
    (decides_days c.self.inside.ledger.records c.book.ensures.stored.in_range c.next_moment-moment.result c.next_moment-moment.ensures.bound p c.args.c.now)
