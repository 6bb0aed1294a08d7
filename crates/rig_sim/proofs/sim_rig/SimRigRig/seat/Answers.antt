use Rattle.std.proofs.Common.{◌≡◌, ◌<◌, ◌-◌, ◌^◌, ◌++◌, ◌∷◌, [], ◌+◌, List, Some, None, Ok, true, false, refl, sym, ◌∙◌, ap, subst, arith}
use Rattle.std.specs.Prelude.{All}
use Rattle.std.proofs.lemmas.Option.{slice_get_within}
use Rattle.rig.specs.declared.rig.SeatAnswer.TheVariants.{Present, Absent}
use Rattle.rig.specs.declared.unit.Row.{Row}
use Rattle.rig.specs.Joins.{IsRowBelow, joined_classes}
use Rattle.rig.specs.Seating.{Seats, empty_tally}
use Rattle.rig_sim.specs.Logs.{Logged, begun}
use Rattle.rig_sim.specs.SimRig.{SimState}
use Rattle.rig_sim.specs.SimView.{sim_state}
use Rattle.rig_sim.proofs.SimLemmas.{unit_of}
use Rattle.rig_sim.proofs.Seating.{sim_begun, seats_refused, seats_absent, seats_present, classes_of}
use Rattle.rig_sim.proofs.sim_rig.SimRigRig.seat.Goals as goal

pub returns-in_default-clause-seats : goal.returns-in_default-clause-seats
returns-in_default-clause-seats c =
    let a = c.self.inside in
    let begun_is : c.end.new.self ≡ begun false a.log = c.end.ensures ∙ ap (begun false) c.unseat.ensures in
    let below : a.seats < 2 ^ 64 - 1 = let fits = c.self.invariant.seats_fits in omega arith in
    subst (λ (s : SimState). Seats s.state (sim_state (record a { calls = c.count.new.self; seats = a.seats + 1; route = None; log = c.end.new.self })).state c.args.serial.now c.args.attempt (Ok Absent)) c.self.view_is
    (seats_absent a c.count.new.self (a.seats + 1) c.end.new.self c.args.serial.now c.args.attempt c.self.invariant c.count.ensures.counted c.count.ensures.kept refl below begun_is c.in_default.ensures)

pub join-requires : goal.join-requires
join-requires c =
    subst (λ (rows : List Row). All (IsRowBelow c.self.inside.points) rows) (sym c.as_slice.ensures)
    (unit_of c.self.inside.units c.self.inside.points c.in-Some.place c.in-Some.unit.now c.self.invariant.units c.in-Some.ensures.stands).below

pub returns-in_err-classes-clause-seats : goal.returns-in_err-classes-clause-seats
returns-in_err-classes-clause-seats c =
    let a = c.self.inside in
    subst (λ (s : SimState). Seats s.state (sim_state (record a { log = c.unseat.new.self })).state c.args.serial.now c.args.attempt c.from_residual.result) c.self.view_is
    (seats_refused a c.unseat.new.self c.args.serial.now c.args.attempt c.from_residual.result c.from_residual.ensures.1 c.unseat.ensures c.self.invariant)

pub returns-in_err-begin-clause-seats : goal.returns-in_err-begin-clause-seats
returns-in_err-begin-clause-seats c =
    let a = c.self.inside in
    subst (λ (s : SimState). Seats s.state (sim_state (record a { log = c.begin.new.self })).state c.args.serial.now c.args.attempt c.from_residual-in_err-begin.result) c.self.view_is
    (seats_refused a c.begin.new.self c.args.serial.now c.args.attempt c.from_residual-in_err-begin.result c.from_residual-in_err-begin.ensures.1 (c.in_err-begin.ensures.err ∙ c.unseat.ensures) c.self.invariant)

pub invariant_of-self-2 : goal.invariant_of-self-2
invariant_of-self-2 c =
    let a = c.self.inside in
    let below : a.seats < 2 ^ 64 - 1 = let fits = c.self.invariant.seats_fits in omega arith in
    let begun_is = c.in_ok-begin.ensures.ok ∙ ap (λ (l : Logged). begun true (record l { tallies = l.tallies ++ (empty_tally c.args.serial.now c.args.attempt ∷ []) })) c.unseat.ensures in
    let joined = c.in_ok-classes.ensures ∙ ap (λ (rows : List Row). joined_classes rows a.points) c.as_slice.ensures in
    let facts = classes_of a c.in-Some.place c.in-Some.unit.now c.in_ok-classes.classes c.self.invariant c.in-Some.ensures.stands joined in
    sim_begun a c.count-2.new.self (a.seats + 1) c.in-Some.place (Some c.in-Some.place) c.in_ok-classes.classes true _ c.begin.new.self c.self.invariant c.count-2.ensures.counted c.count-2.ensures.kept refl below begun_is
    (slice_get_within a.units c.in-Some.place c.in-Some.unit.now c.in-Some.ensures.stands) facts.0 facts.1 facts.2

pub returns-clause-seats : goal.returns-clause-seats
returns-clause-seats c =
    let a = c.self.inside in
    let below : a.seats < 2 ^ 64 - 1 = let fits = c.self.invariant.seats_fits in omega arith in
    let begun_is = c.in_ok-begin.ensures.ok ∙ ap (λ (l : Logged). begun true (record l { tallies = l.tallies ++ (empty_tally c.args.serial.now c.args.attempt ∷ []) })) c.unseat.ensures in
    let joined = c.in_ok-classes.ensures ∙ ap (λ (rows : List Row). joined_classes rows a.points) c.as_slice.ensures in
    let facts = classes_of a c.in-Some.place c.in-Some.unit.now c.in_ok-classes.classes c.self.invariant c.in-Some.ensures.stands joined in
    let next = sim_begun a c.count-2.new.self (a.seats + 1) c.in-Some.place (Some c.in-Some.place) c.in_ok-classes.classes true _ c.begin.new.self c.self.invariant c.count-2.ensures.counted c.count-2.ensures.kept refl below begun_is
    (slice_get_within a.units c.in-Some.place c.in-Some.unit.now c.in-Some.ensures.stands) facts.0 facts.1 facts.2 in
    subst (λ (s : SimState). Seats s.state (sim_state (record a { calls = c.count-2.new.self; seats = a.seats + 1; place = Some c.in-Some.place; classes = c.in_ok-classes.classes; route = None; log = c.begin.new.self })).state c.args.serial.now c.args.attempt (Ok Present)) c.self.view_is
    (seats_present a c.count-2.new.self (a.seats + 1) c.in-Some.place c.in-Some.unit.now c.in_ok-classes.classes c.begin.new.self c.args.serial.now c.args.attempt c.self.invariant c.count-2.ensures.counted c.count-2.ensures.kept refl below begun_is c.in-Some.ensures next)
