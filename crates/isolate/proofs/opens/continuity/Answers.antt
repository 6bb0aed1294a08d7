use Rattle.std.proofs.Common.{◌∙◌, ◌<◌, ◌^◌, ℕ, List, [], ◌∷◌, length, get_or, false, sym, ap, subst, arith}
use Rattle.partition.specs.Classes.{class_at}
use Rattle.partition.specs.NetTable.{all_nets, head_of}
use Rattle.partition.specs.Partitions.{HasClass}
use Rattle.partition.proofs.tables.NetLaws.{judged-below}
use Rattle.rig.specs.declared.event.Event.TheVariants.{Reading}
use Rattle.rig.specs.Trail.{EndsWith, ReadsAmong}
use Rattle.rig.proofs.Reading.{Extends-refl}
use Rattle.isolate.proofs.Checking.{no_reading}
use Rattle.isolate.proofs.JudgedCounts.{counted-programmed, heads-programmed}
use Rattle.isolate.proofs.NetHeads.{class_at-programmed, length-programmed, programmed-judged, programmed-some}
use Rattle.isolate.proofs.opens.continuity.Goals as goal

pub returns-in_default-clause-reads : goal.returns-in_default-clause-reads
returns-in_default-clause-reads g c = no_reading _

pub returns-in_default-clause-judged : goal.returns-in_default-clause-judged
returns-in_default-clause-judged g c = Extends-refl (ReadsAmong _) _

pub returns-in_default-clause-at_most : goal.returns-in_default-clause-at_most
returns-in_default-clause-at_most g c =
    let few : c.args.nets.now.points < 2 ^ 16 = omega (arith, c.points.ensures.points) in
    omega (arith, heads-programmed c.args.nets.now c.points.ensures.valid few)

pub first_open-requires-clause-points : goal.first_open-requires-clause-points
first_open-requires-clause-points g c = ap length c.in-Ok.ensures ∙ length-programmed c.args.nets.now ∙ c.requires

pub first_open-requires-clause-some : goal.first_open-requires-clause-some
first_open-requires-clause-some g c =
    let few : c.args.nets.now.points < 2 ^ 16 = omega (arith, c.points.ensures.points) in
    subst (λ (m : List ℕ). (p : ℕ) × HasClass m p) (sym c.in-Ok.ensures) (programmed-some c.args.nets.now c.points.ensures.valid few)

pub net_of-requires : goal.net_of-requires
net_of-requires g c =
    let few : c.args.nets.now.points < 2 ^ 16 = omega (arith, c.points.ensures.points) in
    let found = rw c.in-Ok-Some.field-0-is at c.in-Ok-Some.ensures.open in
    programmed-judged c.args.nets.now c.points.ensures.valid few c.in-Ok-Some.point
    (subst (λ (m : List ℕ). HasClass m c.in-Ok-Some.point) c.in-Ok.ensures found.0)

pub returns-in-Ok-None-clause-spent : goal.returns-in-Ok-None-clause-spent
returns-in-Ok-None-clause-spent g c =
    let few : c.args.nets.now.points < 2 ^ 16 = omega (arith, c.points.ensures.points) in
    omega (
      arith,
      rw c.in-Ok.ensures at c.in-Ok-None.ensures.spent (cc),
      ap
          (λ rig. (g.R.Rig.state rig).spent) c.continuous.ensures.rig,
      counted-programmed c.args.nets.now c.points.ensures.valid few,
    )

pub returns-in-Ok-None-clause-at_most : goal.returns-in-Ok-None-clause-at_most
returns-in-Ok-None-clause-at_most g c =
    let few : c.args.nets.now.points < 2 ^ 16 = omega (arith, c.points.ensures.points) in
    omega (
      arith,
      rw c.in-Ok.ensures at c.in-Ok-None.ensures.at_most,
      ap
          (λ rig. (g.R.Rig.state rig).spent) c.continuous.ensures.rig,
      counted-programmed c.args.nets.now c.points.ensures.valid few,
    )

pub returns-in-Ok-Some-clause-at_most : goal.returns-in-Ok-Some-clause-at_most
returns-in-Ok-Some-clause-at_most g c =
    let few : c.args.nets.now.points < 2 ^ 16 = omega (arith, c.points.ensures.points) in
    omega (arith, rw c.in-Ok.ensures at c.in-Ok-Some.ensures.at_most, counted-programmed c.args.nets.now c.points.ensures.valid few)

pub returns-in-Ok-Some-clause-open : goal.returns-in-Ok-Some-clause-open
returns-in-Ok-Some-clause-open g c =
    let few : c.args.nets.now.points < 2 ^ 16 = omega (arith, c.points.ensures.points) in
    let found = rw c.in-Ok-Some.field-0-is at c.in-Ok-Some.ensures.open in
    let counts = programmed-judged c.args.nets.now c.points.ensures.valid few c.in-Ok-Some.point
    (subst (λ (m : List ℕ). HasClass m c.in-Ok-Some.point) c.in-Ok.ensures found.0) in
    let P : ℕ → Type 0 = λ head. EndsWith (g.R.Rig.state c.first_open.new.seat) (Reading (head ∷ []) (c.in-Ok-Some.point ∷ []) false) in
    let head = ap (λ (m : List ℕ). class_at m c.in-Ok-Some.point) c.in-Ok.ensures
    ∙ class_at-programmed c.args.nets.now c.points.ensures.valid c.in-Ok-Some.point counts
    ∙ ap (λ (i : ℕ). head_of (get_or (all_nets c.args.nets.now) i [])) (sym c.net_of.ensures.number) in
    record { inside = judged-below c.args.nets.now c.in-Ok-Some.point counts; number = c.net_of.ensures.number; last = subst P head found.1 }

pub returns-in-Err-Failed-clause-at_most : goal.returns-in-Err-Failed-clause-at_most
returns-in-Err-Failed-clause-at_most g c =
    let few : c.args.nets.now.points < 2 ^ 16 = omega (arith, c.points.ensures.points) in
    omega (arith, rw c.in-Ok.ensures at c.in-Err-Failed.ensures.at_most, counted-programmed c.args.nets.now c.points.ensures.valid few)

pub returns-clause-at_most : goal.returns-clause-at_most
returns-clause-at_most g c =
    let few : c.args.nets.now.points < 2 ^ 16 = omega (arith, c.points.ensures.points) in
    omega (arith, rw c.in-Ok.ensures at c.first_open.ensures.at_most, counted-programmed c.args.nets.now c.points.ensures.valid few)
