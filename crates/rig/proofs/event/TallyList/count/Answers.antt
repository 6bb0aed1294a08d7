use Rattle.std.proofs.Common.{◌-◌, arith, ap, ◌∙◌, subst, sym}
use Rattle.std.proofs.Math.ListN.{set}
use Rattle.rig.specs.Happened.{LastCanCount, tally_after, with_last}
use Rattle.rig.proofs.Counting.{last-can, last-changed}
use Rattle.rig.proofs.event.TallyList.count.Goals as goal

pub count-requires : goal.count-requires
count-requires c =
    last-can c.self.inside.tallies.items (c.len-count.result - 1) c.index_mut.result.now (omega (arith, c.len-count.ensures, c.if-count-gt0.true, c.self.inside.tallies.ok)) c.index_mut.ensures.value
    (subst LastCanCount (sym c.self.view_is) c.requires)

pub returns-then-count-gt0 : goal.returns-then-count-gt0
returns-then-count-gt0 c =
    let f = tally_after c.args.volts c.args.event.now in
    ap (λ x. set c.self.inside.tallies.items (c.len-count.result - 1) x) c.count.ensures
    ∙ last-changed f c.self.inside.tallies.items (c.len-count.result - 1) c.index_mut.result.now (omega (arith, c.len-count.ensures, c.if-count-gt0.true, c.self.inside.tallies.ok)) c.index_mut.ensures.value
    ∙ ap (with_last f) c.self.view_is
