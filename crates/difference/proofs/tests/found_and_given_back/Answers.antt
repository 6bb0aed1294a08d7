use Rattle.std.proofs.Common.{sym, subst, arith}
use Rattle.difference.specs.Labelling.{IsInRange}
use Rattle.difference.proofs.InRange.{difference_in_range}
use Rattle.difference.proofs.tests.found_and_given_back.Goals as goal

pub rebuild-requires : goal.rebuild-requires
rebuild-requires c =
    subst (IsInRange c.args.nets.now) (sym c.in_ok-found.ensures)
    (difference_in_range c.args.nets.now c.args.measured.now c.points-points.ensures.valid c.requires (let small = c.points-points.type_inv in omega (arith, c.points-points.ensures.points)))
