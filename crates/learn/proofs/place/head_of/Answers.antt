use Rattle.std.proofs.Common.{◌++◌, ◌∷◌, []}
use Rattle.rig.proofs.Reading.{Reads-then, Reads-refused, Extends-trans}
use Rattle.learn.specs.Groups.{IsReadingOf}
use Rattle.learn.proofs.place.head_of.Goals as goal

pub returns-in_err-narrow-clause-reads : goal.returns-in_err-narrow-clause-reads
returns-in_err-narrow-clause-reads g c = Reads-refused c.in_ok-conduct.ensures.reads c.in_err-narrow.ensures.reads _ c.from_residual-in_err-narrow.ensures.1

pub returns-clause-reads : goal.returns-clause-reads
returns-clause-reads g c = Reads-then c.in_ok-conduct.ensures.reads c.in_ok-narrow.ensures.reads

pub returns-in_err-narrow-clause-points : goal.returns-in_err-narrow-clause-points
returns-in_err-narrow-clause-points g c = Extends-trans
    (IsReadingOf (c.args.heads.now ++ c.args.point ∷ [])) _ _ _ c.in_ok-conduct.ensures.points c.in_err-narrow.ensures.points

pub returns-clause-points : goal.returns-clause-points
returns-clause-points g c = Extends-trans
    (IsReadingOf (c.args.heads.now ++ c.args.point ∷ [])) _ _ _ c.in_ok-conduct.ensures.points c.in_ok-narrow.ensures.points
