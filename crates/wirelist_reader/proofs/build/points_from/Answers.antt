use Rattle.std.proofs.Common.{arith}
use Rattle.wirelist_reader.proofs.faultless.BuildLists.{point_more}
use Rattle.wirelist_reader.proofs.build.points_from.Goals as goal

pub point_at-requires : goal.point_at-requires
point_at-requires c = c.requires c.loop-place.place (omega arith) (omega arith)

pub loop-place-preserved : goal.loop-place-preserved
loop-place-preserved c =
    point_more c.args.row.now c.args.first c.loop-place.place c.loop-place.list c.push.new.self c.point_at.result (omega arith) (omega arith) c.loop-place.invariant c.in_ok-push.ensures.ok c.point_at.ensures
