use Rattle.wirelist_reader.proofs.PartsLists.{first_part_fault, inside_more, no_fault_more, no_part_fault}
use Rattle.wirelist_reader.proofs.parts.check_parts.Goals as goal

pub check_part-requires : goal.check_part-requires
check_part-requires c = c.loop-c.invariant.inside

pub loop-c-preserved : goal.loop-c-preserved
loop-c-preserved c =
    let t = c.args.nets.now in
    let parts = c.args.parts.now in
    let part = c.index-parts-c.result in
    record {
      none = no_fault_more t parts c.loop-c.c part c.loop-c-test.true c.index-parts-c.is c.loop-c.invariant.none c.in_default.ensures.finds;
      inside = inside_more t parts c.loop-c.c part c.loop-c-test.true c.index-parts-c.is c.loop-c.invariant.inside c.in_default.ensures.inside;
    }

pub returns : goal.returns
returns c = no_part_fault c.args.nets.now c.args.parts.now c.loop-c.c c.loop-c.invariant.none c.loop-c-test.false c.loop-c.auto.c-end

pub returns-in-Err : goal.returns-in-Err
returns-in-Err c =
    first_part_fault c.args.nets.now c.args.parts.now c.loop-c.c c.index-parts-c.result c.loop-c-test.true c.index-parts-c.is c.in-Err.refusal c.loop-c.invariant.none c.in-Err.ensures.finds
