use Rattle.std.proofs.Common.{◌+◌, sym, subst, length}
use Rattle.harness.specs.declared.forest.Forest.{Forest}
use Rattle.harness.proofs.Trees.{Linking, linking_start, linking_none, linking_some}
use Rattle.harness.proofs.forest.Forest.link_all.Goals as goal
use Rattle.harness.proofs.forest.Forest.link_all.Goals.{in-Some+in_ok-link, in_default}

pub loop-row-init : goal.loop-row-init
loop-row-init c = linking_start c.args.rows.now c.args.self.now.parents.items c.args.self.now.moved.items c.requires.alone

pub loop-row-preserved : goal.loop-row-preserved
loop-row-preserved c =
    let n = length c.args.self.now.parents.items in
    let i = c.loop-row.row-index in
    elim c.match-joined_ends.branch [
      | in-Some+in_ok-link w ↦
          subst (λ (f : Forest). Linking c.args.rows.now n (i + 1) f.parents.items f.moved.items) (sym w.self-is)
          (linking_some c.args.rows.now c.row-item.result n i w.in-Some.ends.0 w.in-Some.ends.1 c.loop-row.self.parents.items w.link.new.self.parents.items c.loop-row.self.moved.items w.link.new.self.moved.items
          c.loop-row-test.true c.row-item.is (sym w.in-Some.ensures) c.loop-row.invariant w.in_ok-link.ensures)
      | in_default w ↦
          subst (λ (f : Forest). Linking c.args.rows.now n (i + 1) f.parents.items f.moved.items) (sym w.self-is)
          (linking_none c.args.rows.now c.row-item.result n i c.loop-row.self.parents.items c.loop-row.self.moved.items c.loop-row-test.true c.row-item.is (sym w.in_default.ensures) c.loop-row.invariant)
    ]
