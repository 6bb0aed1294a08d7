use Rattle.journal.proofs.writing.Closing.{closing_leaves, closed_entries, still_at_rest}
use Rattle.journal.proofs.opening.close.Goals as goal

pub returns-then-branch-clause-entries : goal.returns-then-branch-clause-entries
returns-then-branch-clause-entries g c =
    still_at_rest (g.D.Disk.state c.args.disk.now) (g.D.Disk.state c.is_shut.new.disk) c.args.end c.is_shut.ensures.same (λ file told. (c.in_ok-is_shut.ensures.shut file told).0 c.if-branch.true)

pub returns-clause-any_moment : goal.returns-clause-any_moment
returns-clause-any_moment g c =
    closing_leaves (g.D.Disk.state c.args.disk.now) (g.D.Disk.state c.is_shut.new.disk) (g.D.Disk.state c.put.new.disk) c.args.end c.args.len c.is_shut.ensures.same c.requires.told c.requires.long
    (λ file told shut. let yes = (c.in_ok-is_shut.ensures.shut file told).1 shut in cc) c.put.ensures.any_moment

pub returns-clause-entries : goal.returns-clause-entries
returns-clause-entries g c =
    closed_entries c.put.result (g.D.Disk.state c.args.disk.now) (g.D.Disk.state c.is_shut.new.disk) (g.D.Disk.state c.put.new.disk) c.args.end c.is_shut.ensures.same c.put.ensures.any_moment.tells c.put.ensures.written
