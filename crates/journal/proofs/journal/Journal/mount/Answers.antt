use Rattle.std.proofs.Common.{ℕ, List, sym, ◌∙◌, subst}
use Rattle.std.specs.Option.{ForSome}
use Rattle.disk_edge.specs.Disk.{LeavesOnly}
use Rattle.journal.specs.Format.{IsSound}
use Rattle.journal.specs.Journal.{KeepsLimit}
use Rattle.journal.specs.Refusal.{IsOfTheFile}
use Rattle.journal.proofs.writing.Places.{each_stands}
use Rattle.journal.proofs.writing.Reach.{mount_limit}
use Rattle.journal.proofs.wholes.Wrong.{one_wrong, not_wrong, refused_wrong}
use Rattle.journal.proofs.journal.Journal.mount.Goals as goal

pub returns-in-Ok-clause-each_image : goal.returns-in-Ok-clause-each_image
returns-in-Ok-clause-each_image g c bodies has =
    each_stands (g.D.Disk.state c.open.new.disk) bodies c.in-Ok.ensures.kept.durable has

pub returns-in-Ok-clause-limit : goal.returns-in-Ok-clause-limit
returns-in-Ok-clause-limit g c =
    mount_limit (g.D.Disk.state c.args.disk) (g.D.Disk.state c.open.new.disk) (g.met.D.Disk.reads_an_image c.args.disk) c.open.ensures.any_moment

pub returns-in-Err-clause-limit : goal.returns-in-Err-clause-limit
returns-in-Err-clause-limit g c =
    let old = g.D.Disk.state c.args.disk in
    subst (λ (d : g.row.D.Denot). LeavesOnly old (g.D.Disk.state d) (λ (image : List ℕ). ForSome old.reads_as IsSound → KeepsLimit old image)) (sym c.new.ensures.disk)
    (mount_limit old (g.D.Disk.state c.open.new.disk) (g.met.D.Disk.reads_an_image c.args.disk) c.open.ensures.any_moment)

pub returns-in-Err-clause-opens : goal.returns-in-Err-clause-opens
returns-in-Err-clause-opens g c file told journal spoken =
    not_wrong file c.in-Err.refusal journal
    (refused_wrong (g.D.Disk.state c.args.disk) (g.D.Disk.state c.open.new.disk) c.in-Err.refusal c.in-Err.ensures.refused (subst IsOfTheFile c.new.ensures.why spoken) file told)

pub returns-in-Ok-clause-exact : goal.returns-in-Ok-clause-exact
returns-in-Ok-clause-exact g c file told why wrong = absurd (not_wrong file why (c.in-Ok.ensures.found file told) wrong)

pub returns-in-Err-clause-exact : goal.returns-in-Err-clause-exact
returns-in-Err-clause-exact g c file told why wrong = (
  tt,
  λ spoken. c.new.ensures.why ∙ one_wrong file c.in-Err.refusal why
      (refused_wrong (g.D.Disk.state c.args.disk) (g.D.Disk.state c.open.new.disk) c.in-Err.refusal c.in-Err.ensures.refused (subst IsOfTheFile c.new.ensures.why spoken) file told) wrong,
)

pub returns-in-Err-clause-untouched : goal.returns-in-Err-clause-untouched
returns-in-Err-clause-untouched g c spoken =
    rw c.new.ensures.disk (c.in-Err.ensures.untouched (subst IsOfTheFile c.new.ensures.why spoken))
