use Rattle.std.proofs.Common.{◌≡◌, ◌∙◌, [], sym, ap, subst}
use Rattle.partition.specs.NetTable.{IsNetTable}
use Rattle.wirelist.specs.Clusters.{ComponentsInside}
use Rattle.wirelist.specs.Programs.{IsProgram}
use Rattle.wirelist_reader.specs.Refusals.{cluster_faults}
use Rattle.wirelist_reader.specs.Rows.{program_of}
use Rattle.wirelist_reader.proofs.faultless.GivenEnds.{inside_of_faultless}
use Rattle.wirelist_reader.proofs.faultless.GivenProgram.{program_of_faultless}
use Rattle.wirelist_reader.proofs.faultless.GivenRows.{fit_of_faultless}
use Rattle.wirelist_reader.proofs.ReadFacts.{parts_faultless, parts_refused}
use Rattle.wirelist_reader.proofs.reading.read_parts.Goals as goal

pub all_ends-requires-clause-fit : goal.all_ends-requires-clause-fit
all_ends-requires-clause-fit c = fit_of_faultless c.args.rows.now c.requires.rows

pub returns-in-Err-clause-finds : goal.returns-in-Err-clause-finds
returns-in-Err-clause-finds c =
    parts_refused c.args.rows.now c.args.nets c.as_slice.result.now c.in-Err.refusal c.requires.nets (c.as_slice.ensures.value ∙ c.in_ok-ends.ensures) c.in-Err.ensures

pub program-requires-clause-fit : goal.program-requires-clause-fit
program-requires-clause-fit c = fit_of_faultless c.args.rows.now c.requires.rows

pub check_clusters-requires : goal.check_clusters-requires
check_clusters-requires c =
    let parts = parts_faultless c.args.rows.now c.args.nets c.as_slice.result.now c.requires.nets (c.as_slice.ensures.value ∙ c.in_ok-ends.ensures) c.in_default.ensures in
    subst ComponentsInside (sym c.in_ok-p.ensures) (inside_of_faultless c.args.rows.now parts)

pub returns-in-Ok-clause-valid : goal.returns-in-Ok-clause-valid
returns-in-Ok-clause-valid c =
    let parts = parts_faultless c.args.rows.now c.args.nets c.as_slice.result.now c.requires.nets (c.as_slice.ensures.value ∙ c.in_ok-ends.ensures) c.in_default.ensures in
    let nets : IsNetTable (program_of c.args.rows.now).nets = subst IsNetTable c.requires.nets c.points-points.ensures.valid in
    let clusters : cluster_faults (program_of c.args.rows.now) ≡ [] = ap cluster_faults (sym c.in_ok-p.ensures) ∙ c.in-Ok.ensures in
    subst IsProgram (sym c.in_ok-p.ensures) (program_of_faultless c.args.rows.now c.requires.rows c.requires.named nets parts clusters)
