use Rattle.std.proofs.Common.{◌∙◌, ◌<◌, refl, subst, sym}
use Rattle.std.specs.Prelude.{All}
use Rattle.wirelist.specs.declared.parts.Diode.{Diode}
use Rattle.wirelist.specs.declared.parts.Resistor.{Resistor}
use Rattle.rig.proofs.Happening.{Happens-points}
use Rattle.parts_check.proofs.Stopping.{resistor_probes-IsProbe, stopped-on}
use Rattle.parts_check.proofs.Together.{checks-parts, diodes-inside, resistors-inside, same-points}
use Rattle.parts_check.proofs.check.read_parts.Goals as goal

pub read_resistors-requires-clause-inside : goal.read_resistors-requires-clause-inside
read_resistors-requires-clause-inside g c =
    let n = (g.R.Rig.state c.args.proven.now.rig).points in
    subst (λ (rs : _). All (λ (r : Resistor). (r.a < n) × (r.b < n)) rs) (sym c.as_slice-resistors.ensures)
    (resistors-inside c.args.program.now n c.requires.program (same-points c.args.program.now c.partition-partition.ensures.partition
    (c.partition-partition.ensures.same ∙ c.requires.partition)))

pub read_diodes-requires-clause-inside : goal.read_diodes-requires-clause-inside
read_diodes-requires-clause-inside g c =
    let n = (g.R.Rig.state c.read_resistors.new.proven.rig).points in
    subst (λ (ds : _). All (λ (d : Diode). (d.from < n) × (d.to < n)) ds) (sym c.as_slice.ensures)
    (diodes-inside c.args.program.now n c.requires.program
    (Happens-points c.in_ok-read_resistors.ensures.ok.happens ∙ same-points c.args.program.now c.partition-partition.ensures.partition
    (c.partition-partition.ensures.same ∙ c.requires.partition)))

pub returns-in_err-read_diodes-clause-stops : goal.returns-in_err-read_diodes-clause-stops
returns-in_err-read_diodes-clause-stops g c =
    let first = c.in_ok-read_resistors.ensures.ok in
    stopped-on (resistor_probes-IsProbe first.reads) first.happens c.in_err-read_diodes.ensures.err c.from_residual-in_err-read_diodes.result
    c.from_residual-in_err-read_diodes.ensures.1

pub returns-clause-checks : goal.returns-clause-checks
returns-clause-checks g c =
    checks-parts c.args.program.now c.requires.program
    (same-points c.args.program.now c.partition-partition.ensures.partition (c.partition-partition.ensures.same ∙ c.requires.partition))
    c.as_slice-resistors.ensures c.as_slice.ensures refl c.new-faults.ensures c.in_ok-read_resistors.ensures.ok c.in_ok-read_diodes.ensures.ok
