use Rattle.std.proofs.Common.{ap, arith}
use Rattle.partition.specs.NetTable.{NetTable}
use Rattle.partition.proofs.tables.KeptLemmas.{judged_read}
use Rattle.partition.proofs.nets.Nets.judged.Goals as goal

pub returns : goal.returns
returns c =
    let points = ap (λ (t : NetTable). t.points) c.self.view_is in
    let inside = c.requires in
    let same = c.index.ensures.same in
    judged_read (record { points = c.self.inside.points; named = c.self.inside.named; ignored = c.self.inside.ignored }) c.args.self.now c.self.inside.numbers.items c.self.inside.alone c.index.result c.args.point c.index-2.result.now
    c.self.view_is c.self.invariant c.index.ensures.same c.requires (omega (arith, c.self.invariant.size)) c.index-2.ensures
