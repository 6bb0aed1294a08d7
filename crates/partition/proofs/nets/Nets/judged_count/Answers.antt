use Rattle.std.proofs.Common.{length, arith, ap}
use Rattle.partition.specs.NetTable.{NetTable, judged_points}
use Rattle.partition.proofs.tables.KeptLemmas.{judged_rest}
use Rattle.partition.proofs.nets.Nets.judged_count.Goals as goal

pub overflow_cast-result-2 : goal.overflow_cast-result-2
overflow_cast-result-2 c =
    let all = judged_rest (record { points = c.self.inside.points; named = c.self.inside.named; ignored = c.self.inside.ignored }) c.self.invariant.valid in
    let len = c.len.ensures in
    let small = c.self.invariant.small in
    omega arith

pub overflow_sub-result : goal.overflow_sub-result
overflow_sub-result c =
    let all = judged_rest (record { points = c.self.inside.points; named = c.self.inside.named; ignored = c.self.inside.ignored }) c.self.invariant.valid in
    let len = c.len.ensures in
    omega arith

pub returns-clause-count : goal.returns-clause-count
returns-clause-count c =
    let all = judged_rest (record { points = c.self.inside.points; named = c.self.inside.named; ignored = c.self.inside.ignored }) c.self.invariant.valid in
    let len = c.len.ensures in
    omega (arith, ap (λ (t : NetTable). length (judged_points t)) c.self.view_is)

pub returns-clause-some : goal.returns-clause-some
returns-clause-some c =
    let all = judged_rest (record { points = c.self.inside.points; named = c.self.inside.named; ignored = c.self.inside.ignored }) c.self.invariant.valid in
    let some = c.self.invariant.valid.some_point in
    let len = c.len.ensures in
    omega arith
