use Rattle.std.proofs.Common.{◌≡◌, ℕ, List, Some, ◌+◌, ◌-◌, length, slice_range, sym, ◌∙◌, ap, arith}
use Rattle.journal.proofs.writing.Between.{gate_steps, gate_within, entry_is}
use Rattle.journal.specs.Format.{AtRest}
use Rattle.journal.proofs.writing.Places.{told_file}
use Rattle.journal.proofs.journal.Journal.entry.Goals as goal

pub overflow_add-from : goal.overflow_add-from
overflow_add-from g c =
    omega (arith, c.type_inv.next, gate_steps c.args.self.now.gates.items c.args.number c.index.result.now c.index-next.result.now c.args.self.now.in_order c.requires.from_one (omega (arith, c.requires.within, c.requires.from_one)) c.index.ensures c.index-next.ensures)

pub overflow_sub-next : goal.overflow_sub-next
overflow_sub-next g c =
    gate_steps c.args.self.now.gates.items c.args.number c.index.result.now c.index-next.result.now c.args.self.now.in_order c.requires.from_one (omega (arith, c.requires.within, c.requires.from_one)) c.index.ensures c.index-next.ensures

pub read_at-requires : goal.read_at-requires
read_at-requires g c file told =
    let self = c.args.self.now in
    let step = gate_steps self.gates.items c.args.number c.index.result.now c.index-next.result.now self.in_order c.requires.from_one (omega (arith, c.requires.within, c.requires.from_one)) c.index.ensures c.index-next.ensures in
    omega (arith, step, gate_within file self.gates.items c.args.number c.index-next.result.now (self.kept.reads file told) (omega (arith, c.requires.within, c.requires.from_one)) c.index-next.ensures, c.deref_mut.ensures.len, c.in_ok-body.ensures.len)

pub returns-clause-body : goal.returns-clause-body
returns-clause-body g c bodies tells =
    let self = c.args.self.now in
    let gates = self.gates.items in
    let gate = c.index.result.now in
    let next = c.index-next.result.now in
    let buf = c.read_at.new.buf in
    let known = told_file (g.D.Disk.state self.disk).reads_as (λ (file : List ℕ). AtRest file bodies) tells in
    let step = gate_steps gates c.args.number gate next self.in_order c.requires.from_one (omega (arith, c.requires.within, c.requires.from_one)) c.index.ensures c.index-next.ensures in
    let same : length c.deref_mut.result.now ≡ length buf = omega (arith, c.read_at.auto.buf) in
    let long : length buf ≡ next - (gate + 5) = omega (arith, same, c.deref_mut.ensures.len, c.in_ok-body.ensures.len) in
    let len_is : c.in_ok-body.body.len ≡ length buf = omega (arith, same, c.deref_mut.ensures.len) in
    let filled = c.in_ok-read_at.ensures.filled known.0 known.1 ∙ ap (λ (n : ℕ). slice_range known.0 (gate + 5) (gate + 5 + n)) same in
    entry_is known.0 gates buf c.in_ok-body.body.items bodies c.args.number gate next c.in_ok-body.body.len (self.kept.reads known.0 known.1) known.2 c.requires.from_one (omega (arith, c.requires.within, c.requires.from_one)) c.index.ensures c.index-next.ensures step long len_is filled
    ∙ ap Some (sym c.from_vec.ensures)
