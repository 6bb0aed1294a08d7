use Rattle.std.proofs.Common.{◌≡◌, ◌+◌, ◌≤◌, [], ◌∷◌, ◌++◌, length, ◌∙◌, arith}
use Rattle.std.proofs.lemmas.Grind.{common_steps}
use Rattle.journal.specs.declared.TheConstants.{LONGEST_FILE}
use Rattle.journal.specs.Gates.{last_gate}
use Rattle.journal.proofs.writing.Places.{next_for, end_within, gates_push, kept_after, each_stands, length-bytes}
use Rattle.journal.proofs.writing.Reach.{append_limit}
use Rattle.journal.proofs.journal.Journal.append.Goals as goal

pub put_entry-requires-clause-within : goal.put_entry-requires-clause-within
put_entry-requires-clause-within g c file told =
    omega (arith, c.end-end.ensures, end_within (g.D.Disk.state c.args.self.disk) c.args.self.gates.items c.args.self.kept file told)

pub invariant_of-result-in-Ok-put_entry : goal.invariant_of-result-in-Ok-put_entry
invariant_of-result-in-Ok-put_entry g c =
    let gates = c.args.self.gates.items in
    let body = c.args.body.now in
    let next = c.end-end.result + 5 + length body in
    let pushed : c.push.new.self.items ≡ gates ++ next ∷ [] = grind (arith, common_steps) in
    let room : last_gate gates + 262144 ≤ LONGEST_FILE = grind (arith, common_steps) in
    let in_order = gates_push gates next (length body) c.args.self.in_order (omega (arith, c.end-end.ensures)) c.requires (omega (arith, c.end-end.ensures, room)) in
    let kept = kept_after (g.D.Disk.state c.args.self.disk) (g.D.Disk.state c.put_entry.new.disk) gates c.deref.result.now body c.end-end.result next c.args.self.kept c.end-end.ensures (c.deref.ensures.value ∙ c.in-Ok.ensures) c.requires (omega arith) c.put_entry.ensures.tells c.in-Ok-put_entry.ensures.durable c.in-Ok-put_entry.ensures.ok in
    rw pushed (record { in_order = in_order; kept = kept })

pub returns-in-Ok-put_entry-clause-entries : goal.returns-in-Ok-put_entry-clause-entries
returns-in-Ok-put_entry-clause-entries g c bodies has =
    c.in-Ok-put_entry.ensures.ok bodies c.args.body.now (next_for (g.D.Disk.state c.args.self.disk) c.args.self.gates.items c.deref.result.now c.end-end.result bodies c.args.body.now c.args.self.kept c.end-end.ensures (c.deref.ensures.value ∙ c.in-Ok.ensures) c.requires has)

pub returns-in-Ok-put_entry-clause-each_image : goal.returns-in-Ok-put_entry-clause-each_image
returns-in-Ok-put_entry-clause-each_image g c bodies has =
    let after = c.in-Ok-put_entry.ensures.ok bodies c.args.body.now (next_for (g.D.Disk.state c.args.self.disk) c.args.self.gates.items c.deref.result.now c.end-end.result bodies c.args.body.now c.args.self.kept c.end-end.ensures (c.deref.ensures.value ∙ c.in-Ok.ensures) c.requires has) in
    each_stands (g.D.Disk.state c.put_entry.new.disk) (bodies ++ c.args.body.now ∷ []) c.in-Ok-put_entry.ensures.durable after

pub returns-in-Ok-put_entry-clause-any_moment : goal.returns-in-Ok-put_entry-clause-any_moment
returns-in-Ok-put_entry-clause-any_moment g c bodies has =
    c.put_entry.ensures.any_moment bodies c.args.body.now (next_for (g.D.Disk.state c.args.self.disk) c.args.self.gates.items c.deref.result.now c.end-end.result bodies c.args.body.now c.args.self.kept c.end-end.ensures (c.deref.ensures.value ∙ c.in-Ok.ensures) c.requires has)

pub returns-in-Err-Failed-clause-any_moment : goal.returns-in-Err-Failed-clause-any_moment
returns-in-Err-Failed-clause-any_moment g c bodies has =
    c.put_entry.ensures.any_moment bodies c.args.body.now (next_for (g.D.Disk.state c.args.self.disk) c.args.self.gates.items c.deref.result.now c.end-end.result bodies c.args.body.now c.args.self.kept c.end-end.ensures (c.deref.ensures.value ∙ c.in-Ok.ensures) c.requires has)

pub returns-clause-any_moment : goal.returns-clause-any_moment
returns-clause-any_moment g c bodies has =
    c.put_entry.ensures.any_moment bodies c.args.body.now (next_for (g.D.Disk.state c.args.self.disk) c.args.self.gates.items c.deref.result.now c.end-end.result bodies c.args.body.now c.args.self.kept c.end-end.ensures (c.deref.ensures.value ∙ c.in-Ok.ensures) c.requires has)

pub put_entry-requires-clause-gate : goal.put_entry-requires-clause-gate
put_entry-requires-clause-gate g c =
    omega (arith, length-bytes c.deref.result.now c.args.body.now (c.deref.ensures.value ∙ c.in-Ok.ensures))

pub returns-in-Ok-put_entry-clause-limit : goal.returns-in-Ok-put_entry-clause-limit
returns-in-Ok-put_entry-clause-limit g c =
    let gates = c.args.self.gates.items in
    let room : last_gate gates + 262144 ≤ LONGEST_FILE = grind (arith, common_steps) in
    let long = length-bytes c.deref.result.now c.args.body.now (c.deref.ensures.value ∙ c.in-Ok.ensures) in
    append_limit (g.D.Disk.state c.args.self.disk) (g.D.Disk.state c.put_entry.new.disk) gates (c.end-end.result + length c.deref.result.now) c.args.self.kept (omega (arith, c.requires, c.end-end.ensures, room, long)) c.put_entry.ensures.reach

pub returns-in-Err-Failed-clause-limit : goal.returns-in-Err-Failed-clause-limit
returns-in-Err-Failed-clause-limit g c =
    let gates = c.args.self.gates.items in
    let room : last_gate gates + 262144 ≤ LONGEST_FILE = grind (arith, common_steps) in
    let long = length-bytes c.deref.result.now c.args.body.now (c.deref.ensures.value ∙ c.in-Ok.ensures) in
    append_limit (g.D.Disk.state c.args.self.disk) (g.D.Disk.state c.put_entry.new.disk) gates (c.end-end.result + length c.deref.result.now) c.args.self.kept (omega (arith, c.requires, c.end-end.ensures, room, long)) c.put_entry.ensures.reach

pub returns-clause-limit : goal.returns-clause-limit
returns-clause-limit g c =
    let gates = c.args.self.gates.items in
    let room : last_gate gates + 262144 ≤ LONGEST_FILE = grind (arith, common_steps) in
    let long = length-bytes c.deref.result.now c.args.body.now (c.deref.ensures.value ∙ c.in-Ok.ensures) in
    append_limit (g.D.Disk.state c.args.self.disk) (g.D.Disk.state c.put_entry.new.disk) gates (c.end-end.result + length c.deref.result.now) c.args.self.kept (omega (arith, c.requires, c.end-end.ensures, room, long)) c.put_entry.ensures.reach
