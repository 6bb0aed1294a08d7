use Rattle.std.proofs.Common.{Some, Result, OnOk, map, sym, subst, arith}
use Rattle.std.proofs.lemmas.List.{length-map}
use Rattle.base.specs.declared.memory.Memory.{Memory}
use Rattle.wirelist.specs.Canonical.{line_of}
use Rattle.report.specs.Writing.{Adds}
use Rattle.report.proofs.RowLemmas.{row_added}
use Rattle.report.proofs.rows.write_row.Goals as goal
use Rattle.report.proofs.rows.write_row.Goals.{in-Ok, in-Err}

pub returns : goal.returns
returns c =
    let P : Result (Unit {0}) Memory → Type 0 = λ r. OnOk r (Adds (λ v. Some v.items) c.args.rows.now c.write_fields.new.self (line_of (map (λ f. f.now) c.args.fields.now))) in
    elim c.match-write_fields.branch [
      | in-Ok w ↦
          subst P (sym w.result-is)
          (row_added (λ v. Some v.items) c.args.rows.now c.write_fields.new.self (map (λ f. f.now) c.args.fields.now) (omega (arith, length-map c.args.fields.now (λ f. f.now), c.requires.some)) c.requires.plain w.in-Ok.ensures.bytes w.in-Ok.ensures.ended w.in-Ok.ensures.clean w.in-Ok.ensures.setup)
      | in-Err w ↦ subst P (sym w.result-is) tt
    ]
