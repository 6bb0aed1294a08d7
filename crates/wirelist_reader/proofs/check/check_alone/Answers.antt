use Rattle.std.proofs.Common.{◌≡◌, true, false, Some, rules, sym, ◌∙◌, ap}
use Rattle.std.specs.Prelude.{◌&&◌}
use Rattle.std.specs.List.{list_all, list_any}
use Rattle.wirelist_reader.specs.Kinds.{kind_of}
use Rattle.wirelist_reader.specs.Rows.{field_at, is_kind}
use Rattle.wirelist_reader.specs.Refusals.{is_single, is_text}
use Rattle.wirelist_reader.proofs.CheckFacts.{alone_bad, alone_none, fit_row}
use Rattle.wirelist_reader.proofs.check.check_alone.Goals as goal

pub returns-in-Some-bad_place-clause-finds : goal.returns-in-Some-bad_place-clause-finds
returns-in-Some-bad_place-clause-finds c =
    let text : list_all is_text c.args.row.now ≡ true = search rules in
    let is : kind_of (field_at c.args.row.now 0) ≡ Some c.in-Some.kind = search rules in
    let one : (is_single c.in-Some.kind && list_any (is_kind c.in-Some.kind) c.args.before.now) ≡ false = search rules in
    alone_bad c.args.before.now c.args.row.now c.args.number c.in-Some.kind text is c.in-Some-bad_place.place one c.in-Some-bad_place.ensures.first ∙ ap Some (sym c.bad_field.ensures)

pub returns-in-None-clause-finds : goal.returns-in-None-clause-finds
returns-in-None-clause-finds c =
    let text : list_all is_text c.args.row.now ≡ true = search rules in
    let is : kind_of (field_at c.args.row.now 0) ≡ Some c.in-Some.kind = search rules in
    let one : (is_single c.in-Some.kind && list_any (is_kind c.in-Some.kind) c.args.before.now) ≡ false = search rules in
    alone_none c.args.before.now c.args.row.now c.args.number c.in-Some.kind text is one c.in-None.ensures.first

pub returns-in-None-clause-fit : goal.returns-in-None-clause-fit
returns-in-None-clause-fit c =
    let text : list_all is_text c.args.row.now ≡ true = search rules in
    let is : kind_of (field_at c.args.row.now 0) ≡ Some c.in-Some.kind = search rules in
    fit_row c.args.before.now c.args.row.now c.args.number c.in-Some.kind text is c.in-None.ensures.first
