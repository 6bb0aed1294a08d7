use Rattle.std.proofs.Common.{◌≡◌, [], take, rules, arith, sym, ◌∙◌}
use Rattle.std.proofs.lemmas.List.{get_or_default, length-take-le}
use Rattle.wirelist_reader.specs.Rows.{row_at}
use Rattle.wirelist_reader.proofs.CheckFacts.{alone_finds, late_finds}
use Rattle.wirelist_reader.proofs.SeenFacts.{components_few}
use Rattle.wirelist_reader.proofs.check.check_row.Goals as goal

pub add-requires-clause-few : goal.add-requires-clause-few
add-requires-clause-few c =
    let few = components_few (take c.args.i c.args.rows.now) c.args.seen.now.names c.args.seen.now.components c.requires.seen in
    let inside = c.requires.inside in
    let size = length-take-le c.args.i c.args.rows.now (omega arith) in
    let rows = c.requires.few in
    omega arith

pub returns-in-Ok-clause-finds : goal.returns-in-Ok-clause-finds
returns-in-Ok-clause-finds c =
    let at : c.index-rows-i.result ≡ row_at c.args.rows.now c.args.i = c.index-rows-i.is ∙ sym (get_or_default c.args.rows.now c.args.i [] c.index-rows-i.result c.requires.inside) in
    let some : c.index-rows-i.result ≡ [] → ⊥ = search rules in
    late_finds c.args.rows.now c.args.i c.index-rows-i.result c.add.result at some c.in-Ok.ensures.finds
    (c.add.ensures.finds (take c.args.i c.args.rows.now) c.requires.seen)

pub returns-in_default-clause-finds : goal.returns-in_default-clause-finds
returns-in_default-clause-finds c =
    let at : c.index-rows-i.result ≡ row_at c.args.rows.now c.args.i = c.index-rows-i.is ∙ sym (get_or_default c.args.rows.now c.args.i [] c.index-rows-i.result c.requires.inside) in
    let some : c.index-rows-i.result ≡ [] → ⊥ = search rules in
    alone_finds c.args.rows.now c.args.i c.index-rows-i.result c.check_alone.result at some c.in_default.not-Ok c.check_alone.ensures.finds
