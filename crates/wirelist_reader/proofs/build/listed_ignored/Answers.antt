use Rattle.std.proofs.Common.{ℕ, List, drop, map, ap, sym, ◌∙◌}
use Rattle.std.proofs.lemmas.Result.{IfOk-weaker}
use Rattle.wirelist_reader.specs.Kinds.{number}
use Rattle.wirelist_reader.specs.declared.kind.Kind.TheVariants.{Ignore}
use Rattle.wirelist_reader.proofs.faultless.BuildFacts.{ignored_points}
use Rattle.wirelist_reader.proofs.faultless.BuildLists.{first_fits, none_ignored}
use Rattle.wirelist_reader.proofs.ReadFacts.{first_row_is}
use Rattle.wirelist_reader.proofs.build.listed_ignored.Goals as goal

pub points_from-requires : goal.points_from-requires
points_from-requires c =
    let first = first_fits Ignore c.args.rows.now c.in-Some.row.now c.requires c.in-Some.ensures in
    ignored_points c.in-Some.row.now first.1 first.0

pub returns-in-Some : goal.returns-in-Some
returns-in-Some c =
    let row = first_row_is Ignore c.args.rows.now c.in-Some.row.now c.in-Some.ensures in
    IfOk-weaker c.points_from.result _ _ (λ list is. is ∙ ap (λ (r : List (List ℕ)). map number (drop 1 r)) row) c.points_from.ensures

pub returns-in-None : goal.returns-in-None
returns-in-None c = c.new.ensures ∙ sym (none_ignored c.args.rows.now c.in-None.ensures)
