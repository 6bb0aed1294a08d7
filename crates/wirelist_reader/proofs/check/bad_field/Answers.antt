use Rattle.std.proofs.Common.{◌≡◌, true, subst, List, ℕ, rules}
use Rattle.lines.specs.Numbers.{IsNumberWord}
use Rattle.wirelist_reader.specs.Rows.{is_kind}
use Rattle.wirelist_reader.specs.declared.kind.Kind.TheVariants.{Points}
use Rattle.wirelist_reader.proofs.CheckFacts.{too_many_points}
use Rattle.wirelist_reader.proofs.check.bad_field.Goals as goal

pub returns-in-Some : goal.returns-in-Some
returns-in-Some c =
    let kind : is_kind Points c.args.row.now ≡ true = search rules in
    too_many_points c.args.row.now c.args.number c.args.place c.in-Some.points (search rules) kind
    (subst (λ (field : List ℕ). IsNumberWord field 4097 4294967295 c.in-Some.points) c.field.ensures c.in-Some.ensures.number)
