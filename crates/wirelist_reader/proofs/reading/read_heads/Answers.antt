use Rattle.std.proofs.Common.{◌∙◌, List, ℕ, inl, inr, ap, rules}
use Rattle.wirelist_reader.specs.Rows.{field_at, is_kind, number_at}
use Rattle.wirelist_reader.specs.declared.kind.Kind.TheVariants.{Part, Points}
use Rattle.wirelist_reader.proofs.faultless.BuildFacts.{part_name, part_revision, points_number}
use Rattle.wirelist_reader.proofs.faultless.BuildLists.{first_fits}
use Rattle.wirelist_reader.proofs.ReadFacts.{first_row_is, has_first, has_none, heads_missing, heads_there}
use Rattle.wirelist_reader.proofs.reading.read_heads.Goals as goal
use Rattle.wirelist_reader.proofs.reading.read_heads.Goals.{in_default-via-in-Some+in_default, in_default-via-in_default}

pub returns-in_default-clause-finds : goal.returns-in_default-clause-finds
returns-in_default-clause-finds c =
    heads_missing c.args.rows.now (elim c.in_default.branch [
      | in_default-via-in-Some+in_default w ↦ inr (has_none (is_kind Points) c.args.rows.now (search rules))
      | in_default-via-in_default w ↦ inl (has_none (is_kind Part) c.args.rows.now (search rules))
    ])

pub name_at-requires : goal.name_at-requires
name_at-requires c =
    let fit = first_fits Part c.args.rows.now c.in-Some-Some.part.now c.requires c.in-Some-Some.ensures in
    part_name c.in-Some-Some.part.now fit.1 fit.0

pub number_at-requires : goal.number_at-requires
number_at-requires c =
    let fit = first_fits Part c.args.rows.now c.in-Some-Some.part.now c.requires c.in-Some-Some.ensures in
    part_revision c.in-Some-Some.part.now fit.1 fit.0

pub number_at-requires-2 : goal.number_at-requires-2
number_at-requires-2 c =
    let fit = first_fits Points c.args.rows.now c.in-Some-Some.points.now c.requires c.in-Some-Some.ensures' in
    points_number c.in-Some-Some.points.now fit.1 fit.0

pub returns-clause-finds : goal.returns-clause-finds
returns-clause-finds c =
    heads_there c.args.rows.now (has_first (is_kind Part) c.args.rows.now c.in-Some-Some.part.now c.in-Some-Some.ensures)
    (has_first (is_kind Points) c.args.rows.now c.in-Some-Some.points.now c.in-Some-Some.ensures')

pub returns-clause-heads : goal.returns-clause-heads
returns-clause-heads c =
    let part = first_row_is Part c.args.rows.now c.in-Some-Some.part.now c.in-Some-Some.ensures in
    let points = first_row_is Points c.args.rows.now c.in-Some-Some.points.now c.in-Some-Some.ensures' in
    record {
      part_is = c.name_at.ensures ∙ ap (λ (row : List (List ℕ)). field_at row 1) part;
      revision_is = c.number_at.ensures.number ∙ ap (λ (row : List (List ℕ)). number_at row 2) part;
      points_are = c.number_at-2.ensures.number ∙ ap (λ (row : List (List ℕ)). number_at row 1) points;
      some = c.number_at-2.ensures.low;
    }
