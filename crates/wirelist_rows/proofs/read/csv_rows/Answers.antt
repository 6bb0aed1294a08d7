use Rattle.std.proofs.Common.{◌≤◌, ◌+◌, ℕ, List, length, sym, subst, All}
use Rattle.csv.specs.Reading.{default_config}
use Rattle.wirelist_rows.proofs.AllRecords.{rows_few}
use Rattle.wirelist_rows.proofs.ShortRows.{rows_short}
use Rattle.wirelist_rows.proofs.read.csv_rows.Goals as goal

pub returns-clause-few : goal.returns-clause-few
returns-clause-few c =
    subst (λ (l : List (List (List ℕ))). length l ≤ length c.args.bytes.now + 1) (sym c.in_ok-rows.ensures.read) (rows_few default_config c.args.bytes.now)

pub returns-clause-short : goal.returns-clause-short
returns-clause-short c =
    subst (λ (l : List (List (List ℕ))). All (λ row. length row ≤ length c.args.bytes.now + 1) l) (sym c.in_ok-rows.ensures.read) (rows_short default_config c.args.bytes.now)
