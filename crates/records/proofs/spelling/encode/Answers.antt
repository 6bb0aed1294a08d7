use Rattle.std.proofs.Common.{◌≡◌, ◌≤◌, List, ℕ, length, arith, subst, sym}
use Rattle.std.proofs.lemmas.Grind.{common_steps}
use Rattle.records.specs.RecordBytes.{record_bytes}
use Rattle.records.specs.RecordRanges.{most_bytes}
use Rattle.records.proofs.Lengths.{record_few}
use Rattle.records.proofs.spelling.encode.Goals as goal

pub returns-clause-short : goal.returns-clause-short
returns-clause-short c =
    let spelled : c.write_body.new.out ≡ record_bytes c.args.r.now = grind (arith, common_steps) in
    subst (λ (bytes : List ℕ). length bytes ≤ most_bytes) (sym spelled) (record_few c.args.r.now c.requires)
