-- The status of the reply with a unit's report.
use Rattle.std.proofs.Common.{◌≡◌, refl, ℕ, List, true, false, Option, Some, None}
use Rattle.std.specs.Prelude.{is_some}
use Rattle.station_http.specs.Expected.{report_or_none}

pub status-there : (o : Option (List ℕ)) → is_some o ≡ true → 200 ≡ (report_or_none o).status
status-there None e = absurd (cc e)
status-there (Some text) e = refl

pub status-none : (o : Option (List ℕ)) → is_some o ≡ false → 404 ≡ (report_or_none o).status
status-none None e = refl
status-none (Some text) e = absurd (cc e)
