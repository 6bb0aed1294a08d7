-- A row has no more fields than its text has bytes, but one.
use Rattle.std.proofs.Common.{◌≡◌, ◌<◌, ◌≤◌, ◌+◌, refl, arith, ℕ, zero, suc, Bool, true, false, List, [], ◌∷◌, ◌++◌, length, map, Option, Some, None, if◌then◌else◌, All, get_or}
use Rattle.std.specs.Prelude.{◌==◌, ◌&&◌}
use Rattle.std.specs.Bool.{⊤}
use Rattle.std.proofs.lemmas.List.{length-append}
use Rattle.csv.specs.Machine.{Read, next_record, step, is_end, ends_at_end, fields_after, field_after}
use Rattle.csv.specs.Reading.{records_from, records, records_next, strip_bom}
use Rattle.csv.specs.declared.parser.Action.{Action}
use Rattle.csv.specs.declared.parser.Action.TheVariants as act
use Rattle.csv.specs.declared.parser.Config.{Config}
use Rattle.csv.specs.declared.parser.State.{State}
use Rattle.csv.specs.declared.parser.State.TheVariants as st
use Rattle.wirelist_rows.specs.Filled.{filled}
use Rattle.wirelist_rows.proofs.AllRecords.{next_record_no_longer, strip_bom_shorter}

one_field_more : (action : Action) (fields : List (List ℕ)) (field : List ℕ) → length (fields_after action fields field) ≤ length fields + 1
one_field_more act.EndField fields field = let size = length-append fields (field ∷ []) in omega arith
one_field_more act.EndRecord fields field = let size = length-append fields (field ∷ []) in omega arith
one_field_more act.Skip fields field = omega arith
one_field_more act.Copy fields field = omega arith

last_field : (fields : List (List ℕ)) (field : List ℕ) (p : Read) (b : Bool) → ◌≡◌ {A = Option Read} (if b then Some (fields ++ (field ∷ []), st.StartRecord, []) else None) (Some p) → length p.0 ≤ length fields + 1
last_field fields field p true e =
    let q : ◌≡◌ {A = Read} (fields ++ (field ∷ []), st.StartRecord, []) p = cc in
    rw (← q) (let size = length-append fields (field ∷ []) in omega arith)
last_field fields field p false e = cc

next_field : (cfg : Config) (s : State) (fields : List (List ℕ)) (field : List ℕ) (c : ℕ) (rest : List ℕ) (p : Read) (b : Bool)
    → (next_record cfg (step cfg s c).0 (fields_after (step cfg s c).1 fields field) (field_after (step cfg s c).1 c field) rest ≡ Some p
    → length p.0 ≤ length (fields_after (step cfg s c).1 fields field) + length rest + 1)
    → (if b then Some (fields_after (step cfg s c).1 fields field, (step cfg s c).0, rest)
    else next_record cfg (step cfg s c).0 (fields_after (step cfg s c).1 fields field) (field_after (step cfg s c).1 c field) rest) ≡ Some p
    → length p.0 ≤ length fields + length rest + 2
next_field cfg s fields field c rest p true more e =
    let q : ◌≡◌ {A = Read} (fields_after (step cfg s c).1 fields field, (step cfg s c).0, rest) p = cc in
    let one = one_field_more (step cfg s c).1 fields field in
    rw (← q) (omega arith)
next_field cfg s fields field c rest p false more e = let m = more e in let one = one_field_more (step cfg s c).1 fields field in omega arith

-- the fields of the next record
fields_few : (cfg : Config) (s : State) (fields : List (List ℕ)) (field xs : List ℕ) (p : Read) → next_record cfg s fields field xs ≡ Some p → length p.0 ≤ length fields + length xs + 1
unfolding next_record
fields_few cfg s fields field [] p e = let last = last_field fields field p (ends_at_end s) e in omega arith
fields_few cfg s fields field (c ∷ rest) p e =
    let next = next_field cfg s fields field c rest p (is_end (step cfg s c).1) (fields_few cfg (step cfg s c).0 (fields_after (step cfg s c).1 fields field) (field_after (step cfg s c).1 c field) rest p) e in
    omega arith

-- the fields of each record
abbrev Short : ℕ → List (List (List ℕ)) → Type 0
Short most [] = ⊤
Short most (row ∷ rows) = (length row ≤ most) × Short most rows

all_short : (rows : List (List (List ℕ))) (most : ℕ) → Short most rows → (k : ℕ) (d : List (List ℕ)) → k < length rows → length (get_or rows k d) ≤ most
all_short [] most short k d lt = absurd (omega arith)
all_short (row ∷ rows) most short zero d lt = short.0
all_short (row ∷ rows) most short (suc k) d lt = all_short rows most short.1 k d (omega arith)

wider : (rows : List (List (List ℕ))) (less more : ℕ) → less ≤ more → Short less rows → Short more rows
wider [] less more le short = tt
wider (row ∷ rows) less more le short = let here = short.0 in (omega arith, wider rows less more le short.1)

next_short : (more : State → List ℕ → List (List (List ℕ))) (cfg : Config) (s : State) (xs : List ℕ) → ((s : State) (ys : List ℕ) → Short (length ys + 1) (more s ys))
    → (next : Option Read) → next_record cfg s [] [] xs ≡ next → Short (length xs + 1) (records_next more next)
next_short more cfg s xs short None e = tt
next_short more cfg s xs short (Some p) e =
    let few = fields_few cfg s [] [] xs p e in
    let shorter = next_record_no_longer cfg s xs p e in
    (omega arith, wider (more p.1 p.2) (length p.2 + 1) (length xs + 1) (omega arith) (short p.1 p.2))

records_from_short : (cfg : Config) (n : ℕ) (s : State) (xs : List ℕ) → Short (length xs + 1) (records_from cfg n s xs)
unfolding records_from
records_from_short cfg zero s xs = tt
records_from_short cfg (suc n) s xs = next_short (records_from cfg n) cfg s xs (records_from_short cfg n) (next_record cfg s [] [] xs) refl

pick_fewer : (b : Bool) (field : List ℕ) (rest : List (List ℕ)) (n : ℕ) → length rest ≤ n → length (if b then [] else field ∷ rest) ≤ n + 1
pick_fewer true field rest n le = omega arith
pick_fewer false field rest n le = omega arith

filled_fewer : (row : List (List ℕ)) → length (filled row) ≤ length row
filled_fewer [] = omega arith
filled_fewer (field ∷ fields) = let fewer = pick_fewer ((length field == 0) && (length (filled fields) == 0)) field (filled fields) (length fields) (filled_fewer fields) in omega arith

filled_short : (rows : List (List (List ℕ))) (most : ℕ) → Short most rows → Short most (map filled rows)
filled_short [] most short = tt
filled_short (row ∷ rows) most short = let fewer = filled_fewer row in let here = short.0 in (omega arith, filled_short rows most short.1)

pub rows_short : (cfg : Config) (bytes : List ℕ) → All (λ row. length row ≤ length bytes + 1) (map filled (records cfg (strip_bom bytes)))
rows_short cfg bytes =
    let shorter = strip_bom_shorter bytes in
    all_short (map filled (records cfg (strip_bom bytes))) (length bytes + 1)
    (filled_short (records cfg (strip_bom bytes)) (length bytes + 1)
    (wider (records cfg (strip_bom bytes)) (length (strip_bom bytes) + 1) (length bytes + 1) (omega arith) (records_from_short cfg (length (strip_bom bytes) + 1) st.StartRecord (strip_bom bytes))))
