-- What rows ask, one row more.
use Rattle.std.proofs.Common.{◌≡◌, ℕ, ◌+◌, ◌<◌, ◌≤◌, List, [], ◌∷◌, ◌++◌, length, take, get_or, Option, None, Some, refl, sym, ◌∙◌, ap, arith}
use Rattle.std.specs.Prelude.{filter_map, option_to_list}
use Rattle.std.specs.List.{enumerate_from}
use Rattle.std.proofs.lemmas.List.{take_all, take_more}
use Rattle.std.proofs.lemmas.List.Elements.{filter_map-append}
use Rattle.std.proofs.lemmas.List.FromFn.{get_or-enumerate_from, length-enumerate_from}
use Rattle.serials.specs.declared.command.Command.{Command}
use Rattle.import_rows.specs.Rows.{asked_by}

numbered_more : (rows : List (List (List ℕ))) (k : ℕ) (row : List (List ℕ)) → k < length rows → row ≡ get_or rows k row
    → take (k + 1) (enumerate_from 1 rows) ≡ take k (enumerate_from 1 rows) ++ (k + 1, row) ∷ []
numbered_more rows k row inside is =
    let d : ℕ × List (List ℕ) = (0, row) in
    let size = length-enumerate_from 1 rows in
    let number : 1 + k ≡ k + 1 = omega arith in
    take_more (enumerate_from 1 rows) k d (omega arith)
    ∙ ap (λ (x : ℕ × List (List ℕ)). take k (enumerate_from 1 rows) ++ x ∷ []) (get_or-enumerate_from 1 rows k d inside)
    ∙ ap (λ (n : ℕ). take k (enumerate_from 1 rows) ++ (n, get_or rows k row) ∷ []) number
    ∙ ap (λ (x : List (List ℕ)). take k (enumerate_from 1 rows) ++ (k + 1, x) ∷ []) (sym is)

one : (row : ℕ × List (List ℕ)) → filter_map asked_by (row ∷ []) ≡ option_to_list (asked_by row)
one row = of_option (asked_by row)
  where
    of_option : (o : Option (ℕ × Option Command)) → filter_map (λ (x : Option (ℕ × Option Command)). x) (o ∷ []) ≡ option_to_list o
    of_option None = refl
    of_option (Some x) = refl

-- the rows up to the next one ask what those before it ask, and what it asks
pub asked_more : (rows : List (List (List ℕ))) (k : ℕ) (row : List (List ℕ)) → k < length rows → row ≡ get_or rows k row
    → filter_map asked_by (take (k + 1) (enumerate_from 1 rows)) ≡ filter_map asked_by (take k (enumerate_from 1 rows)) ++ option_to_list (asked_by (k + 1, row))
asked_more rows k row inside is =
    ap (λ (rs : List (ℕ × List (List ℕ))). filter_map asked_by rs) (numbered_more rows k row inside is)
    ∙ filter_map-append asked_by (take k (enumerate_from 1 rows)) ((k + 1, row) ∷ [])
    ∙ ap (λ (more : List (ℕ × Option Command)). filter_map asked_by (take k (enumerate_from 1 rows)) ++ more) (one (k + 1, row))

-- all rows
pub asked_all : (rows : List (List (List ℕ))) (k : ℕ) → length rows ≤ k → filter_map asked_by (take k (enumerate_from 1 rows)) ≡ filter_map asked_by (enumerate_from 1 rows)
asked_all rows k past =
    let size = length-enumerate_from 1 rows in
    ap (λ (rs : List (ℕ × List (List ℕ))). filter_map asked_by rs) (take_all k (enumerate_from 1 rows) (omega arith))
