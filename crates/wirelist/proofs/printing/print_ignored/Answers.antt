use Rattle.std.proofs.Common.{◌≡◌, ◌++◌, ◌∷◌, [], ◌<◌, List, ℕ, OnOk, ap, subst, sym, ◌∙◌, length, rules}
use Rattle.std.specs.List.{flat_map}
use Rattle.std.specs.Fmt.{decimal}
use Rattle.wirelist.proofs.PrintingLemmas.{ignore_line, ignore_row_is}
use Rattle.wirelist.proofs.printing.print_ignored.Goals as goal

pub returns : goal.returns
returns c =
    let points : List ℕ = c.args.ignored.now in
    let some : 0 < length points = search rules in
    let P : List ℕ → Type 0 = λ t. OnOk c.append-2.result (c.append-2.new.self ≡ t) in
    subst P (
    ap (λ t. t ++ (10 ∷ [])) (c.in_ok-print_points.ensures ∙ ap (λ t. t ++ flat_map (λ p. 44 ∷ decimal p) points) c.in_ok-append.ensures.ok)
    ∙ ignore_line c.args.text.now points
    ∙ ap (λ rest. c.args.text.now ++ rest) (sym (ignore_row_is points some))
    ) c.append-2.ensures.ok
