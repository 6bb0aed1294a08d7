use Rattle.std.proofs.Common.{◌≡◌, ◌++◌, ◌∷◌, [], List, ℕ, OnOk, ap, subst, ◌∙◌}
use Rattle.std.specs.List.{flat_map}
use Rattle.std.specs.Fmt.{decimal}
use Rattle.wirelist.proofs.PrintingLemmas.{net_line}
use Rattle.wirelist.proofs.printing.print_net.Goals as goal

pub returns : goal.returns
returns c =
    let points : List ℕ = c.args.points.now in
    let P : List ℕ → Type 0 = λ t. OnOk c.append-3.result (c.append-3.new.self ≡ t) in
    let named = c.in_ok-append-2.ensures.ok ∙ ap (λ name. c.append.new.self ++ name) c.bytes.ensures.bytes ∙ ap (λ t. t ++ c.args.name.now) c.in_ok-append.ensures.ok in
    subst P (
    ap (λ t. t ++ (10 ∷ [])) (c.in_ok-print_points.ensures ∙ ap (λ t. t ++ flat_map (λ p. 44 ∷ decimal p) points) named)
    ∙ net_line c.args.text.now c.args.name.now points
    ) c.append-3.ensures.ok
