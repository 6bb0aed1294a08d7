use Rattle.std.proofs.Common.{◌≡◌, ◌++◌, List, ℕ, OnOk, subst, sym, ◌∙◌, append_assoc}
use Rattle.std.specs.String.{string_bytes}
use Rattle.std.proofs.lemmas.List.{append-nil}
use Rattle.wirelist.specs.Canonical.{line_of, insulation_row}
use Rattle.wirelist.proofs.printing.print_insulation.Goals as goal

pub returns : goal.returns
returns c =
    let is = c.in-Some.is in
    let line : string_bytes c.in_ok-line.line ≡ line_of (insulation_row c.in-Some.i) = simp append_assoc c.in_ok-line.ensures.ok in
    let P : List ℕ → Type 0 = λ bytes. OnOk c.append.result (c.append.new.self ≡ c.args.text.now ++ bytes) in
    rw is (subst P (c.as_bytes.ensures.value ∙ line ∙ sym (append-nil (line_of (insulation_row c.in-Some.i)))) c.append.ensures.ok)
