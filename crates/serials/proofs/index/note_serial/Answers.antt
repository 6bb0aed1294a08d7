use Rattle.std.proofs.Common.{ℕ, List, Option, Some, false, cond, bytes_eq, sym, ap, ◌∙◌}
use Rattle.std.specs.Option.{option_map_or}
use Rattle.std.specs.Ordering.{nat_cmp, is_eq}
use Rattle.std.specs.Cmp.Lexicographic.{slice_cmp}
use Rattle.std.specs.BTreeMap.{get}
use Rattle.serials.specs.declared.facts.SerialFacts.{SerialFacts}
use Rattle.serials.specs.FactsAfter.{facts_after}
use Rattle.serials.proofs.IndexLemmas.{unit_inserted}
use Rattle.serials.proofs.index.note_serial.Goals as goal

pub returns-clause-ok : goal.returns-clause-ok
returns-clause-ok c = λ q.
    let kept = c.after-facts.ensures ∙ ap (λ (f : SerialFacts). facts_after f c.args.body.now c.args.number) c.history.ensures in
    let named = ap (λ (o : Option (List ℕ)). option_map_or (λ s. bytes_eq s q) o false) (sym c.in-Some.ensures) in
    unit_inserted c.args.units.now c.insert.new.self c.in-Some.serial q c.args.body.now c.args.number named
    (c.in_ok-insert.ensures.updates.0 q ∙ ap (λ (f : SerialFacts). cond (is_eq (slice_cmp nat_cmp c.in-Some.serial q)) (Some f) (get (slice_cmp nat_cmp) c.args.units.now q)) kept)
