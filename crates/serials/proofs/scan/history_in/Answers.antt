use Rattle.std.proofs.Common.{◌≡◌, ℕ, ◌+◌, ◌<◌, Bool, true, false, List, [], ◌∷◌, ◌++◌, length, take, get_or, if◌then◌else◌, sym, ◌∙◌, ap, arith}
use Rattle.std.proofs.lemmas.List.{length-take, take_more}
use Rattle.records.specs.declared.record.StationRecord.{StationRecord}
use Rattle.serials.specs.declared.facts.SerialFacts.{SerialFacts}
use Rattle.serials.specs.Scan.{names_in}
use Rattle.serials.specs.Facts.{history}
use Rattle.serials.specs.FactsAfter.{facts_after}
use Rattle.serials.proofs.HistoryLemmas.{history-after}
use Rattle.serials.proofs.IndexLemmas.{tests_few}
use Rattle.serials.proofs.scan.history_in.Goals as goal
use Rattle.serials.proofs.scan.history_in.Goals.{then-names_serial, else-names_serial}

pub after-facts-requires : goal.after-facts-requires
after-facts-requires c =
    let few = tests_few (take c.loop-place.place c.args.records.now) c.args.serial.now c.loop-place.facts c.loop-place.invariant in
    omega (arith, few, length-take c.loop-place.place c.args.records.now, c.loop-place-test.true, c.requires)

-- the facts with the record at a place, by whether it names the serial
facts_more : (R : List StationRecord) (serial : List ℕ) (place : ℕ) (r : StationRecord) → place < length R → r ≡ get_or R place r
    → (named : Bool) → names_in serial r.body ≡ named → (f : SerialFacts) → f ≡ history (take place R) serial
    → (if named then facts_after f r.body (place + 1) else f) ≡ history (take (place + 1) R) serial
facts_more R serial place r inside is named says f so_far =
    let before = history (take place R) serial in
    let size : length (take place R) + 1 ≡ place + 1 = omega (arith, length-take place R, inside) in
    ap (λ (g : SerialFacts). if named then facts_after g r.body (place + 1) else g) so_far
    ∙ ap (λ (n : ℕ). if named then facts_after before r.body n else before) (sym size)
    ∙ ap (λ (b : Bool). if b then facts_after before r.body (length (take place R) + 1) else before) (sym says)
    ∙ sym (history-after (take place R) serial r)
    ∙ ap (λ (S : List StationRecord). history S serial) (sym (take_more R place r inside ∙ ap (λ (x : StationRecord). take place R ++ x ∷ []) (sym is)))

pub loop-place-preserved : goal.loop-place-preserved
loop-place-preserved c =
    let more = facts_more c.args.records.now c.args.serial.now c.loop-place.place c.index-records-place.result c.loop-place-test.true c.index-records-place.is in
    elim c.if-names_serial.branch [
      | then-names_serial w ↦
          w.facts-is ∙ w.after-facts.ensures ∙ more true (sym c.names_serial.ensures ∙ w.if-names_serial.true) c.loop-place.facts c.loop-place.invariant
      | else-names_serial w ↦
          w.facts-is ∙ more false (sym c.names_serial.ensures ∙ w.if-names_serial.false) c.loop-place.facts c.loop-place.invariant
    ]
