use Rattle.std.proofs.Common.{◌≡◌, ◌+◌, take, unwrap_or, Option, None, Some, Bool, true, is_none, refl, arith}
use Rattle.std.proofs.lemmas.List.{length-take}
use Rattle.std.specs.Ordering.{nat_cmp}
use Rattle.std.specs.Cmp.Lexicographic.{slice_cmp}
use Rattle.std.specs.BTreeMap.{get}
use Rattle.serials.specs.FactsAfter.{no_facts}
use Rattle.serials.proofs.IndexLemmas.{id_removed, unchanged_get, index-same, note_ok, tests_few}
use Rattle.serials.proofs.index.Index.note.Goals as goal

nothing_there : {X : Type 0} (o : Option X) (b : Bool) → b ≡ is_none o → b ≡ true → o ≡ None
nothing_there None b is set = refl
nothing_there (Some x) b is set = absurd cc

pub note_serial-requires : goal.note_serial-requires
note_serial-requires c = λ serial.
    let few = tests_few (take c.args.place c.args.records.now) serial (unwrap_or (get (slice_cmp nat_cmp) c.args.self.now.units serial) no_facts) (c.requires.before.units serial) in
    omega (arith, few, length-take c.args.place c.args.records.now, c.requires.there, c.requires.few)

pub returns-then-is_new-clause-err : goal.returns-then-is_new-clause-err
returns-then-is_new-clause-err c =
    index-same _ c.args.self.now _ c.requires.before
    (λ q. id_removed c.args.self.now.numbers c.note_id.new.numbers c.remove.new.self c.index-records-place.result.id q (c.args.place + 1)
    (nothing_there _ c.in_ok-is_new.is_new c.in_ok-is_new.ensures.is_new c.if-is_new.true) (c.in_ok-is_new.ensures.ok q) (c.remove.ensures.updates.0 q))
    (unchanged_get c.args.self.now.units c.note_serial.new.units c.in-Err.ensures.err) refl

pub returns-clause-ok : goal.returns-clause-ok
returns-clause-ok c =
    note_ok c.args.records.now c.args.place c.index-records-place.result c.args.self.now _ c.requires.there c.index-records-place.is c.requires.before c.in_ok-is_new.ensures.ok c.in_default.ensures.ok c.after-self.ensures
