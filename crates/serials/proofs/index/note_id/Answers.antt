use Rattle.std.proofs.Common.{◌≡◌, Option, None, Some, false, is_some, refl}
use Rattle.serials.proofs.IndexLemmas.{id_inserted}
use Rattle.serials.proofs.index.note_id.Goals as goal

absent : {X : Type 0} (o : Option X) → false ≡ is_some o → o ≡ None
absent None e = refl
absent (Some x) e = absurd cc

pub returns-clause-ok : goal.returns-clause-ok
returns-clause-ok c =
    λ q. id_inserted c.args.numbers.now c.insert.new.self c.args.id q c.args.number (absent _ c.if-contains_key.ensures) (c.in_ok-insert.ensures.updates.0 q)
