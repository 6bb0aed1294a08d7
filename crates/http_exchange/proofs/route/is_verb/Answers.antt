use Rattle.http_exchange.proofs.Verbs.{verb-token, verb-short}
use Rattle.http_exchange.proofs.route.is_verb.Goals as goal

pub returns-in-Err : goal.returns-in-Err
returns-in-Err c = (
  λ f. absurd (cc f),
  λ same. let need = rw same at c.in-Err.ensures.no_memory_needed in need (verb-token c.args.verb) (verb-short c.args.verb),
)
