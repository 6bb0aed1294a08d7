use Rattle.std.proofs.Common.{◌≡◌, ◌∙◌, ap, arith, ℕ, List, length}
use Rattle.http_exchange.specs.Bodies.{command_of}
use Rattle.http_exchange.specs.Requests.{commanded}
use Rattle.http_exchange.proofs.TakingLemmas.{body-cut, body-whole}
use Rattle.http_exchange.proofs.reading.read_body.Goals as goal

pub returns-then-len-length-clause-rest : goal.returns-then-len-length-clause-rest
returns-then-len-length-clause-rest g c = body-cut c.args.submission c.args.length _ _ c.in_ok-body.body c.in_ok-body.ensures.bytes (let less = c.if-len-length.true in rw c.len.ensures at less)

pub returns-clause-rest : goal.returns-clause-rest
returns-clause-rest g c =
    let body = c.in_ok-body.body in
    let enough = c.if-len-length.false in
    let bound = c.in_ok-body.ensures.bound in
    let whole : length body ≡ c.args.length = omega (arith, enough, bound, c.len.ensures) in
    let asks : c.in_ok-request.request ≡ commanded (command_of c.args.submission body) = c.in_ok-request.ensures.request ∙ ap (λ (b : List ℕ). commanded (command_of c.args.submission b)) c.as_slice.ensures in
    rw asks (body-whole c.args.submission c.args.length _ _ body c.in_ok-body.ensures.bytes whole)
