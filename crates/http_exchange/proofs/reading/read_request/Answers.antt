use Rattle.http_exchange.proofs.TakingLemmas.{whole_or_refused, lost-behind, takes-endless, takes-cut, asks-little}
use Rattle.http_exchange.proofs.reading.read_request.Goals as goal

pub read_rest-requires : goal.read_rest-requires
read_rest-requires g c = asks-little c.as_slice.result.now c.in_ok-asked-in-Head.asked c.in_ok-asked-in-Head.ensures

pub returns-in_ok-asked-in-Head-clause-request : goal.returns-in_ok-asked-in-Head-clause-request
returns-in_ok-asked-in-Head-clause-request g c =
    let front = rw c.in-Head.is at c.in_ok-head.ensures.front in
    let asks = rw c.as_slice.ensures at c.in_ok-asked-in-Head.ensures in
    whole_or_refused _ _ _ c.in-Head.head c.in_ok-asked-in-Head.asked c.read_rest.result front asks c.read_rest.ensures.rest

pub returns-in_ok-asked-in-Head-clause-refused : goal.returns-in_ok-asked-in-Head-clause-refused
returns-in_ok-asked-in-Head-clause-refused g c =
    let front = rw c.in-Head.is at c.in_ok-head.ensures.front in
    lost-behind _ _ _ c.in-Head.head c.read_rest.result front c.read_rest.ensures.refused

pub returns-in-Endless-clause-request : goal.returns-in-Endless-clause-request
returns-in-Endless-clause-request g c =
    let (taken, front, long) = rw c.in-Endless.is at c.in_ok-head.ensures.front in
    takes-endless _ _ taken front long

pub returns-in-Cut-clause-request : goal.returns-in-Cut-clause-request
returns-in-Cut-clause-request g c =
    let (taken, front, short, end) = rw c.in-Cut.is at c.in_ok-head.ensures.front in
    takes-cut _ _ taken front short end
