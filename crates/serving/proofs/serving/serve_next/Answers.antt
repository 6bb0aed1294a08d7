use Rattle.serving.proofs.TellingLemmas.{passes, visited, untold}
use Rattle.serving.proofs.serving.serve_next.Goals as goal

pub returns-in-Ok-clause-visited : goal.returns-in-Ok-clause-visited
returns-in-Ok-clause-visited g c =
    let door = c.in-Ok.ensures in
    let passed = passes _ _ _ _ _ _ _ _ door.first door.fresh c.finish.ensures.rest.waiting_stay door.done c.finish.ensures.done in
    visited _ _ _ _ _ _ _ _ _ _ _ _ _ _ c.tell.result (c.tell.ensures.tells _ _ _ _ _ c.serve_one-served.ensures.served) passed

pub returns-in-Ok-clause-ended : goal.returns-in-Ok-clause-ended
returns-in-Ok-clause-ended g c =
    let door = c.in-Ok.ensures in
    let passed = passes _ _ _ _ _ _ _ _ door.first door.fresh c.finish.ensures.rest.waiting_stay door.done c.finish.ensures.done in
    untold _ _ _ _ _ _ _ _ _ _ _ _ _ _ c.tell.result (c.tell.ensures.tells _ _ _ _ _ c.serve_one-served.ensures.served) passed
