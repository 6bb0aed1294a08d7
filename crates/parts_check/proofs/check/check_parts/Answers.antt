use Rattle.parts_check.proofs.Together.{order-checks, order-stops}
use Rattle.parts_check.proofs.check.check_parts.Goals as goal

pub returns-in-Ok-clause-order : goal.returns-in-Ok-clause-order
returns-in-Ok-clause-order g c = order-checks c.in-Ok.ensures.checks

pub returns-in-Err-Failed-clause-order : goal.returns-in-Err-Failed-clause-order
returns-in-Err-Failed-clause-order g c = order-stops c.in-Err-Failed.ensures.stops

pub returns-in-Err-Memory-clause-order : goal.returns-in-Err-Memory-clause-order
returns-in-Err-Memory-clause-order g c = order-stops c.in-Err-Memory.ensures.stops
