use Rattle.soak.proofs.Soaking.{not_empty, not_open, not_charged}
use Rattle.soak.proofs.run.stop_of.Goals as goal

pub unreachable-requires : goal.unreachable-requires
unreachable-requires c = not_empty _ _ c.requires.1 _ c.in-Empty.is

pub unreachable-requires-in-InterlockOpen : goal.unreachable-requires-in-InterlockOpen
unreachable-requires-in-InterlockOpen c = not_open _ _ c.requires.1 _ c.in-InterlockOpen.is

pub unreachable-requires-in-NotDischarged : goal.unreachable-requires-in-NotDischarged
unreachable-requires-in-NotDischarged c = not_charged _ _ c.requires.1 _ _ c.in-NotDischarged.is
