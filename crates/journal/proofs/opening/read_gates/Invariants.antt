use Rattle.std.proofs.Common.{◌≤◌, ◌∷◌, [], ◌++◌, ◌-◌}
use Rattle.std.specs.Option.{ForSome}
use Rattle.disk_edge.specs.Disk.{IsAsBefore}
use Rattle.journal.specs.Gates.{AreInOrder}
use Rattle.journal.specs.Opening.{IsReadTo}
use Rattle.journal.proofs.opening.read_gates.Given as goal

abbrev pub invariant-gates : goal.invariant-gates
invariant-gates g l = record {
  same : IsAsBefore (g.D.Disk.state l.fn.disk) (g.D.Disk.state l.disk);
  later : (g.D.Disk.state l.fn.disk).faults ≤ (g.D.Disk.state l.disk).faults;
  within : l.gate ≤ l.len;
  in_order : AreInOrder (l.gates.items ++ l.gate ∷ []);
  reads : ForSome (g.D.Disk.state l.fn.disk).reads_as (λ file. IsReadTo file l.gates.items l.gate);
}

abbrev pub decreases-gates : goal.decreases-gates
decreases-gates g l = l.len - l.gate
