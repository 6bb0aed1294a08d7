use Rattle.std.proofs.Common.{◌≡◌, take}
use Rattle.applications.specs.Each.{MeasuresEach}
use Rattle.applications.proofs.measuring_each.measure_in_order.Given as goal

abbrev pub invariant-loop-pair : goal.invariant-loop-pair
invariant-loop-pair g l = record {
  measured : MeasuresEach l.bonds (g.R.Rig.state l.fn.proven.rig) (g.R.Rig.state l.proven.rig) (take l.pair-index l.pairs) l.volts l.ticks l.leaks.items;
  partition : l.proven.partition ≡ l.fn.proven.partition;
}
