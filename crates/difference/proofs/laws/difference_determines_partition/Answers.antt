use Rattle.std.proofs.Common.{ap}
use Rattle.difference.specs.declared.wiring.Difference.{Difference}
use Rattle.difference.proofs.EmptyLaw.{rebuild-law, empty-programmed, difference-programmed}
use Rattle.difference.proofs.laws.difference_determines_partition.Goals as goal

pub returns : goal.returns
returns c = λ t m ok is. record {
  gives_back = rebuild-law t ok m is;
  empty = (
    (λ e. empty-programmed t ok m is (ap (λ (d : Difference). d.opens) e) (ap (λ (d : Difference). d.shorts) e) (ap (λ (d : Difference). d.miswires) e)),
    (λ e. difference-programmed t ok m e),
  );
}
