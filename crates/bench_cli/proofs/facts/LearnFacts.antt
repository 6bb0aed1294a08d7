-- What the learning of a unit promises.
use Rattle.std.proofs.Common.{◌≡◌, ◌⊎◌, inl, inr, ℕ, List, Option, None, Some, subst}
use Rattle.base.specs.Causes.{Rose}
use Rattle.rig.specs.declared.unit.Row.{Row}
use Rattle.harness.specs.declared.row.HarnessRow.{HarnessRow}
use Rattle.rig_sim.specs.SimRig.{SimState}
use Rattle.learned_program.specs.LearnedProgram.{learned_text}
use Rattle.words.specs.declared.command.UnitName.{UnitName}
use Rattle.words.specs.declared.command.Command.TheVariants.{Learn}
use Rattle.words.specs.Words.{Asks}
use Rattle.bench_cli.specs.Closing.{Wrote, WroteSome}
use Rattle.bench_cli.specs.Findings.{LearnsAll, StopsLearning}
use Rattle.bench_cli.specs.Run.{Run, Given, nothing, simulator, both, TakesFiles, TakesHarness}
use Rattle.bench_cli.specs.Told.{FailedHarness, FindsUnit, Undisturbed, Is}
use Rattle.bench_cli.specs.UnitWork.{WorksOn, ReadsAlone}
use Rattle.bench_cli.specs.Ends.{Ends}
use Rattle.bench_cli.specs.Learning.{LearnsUnit, HasLearned, IsLearning}
use Rattle.bench_cli.proofs.ways.FileWays.{harness_told}
use Rattle.bench_cli.proofs.facts.ReadAlone.{run_alone, work_alone}
use Rattle.bench_cli.proofs.ways.RunWays.{Way, Worked, worked, reached}
use Rattle.bench_cli.proofs.ways.SeatedLemmas.{Teaches, teaches}
use Rattle.bench_cli.proofs.ways.UnitWays.{at_done, at_cut}
use Rattle.bench_cli.proofs.facts.UnitFacts.{own_0, own_7, own_14, own_15, the_way, lacks_unit, counts_fault, empty_ends, complete_ends}

-- the work of learning, with the harness alone
record Learns (unit : UnitName) (run : Run) (status : ℕ) (rig : Option SimState) : Type 0 where
  sim : SimState
  takes : TakesHarness run.files.harness sim
  work : WorksOn LearnsAll StopsLearning unit sim run.sunk status rig

module _ (unit : UnitName) (run : Run) (status : ℕ) (rig : Option SimState) (asks : Asks run.words (Learn unit)) where
  learns_given : (given : Given) → TakesFiles run.files given → LearnsUnit unit given run.sunk status rig → Learns unit run status rig
  learns_given nothing takes work = absurd work
  learns_given (simulator sim) takes work = record { sim = sim; takes = takes.0; work = work }
  learns_given (both sim p) takes work = absurd work

  learns : Worked (Learn unit) run status rig → Learns unit run status rig
  learns w = learns_given w.given w.takes w.work

  -- a unit that was learned, in the words of the file
  has_learned : {final : SimState} {text : List ℕ} (c : Learns unit run status rig) → (taught : Teaches c.takes.rows final.state unit.serial unit.attempt text) → HasLearned unit run.files final taught.classes
  has_learned c taught = record {
    rows = c.takes.rows;
    elements = taught.elements;
    harness = harness_told c.takes;
    found = taught.unit;
    truth = taught.truth;
    trail = taught.trail;
    determined = taught.determined;
    at_least = taught.at_least;
    at_most = taught.at_most;
  }

  abbrev LearnedFact : Type 0
  LearnedFact = (sim : SimState) × (classes : List ℕ) × (rig ≡ Some sim) × HasLearned unit run.files sim classes × Wrote run.sunk (learned_text classes)

  learned_by : Learns unit run status rig → status ≡ 0 → LearnedFact
  learned_by c at =
      let done = at_done (the_way run status rig c.takes c.work) at in
      let taught = teaches c.takes.rows c.sim c.takes.is_new done.0 unit.serial unit.attempt done.2 c.work.final.state done.1 done.3 in
      (c.work.final, taught.classes, c.work.handed, has_learned c taught, subst (Wrote run.sunk) taught.text_is done.4)

  abbrev CutFact : Type 0
  CutFact = (sim : SimState) × (classes : List ℕ) × (rig ≡ Some sim) × HasLearned unit run.files sim classes × Rose run.sunk.faults run.sunk.faults_after × WroteSome run.sunk (learned_text classes)

  cut_by : Learns unit run status rig → status ≡ 7 → CutFact
  cut_by c at =
      let cut = at_cut (the_way run status rig c.takes c.work) at in
      let taught = teaches c.takes.rows c.sim c.takes.is_new cut.0 unit.serial unit.attempt cut.2 c.work.final.state cut.1 cut.3 in
      (c.work.final, taught.classes, c.work.handed, has_learned c taught, cut.4, subst (WroteSome run.sunk) taught.text_is cut.5)

  empty_fact : Way run status rig → (rows : List HarnessRow) → FindsUnit unit run.files rows None → Is 14 status ⊎ (FailedHarness run.files status ⊎ (status ≡ 15))
  empty_fact way rows form = elim (reached (Learn unit) rows asks form.harness (λ wired. cc) way) [
    | inl w ↦ let c = learns w in elim (empty_ends run status rig c.takes c.work rows form) [ inl is ↦ inl is | inr is ↦ inr (inr is) ]
    | inr (inl is) ↦ inl (inr is)
    | inr (inr (is, inl rose)) ↦ inr (inl (is, rose))
    | inr (inr (is, inr (wired, rose))) ↦ cc
  ]

  complete_fact : Way run status rig → (rows : List HarnessRow) (elements : List Row) → FindsUnit unit run.files rows (Some elements) → Undisturbed run rows rig → Is 0 status
  complete_fact way rows elements form calm = elim (reached (Learn unit) rows asks form.harness (λ wired. cc) way) [
    | inl w ↦ let c = learns w in complete_ends run status rig c.takes c.work rows elements form calm
    | inr (inl is) ↦ inr is
    | inr (inr (is, inl rose)) ↦ absurd (calm.harness_read rose)
    | inr (inr (is, inr (wired, rose))) ↦ cc
  ]

  unpowered_fact : Ends run status rig → ReadsAlone rig
  unpowered_fact ends = run_alone run (Learn unit) status rig asks
      (λ given takes work. let c = learns_given given takes work in
      work_alone LearnsAll StopsLearning (λ before after text finds. finds.reads) unit run.files.harness c.sim run.sunk status rig c.takes c.work) ends

  pub is_learning : Ends run status rig → Way run status rig → IsLearning unit run status rig
  is_learning ends way = record {
    unpowered = unpowered_fact ends;
    learned = λ at. learned_by (learns (worked (Learn unit) asks way (own_0 at))) at;
    write_fault = λ at. cut_by (learns (worked (Learn unit) asks way (own_7 at))) at;
    fixture_empty = λ at. let c = learns (worked (Learn unit) asks way (own_14 at)) in lacks_unit run status rig c.takes c.work at;
    empty_fixture = empty_fact way;
    rig_fault = λ at. let c = learns (worked (Learn unit) asks way (own_15 at)) in counts_fault run status rig c.takes c.work at;
    complete = complete_fact way;
  }
