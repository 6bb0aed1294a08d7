-- What a check of continuity promises.
use Rattle.std.proofs.Common.{◌≡◌, ◌⊎◌, inl, inr, ◌++◌, ◌∷◌, [], ℕ, List, Option, None, Some, Ok, map, sym, ◌∙◌, ap, subst}
use Rattle.std.specs.Prelude.{option_map}
use Rattle.base.specs.Causes.{Rose}
use Rattle.rig.specs.declared.event.Event.{Event}
use Rattle.rig.specs.declared.unit.Row.{Row}
use Rattle.rig.specs.declared.rig.SeatAnswer.TheVariants.{Present}
use Rattle.rig.specs.RigState.{RigState}
use Rattle.rig.specs.Seating.{Seats}
use Rattle.harness.specs.declared.row.HarnessRow.{HarnessRow}
use Rattle.rig_sim.specs.SimRig.{SimState}
use Rattle.wirelist.specs.declared.program.Program.{Program}
use Rattle.continuity_check.specs.Compared.{Compared, Trial, reading_of, checked_text}
use Rattle.words.specs.declared.command.UnitName.{UnitName}
use Rattle.words.specs.declared.command.Command.TheVariants.{Continuity}
use Rattle.words.specs.Words.{Asks}
use Rattle.bench_cli.specs.Closing.{Wrote, WroteSome}
use Rattle.bench_cli.specs.Findings.{ComparesAll, StopsAmong}
use Rattle.bench_cli.specs.Run.{Run, Given, nothing, simulator, both, TakesFiles, TakesBoth}
use Rattle.bench_cli.specs.Told.{Failed, FailedRead, Undisturbed, Is}
use Rattle.bench_cli.specs.UnitWork.{WorksOn, ReadsAlone}
use Rattle.bench_cli.specs.Ends.{Ends}
use Rattle.bench_cli.specs.Checking.{ChecksUnit, IsChecked, IsCutOff, IsCheck, AreInForm, compared_by}
use Rattle.bench_cli.proofs.ways.FileWays.{harness_told, program_told, taken_points}
use Rattle.bench_cli.proofs.facts.ReadAlone.{run_alone, work_alone}
use Rattle.bench_cli.proofs.ways.RunWays.{Way, Worked, worked, reached}
use Rattle.bench_cli.proofs.ways.SeatedLemmas.{Shows, shows, is_seated, unseated_trail}
use Rattle.bench_cli.proofs.ways.UnitWays.{at_done, at_cut, at_fault}
use Rattle.bench_cli.proofs.facts.UnitFacts.{own_0, own_7, own_14, own_15, the_way, lacks_unit, counts_fault, empty_ends, complete_ends}

-- the work of a check, with both files
record Checks (unit : UnitName) (run : Run) (status : ℕ) (rig : Option SimState) : Type 0 where
  sim : SimState
  p : Program
  takes : TakesBoth run.files sim p
  work : WorksOn (ComparesAll (compared_by p)) (StopsAmong (compared_by p)) unit sim run.sunk status rig

module _ (unit : UnitName) (run : Run) (status : ℕ) (rig : Option SimState) (asks : Asks run.words (Continuity unit)) where
  checks_given : (given : Given) → TakesFiles run.files given → ChecksUnit unit given run.sunk status rig → Checks unit run status rig
  checks_given nothing takes work = absurd work
  checks_given (simulator sim) takes work = absurd work
  checks_given (both sim p) takes work = record { sim = sim; p = p; takes = takes; work = work }

  checks : Worked (Continuity unit) run status rig → Checks unit run status rig
  checks w = checks_given w.given w.takes w.work

  -- a whole check, in the words of the files
  is_checked : {final : SimState} {text : List ℕ} (c : Checks unit run status rig) → (shown : Shows c.takes.harness.rows final.state unit.serial unit.attempt (compared_by c.p) text) → IsChecked unit run.files final shown.trials
  is_checked c shown = record {
    rows = c.takes.harness.rows;
    elements = shown.elements;
    p = c.p;
    harness = harness_told c.takes.harness;
    wires = program_told c.takes.wires;
    over = c.takes.same ∙ taken_points c.takes.harness;
    found = shown.unit;
    answers = shown.answers;
    trail = shown.trail;
  }

  -- a check that was cut off, in the words of the files
  cut_off_at : (c : Checks unit run status rig) → (middle : RigState) → Seats c.sim.state middle unit.serial unit.attempt (Ok Present)
      → StopsAmong (compared_by c.p) middle c.work.final.state → (trials : List Trial) × IsCutOff run.files c.work.final trials
  cut_off_at c middle seats stops =
      let there = is_seated c.takes.harness.rows c.sim c.takes.harness.is_new middle unit.serial unit.attempt seats in
      let trials = stops.compares.trials in (
        trials,
        record {
          p = c.p;
          next = stops.next;
          rest = stops.rest;
          wires = program_told c.takes.wires;
          front = stops.split ∙ ap (λ (l : List Compared). l ++ (stops.next ∷ stops.rest)) (sym stops.compares.of_these);
          trail = stops.compares.trail ∙ ap (option_map (λ (events : List Event). events ++ map reading_of trials)) there.trail;
        },
      )

  abbrev CheckedFact : Type 0
  CheckedFact = (sim : SimState) × (trials : List Trial) × (rig ≡ Some sim) × IsChecked unit run.files sim trials × Wrote run.sunk (checked_text trials)

  checked_by : Checks unit run status rig → status ≡ 0 → CheckedFact
  checked_by c at =
      let done = at_done (the_way run status rig c.takes.harness c.work) at in
      let shown = shows c.takes.harness.rows c.sim c.takes.harness.is_new done.0 unit.serial unit.attempt done.2 c.work.final.state (compared_by c.p) done.1 done.3 in
      (c.work.final, shown.trials, c.work.handed, is_checked c shown, subst (Wrote run.sunk) shown.text_is done.4)

  abbrev CutFact : Type 0
  CutFact = (sim : SimState) × (trials : List Trial) × (rig ≡ Some sim) × IsChecked unit run.files sim trials × Rose run.sunk.faults run.sunk.faults_after × WroteSome run.sunk (checked_text trials)

  cut_by : Checks unit run status rig → status ≡ 7 → CutFact
  cut_by c at =
      let cut = at_cut (the_way run status rig c.takes.harness c.work) at in
      let shown = shows c.takes.harness.rows c.sim c.takes.harness.is_new cut.0 unit.serial unit.attempt cut.2 c.work.final.state (compared_by c.p) cut.1 cut.3 in
      (c.work.final, shown.trials, c.work.handed, is_checked c shown, cut.4, subst (WroteSome run.sunk) shown.text_is cut.5)

  abbrev LastCallFact : Type 0
  LastCallFact = (sim : SimState) × (rig ≡ Some sim) × ((sim.state.trail ≡ Some []) ⊎ ((trials : List Trial) × IsCutOff run.files sim trials))

  last_call_by : Checks unit run status rig → status ≡ 15 → LastCallFact
  last_call_by c at =
      let fault = at_fault (the_way run status rig c.takes.harness c.work) at in (
        c.work.final,
        c.work.handed,
        elim fault.0 [
          | inl seats ↦ inl (unseated_trail c.takes.harness.rows c.sim c.takes.harness.is_new c.work.final.state unit.serial unit.attempt seats)
          | inr reading ↦ inr (cut_off_at c reading.0 reading.1 reading.3)
        ],
      )

  empty_fact : Way run status rig → (rows : List HarnessRow) → AreInForm unit run.files rows None → Is 14 status ⊎ (FailedRead run.files status ⊎ (status ≡ 15))
  empty_fact way rows form = elim (reached (Continuity unit) rows asks form.finds.harness (λ wired. form.wires) way) [
    | inl w ↦ let c = checks w in elim (empty_ends run status rig c.takes.harness c.work rows form.finds) [ inl is ↦ inl is | inr is ↦ inr (inr is) ]
    | inr (inl is) ↦ inl (inr is)
    | inr (inr (is, inl rose)) ↦ inr (inl (is, inl rose))
    | inr (inr (is, inr (wired, rose))) ↦ inr (inl (is, inr rose))
  ]

  complete_fact : Way run status rig → (rows : List HarnessRow) (elements : List Row) → AreInForm unit run.files rows (Some elements) → (Failed run.files.wires → ⊥) → Undisturbed run rows rig → Is 0 status
  complete_fact way rows elements form read calm = elim (reached (Continuity unit) rows asks form.finds.harness (λ wired. form.wires) way) [
    | inl w ↦ let c = checks w in complete_ends run status rig c.takes.harness c.work rows elements form.finds calm
    | inr (inl is) ↦ inr is
    | inr (inr (is, inl rose)) ↦ absurd (calm.harness_read rose)
    | inr (inr (is, inr (wired, rose))) ↦ absurd (read rose)
  ]

  unpowered_fact : Ends run status rig → ReadsAlone rig
  unpowered_fact ends = run_alone run (Continuity unit) status rig asks
      (λ given takes work. let c = checks_given given takes work in
      work_alone (ComparesAll (compared_by c.p)) (StopsAmong (compared_by c.p)) (λ before after text finds. finds.reads) unit run.files.harness c.sim run.sunk status rig c.takes.harness c.work) ends

  pub is_check : Ends run status rig → Way run status rig → IsCheck unit run status rig
  is_check ends way = record {
    unpowered = unpowered_fact ends;
    checked = λ at. checked_by (checks (worked (Continuity unit) asks way (own_0 at))) at;
    write_fault = λ at. cut_by (checks (worked (Continuity unit) asks way (own_7 at))) at;
    fixture_empty = λ at. let c = checks (worked (Continuity unit) asks way (own_14 at)) in lacks_unit run status rig c.takes.harness c.work at;
    empty_fixture = empty_fact way;
    rig_fault = λ at. let c = checks (worked (Continuity unit) asks way (own_15 at)) in counts_fault run status rig c.takes.harness c.work at;
    last_call = λ at. last_call_by (checks (worked (Continuity unit) asks way (own_15 at))) at;
    complete = complete_fact way;
  }
