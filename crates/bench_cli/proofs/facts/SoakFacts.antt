-- What a soak promises.
use Rattle.std.proofs.Common.{◌≡◌, ◌⊎◌, inl, inr, ◌<◌, ◌≤◌, ℕ, List, Option, None, Some, length, refl, sym, ◌∙◌, ap, subst, arith}
use Rattle.std.specs.Prelude.{IfSome}
use Rattle.base.specs.Causes.{Rose}
use Rattle.rig.specs.Happened.{IsBelowLast}
use Rattle.rig.specs.RigState.{RigState}
use Rattle.rig_sim.specs.SimRig.{SimState}
use Rattle.wirelist.specs.Outcomes.{AreCountable, verdict_of}
use Rattle.wirelist.specs.Ranges.{OutcomeInRange}
use Rattle.wirelist.specs.declared.outcome.Outcome.{Outcome}
use Rattle.wirelist.specs.declared.outcome.Outcome.TheVariants as outcome
use Rattle.soak_pair.specs.Pair.{soak_line, verdicts_line, good_outcome, bad_outcome}
use Rattle.soak_pair.proofs.SoakUnits.{no_faults}
use Rattle.soak.specs.declared.run.SoakStop.TheVariants as stop
use Rattle.soak.specs.Soaked.{IsOfPair, IsSoaked, StopsSoak, EndsInOrder, EndsStuck}
use Rattle.words.specs.declared.command.Command.TheVariants.{Soak}
use Rattle.words.specs.declared.command.Command.{Command}
use Rattle.words.specs.Words.{Asks}
use Rattle.words.proofs.OneReading.{one_reading}
use Rattle.bench_cli.specs.Closing.{Sunk, Wrote, WroteSome, Closes, LacksMemory}
use Rattle.bench_cli.specs.Run.{Run, Given, nothing, simulator, both}
use Rattle.bench_cli.specs.Told.{Is}
use Rattle.bench_cli.specs.Soaking.{SoakEnds, SoaksPair, IsSoaking, not_at_zero_line}
use Rattle.bench_cli.specs.Soaking.SoakEnds.{soaked, rig_failed, not_at_zero, no_memory}
use Rattle.bench_cli.specs.Commands.{reads_harness}
use Rattle.bench_cli.specs.Works.{Works}
use Rattle.bench_cli.specs.Ends.{Ends}
use Rattle.bench_cli.specs.Ends.Ends.{no_command, no_memory as words_memory, stopped, obeyed}

-- a simulator of the pair counts no fault while its counts can still rise
no_fault : (n : ℕ) (state : RigState) → IsOfPair n state → 0 < state.faults → IsBelowLast state.spent → IsBelowLast state.seats → ⊥
no_fault n state of some spent seats =
    let most : state.most_faults ≡ Some 0 =
    of.keeps.most_faults ∙ ap (λ (r : RigState). r.most_faults) of.new.state ∙ ap (λ (listed : List ℕ). Some (length listed)) (no_faults n of.began.calls.listed of.new.faults) in
    let few = subst (λ (o : Option ℕ). IfSome o (λ most. IsBelowLast state.spent → IsBelowLast state.seats → state.faults ≤ most)) most of.keeps.told.faults spent seats in
    omega arith

module _ (n : ℕ) (sunk : Sunk) where
  soaked_by : (status : ℕ) (rig : Option SimState) → SoakEnds n sunk status rig → status ≡ 0 → (sim : SimState) × (rig ≡ Some sim) × IsSoaked n sim.state × Wrote sunk (soak_line n)
  soaked_by status rig (soaked sim is (inl (at, wrote))) zero = (sim, refl, is, wrote)
  soaked_by status rig (soaked sim is (inr (inl (at, rose, wrote)))) zero = absurd (omega arith)
  soaked_by status rig (soaked sim is (inr (inr (at, lacks)))) zero = absurd (omega arith)
  soaked_by status rig (rig_failed sim stops (inl (at, line))) zero = absurd (omega arith)
  soaked_by status rig (rig_failed sim stops (inr (at, lacks))) zero = absurd (omega arith)
  soaked_by status rig (not_at_zero sim stops line) zero = absurd (omega (arith, zero))
  soaked_by status rig (no_memory held stops unasked) zero = absurd (omega (arith, zero))

  cut_by : (status : ℕ) (rig : Option SimState) → SoakEnds n sunk status rig → status ≡ 7
      → (sim : SimState) × (rig ≡ Some sim) × IsSoaked n sim.state × Rose sunk.faults sunk.faults_after × WroteSome sunk (soak_line n)
  cut_by status rig (soaked sim is (inl (at, wrote))) seven = absurd (omega arith)
  cut_by status rig (soaked sim is (inr (inl (at, rose, wrote)))) seven = (sim, refl, is, rose, wrote)
  cut_by status rig (soaked sim is (inr (inr (at, lacks)))) seven = absurd (omega arith)
  cut_by status rig (rig_failed sim stops (inl (at, line))) seven = absurd (omega arith)
  cut_by status rig (rig_failed sim stops (inr (at, lacks))) seven = absurd (omega arith)
  cut_by status rig (not_at_zero sim stops line) seven = absurd (omega (arith, seven))
  cut_by status rig (no_memory held stops unasked) seven = absurd (omega (arith, seven))

  fault_by : (status : ℕ) (rig : Option SimState) → SoakEnds n sunk status rig → (status ≡ 15) ⊎ (status ≡ 10) → (sim : SimState) × (rig ≡ Some sim) × (0 < sim.state.faults)
  fault_by status rig (soaked sim is (inl (at, wrote))) by = elim by [ inl e ↦ absurd (omega arith) | inr e ↦ absurd (omega arith) ]
  fault_by status rig (soaked sim is (inr (inl (at, rose, wrote)))) by = elim by [ inl e ↦ absurd (omega arith) | inr e ↦ absurd (omega arith) ]
  fault_by status rig (soaked sim is (inr (inr (at, lacks)))) by = elim by [ inl e ↦ absurd (omega arith) | inr e ↦ absurd (omega arith) ]
  fault_by status rig (rig_failed sim stops line) by = (sim, refl, stops.1)
  fault_by status rig (not_at_zero sim stops line) by = (sim, refl, stops.1)
  fault_by status rig (no_memory held stops unasked) by = elim by [ inl e ↦ absurd (omega (arith, e)) | inr e ↦ absurd (omega (arith, e)) ]

  order_by : (status : ℕ) (rig : Option SimState) → SoakEnds n sunk status rig → (sim : SimState) → rig ≡ Some sim
      → IsSoaked n sim.state ⊎ (EndsInOrder n sim.state ⊎ ((status ≡ 10) × EndsStuck n sim.state))
  order_by status rig (soaked sim is prints) other out = let same : sim ≡ other = cc in inl (subst (λ (s : SimState). IsSoaked n s.state) same is)
  order_by status rig (rig_failed sim stops line) other out = let same : sim ≡ other = cc in inr (inl (subst (λ (s : SimState). EndsInOrder n s.state) same stops.2))
  order_by status rig (not_at_zero sim stops line) other out =
      let same : sim ≡ other = cc in
      inr (inr (refl, subst (λ (s : SimState). EndsStuck n s.state) same stops.2))
  order_by status rig (no_memory held stops unasked) other out = inr (inl (handed held stops other out))
    where
      handed : (held : Option SimState) → StopsSoak n (stop.Memory held) → (other : SimState) → held ≡ Some other → EndsInOrder n other.state
      handed None stops other out = cc
      handed (Some sim) stops other out = let same : sim ≡ other = cc in subst (λ (s : SimState). EndsInOrder n s.state) same stops.1

  stuck_by : (status : ℕ) (rig : Option SimState) → SoakEnds n sunk status rig → status ≡ 10 → (sim : SimState) × (rig ≡ Some sim) × EndsStuck n sim.state
  stuck_by status rig (soaked sim is (inl (at, wrote))) ten = absurd (omega arith)
  stuck_by status rig (soaked sim is (inr (inl (at, rose, wrote)))) ten = absurd (omega arith)
  stuck_by status rig (soaked sim is (inr (inr (at, lacks)))) ten = absurd (omega arith)
  stuck_by status rig (rig_failed sim stops (inl (at, line))) ten = absurd (omega arith)
  stuck_by status rig (rig_failed sim stops (inr (at, lacks))) ten = absurd (omega arith)
  stuck_by status rig (not_at_zero sim stops line) ten = (sim, refl, stops.2)
  stuck_by status rig (no_memory held stops unasked) ten = absurd (omega (arith, ten))

  complete_by : (status : ℕ) (rig : Option SimState) → SoakEnds n sunk status rig → (Rose sunk.faults sunk.faults_after → ⊥) → ((sim : SimState) → rig ≡ Some sim → IsBelowLast sim.state.spent × IsBelowLast sim.state.seats) → Is 0 status
  complete_by status rig (soaked sim is (inl (at, wrote))) unfailed counts = inl at
  complete_by status rig (soaked sim is (inr (inl (at, rose, wrote)))) unfailed counts = absurd (unfailed rose)
  complete_by status rig (soaked sim is (inr (inr (at, lacks)))) unfailed counts = inr at
  complete_by status rig (rig_failed sim stops line) unfailed counts = let room = counts sim refl in absurd (no_fault n sim.state stops.0 stops.1 room.0 room.1)
  complete_by status rig (not_at_zero sim stops line) unfailed counts = let room = counts sim refl in absurd (no_fault n sim.state stops.0 stops.1 room.0 room.1)
  complete_by status rig (no_memory held stops unasked) unfailed counts = inr refl

module _ (n : ℕ) (run : Run) where
  soak_given : (status : ℕ) (rig : Option SimState) (given : Given) → SoaksPair n given run.sunk status rig → SoakEnds n run.sunk status rig
  soak_given status rig nothing work = work
  soak_given status rig (simulator sim) work = absurd work
  soak_given status rig (both sim p) work = absurd work

  soak_ends : (status : ℕ) (rig : Option SimState) → Asks run.words (Soak n) → Ends run status rig → SoakEnds n run.sunk status rig ⊎ ((status ≡ 9) × (rig ≡ None))
  soak_ends status rig asks (no_command none unread alone unused line) = absurd (none (Soak n, asks))
  soak_ends status rig asks (words_memory unread alone unused unasked) = inr (refl, refl)
  soak_ends status rig asks (stopped command also reads unused stop) = let both = sym (ap reads_harness (one_reading run.words command (Soak n) also asks)) ∙ reads in cc
  soak_ends status rig asks (obeyed command also unused given takes work) =
      inl (soak_given status rig given (subst (λ (c : Command). Works c given run status rig) (one_reading run.words command (Soak n) also asks) work))

  pub is_soaking : (status : ℕ) (rig : Option SimState) → Asks run.words (Soak n) → Ends run status rig → IsSoaking n run status rig
  is_soaking status rig asks ends = elim (soak_ends status rig asks ends) [
    | inl by ↦ record {
      soaked = soaked_by n run.sunk status rig by;
      write_fault = cut_by n run.sunk status rig by;
      rig_fault = fault_by n run.sunk status rig by;
      in_order = order_by n run.sunk status rig by;
      stuck = stuck_by n run.sunk status rig by;
      complete = complete_by n run.sunk status rig by;
    }
    | inr (nine, none) ↦ record {
      soaked = λ at. absurd (omega arith);
      write_fault = λ at. absurd (omega arith);
      rig_fault = λ at. elim at [ inl e ↦ absurd (omega arith) | inr e ↦ absurd (omega arith) ];
      stuck = λ at. absurd (omega arith);
      in_order = λ sim out. let both : None ≡ Some sim = sym none ∙ out in cc;
      complete = λ unfailed counts. inr nine;
    }
  ]

-- ---- from the contract of the pair's run

pub countable : (o : Outcome) → OutcomeInRange o → AreCountable o
countable outcome.Pass is = tt
countable (outcome.Wiring d) is = (let l = is.opens_in.0 in omega arith, let l = is.shorts_in.0 in omega arith, let l = is.miswires_in.0 in omega arith)
countable (outcome.Parts faults) is = let l = is.1 in omega arith
countable (outcome.Insulation faults) is = let l = is.1 in omega arith
countable (outcome.Withstand bit volts leak) is = tt

pub good_countable : (n : ℕ) (state : RigState) (good : Outcome) → good ≡ good_outcome n → IsSoaked n state → AreCountable good
good_countable n state good is known = subst AreCountable (sym is) (countable (good_outcome n) known.good.in_range)

pub bad_countable : (n : ℕ) (state : RigState) (bad : Outcome) → bad ≡ bad_outcome n → IsSoaked n state → AreCountable bad
bad_countable n state bad is known = subst AreCountable (sym is) (countable (bad_outcome n) known.bad.in_range)

pub line_is : (n : ℕ) (good bad : Outcome) → good ≡ good_outcome n → bad ≡ bad_outcome n → verdicts_line n (verdict_of good) (verdict_of bad) ≡ soak_line n
unfolding soak_line
line_is n good bad one other = ap (λ (o : Outcome). verdicts_line n (verdict_of o) (verdict_of bad)) one ∙ ap (λ (o : Outcome). verdicts_line n (verdict_of (good_outcome n)) (verdict_of o)) other

pub stuck_ends : (n : ℕ) (sunk : Sunk) (status : ℕ) (sim : SimState) → status ≡ 10 → StopsSoak n (stop.NotZero sim) → Closes sunk not_at_zero_line ⊎ LacksMemory sunk not_at_zero_line → SoakEnds n sunk status (Some sim)
stuck_ends n sunk status sim is stops line = subst (λ (s : ℕ). SoakEnds n sunk s (Some sim)) (sym is) (not_at_zero sim stops line)
