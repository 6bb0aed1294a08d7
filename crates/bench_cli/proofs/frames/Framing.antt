-- The work of each command, as the frame of a run sees it.
use Rattle.std.proofs.Common.{◌≡◌, ◌≢◌, ◌⊎◌, inl, inr, ℕ, List, Option, None, Some, refl, sym, ◌∙◌, arith}
use Rattle.rig.specs.RigState.{RigState}
use Rattle.rig_sim.specs.SimRig.{SimState}
use Rattle.words.specs.declared.command.UnitName.{UnitName}
use Rattle.words.specs.declared.command.Command.{Command}
use Rattle.words.specs.declared.command.Command.TheVariants.{Continuity, Learn, Run as RunScript, Import, Serve, Report, Unit, Export, Soak}
use Rattle.reporting.specs.declared.reporting.Report.TheVariants as report
use Rattle.bench_cli.specs.Run.{Run, Given, nothing, simulator, both}
use Rattle.soak_pair.specs.Pair.{soak_line}
use Rattle.bench_cli.specs.Closing.{Sunk, CountsNone, rig_fault_line}
use Rattle.bench_cli.specs.Soaking.{SoakEnds}
use Rattle.bench_cli.specs.Soaking.SoakEnds.{soaked, rig_failed, not_at_zero, no_memory}
use Rattle.bench_cli.specs.UnitWork.{WorksOn}
use Rattle.bench_cli.specs.Works.{Works}
use Rattle.bench_cli.proofs.frames.Framed.{Framed, AreFilesOf}
use Rattle.bench_cli.proofs.frames.StationFrames.{script_framed}
use Rattle.bench_cli.proofs.frames.ImportFrame.{import_framed}
use Rattle.bench_cli.proofs.frames.ServeFrame.{serve_framed}
use Rattle.bench_cli.proofs.frames.ReportFrame.{report_framed}
use Rattle.bench_cli.proofs.ways.UnitWays.{unit_way, at_work, at_memory, lacks_none}

module _ {Finds : RigState → RigState → List ℕ → Type 0} {Stops : RigState → RigState → Type 0} where
  unit_framed : (command : Command) (given : Given) (run : Run) (status : ℕ) (rig : Option SimState) (unit : UnitName) (sim : SimState) → AreFilesOf command given
      → WorksOn Finds Stops unit sim run.sunk status rig → Framed command given run status rig
  unit_framed command given run status rig unit sim files work =
      let way = unit_way Finds Stops sim.state work.final.state unit.serial unit.attempt run.sunk status work.ends in
      let other = at_work way in
      let out : rig ≡ None → ⊥ = λ none. let both : Some work.final ≡ None = sym work.handed ∙ none in cc in
      record {
        files = files;
        no_stop = (other.0, other.1, other.2, other.4);
        read_fault = λ at. absurd (other.3 at);
        network_fault = λ at. absurd (other.5 at);
        no_memory = λ at disk. at_memory way at;
        handed = λ reads none. absurd (out none);
        undisked = λ unused reads none. out none;
      }

-- ---- a soak

-- the statuses of a soak
abbrev IsSoakStatus : ℕ → Type 0
IsSoakStatus s = (s ≡ 0) ⊎ ((s ≡ 7) ⊎ ((s ≡ 9) ⊎ ((s ≡ 10) ⊎ (s ≡ 15))))

soak_status : (n : ℕ) (sunk : Sunk) (status : ℕ) (rig : Option SimState) → SoakEnds n sunk status rig → IsSoakStatus status
soak_status n sunk status rig (soaked sim is (inl (at, wrote))) = inl at
soak_status n sunk status rig (soaked sim is (inr (inl (at, rose, wrote)))) = inr (inl at)
soak_status n sunk status rig (soaked sim is (inr (inr (at, lacks)))) = inr (inr (inl at))
soak_status n sunk status rig (rig_failed sim stops (inl (at, line))) = inr (inr (inr (inr at)))
soak_status n sunk status rig (rig_failed sim stops (inr (at, lacks))) = inr (inr (inl at))
soak_status n sunk status rig (not_at_zero sim stops line) = inr (inr (inr (inl refl)))
soak_status n sunk status rig (no_memory rig' stops unasked) = inr (inr (inl refl))

soak_memory : (n : ℕ) (sunk : Sunk) (status : ℕ) (rig : Option SimState) → SoakEnds n sunk status rig → status ≡ 9 → CountsNone sunk
soak_memory n sunk status rig (soaked sim is (inl (at, wrote))) nine = absurd (omega arith)
soak_memory n sunk status rig (soaked sim is (inr (inl (at, rose, wrote)))) nine = absurd (omega arith)
soak_memory n sunk status rig (soaked sim is (inr (inr (at, lacks)))) nine = lacks_none (soak_line n) lacks
soak_memory n sunk status rig (rig_failed sim stops (inl (at, line))) nine = absurd (omega arith)
soak_memory n sunk status rig (rig_failed sim stops (inr (at, lacks))) nine = lacks_none rig_fault_line lacks
soak_memory n sunk status rig (not_at_zero sim stops line) nine = absurd (omega (arith, nine))
soak_memory n sunk status rig (no_memory rig' stops unasked) nine = unasked.faults

soak_other : (s : ℕ) → IsSoakStatus s → (s ≢ 2) × (s ≢ 3) × (s ≢ 4) × (s ≢ 13) × (s ≢ 6) × (s ≢ 11)
soak_other s (inl at) = (λ e. omega arith, λ e. omega arith, λ e. omega arith, λ e. omega arith, λ e. omega arith, λ e. omega arith)
soak_other s (inr (inl at)) = (λ e. omega arith, λ e. omega arith, λ e. omega arith, λ e. omega arith, λ e. omega arith, λ e. omega arith)
soak_other s (inr (inr (inl at))) = (λ e. omega arith, λ e. omega arith, λ e. omega arith, λ e. omega arith, λ e. omega arith, λ e. omega arith)
soak_other s (inr (inr (inr (inl at)))) = (λ e. omega arith, λ e. omega arith, λ e. omega arith, λ e. omega arith, λ e. omega arith, λ e. omega arith)
soak_other s (inr (inr (inr (inr at)))) = (λ e. omega arith, λ e. omega arith, λ e. omega arith, λ e. omega arith, λ e. omega arith, λ e. omega arith)

soak_framed : (n : ℕ) (run : Run) (status : ℕ) (rig : Option SimState) → SoakEnds n run.sunk status rig → Framed (Soak n) nothing run status rig
soak_framed n run status rig ends =
    let other = soak_other status (soak_status n run.sunk status rig ends) in
    record {
      files = (refl, refl);
      no_stop = (other.0, other.1, other.2, other.3);
      read_fault = λ at. absurd (other.4 at);
      network_fault = λ at. absurd (other.5 at);
      no_memory = λ at undisked. soak_memory n run.sunk status rig ends at;
      handed = λ reads out. cc;
      undisked = λ undisked reads out. cc;
    }

pub framed : (command : Command) (given : Given) (run : Run) (status : ℕ) (rig : Option SimState) → Works command given run status rig → Framed command given run status rig
framed (Continuity unit) nothing run status rig work = absurd work
framed (Continuity unit) (simulator sim) run status rig work = absurd work
framed (Continuity unit) (both sim p) run status rig work = unit_framed (Continuity unit) (both sim p) run status rig unit sim (refl, refl) work
framed (Learn unit) nothing run status rig work = absurd work
framed (Learn unit) (simulator sim) run status rig work = unit_framed (Learn unit) (simulator sim) run status rig unit sim (refl, refl) work
framed (Learn unit) (both sim p) run status rig work = absurd work
framed RunScript nothing run status rig work = absurd work
framed RunScript (simulator sim) run status rig work = absurd work
framed RunScript (both sim p) run status rig work = script_framed run status sim p rig work
framed Import given run status rig work = import_framed given run status rig work
framed (Serve service) given run status rig work = serve_framed service given run status rig work
framed Report given run status rig work = report_framed Report report.Lot given run status rig (refl, refl, refl) work
framed (Unit serial) given run status rig work = report_framed (Unit serial) (report.Unit serial) given run status rig (refl, refl, refl) work
framed Export given run status rig work = report_framed Export report.Results given run status rig (refl, refl, refl) work
framed (Soak n) nothing run status rig work = soak_framed n run status rig work
framed (Soak n) (simulator sim) run status rig work = absurd work
framed (Soak n) (both sim p) run status rig work = absurd work
