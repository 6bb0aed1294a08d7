-- What the rig shows of the tests that were recorded, by how the serving ended.
use Rattle.std.proofs.Common.{◌≡◌, inr, ⊎_elim, sym, refl, subst, ℕ, ◌+◌, List, [], ◌++◌, length, Some, append-nil}
use Rattle.std.specs.Prelude.{IfSome, ⊤}
use Rattle.std.specs.List.{AllByRecursion}
use Rattle.disk_edge.specs.Disk.{DiskState}
use Rattle.rig.specs.RigState.{RigState}
use Rattle.wirelist.specs.declared.program.Program.{Program}
use Rattle.records.specs.declared.record.StationRecord.{StationRecord}
use Rattle.ledger.specs.Ledger.{Tells}
use Rattle.serials.specs.declared.command.Command.{Command}
use Rattle.station.specs.View.{StationState, IsStanding}
use Rattle.script.specs.Shown.{IsShown, IsShownBehind}
use Rattle.script.specs.Turns.{RigGoesOn}
use Rattle.script.proofs.on_rig.Showing.{goes_on_tallies, shown_all, shown_under, begins_shown}
use Rattle.script.proofs.on_rig.Tallying.{HasTallies, some_all}
use Rattle.script.proofs.on_rig.Shapes.{under_may}
use Rattle.script.proofs.on_rig.Exits.{program_all}
use Rattle.script.proofs.disk.Images.{between_all}
use Rattle.serving.specs.Lines.{Closing, status_of}
use Rattle.serving.specs.Tallied.{ServingShows}
use Rattle.serving.specs.Visits.{Stage, Left, last_stage, Serves}
use Rattle.serving.proofs.TurnLemmas.{Turns, turns-more, visits-turns}
use Rattle.serving.proofs.EndLemmas.{EndWay, ends-way}
use Rattle.serving.proofs.KeepingLemmas.{keeps-behind, keeps-within, keeps-stuck, which-busy}

-- the records of a station behind some turns, and what a rig shows of them
record Tallied (first last : StationState) (rig : RigState) : Type 0 where
  added : List StationRecord
  is : last.records ≡ first.records ++ added
  tallies : IfSome rig.tallies (λ tallies. AllByRecursion (λ (r : StationRecord). IsShown first.program tallies r.body) added)
  has : HasTallies first.program added last.records last.rig.tallies

tallied : (first last : StationState) (rig : RigState) → Turns first last → Tells first.disk
    → ((A : List StationRecord) → HasTallies first.program A last.records last.rig.tallies → HasTallies first.program A last.records rig.tallies) → Tallied first last rig
tallied first last rig all tells goes_on =
    let shown = shown_all first.program all.turns [] first last refl tells all.history (begins_shown first.program first) in
    record { added = shown.added; is = shown.is; tallies = (goes_on shown.added shown.tallies).shown; has = shown.tallies }

-- nothing is under way
none_behind : (p : Program) (rig : RigState) (R : List StationRecord) → IsShownBehind p rig.tallies R R
none_behind p rig R = ([], sym (append-nil R), some_all rig.tallies (λ list. ⊤) (λ list. tt))

-- behind whole turns
shows_behind : (first last : StationState) (status : ℕ) (rig : RigState) (disk : DiskState) → IsStanding first → Tells first.disk → Turns first last → rig ≡ last.rig → disk ≡ last.disk
    → ServingShows first status rig disk
unfolding keeps-behind
shows_behind first last status rig disk standing tells all rig_is disk_is =
    let of = tallied first last rig all tells (λ A has. subst (λ (r : RigState). HasTallies first.program A last.records r.tallies) (sym rig_is) has) in
    record { keeps = keeps-behind first last status disk standing tells all disk_is; added = of.added; is = of.is; tallies = of.tallies; under_way = inr (none_behind first.program rig last.records) }

tallied_on : (first s : StationState) (c : Command) (now : ℕ) (rig : RigState) → Turns first s → Tells first.disk → RigGoesOn s (0, Some c) now rig → Tallied first s rig
tallied_on first s c now rig so_far tells goes =
    tallied first s rig so_far tells (λ A has. goes_on_tallies first.program A s (0, Some c) now rig goes has)

shows_end : (first s : StationState) (status : ℕ) (closing : Closing) (rig : RigState) (disk : DiskState) → IsStanding first → Tells first.disk → Turns first s
    → status ≡ status_of closing → EndWay s closing rig disk → ServingShows first status rig disk
unfolding keeps-within keeps-stuck
shows_end first s status closing rig disk standing tells so_far is way =
    ⊎_elim
    (λ clean. let behind = clean.1 in shows_behind first behind.after status rig disk standing tells (turns-more first s behind.after so_far behind.turn) behind.parts.rig_is behind.parts.disk_is)
    (⊎_elim
    (λ lost.
    let within = lost.1 in
    let of = tallied_on first s within.command within.now rig so_far tells within.rig_goes_on in
    let may = within.may (between_all so_far.turns first s tells so_far.history).tells in
    record {
      keeps = keeps-within first s status closing rig disk standing tells so_far is (which-busy s closing disk lost.0) within;
      added = of.added;
      is = of.is;
      tallies = of.tallies;
      under_way = shown_under first.program of.added s rig may.later disk (program_all so_far.turns first s so_far.history) of.has
          (under_may s (0, Some within.command) within.now rig disk (so_far.standing standing).images may);
    })
    (λ three.
    let stuck = three.1 in
    let of = tallied_on first s stuck.command stuck.now rig so_far tells stuck.rig_goes_on in
    record { keeps = keeps-stuck first s status rig disk tells so_far stuck; added = of.added; is = of.is; tallies = of.tallies; under_way = inr (none_behind first.program rig s.records) }))
    way

pub serving_shows : {R D : Type 0} (rig_state : R → RigState) (disk_state : D → DiskState) (count : ℕ) (first : Stage) (status : ℕ) (left : Left) → Serves rig_state disk_state count first status left
    → IsStanding first.station → Tells first.station.disk → ServingShows first.station status left.rig left.disk
serving_shows rig_state disk_state count first status left serves standing tells =
    let last = last_stage first serves.stages in
    let so_far = visits-turns 1 first serves.stages serves.visits in
    ⊎_elim
    (λ all. let well = all.1 in shows_behind first.station last.station status left.rig left.disk standing tells so_far well.parts.rig_is well.parts.disk_is)
    (λ stopped. let ends = stopped.1 in shows_end first.station last.station status ends.closing left.rig left.disk standing tells so_far ends.status_is
    (ends-way rig_state disk_state (length serves.stages + 1) last status left ends))
    serves.ends
