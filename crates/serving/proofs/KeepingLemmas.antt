-- What the serving leaves, by how it ended.
use Rattle.std.proofs.Common.{◌≡◌, ◌⊎◌, ⊎_elim, inl, inr, ◌∙◌, sym, refl, ap, subst, arith, ℕ, ◌+◌, ◌≤◌, List, [], ◌∷◌, length, IsTrue}
use Rattle.base.specs.Causes.{Rose}
use Rattle.disk_edge.specs.Disk.{DiskState, LeavesOnly, EachImage}
use Rattle.journal.specs.Journal.{KeepsLimit}
use Rattle.partition.specs.NetTable.{programmed_of}
use Rattle.rig.specs.RigState.{RigState}
use Rattle.wirelist.specs.Clusters.{cluster_classes}
use Rattle.applications.specs.Ordered.{IsStuckInOrder}
use Rattle.wirelist.specs.declared.program.Program.{Program}
use Rattle.unit_outcome.specs.Tested.{IsInOrderOf}
use Rattle.ledger.specs.Kept.{IsImageOf}
use Rattle.ledger.specs.Ledger.{Tells}
use Rattle.station.specs.RigAfter.{StaysInOrder}
use Rattle.station.specs.View.{StationState, IsStanding}
use Rattle.script.specs.Growth.{KeepsBetween}
use Rattle.script.proofs.disk.Growing.{prefix_self}
use Rattle.script.proofs.answers.History.{Turn, IsHistory}
use Rattle.script.proofs.disk.Images.{between_all, step_grows}
use Rattle.script.proofs.answers.Closings.{leaves_more, either_after}
use Rattle.script.proofs.disk.Limits.{limit_and, limit_all}
use Rattle.script.proofs.on_rig.Rigs.{faults_later, stays_in_order, order_all}
use Rattle.script.proofs.on_rig.Exits.{program_all}
use Rattle.serving.specs.Lines.{Closing, write_fault, disk_fault, memory, not_at_zero, network_fault, status_of}
use Rattle.serving.specs.Visits.{Stage, Left, last_stage, Serves}
use Rattle.serving.specs.Keeping.{is_at_rest, ServingKeeps, InOrderAt}
use Rattle.serving.proofs.TurnLemmas.{Turns, turns-more, visits-turns}
use Rattle.serving.proofs.EndLemmas.{Within, Stuck, EndWay, ends-way}

-- ---- statuses

pub busy : (status : ℕ) (closing : Closing) (P : Type 0) → status ≡ status_of closing → (closing ≡ memory) ⊎ (closing ≡ disk_fault) → IsTrue (is_at_rest status) → P
busy status closing P is (inl e) rests = never (subst (λ (n : ℕ). IsTrue (is_at_rest n)) (is ∙ ap status_of e) rests)
  where
    never : IsTrue (is_at_rest 9) → P
    never rests = absurd (cc rests)
busy status closing P is (inr e) rests = never (subst (λ (n : ℕ). IsTrue (is_at_rest n)) (is ∙ ap status_of e) rests)
  where
    never : IsTrue (is_at_rest 8) → P
    never rests = absurd (cc rests)

pub is_ten : (closing : Closing) → status_of closing ≡ 10 → closing ≡ not_at_zero
is_ten write_fault e = absurd (cc e)
is_ten disk_fault e = absurd (cc e)
is_ten memory e = absurd (cc e)
is_ten not_at_zero e = refl
is_ten network_fault e = absurd (cc e)

pub is_eight : (closing : Closing) → status_of closing ≡ 8 → closing ≡ disk_fault
is_eight write_fault e = absurd (cc e)
is_eight disk_fault e = refl
is_eight memory e = absurd (cc e)
is_eight not_at_zero e = absurd (cc e)
is_eight network_fault e = absurd (cc e)

-- ---- images

-- behind whole turns each image keeps just their records
unfoldable pub keeps-behind : (first last : StationState) (status : ℕ) (disk : DiskState) → IsStanding first → Tells first.disk → Turns first last → disk ≡ last.disk → ServingKeeps first status disk
keeps-behind first last status disk standing tells all same =
    let between = between_all all.turns first last tells all.history in
    let stands = all.standing standing in
    let kept : EachImage disk (IsImageOf last.records) = subst (λ (d : DiskState). EachImage d (IsImageOf last.records)) (sym same) stands.images in
    record {
      records = last.records;
      later = last.records;
      from = between.grows;
      to = prefix_self last.records;
      stopped = subst (λ (d : DiskState). LeavesOnly first.disk d (KeepsBetween first.records last.records)) (sym same) between.images;
      kept = λ honest file told image left. inl (kept honest file told image left);
      at_rest = λ rests. kept;
    }

unfoldable pub keeps-within : (first s : StationState) (status : ℕ) (closing : Closing) (rig : RigState) (disk : DiskState) → IsStanding first → Tells first.disk → Turns first s
    → status ≡ status_of closing → (closing ≡ memory) ⊎ (closing ≡ disk_fault) → Within s rig disk → ServingKeeps first status disk
keeps-within first s status closing rig disk standing tells so_far is which within =
    let between = between_all so_far.turns first s tells so_far.history in
    let stands = so_far.standing standing in
    let may = within.may between.tells in
    let grows = step_grows s _ within.now may.said may.later disk may.step in
    record {
      records = s.records;
      later = may.later;
      from = between.grows;
      to = grows;
      stopped = leaves_more first.disk s.disk disk first.records s.records may.later between.grows grows between.images may.step.images;
      kept = either_after s.disk disk s.records may.later may.step.images stands.images;
      at_rest = busy status closing (EachImage disk (IsImageOf s.records)) is which;
    }

unfoldable pub keeps-stuck : (first s : StationState) (status : ℕ) (rig : RigState) (disk : DiskState) → Tells first.disk → Turns first s → Stuck s rig disk → ServingKeeps first status disk
keeps-stuck first s status rig disk tells so_far stuck =
    let between = between_all so_far.turns first s tells so_far.history in
    let steps = stuck.step between.tells in
    let grows = prefix_self s.records in
    let kept = stuck.kept in
    record {
      records = s.records;
      later = s.records;
      from = between.grows;
      to = grows;
      stopped = leaves_more first.disk s.disk disk first.records s.records s.records between.grows grows between.images steps.images;
      kept = λ honest file told image left. inl (kept honest file told image left);
      at_rest = λ rests. kept;
    }

pub which-busy : (s : StationState) (closing : Closing) (disk : DiskState) → (closing ≡ memory) ⊎ ((closing ≡ disk_fault) × Rose s.disk.faults disk.faults) → (closing ≡ memory) ⊎ (closing ≡ disk_fault)
which-busy s closing disk (inl e) = inl e
which-busy s closing disk (inr both) = inr both.0

pub keeps-end : (first s : StationState) (status : ℕ) (closing : Closing) (rig : RigState) (disk : DiskState) → IsStanding first → Tells first.disk → Turns first s
    → status ≡ status_of closing → EndWay s closing rig disk → ServingKeeps first status disk
keeps-end first s status closing rig disk standing tells so_far is way =
    ⊎_elim
    (λ clean. let behind = clean.1 in keeps-behind first behind.after status disk standing tells (turns-more first s behind.after so_far behind.turn) behind.parts.disk_is)
    (⊎_elim
    (λ lost. keeps-within first s status closing rig disk standing tells so_far is (which-busy s closing disk lost.0) lost.1)
    (λ three. keeps-stuck first s status rig disk tells so_far three.1))
    way

-- ---- lengths

pub limit-behind : (first last : StationState) (disk : DiskState) → Turns first last → disk ≡ last.disk → LeavesOnly first.disk disk (KeepsLimit first.disk)
limit-behind first last disk all same = subst (λ (d : DiskState). LeavesOnly first.disk d (KeepsLimit first.disk)) (sym same) (limit_all all.turns first last all.history)

pub limit-end : (first s : StationState) (closing : Closing) (rig : RigState) (disk : DiskState) → Turns first s → EndWay s closing rig disk → LeavesOnly first.disk disk (KeepsLimit first.disk)
limit-end first s closing rig disk so_far way =
    let before = limit_all so_far.turns first s so_far.history in
    ⊎_elim
    (λ clean. let behind = clean.1 in limit-behind first behind.after disk (turns-more first s behind.after so_far behind.turn) behind.parts.disk_is)
    (⊎_elim
    (λ lost. let within = lost.1 in limit_and first.disk s.disk disk before within.disk_goes_on.limit)
    (λ three. let stuck = three.1 in limit_and first.disk s.disk disk before stuck.disk_goes_on.limit))
    way

-- ---- the order of high voltage

order-at : (first last : StationState) (rig : RigState) → Turns first last → rig ≡ last.rig → IsInOrderOf first.program first.rig → IsInOrderOf first.program rig
order-at first last rig all same was = subst (IsInOrderOf first.program) (sym same) (order_all first.program all.turns first last refl all.history was)

pub order-well : (first last : StationState) (rig : RigState) → Turns first last → rig ≡ last.rig → IsInOrderOf first.program first.rig → InOrderAt first.program 0 rig
order-well first last rig all same was = record { at_zero = λ other. order-at first last rig all same was; stuck = λ ten. absurd (cc ten) }

order-within : (first s : StationState) (rig : RigState) (disk : DiskState) → Turns first s → Within s rig disk → IsInOrderOf first.program first.rig → IsInOrderOf first.program rig
order-within first s rig disk so_far within was =
    let program = program_all so_far.turns first s so_far.history in
    stays_in_order first.program s.rig rig (subst (λ (p : Program). StaysInOrder p s.rig rig) program within.order) (order_all first.program so_far.turns first s refl so_far.history was)

pub not-ten : (closing : Closing) → (closing ≡ memory) ⊎ (closing ≡ disk_fault) → closing ≡ not_at_zero → ⊥
not-ten closing (inl e) f = cc
not-ten closing (inr e) f = cc

pub order-end : (first s : StationState) (status : ℕ) (closing : Closing) (rig : RigState) (disk : DiskState) → Turns first s → status ≡ status_of closing → EndWay s closing rig disk
    → IsInOrderOf first.program first.rig → InOrderAt first.program status rig
order-end first s status closing rig disk so_far is way was =
    ⊎_elim
    (λ clean.
    let behind = clean.1 in
    record {
      at_zero = λ other. order-at first behind.after rig (turns-more first s behind.after so_far behind.turn) behind.parts.rig_is was;
      stuck = λ ten. absurd (clean.0.1 (is_ten closing (sym is ∙ ten)));
    })
    (⊎_elim
    (λ lost. record {
      at_zero = λ other. order-within first s rig disk so_far lost.1 was;
      stuck = λ ten. absurd (not-ten closing (which-busy s closing disk lost.0) (is_ten closing (sym is ∙ ten)));
    })
    (λ three.
    let stuck = three.1 in
    let program = program_all so_far.turns first s so_far.history in
    record {
      at_zero = λ other. absurd (other (is ∙ ap status_of three.0));
      stuck = λ ten. subst (λ (p : Program). IsStuckInOrder (programmed_of p.nets) (cluster_classes p) rig) program stuck.order;
    }))
    way

-- ---- counts

later-all : (turns : List Turn) (s t : StationState) → IsHistory s turns t → (s.disk.faults ≤ t.disk.faults) × (s.rig.faults ≤ t.rig.faults)
later-all [] s t is = (omega (arith, ap (λ (x : StationState). x.disk.faults) is), omega (arith, ap (λ (x : StationState). x.rig.faults) is))
later-all (turn ∷ turns) s t (one, history) =
    let rest = later-all turns turn.after t history in
    let disk = one.disk.later in
    let rig = faults_later s.rig turn.after.rig one.rig.kept in
    (omega (arith, disk, rest.0), omega (arith, rig, rest.1))

-- no count of the disk and the rig fell, and the two statuses have their causes
pub record DeviceCauses (first : StationState) (status : ℕ) (rig : RigState) (disk : DiskState) : Type 0 where
  pub disk_later : first.disk.faults ≤ disk.faults
  pub rig_later : first.rig.faults ≤ rig.faults
  pub disk_fault : status ≡ 8 → Rose first.disk.faults disk.faults
  pub not_zero : status ≡ 10 → Rose first.rig.faults rig.faults

devices-behind : (first last : StationState) (status : ℕ) (rig : RigState) (disk : DiskState) → Turns first last → rig ≡ last.rig → disk ≡ last.disk
    → (status ≡ 8 → ⊥) → (status ≡ 10 → ⊥) → DeviceCauses first status rig disk
devices-behind first last status rig disk all rig_is disk_is eight ten =
    let later = later-all all.turns first last all.history in
    record {
      disk_later = omega (arith, later.0, ap (λ (d : DiskState). d.faults) disk_is);
      rig_later = omega (arith, later.1, ap (λ (r : RigState). r.faults) rig_is);
      disk_fault = λ e. absurd (eight e);
      not_zero = λ e. absurd (ten e);
    }

pub devices-well : (first last : StationState) (rig : RigState) (disk : DiskState) → Turns first last → rig ≡ last.rig → disk ≡ last.disk → DeviceCauses first 0 rig disk
devices-well first last rig disk all rig_is disk_is = devices-behind first last 0 rig disk all rig_is disk_is (λ e. cc) (λ e. cc)

rose-disk : (s : StationState) (closing : Closing) (disk : DiskState) → (closing ≡ memory) ⊎ ((closing ≡ disk_fault) × Rose s.disk.faults disk.faults) → closing ≡ disk_fault → Rose s.disk.faults disk.faults
rose-disk s closing disk (inl e) f = absurd (cc (sym e ∙ f))
rose-disk s closing disk (inr both) f = both.1

rose-from : (a b c : ℕ) → a ≤ b → Rose b c → Rose a c
rose-from a b c before rose = omega (arith, before, rose)

pub devices-end : (first s : StationState) (status : ℕ) (closing : Closing) (rig : RigState) (disk : DiskState) → Turns first s → status ≡ status_of closing → EndWay s closing rig disk
    → DeviceCauses first status rig disk
devices-end first s status closing rig disk so_far is way =
    let later = later-all so_far.turns first s so_far.history in
    ⊎_elim
    (λ clean.
    let behind = clean.1 in
    devices-behind first behind.after status rig disk (turns-more first s behind.after so_far behind.turn) behind.parts.rig_is behind.parts.disk_is
    (λ eight. clean.0.0 (is_eight closing (sym is ∙ eight))) (λ ten. clean.0.1 (is_ten closing (sym is ∙ ten))))
    (⊎_elim
    (λ lost.
    let within = lost.1 in
    let disk_on = within.disk_goes_on.later in
    let rig_on = faults_later s.rig rig within.rig_goes_on.kept in
    record {
      disk_later = omega (arith, later.0, disk_on);
      rig_later = omega (arith, later.1, rig_on);
      disk_fault = λ eight. rose-from first.disk.faults s.disk.faults disk.faults later.0 (rose-disk s closing disk lost.0 (is_eight closing (sym is ∙ eight)));
      not_zero = λ ten. absurd (not-ten closing (which-busy s closing disk lost.0) (is_ten closing (sym is ∙ ten)));
    })
    (λ three.
    let stuck = three.1 in
    let disk_on = stuck.disk_goes_on.later in
    let rig_on = faults_later s.rig rig stuck.rig_goes_on.kept in
    record {
      disk_later = omega (arith, later.0, disk_on);
      rig_later = omega (arith, later.1, rig_on);
      disk_fault = λ eight. absurd (let ten = is ∙ ap status_of three.0 in cc (sym ten ∙ eight));
      not_zero = λ ten. rose-from first.rig.faults s.rig.faults rig.faults later.1 stuck.rose;
    }))
    way

-- ---- the whole

module _ {R D : Type 0} (rig_state : R → RigState) (disk_state : D → DiskState) (count : ℕ) (first : Stage) (status : ℕ) (left : Left) (serves : Serves rig_state disk_state count first status left) where
  so_far : Turns first.station (last_stage first serves.stages).station
  so_far = visits-turns 1 first serves.stages serves.visits

  pub serving_keeps : IsStanding first.station → Tells first.station.disk → ServingKeeps first.station status left.disk
  serving_keeps standing tells =
      ⊎_elim
      (λ all. let well = all.1 in keeps-behind first.station (last_stage first serves.stages).station status left.disk standing tells so_far well.parts.disk_is)
      (λ stopped. let ends = stopped.1 in keeps-end first.station (last_stage first serves.stages).station status ends.closing left.rig left.disk standing tells so_far ends.status_is
      (ends-way rig_state disk_state (length serves.stages + 1) (last_stage first serves.stages) status left ends))
      serves.ends

  pub serving_limit : LeavesOnly first.station.disk left.disk (KeepsLimit first.station.disk)
  serving_limit =
      ⊎_elim
      (λ all. let well = all.1 in limit-behind first.station (last_stage first serves.stages).station left.disk so_far well.parts.disk_is)
      (λ stopped. let ends = stopped.1 in limit-end first.station (last_stage first serves.stages).station ends.closing left.rig left.disk so_far
      (ends-way rig_state disk_state (length serves.stages + 1) (last_stage first serves.stages) status left ends))
      serves.ends

  pub serving_order : IsInOrderOf first.station.program first.station.rig → InOrderAt first.station.program status left.rig
  serving_order was =
      ⊎_elim
      (λ all. let well = all.1 in subst (λ (n : ℕ). InOrderAt first.station.program n left.rig) (sym well.status_is) (order-well first.station (last_stage first serves.stages).station left.rig so_far well.parts.rig_is was))
      (λ stopped. let ends = stopped.1 in order-end first.station (last_stage first serves.stages).station status ends.closing left.rig left.disk so_far ends.status_is
      (ends-way rig_state disk_state (length serves.stages + 1) (last_stage first serves.stages) status left ends) was)
      serves.ends

  pub serving_devices : DeviceCauses first.station status left.rig left.disk
  serving_devices =
      ⊎_elim
      (λ all. let well = all.1 in subst (λ (n : ℕ). DeviceCauses first.station n left.rig left.disk) (sym well.status_is) (devices-well first.station (last_stage first serves.stages).station left.rig left.disk so_far well.parts.rig_is well.parts.disk_is))
      (λ stopped. let ends = stopped.1 in devices-end first.station (last_stage first serves.stages).station status ends.closing left.rig left.disk so_far ends.status_is
      (ends-way rig_state disk_state (length serves.stages + 1) (last_stage first serves.stages) status left ends))
      serves.ends
