-- The answers that say that the rig failed, or that the door was open, by how the serving ended.
use Rattle.std.proofs.Common.{◌≡◌, ⊎_elim, inl, inr, ◌∙◌, sym, refl, ap, subst, arith, ℕ, ◌+◌, ◌-◌, ◌<◌, ◌≤◌, ◌^◌, append-nil, cond, min, List, [], ◌∷◌, ◌++◌, length, Option}
use Rattle.std.proofs.lemmas.List.{map-append}
use Rattle.std.proofs.lemmas.List.Sums.{sum_by-append}
use Rattle.base.specs.Causes.{Rose}
use Rattle.door_edge.specs.Doors.{Talk}
use Rattle.disk_edge.specs.Disk.{DiskState}
use Rattle.rig.specs.RigState.{RigState}
use Rattle.ledger.specs.Ledger.{Tells}
use Rattle.serials.specs.Commands.{id_of}
use Rattle.station.specs.RigAfter.{StaysOrKeeps}
use Rattle.station.specs.Step.{not_at_zero}
use Rattle.station.specs.View.{StationState}
use Rattle.http_exchange.specs.declared.request.Request.{Request}
use Rattle.http_exchange.specs.declared.request.Request.TheVariants as asks
use Rattle.http_exchange.specs.Replies.{Reply}
use Rattle.script.specs.RigLines.{is_fault_line, is_door_line, fault_lines, door_lines, LinesWithin}
use Rattle.script.specs.Said.{Said, replied}
use Rattle.script.specs.Shown.{NoneRefused}
use Rattle.script.proofs.answers.History.{Turn, said_of}
use Rattle.script.proofs.on_rig.Showing.{shown_all, begins_shown}
use Rattle.script.proofs.on_rig.Rigs.{faults_later, opens_later, faults_risen, opens_risen, grown_by, grown_both, grown_all, lines_within}
use Rattle.station_http.specs.Turns.{GoesOnWith}
use Rattle.serving.specs.Counted.{said_by, said_in, said_to, IsStuck, AnswersWithin, TestsSpend}
use Rattle.serving.specs.Lines.{Closing, status_of}
use Rattle.serving.specs.Visits.{ServedSo, Stage, Visits, last_stage, Left, Serves}
use Rattle.serving.proofs.InTurnLemmas.{not_zero}
use Rattle.serving.proofs.TurnLemmas.{Turns, turns-more, no-turn, answers-turn, goes-turn, served-turn, visits-turns}
use Rattle.serving.proofs.EndLemmas.{EndWay, ends-way}
use Rattle.serving.proofs.KeepingLemmas.{is_ten, not-ten, which-busy}

-- ---- the turns say what was said

goes_said : (old new : StationState) (r : Request) (moments moments' : Option (List ℕ)) (reply : Reply) (went_on : GoesOnWith old r moments moments' reply new)
    → (goes-turn old new r moments moments' reply went_on).said ≡ said_by old new moments moments' reply r went_on
unfolding goes-turn no-turn answers-turn
goes_said old new (asks.Refused why) moments moments' reply (says, alone) = refl
goes_said old new (asks.Unit serial) moments moments' reply (says, alone) = refl
goes_said old new asks.Lot moments moments' reply (says, alone) = refl
goes_said old new (asks.Command c) moments moments' reply answers = refl

served_said : (old new : StationState) (came went : Talk) (moments moments' : Option (List ℕ)) (status : Option ℕ) (served : ServedSo old came went moments moments' status new)
    → (served-turn old new came went moments moments' status served).said ≡ said_in old new came went moments moments' status served
unfolding served-turn no-turn
served_said old new came went moments moments' status (inl whole) = goes_said old new whole.asked moments moments' whole.replied.reply whole.replied.went_on
served_said old new came went moments moments' status (inr cut) = refl

visits_said : (number : ℕ) (stage : Stage) (stages : List Stage) (visits : Visits number stage stages) → said_of (visits-turns number stage stages visits).turns ≡ said_to number stage stages visits
unfolding visits-turns
visits_said number stage [] visits = refl
visits_said number stage (next ∷ more) (visit, visits) =
    let one = served_said stage.station next.station visit.came visit.went stage.moments next.moments visit.status visit.served in
    let rest = visits_said (number + 1) next more visits in
    ap (λ (s : Said). s ∷ said_of (visits-turns (number + 1) next more visits).turns) one
    ∙ ap (λ (l : List Said). said_in stage.station next.station visit.came visit.went stage.moments next.moments visit.status visit.served ∷ l) rest

-- ---- counts of the rig

risen_then : (a b c n : ℕ) → (b < 2 ^ 64 - 1 → a + n ≤ b) → min b (2 ^ 64 - 1) ≤ c → c < 2 ^ 64 - 1 → a + n ≤ c
risen_then a b c n risen later below = let mid : b < 2 ^ 64 - 1 = omega arith in omega (arith, risen mid)

risen_once : (a b c n m : ℕ) → (b < 2 ^ 64 - 1 → a + n ≤ b) → Rose b c → m ≡ n + 1 → c < 2 ^ 64 - 1 → a + m ≤ c
risen_once a b c n m risen rose is below = let mid : b < 2 ^ 64 - 1 = omega arith in omega (arith, risen mid)

one_fault : (said : List Said) (id : List ℕ) → fault_lines (said ++ replied id not_at_zero ∷ []) ≡ fault_lines said + 1
one_fault said id = sum_by-append (λ (x : Said). cond (is_fault_line x) 1 0) said (replied id not_at_zero ∷ [])

no_door : (said : List Said) (id : List ℕ) → door_lines (said ++ replied id not_at_zero ∷ []) ≡ door_lines said
no_door said id = let sum = sum_by-append (λ (x : Said). cond (is_door_line x) 1 0) said (replied id not_at_zero ∷ []) in omega (arith, sum)

-- the turns, and a rig whose counts go on
within_all : (first last : StationState) (rig : RigState) (all : Turns first last) → StaysOrKeeps last.rig rig → LinesWithin (said_of all.turns) first.rig rig
within_all first last rig all kept =
    lines_within (said_of all.turns) first.rig rig (grown_both first.rig last.rig rig (grown_all all.turns first last all.history) (grown_by last.rig rig kept))
    (λ below. risen_then first.rig.faults last.rig.faults rig.faults (fault_lines (said_of all.turns)) (faults_risen all.turns first last all.history) (omega (arith, faults_later last.rig rig kept)) below)
    (λ below. risen_then first.rig.opens last.rig.opens rig.opens (door_lines (said_of all.turns)) (opens_risen all.turns first last all.history) (opens_later last.rig rig kept) below)

-- the turns, and three zero calls that failed
within_stuck : (first last : StationState) (rig : RigState) (id : List ℕ) (all : Turns first last) → StaysOrKeeps last.rig rig → Rose last.rig.faults rig.faults
    → LinesWithin (said_of all.turns ++ replied id not_at_zero ∷ []) first.rig rig
within_stuck first last rig id all kept rose =
    let said = said_of all.turns in
    lines_within (said ++ replied id not_at_zero ∷ []) first.rig rig (grown_both first.rig last.rig rig (grown_all all.turns first last all.history) (grown_by last.rig rig kept))
    (λ below. risen_once first.rig.faults last.rig.faults rig.faults (fault_lines said) (fault_lines (said ++ replied id not_at_zero ∷ [])) (faults_risen all.turns first last all.history) rose (one_fault said id) below)
    (λ below. subst (λ (n : ℕ). first.rig.opens + n ≤ rig.opens) (sym (no_door said id))
    (risen_then first.rig.opens last.rig.opens rig.opens (door_lines said) (opens_risen all.turns first last all.history) (opens_later last.rig rig kept) below))

-- ---- the end

-- what was said behind the turns, and the counts
record Counted (status : ℕ) (said : List Said) (first : StationState) (rig : RigState) : Type 0 where
  last : List Said
  stuck : status ≡ 10 → IsStuck last
  within : LinesWithin (said ++ last) first.rig rig

counted_end : (first s : StationState) (status : ℕ) (closing : Closing) (rig : RigState) (disk : DiskState) (so_far : Turns first s) → status ≡ status_of closing → EndWay s closing rig disk
    → Counted status (said_of so_far.turns) first rig
unfolding turns-more
counted_end first s status closing rig disk so_far is way =
    ⊎_elim
    (λ clean.
    let behind = clean.1 in
    let turn : Turn = record { asked = behind.turn.asked; now = behind.turn.now; said = behind.turn.said; after = behind.after } in
    record {
      last = behind.turn.said ∷ [];
      stuck = λ ten. absurd (clean.0.1 (is_ten closing (sym is ∙ ten)));
      within = subst (λ (l : List Said). LinesWithin l first.rig rig) (map-append (λ (t : Turn). t.said) so_far.turns (turn ∷ []))
          (within_all first behind.after rig (turns-more first s behind.after so_far behind.turn) (inl behind.parts.rig_is));
    })
    (⊎_elim
    (λ lost.
    let within = lost.1 in
    record {
      last = [];
      stuck = λ ten. absurd (not-ten closing (which-busy s closing disk lost.0) (is_ten closing (sym is ∙ ten)));
      within = subst (λ (l : List Said). LinesWithin l first.rig rig) (sym (append-nil (said_of so_far.turns))) (within_all first s rig so_far within.rig_goes_on.kept);
    })
    (λ three.
    let stuck = three.1 in
    record {
      last = replied (id_of stuck.command) not_at_zero ∷ [];
      stuck = λ ten. (id_of stuck.command, refl);
      within = within_stuck first s rig (id_of stuck.command) so_far stuck.rig_goes_on.kept stuck.rose;
    }))
    way

pub answers_within : {R D : Type 0} (rig_state : R → RigState) (disk_state : D → DiskState) (count : ℕ) (first : Stage) (status : ℕ) (left : Left) → Serves rig_state disk_state count first status left
    → AnswersWithin rig_state disk_state count first status left
answers_within rig_state disk_state count first status left serves =
    let last = last_stage first serves.stages in
    let so_far = visits-turns 1 first serves.stages serves.visits in
    let said = said_to 1 first serves.stages serves.visits in
    let said_is : said_of so_far.turns ≡ said = visits_said 1 first serves.stages serves.visits in
    let counted : Counted status (said_of so_far.turns) first.station left.rig =
    ⊎_elim
    (λ all.
    let well = all.1 in
    record {
      last = [];
      stuck = λ ten. absurd (let never : 0 ≡ 10 = sym well.status_is ∙ ten in cc);
      within = subst (λ (l : List Said). LinesWithin l first.station.rig left.rig) (sym (append-nil (said_of so_far.turns))) (within_all first.station last.station left.rig so_far (inl well.parts.rig_is));
    })
    (λ stopped.
    let ends = stopped.1 in
    counted_end first.station last.station status ends.closing left.rig left.disk so_far ends.status_is (ends-way rig_state disk_state (length serves.stages + 1) last status left ends))
    serves.ends in
    record {
      serves = serves;
      last = counted.last;
      stuck = counted.stuck;
      within = subst (λ (l : List Said). LinesWithin (l ++ counted.last) first.station.rig left.rig) said_is counted.within;
    }

-- ---- the group readings

pub tests_spend : {R D : Type 0} (rig_state : R → RigState) (disk_state : D → DiskState) (count : ℕ) (first : Stage) (status : ℕ) (left : Left) → Serves rig_state disk_state count first status left
    → Tells first.station.disk → TestsSpend rig_state disk_state count first status left
tests_spend rig_state disk_state count first status left serves tells =
    let last = last_stage first serves.stages in
    let program = first.station.program in
    let so_far = visits-turns 1 first serves.stages serves.visits in
    let said_is : said_of so_far.turns ≡ said_to 1 first serves.stages serves.visits = visits_said 1 first serves.stages serves.visits in
    let shown = shown_all program so_far.turns [] first.station last.station refl tells so_far.history (begins_shown program first.station) in
    record {
      serves = serves;
      added = shown.added;
      is = shown.is;
      spent = λ zero no_fault none_refused.
          ⊎_elim
          (λ all.
          let well = all.1 in
          ap (λ (r : RigState). r.spent) well.parts.rig_is
          ∙ shown.spent no_fault (subst (λ (l : List Said). NoneRefused l) (sym said_is) none_refused))
          (λ stopped. let ends = stopped.1 in absurd (not_zero ends.closing (sym ends.status_is ∙ zero)))
          serves.ends;
    }
