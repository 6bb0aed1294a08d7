-- What a script did, at each of its exits.
use Rattle.std.proofs.Common.{◌≡◌, ◌⊎◌, inl, inr, ⊎_elim, ℕ, ◌+◌, ◌-◌, ◌<◌, ◌≤◌, ◌^◌, Bool, true, false, cond, List, [], ◌∷◌, ◌++◌, take, Option, refl, sym, ◌∙◌, ap, subst, arith, min}
use Rattle.std.specs.Prelude.{IsTrue, count_by}
use Rattle.std.specs.Io.KnownBytes.{Appends}
use Rattle.std.proofs.lemmas.List.Sums.{sum_by-append}
use Rattle.base.specs.Causes.{Rose}
use Rattle.disk_edge.specs.Disk.{DiskState}
use Rattle.partition.specs.NetTable.{programmed_of}
use Rattle.rig.specs.RigState.{RigState}
use Rattle.records.specs.declared.record.StationRecord.{StationRecord}
use Rattle.ledger.specs.Ledger.{Tells}
use Rattle.wirelist.specs.Clusters.{cluster_classes}
use Rattle.wirelist.specs.declared.program.Program.{Program}
use Rattle.applications.specs.Ordered.{IsStuckInOrder}
use Rattle.unit_outcome.specs.Tested.{IsInOrderOf}
use Rattle.station.specs.RigAfter.{StaysInOrder, StaysOrKeeps}
use Rattle.station.specs.Step.{answered, not_at_zero}
use Rattle.station.specs.View.{StationState}
use Rattle.script.specs.Closing.{Closing, write_fault, disk_fault, memory, status_of, closing_line}
use Rattle.script.specs.Closing as end
use Rattle.script.specs.Said.{Asked, Said, no_command, replied, said_line, written, is_stuck}
use Rattle.script.specs.Saying.{WritesFront}
use Rattle.script.specs.Ends.{EndsUnsaid, EndsLost, EndsStuck, EndsIn}
use Rattle.script.specs.RigLines.{is_fault_line, is_door_line, fault_lines, door_lines, WroteLines, LinesWithin, InOrderAt, StillTells}
use Rattle.script.specs.Ran.{ScriptRan}
use Rattle.script.proofs.answers.Written.{appends_and, front_of}
use Rattle.script.proofs.answers.History.{Turn, said_of, all_written, written-push, IsHistory, SoFar}
use Rattle.script.specs.Shown.{is_done, TestsShown}
use Rattle.script.specs.Turns.{RigGoesOn}
use Rattle.script.proofs.disk.Images.{KeepsAt}
use Rattle.script.proofs.on_rig.Showing.{goes_on_tallies, tests_shown}
use Rattle.script.proofs.on_rig.Tallying.{HasTallies, tallies_stay}
use Rattle.script.proofs.on_rig.Rigs.{faults_later, opens_later, faults_risen, opens_risen, grown_by, grown_both, grown_all, still_tells, lines_within, stays_in_order, order_all}

-- the program stays
pub program_all : (turns : List Turn) (s t : StationState) → IsHistory s turns t → t.program ≡ s.program
program_all [] s t is = ap (λ (x : StationState). x.program) is
program_all (turn ∷ turns) s t (one, history) = program_all turns turn.after t history ∙ one.same.program

-- what ends a call after three failed zero calls
abbrev three_failed : Closing
three_failed = end.not_at_zero

-- ---- what was written

-- what was written of the lines, and behind them a front of one more line
wrote_front : (got mid got' : Option (List ℕ)) (said : List Said) (line : List ℕ) (status : ℕ) (closing : Closing) → status ≡ status_of closing → Appends got mid (all_written said)
    → ((next : Said) × (line ≡ said_line next)) ⊎ (line ≡ closing_line closing) → WritesFront line mid got' → WroteLines got got' said status
wrote_front got mid got' said line status closing is wrote which front = record {
  rest = take front.count line;
  wrote = appends_and got mid got' (all_written said) (take front.count line) wrote front.wrote;
  closing = closing;
  status_is = is;
  rest_is = ⊎_elim
      (λ of. inl (of.0, rw (← of.1) (front_of front.count line)))
      (λ of. inr (rw (← of) (front_of front.count line)))
      which;
}

-- ---- counts of the rig

-- a count goes on
risen_then : (a b c n : ℕ) → (b < 2 ^ 64 - 1 → a + n ≤ b) → min b (2 ^ 64 - 1) ≤ c → c < 2 ^ 64 - 1 → a + n ≤ c
risen_then a b c n risen later below = let mid : b < 2 ^ 64 - 1 = omega arith in omega (arith, risen mid)

-- or rises for one line more
risen_once : (a b c n : ℕ) → (b < 2 ^ 64 - 1 → a + n ≤ b) → Rose b c → c < 2 ^ 64 - 1 → a + (n + 1) ≤ c
risen_once a b c n risen rose below = let mid : b < 2 ^ 64 - 1 = omega arith in omega (arith, risen mid)

counts_one : (b yes_or_no : Bool) (n m : ℕ) → b ≡ yes_or_no → m ≡ n + (0 + cond b 1 0) → m ≡ n + cond yes_or_no 1 0
counts_one b yes_or_no n m is sum = sum ∙ ap (λ (c : Bool). n + (0 + cond c 1 0)) is ∙ omega arith

push_yes : (says : Said → Bool) (said : List Said) (one : Said) → says one ≡ true → count_by says (said ++ one ∷ []) ≡ count_by says said + 1
push_yes says said one is = counts_one (says one) true (count_by says said) (count_by says (said ++ one ∷ [])) is (sum_by-append (λ (x : Said). cond (says x) 1 0) said (one ∷ []))

push_no : (says : Said → Bool) (said : List Said) (one : Said) → says one ≡ false → count_by says (said ++ one ∷ []) ≡ count_by says said
push_no says said one is = counts_one (says one) false (count_by says said) (count_by says (said ++ one ∷ [])) is (sum_by-append (λ (x : Said). cond (says x) 1 0) said (one ∷ [])) ∙ omega arith

-- a line of three failed zero calls says that the rig failed, and not that the door was open
stuck_is_fault : (said : Said) → is_stuck said ≡ true → is_fault_line said ≡ true
stuck_is_fault (no_command number) is = cc
stuck_is_fault (replied id (answered a)) is = cc
stuck_is_fault (replied id not_at_zero) is = refl

stuck_is_no_door : (said : Said) → is_stuck said ≡ true → is_door_line said ≡ false
stuck_is_no_door (no_command number) is = cc
stuck_is_no_door (replied id (answered a)) is = cc
stuck_is_no_door (replied id not_at_zero) is = refl

-- what is so of the lines and of the rig at an exit, whatever is told
pub record Bare (began : StationState) (turns : List Turn) (s : StationState) (got got' : Option (List ℕ)) (status : ℕ) (rig : RigState) : Type 0 where
  pub said : List Said
  pub wrote : WroteLines got got' said status
  pub lines : LinesWithin said began.rig rig
  pub tells : StillTells began.rig rig
  pub order : IsInOrderOf began.program began.rig → InOrderAt began.program status rig
  pub tallies : (A : List StationRecord) → HasTallies began.program A s.records s.rig.tallies → HasTallies began.program A s.records rig.tallies
  pub done : IsTrue (is_done status) → (rig ≡ s.rig) × (said ≡ said_of turns)

-- such an end is not done
end_not_done : (closing : Closing) (status : ℕ) (P : Type 0) → status ≡ status_of closing → is_done (status_of closing) ≡ false → IsTrue (is_done status) → P
end_not_done closing status P is under_way rests = let says : is_done (status_of closing) ≡ true = subst (λ (n : ℕ). is_done n ≡ true) is rests in cc

write_not_done : (closing : Closing) → (closing ≡ write_fault) ⊎ (closing ≡ memory) → is_done (status_of closing) ≡ false
write_not_done closing why = ⊎_elim (λ w. ap (λ (x : Closing). is_done (status_of x)) w) (λ m. ap (λ (x : Closing). is_done (status_of x)) m) why

disk_not_done : (closing : Closing) → (closing ≡ disk_fault) ⊎ (closing ≡ memory) → is_done (status_of closing) ≡ false
disk_not_done closing why = ⊎_elim (λ d. ap (λ (x : Closing). is_done (status_of x)) d) (λ m. ap (λ (x : Closing). is_done (status_of x)) m) why

module _ (began : StationState) (turns : List Turn) (s : StationState) (got mid moments late : Option (List ℕ)) (so_far : SoFar began turns s got mid moments late) where
  -- the lines that were answered, and the rig as it is later
  within_later : (rig : RigState) → StaysOrKeeps s.rig rig → LinesWithin (said_of turns) began.rig rig
  within_later rig kept = lines_within (said_of turns) began.rig rig (grown_both began.rig s.rig rig (grown_all turns began s so_far.history) (grown_by s.rig rig kept))
      (λ below. risen_then began.rig.faults s.rig.faults rig.faults (fault_lines (said_of turns)) (faults_risen turns began s so_far.history) (omega (arith, faults_later s.rig rig kept)) below)
      (λ below. risen_then began.rig.opens s.rig.opens rig.opens (door_lines (said_of turns)) (opens_risen turns began s so_far.history) (opens_later s.rig rig kept) below)

  -- and one line more, of three failed zero calls
  within_stuck : (rig : RigState) (one : Said) → StaysOrKeeps s.rig rig → Rose s.rig.faults rig.faults → is_stuck one ≡ true → LinesWithin (said_of turns ++ one ∷ []) began.rig rig
  within_stuck rig one kept rose stuck = lines_within (said_of turns ++ one ∷ []) began.rig rig (grown_both began.rig s.rig rig (grown_all turns began s so_far.history) (grown_by s.rig rig kept))
      (λ below. subst (λ (n : ℕ). began.rig.faults + n ≤ rig.faults) (sym (push_yes is_fault_line (said_of turns) one (stuck_is_fault one stuck)))
      (risen_once began.rig.faults s.rig.faults rig.faults (fault_lines (said_of turns)) (faults_risen turns began s so_far.history) rose below))
      (λ below. subst (λ (n : ℕ). began.rig.opens + n ≤ rig.opens) (sym (push_no is_door_line (said_of turns) one (stuck_is_no_door one stuck)))
      (risen_then began.rig.opens s.rig.opens rig.opens (door_lines (said_of turns)) (opens_risen turns began s so_far.history) (opens_later s.rig rig kept) below))

  tells_later : (rig : RigState) → StaysOrKeeps s.rig rig → StillTells began.rig rig
  tells_later rig kept = still_tells began.rig rig (grown_both began.rig s.rig rig (grown_all turns began s so_far.history) (grown_by s.rig rig kept))

  -- ---- the order of high voltage

  order_now : IsInOrderOf began.program began.rig → IsInOrderOf began.program s.rig
  order_now was = order_all began.program turns began s refl so_far.history was

  order_later : (rig : RigState) → StaysInOrder s.program s.rig rig → IsInOrderOf began.program began.rig → IsInOrderOf began.program rig
  order_later rig stays was = stays_in_order began.program s.rig rig (subst (λ (p : Program). StaysInOrder p s.rig rig) (program_all turns began s so_far.history) stays) (order_now was)

  -- ---- the exits

  -- between two lines
  pub ran_between : (closing : Closing) (status : ℕ) (rig : RigState) (got' : Option (List ℕ)) → status ≡ status_of closing → (status ≡ 10 → ⊥) → rig ≡ s.rig → WritesFront (closing_line closing) mid got' → Bare began turns s got got' status rig
  ran_between closing status rig got' is not_ten same front = record {
    said = said_of turns;
    wrote = wrote_front got mid got' (said_of turns) (closing_line closing) status closing is so_far.wrote (inr refl) front;
    lines = within_later rig (inl same);
    tells = tells_later rig (inl same);
    order = λ was. record {
      at_zero = λ other. subst (λ (r : RigState). IsInOrderOf began.program r) (sym same) (order_now was);
      stuck = λ ten. absurd (not_ten ten);
    };
    tallies = λ A has. tallies_stay began.program A s.records s.rig rig (ap (λ (r : RigState). r.tallies) same) has;
    done = λ rests. (same, refl);
  }

  module _ (a : Asked) (status : ℕ) (rig : RigState) (disk : DiskState) (got' : Option (List ℕ)) (now : ℕ) (closing : Closing) (is : status ≡ status_of closing) where
    ran_unsaid : EndsUnsaid s a now closing rig disk mid got' → (status ≡ 10 → ⊥) → Bare began turns s got got' status rig
    ran_unsaid ends not_ten =
        let kept : StaysOrKeeps s.rig rig = subst (λ (r : RigState). StaysOrKeeps s.rig r) (sym ends.rig_is) ends.turn.rig.kept in
        let order : StaysInOrder s.program s.rig rig = subst (λ (r : RigState). StaysInOrder s.program s.rig r) (sym ends.rig_is) ends.turn.order in
        let goes : RigGoesOn s a now rig = subst (λ (r : RigState). RigGoesOn s a now r) (sym ends.rig_is) ends.turn.rig in
        record {
          said = said_of turns;
          wrote = wrote_front got mid got' (said_of turns) (said_line ends.said) status closing is so_far.wrote (inl (ends.said, refl)) ends.wrote;
          lines = within_later rig kept;
          tells = tells_later rig kept;
          order = λ was. record { at_zero = λ other. order_later rig order was; stuck = λ ten. absurd (not_ten ten) };
          tallies = λ A has. goes_on_tallies began.program A s a now rig goes has;
          done = λ rests. end_not_done closing status ((rig ≡ s.rig) × (said_of turns ≡ said_of turns)) is (write_not_done closing ends.why) rests;
        }

    ran_lost : EndsLost s a now closing rig disk mid got' → (status ≡ 10 → ⊥) → Bare began turns s got got' status rig
    ran_lost ends not_ten = record {
      said = said_of turns;
      wrote = wrote_front got mid got' (said_of turns) (closing_line closing) status closing is so_far.wrote (inr refl) ends.wrote;
      lines = within_later rig ends.rig_goes_on.kept;
      tells = tells_later rig ends.rig_goes_on.kept;
      order = λ was. record { at_zero = λ other. order_later rig ends.order was; stuck = λ ten. absurd (not_ten ten) };
      tallies = λ A has. goes_on_tallies began.program A s a now rig ends.rig_goes_on has;
      done = λ rests. end_not_done closing status ((rig ≡ s.rig) × (said_of turns ≡ said_of turns)) is (disk_not_done closing ends.why) rests;
    }

    stuck_order : EndsStuck s a now closing rig disk mid got' → status ≡ 10 → IsInOrderOf began.program began.rig → InOrderAt began.program status rig
    stuck_order ends ten was = record {
      at_zero = λ other. absurd (other ten);
      stuck = λ _. subst (λ (p : Program). IsStuckInOrder (programmed_of p.nets) (cluster_classes p) rig) (program_all turns began s so_far.history) ends.order;
    }

    ran_stuck : EndsStuck s a now closing rig disk mid got' → status ≡ 10 → Bare began turns s got got' status rig
    ran_stuck ends ten = ⊎_elim
        (λ whole. record {
          said = said_of turns ++ ends.said ∷ [];
          wrote = wrote_front got whole.0 got' (said_of turns ++ ends.said ∷ []) (closing_line three_failed) status three_failed (is ∙ ap status_of ends.why)
              (subst (λ (l : List ℕ). Appends got whole.0 l) (sym (written-push (said_of turns) ends.said)) (appends_and got mid whole.0 (all_written (said_of turns)) (written ends.said) so_far.wrote whole.1)) (inr refl) whole.2;
          lines = within_stuck rig ends.said ends.rig_goes_on.kept ends.rose ends.is;
          tells = tells_later rig ends.rig_goes_on.kept;
          order = λ was. stuck_order ends ten was;
          tallies = λ A has. goes_on_tallies began.program A s a now rig ends.rig_goes_on has;
          done = λ rests. end_not_done closing status ((rig ≡ s.rig) × (said_of turns ++ ends.said ∷ [] ≡ said_of turns)) is (ap (λ (x : Closing). is_done (status_of x)) ends.why) rests;
        })
        (λ part. record {
          said = said_of turns;
          wrote = wrote_front got mid got' (said_of turns) (said_line ends.said) status closing is so_far.wrote (inl (ends.said, refl)) part;
          lines = within_later rig ends.rig_goes_on.kept;
          tells = tells_later rig ends.rig_goes_on.kept;
          order = λ was. stuck_order ends ten was;
          tallies = λ A has. goes_on_tallies began.program A s a now rig ends.rig_goes_on has;
          done = λ rests. end_not_done closing status ((rig ≡ s.rig) × (said_of turns ≡ said_of turns)) is (ap (λ (x : Closing). is_done (status_of x)) ends.why) rests;
        })
        ends.wrote

  not_ten_by : (closing : Closing) (status : ℕ) → status ≡ status_of closing → (other : Closing) → closing ≡ other → (status_of other ≡ 10 → ⊥) → status ≡ 10 → ⊥
  not_ten_by closing status is other same not ten = not (sym (ap status_of same) ∙ sym is ∙ ten)

  -- in a line
  pub ran_within : (a : Asked) (status : ℕ) (rig : RigState) (disk : DiskState) (got' moments' : Option (List ℕ)) → EndsIn s a status rig disk mid got' late moments' → Bare began turns s got got' status rig
  ran_within a status rig disk got' moments' ends = ⊎_elim
      (λ unsaid. ran_unsaid a status rig disk got' ends.now ends.closing ends.status_is unsaid (⊎_elim
      (λ w. not_ten_by ends.closing status ends.status_is write_fault w (λ was. cc))
      (λ m. not_ten_by ends.closing status ends.status_is memory m (λ was. cc)) unsaid.why))
      (⊎_elim
      (λ lost. ran_lost a status rig disk got' ends.now ends.closing ends.status_is lost (⊎_elim
      (λ d. not_ten_by ends.closing status ends.status_is disk_fault d (λ was. cc))
      (λ m. not_ten_by ends.closing status ends.status_is memory m (λ was. cc)) lost.why))
      (λ stuck. ran_stuck a status rig disk got' ends.now ends.closing ends.status_is stuck (ends.status_is ∙ ap status_of stuck.why)))
      ends.how

  -- all that is promised, with what is left on the disk
  pub ran_all : (status : ℕ) (rig : RigState) (disk : DiskState) (got' : Option (List ℕ)) → Bare began turns s got got' status rig → (Tells began.disk → KeepsAt began s status rig disk) → ScriptRan began got got' status rig disk
  ran_all status rig disk got' bare kept = record {
    said = bare.said;
    wrote = bare.wrote;
    lines = bare.lines;
    tells = bare.tells;
    order = bare.order;
    keeps = λ tells. (kept tells).keeps;
    tests = λ tells.
        let at = kept tells in
        subst (λ (R : List StationRecord). TestsShown began.program began.rig rig began.records R at.keeps.later disk bare.said status) (sym at.is)
        (tests_shown began s turns rig bare.said status at.keeps.later disk (program_all turns began s so_far.history) at.under tells so_far.history bare.tallies bare.done);
  }
