-- What is so after some lines were answered, where findings, disk, output and clock tell what they do.
use Rattle.std.proofs.Common.{◌≡◌, ⊎_elim, ℕ, List, [], ◌∷◌, ◌++◌, Option, Some, None, refl, sym, ◌∙◌, subst}
use Rattle.std.specs.Prelude.{IfSome}
use Rattle.bench_edge.specs.Clocks.{first_moment, later_moments}
use Rattle.disk_edge.specs.Disk.{DiskState, LeavesOnly}
use Rattle.disk_edge.proofs.Moments.{weaker, and_then, none_images}
use Rattle.wirelist.specs.declared.program.Program.{Program}
use Rattle.records.specs.declared.record.StationRecord.{StationRecord}
use Rattle.ledger.specs.Kept.{IsImageOfEither}
use Rattle.unit_outcome.specs.Found.{Findings, told_by}
use Rattle.station.specs.View.{StationState, IsTold}
use Rattle.script.specs.Said.{Asked, Said}
use Rattle.script.specs.After.{Answers, After}
use Rattle.script.specs.Scene.{Scene, IsScene}
use Rattle.script.specs.Growth.{IsPrefix, IsGrown, KeepsBetween}
use Rattle.script.specs.Turns.{Steps, IsTurn}
use Rattle.script.specs.Headline.{NoneStuck}
use Rattle.script.proofs.disk.Growing.{grown_none, grown_and, grown_answer, prefix_grown, prefix_and, prefix_self}
use Rattle.script.proofs.answers.Written.{appended, ticked}
use Rattle.script.proofs.answers.History.{Turn, asked_of, said_of, all_written, IsHistory, TicksAll, SoFar}

-- the moments after these were said
abbrev pub moments_behind : List Said → List ℕ → List ℕ
moments_behind [] moments = moments
moments_behind (said ∷ more) moments = moments_behind more (later_moments moments)

-- a turn leaves what is told
pub told_after : (findings : Findings) (s t : StationState) (asked : Asked) (now : ℕ) (said : Said) → IsTold s findings → IsTurn s asked now said t → IsTold t findings
told_after findings s t asked now said told turn = record { disk = turn.disk.limit.tells ∙ told.disk; findings_are = turn.same.told ∙ told.findings_are }

-- what the rig tells is what was found
told_is : (o : Option Findings) (f g : Findings) → IfSome o (λ told. f ≡ told) → o ≡ Some g → f ≡ g
told_is None f g is some = cc
told_is (Some h) f g is some = let same : h ≡ g = cc in is ∙ same

pub step_of : (findings : Findings) (old : StationState) (asked : Asked) (now : ℕ) (said : Said) (later : List StationRecord) (disk : DiskState) → IsTold old findings → Steps old asked now said later disk → Answers findings old.program old.records asked now said later
step_of findings old asked now said later disk told steps =
    subst (λ (f : Findings). Answers f old.program old.records asked now said later) (told_is (told_by old.program old.rig) steps.findings findings steps.told told.findings_are) steps.step

-- what a command leaves, and what is left behind it, as seen from the records before it
pub one_between : (a b c : List StationRecord) → IsPrefix a b → IsPrefix b c → (image : List ℕ) → IsImageOfEither a b image → KeepsBetween a c image
one_between a b c first second image kept = ⊎_elim
    (λ before. record { R = a; from = prefix_self a; to = prefix_and a b c first second; keeps = before })
    (λ after. record { R = b; from = first; to = second; keeps = after })
    kept

-- What the lines that were answered made of all that is told.
pub record Told (findings : Findings) (p : Program) (asked : List Asked) (said : List Said) (s t : StationState) (moments : List ℕ) (moments' : Option (List ℕ)) : Type 0 where
  pub after : After findings p s.records asked moments said t.records
  pub at_zero : NoneStuck said
  pub program : t.program ≡ p
  pub told : IsTold t findings
  pub moments_are : moments' ≡ Some (moments_behind said moments)
  pub grown : IsGrown findings s.records t.records
  pub images : LeavesOnly s.disk t.disk (KeepsBetween s.records t.records)

nothing_told : (findings : Findings) (p : Program) (s t : StationState) (moments : List ℕ) (moments' : Option (List ℕ)) → t ≡ s → s.program ≡ p → IsTold s findings → moments' ≡ Some moments → Told findings p [] [] s t moments moments'
nothing_told findings p s t moments moments' is program told moments_are = subst (λ (x : StationState). Told findings p [] [] s x moments moments') (sym is) (record {
  after = refl;
  at_zero = tt;
  program = program;
  told = told;
  moments_are = moments_are;
  grown = grown_none findings s.records;
  images = none_images s.disk (KeepsBetween s.records s.records);
})

told_more : (findings : Findings) (p : Program) (turn : Turn) (asked : List Asked) (said : List Said) (s t : StationState) (moments : List ℕ) (moments' : Option (List ℕ))
    → IsTurn s turn.asked turn.now turn.said turn.after → s.program ≡ p → IsTold s findings → turn.now ≡ first_moment moments
    → Told findings p asked said turn.after t (later_moments moments) moments' → Told findings p (turn.asked ∷ asked) (turn.said ∷ said) s t moments moments'
told_more findings p turn asked said s t moments moments' one program told now more =
    let step : Answers findings p s.records turn.asked (first_moment moments) turn.said turn.after.records =
    subst (λ (n : ℕ). Answers findings p s.records turn.asked n turn.said turn.after.records) now
    (subst (λ (q : Program). Answers findings q s.records turn.asked turn.now turn.said turn.after.records) program (step_of findings s turn.asked turn.now turn.said turn.after.records turn.after.disk told (one.step told.disk))) in
    let grown = grown_answer findings p s.records turn.asked (first_moment moments) turn.said turn.after.records step in
    let first = prefix_grown findings s.records turn.after.records grown in
    let second = prefix_grown findings turn.after.records t.records more.grown in
    record {
      after = (turn.after.records, step, more.after);
      at_zero = (one.at_zero, more.at_zero);
      program = more.program;
      told = more.told;
      moments_are = more.moments_are;
      grown = grown_and findings s.records turn.after.records t.records grown more.grown;
      images = and_then s.disk turn.after.disk t.disk (KeepsBetween s.records t.records)
          (weaker s.disk turn.after.disk (IsImageOfEither s.records turn.after.records) (KeepsBetween s.records t.records) (λ honest tells image kept. one_between s.records turn.after.records t.records first second image kept) (one.step told.disk).images)
          (weaker turn.after.disk t.disk (KeepsBetween turn.after.records t.records) (KeepsBetween s.records t.records)
          (λ honest tells image kept. record { R = kept.R; from = prefix_and s.records turn.after.records kept.R first kept.from; to = kept.to; keeps = kept.keeps }) more.images);
    }

told_all : (findings : Findings) (p : Program) (turns : List Turn) (s t : StationState) (moments : List ℕ) (old new : Option (List ℕ))
    → IsHistory s turns t → TicksAll old turns new → old ≡ Some moments → s.program ≡ p → IsTold s findings → Told findings p (asked_of turns) (said_of turns) s t moments new
told_all findings p [] s t moments old new is ticks told_moments program told = nothing_told findings p s t moments new is program told (ticks ∙ told_moments)
told_all findings p (turn ∷ turns) s t moments old new (one, history) (mid, tick, ticks) told_moments program told =
    let now = ticked old mid turn.now moments told_moments tick in
    told_more findings p turn (asked_of turns) (said_of turns) s t moments new one program told now.0
    (told_all findings p turns turn.after t (later_moments moments) mid new history ticks now.1 (one.same.program ∙ program) (told_after findings s turn.after turn.asked turn.now turn.said told one))

-- the same of what was written so far
pub told_so_far : (scene : Scene) (began : StationState) (turns : List Turn) (s : StationState) (got got' moments moments' : Option (List ℕ))
    → SoFar began turns s got got' moments moments' → IsScene began got moments scene
    → Told scene.findings began.program (asked_of turns) (said_of turns) began s scene.moments moments' × (got' ≡ Some (scene.got ++ all_written (said_of turns)))
told_so_far scene began turns s got got' moments moments' so_far is_scene = (
  told_all scene.findings began.program turns began s scene.moments moments moments' so_far.history so_far.ticked is_scene.moments_are refl is_scene.station,
  appended got got' scene.got (all_written (said_of turns)) is_scene.got_is so_far.wrote,
)
