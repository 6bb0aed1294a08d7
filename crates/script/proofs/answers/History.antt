-- The lines that were answered, one after another.
use Rattle.std.proofs.Common.{◌≡◌, ℕ, List, [], ◌∷◌, ◌++◌, Option, refl, sym, ◌∙◌, ap, subst, append-nil, append_assoc}
use Rattle.std.specs.Prelude.{map, flat_map}
use Rattle.std.specs.Io.KnownBytes.{Appends}
use Rattle.bench_edge.specs.Clocks.{Ticks}
use Rattle.station.specs.View.{StationState}
use Rattle.script.specs.Said.{Asked, Said, written}
use Rattle.script.specs.Turns.{IsTurn, IsAnswered}
use Rattle.script.proofs.answers.Written.{appends_nothing, appends_and}

-- a line that was answered: what it asked, when, what was said to it, and the station behind it
pub record Turn : Type 0 where
  pub asked : Asked
  pub now : ℕ
  pub said : Said
  pub after : StationState

abbrev pub asked_of : List Turn → List Asked
asked_of turns = map (λ (t : Turn). t.asked) turns

abbrev pub said_of : List Turn → List Said
said_of turns = map (λ (t : Turn). t.said) turns

-- what was written
abbrev pub all_written : List Said → List ℕ
all_written said = flat_map written said

-- each turn was made of the station that the one before it left
abbrev pub IsHistory : StationState → List Turn → StationState → Type 0
IsHistory s [] t = t ≡ s
IsHistory s (turn ∷ more) t = IsTurn s turn.asked turn.now turn.said turn.after × IsHistory turn.after more t

-- the clock was asked once a turn
abbrev pub TicksAll : Option (List ℕ) → List Turn → Option (List ℕ) → Type 0
TicksAll moments [] moments' = moments' ≡ moments
TicksAll moments (turn ∷ more) moments' = (mid : Option (List ℕ)) × Ticks moments mid turn.now × TicksAll mid more moments'

-- What is so after some lines were answered, whatever is told.
pub record SoFar (began : StationState) (turns : List Turn) (s : StationState) (got got' moments moments' : Option (List ℕ)) : Type 0 where
  pub history : IsHistory began turns s
  pub wrote : Appends got got' (all_written (said_of turns))
  pub ticked : TicksAll moments turns moments'

pub starts : (began : StationState) (got moments : Option (List ℕ)) → SoFar began [] began got got moments moments
starts began got moments = record { history = refl; wrote = appends_nothing got; ticked = refl }

history_push : (turns : List Turn) (s mid : StationState) (turn : Turn) → IsHistory s turns mid → IsTurn mid turn.asked turn.now turn.said turn.after → IsHistory s (turns ++ turn ∷ []) turn.after
history_push [] s mid turn is one = (subst (λ (x : StationState). IsTurn x turn.asked turn.now turn.said turn.after) is one, refl)
history_push (t ∷ turns) s mid turn (first, more) one = (first, history_push turns t.after mid turn more one)

ticks_push : (turns : List Turn) (moments mid last : Option (List ℕ)) (turn : Turn) → TicksAll moments turns mid → Ticks mid last turn.now → TicksAll moments (turns ++ turn ∷ []) last
ticks_push [] moments mid last turn is one = (last, subst (λ (m : Option (List ℕ)). Ticks m last turn.now) is one, refl)
ticks_push (t ∷ turns) moments mid last turn (next, first, more) one = (next, first, ticks_push turns next mid last turn more one)

pub written-push : (said : List Said) (one : Said) → all_written (said ++ one ∷ []) ≡ all_written said ++ written one
written-push [] one = append-nil (written one)
written-push (s ∷ said) one = ap (λ (l : List ℕ). written s ++ l) (written-push said one) ∙ sym (append_assoc (written s) (all_written said) (written one))

said-push : (turns : List Turn) (turn : Turn) → said_of (turns ++ turn ∷ []) ≡ said_of turns ++ turn.said ∷ []
said-push [] turn = refl
said-push (t ∷ turns) turn = ap (λ (l : List Said). t.said ∷ l) (said-push turns turn)

pub asked-push : (turns : List Turn) (turn : Turn) → asked_of (turns ++ turn ∷ []) ≡ asked_of turns ++ turn.asked ∷ []
asked-push [] turn = refl
asked-push (t ∷ turns) turn = ap (λ (l : List Asked). t.asked ∷ l) (asked-push turns turn)

-- the turn that a line was answered by
abbrev pub turn_of : {old : StationState} {asked : Asked} {new : StationState} {got got' moments moments' : Option (List ℕ)} → IsAnswered old asked new got got' moments moments' → Turn
turn_of {asked = asked} {new = new} answered = record { asked = asked; now = answered.now; said = answered.said; after = new }

-- one line more
pub goes_further : (began : StationState) (turns : List Turn) (s new : StationState) (asked : Asked) (got mid got' moments late moments' : Option (List ℕ)) → SoFar began turns s got mid moments late
    → (answered : IsAnswered s asked new mid got' late moments') → SoFar began (turns ++ turn_of answered ∷ []) new got got' moments moments'
goes_further began turns s new asked got mid got' moments late moments' so_far answered =
    let turn : Turn = turn_of answered in
    let all : all_written (said_of (turns ++ turn ∷ [])) ≡ all_written (said_of turns) ++ written turn.said = ap all_written (said-push turns turn) ∙ written-push (said_of turns) turn.said in
    record {
      history = history_push turns began s turn so_far.history answered.turn;
      wrote = subst (λ (l : List ℕ). Appends got got' l) (sym all) (appends_and got mid got' (all_written (said_of turns)) (written turn.said) so_far.wrote answered.wrote);
      ticked = ticks_push turns moments late moments' turn so_far.ticked answered.ticks;
    }
