-- The nets of a unit in pieces, and its diagnosis from these.
--     AreMeetings nets own pieces        the pieces are the non-empty meetings of the nets and the classes of the unit
--     OfTheUnit state nets P             what an honest rig's unit has, if it tells the unit
--     ArePieces state nets pieces        the nets are parted as far as the readings tell
--     most_placing, IsWithinPlacing      how many readings that takes
--     IsDiagnosed old new nets n classes   what a diagnosis has gone through, and how many readings it took
-- Below, `nets` is the partition whose classes are the nets, and the number of classes of a partition is that of its heads.
use Rattle.std.specs.Prelude.{◌≡◌, ◌↔◌, ◌≤◌, ◌+◌, ◌-◌, ◌*◌, ◌==◌, ℕ, Bool, List, length, All, IsTrue, IsSome, IfSome}
use Rattle.partition.specs.Classes.{Same, class_at, judged_in}
use Rattle.partition.specs.Digits.{digits_of}
use Rattle.partition.specs.Heads.{heads}
use Rattle.partition.specs.Partitions.{HasClass, IsOver, JoinsAllOf}
use Rattle.rig.specs.Joins.{truth_of}
use Rattle.rig.specs.RigState.{RigState}
use Rattle.rig.specs.States.{IsOfRig}
use Rattle.rig.specs.Trail.{Agrees, Forces, ReadsAmong}
use Rattle.isolate.specs.Merges.{most_merging}

-- two points are in one piece exactly where they are in one net and in one class
pub record AreMeetings (nets own pieces : List ℕ) : Type 0 where
  pub over : IsOver nets pieces
  pub met : (a b : ℕ) → HasClass pieces a → HasClass pieces b → Same pieces a b ↔ (Same nets a b × Same own a b)

-- Where an honest rig tells the unit and its trail, and only points of the nets were read, it holds of the unit's own partition, cut down to the
-- points that count.
abbrev pub OfTheUnit : RigState → List ℕ → (List ℕ → Type 0) → Type 0
OfTheUnit state nets P =
    IsTrue state.honest → IsSome state.trail → IfSome state.trail (All (ReadsAmong nets))
    → IfSome state.truth (λ rows. P (truth_of rows (judged_in nets) state.points))

-- A piece has points of one net alone. Every agreeing partition joins the points of a piece, and none joins points of two pieces of one net.
pub record ArePieces (state : RigState) (nets pieces : List ℕ) : Type 0 where
  pub of_rig : IsOfRig state pieces
  pub nets_of_rig : IsOfRig state nets
  pub over : IsOver nets pieces
  pub of_nets : JoinsAllOf nets pieces
  pub joined : Forces state pieces
  pub apart : (other : List ℕ) → IsOver pieces other → Agrees state other → (a b : ℕ) → HasClass pieces a → HasClass pieces b → Same nets a b
      → Same other a b → Same pieces a b

-- whether a point is in the net of p
abbrev pub is_of_net : List ℕ → ℕ → ℕ → Bool
is_of_net nets p q = class_at nets q == class_at nets p

-- the most readings that n points of k nets in so many pieces take: one for each point after the first of its net, and for each that is no head of a
-- piece the search of its piece
abbrev pub most_placing : ℕ → ℕ → ℕ → ℕ
most_placing n k pieces = (n - k) + (n - pieces) * digits_of (pieces - k)

-- no more readings were made than some number of pieces takes
pub record IsWithinPlacing (old new : RigState) (n k : ℕ) : Type 0 where
  pub pieces : ℕ
  pub some : k ≤ pieces
  pub few : pieces ≤ n
  pub at_most : new.spent ≤ old.spent + most_placing n k pieces

-- the most readings that n points of k nets, in so many pieces and t classes, take
abbrev pub most_diagnosing : ℕ → ℕ → ℕ → ℕ → ℕ
most_diagnosing n k pieces t = most_placing n k pieces + most_merging pieces (pieces - t)

-- no more readings were made than some numbers of pieces and classes take
pub record IsWithinDiagnosing (old new : RigState) (n k : ℕ) : Type 0 where
  pub pieces : ℕ
  pub classes : ℕ
  pub some : k ≤ pieces
  pub few : pieces ≤ n
  pub fewer : classes ≤ pieces
  pub at_most : new.spent ≤ old.spent + most_diagnosing n k pieces classes

-- The n points were parted into pieces, each of one net and of one class, and the readings are as many as these take. Of an honest rig's unit the
-- pieces are the meetings of its nets and its classes.
pub record IsDiagnosed (old new : RigState) (nets : List ℕ) (n : ℕ) (classes : List ℕ) : Type 0 where
  pub pieces : List ℕ
  pub over : IsOver nets pieces
  pub of_nets : JoinsAllOf nets pieces
  pub of_classes : JoinsAllOf classes pieces
  pub some : length (heads nets) ≤ length (heads pieces)
  pub few : length (heads pieces) ≤ n
  pub at_most : new.spent ≤ old.spent + most_diagnosing n (length (heads nets)) (length (heads pieces)) (length (heads classes))
  pub own : OfTheUnit new nets (λ own. (classes ≡ own) × AreMeetings nets own pieces)
