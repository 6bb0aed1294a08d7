-- Readings that force these joins and tell the heads apart determine the partition.
use Rattle.std.proofs.Common.{◌≡◌, ℕ, List, length, sym, ◌∙◌, ap}
use Rattle.std.specs.Prelude.{Contains}
use Rattle.partition.specs.Classes.{Same, class_at}
use Rattle.partition.specs.Partitions.{HasClass, IsClassing, IsOver, JoinsAllOf}
use Rattle.partition.specs.Heads.{heads}
use Rattle.partition.proofs.classes.HeadLemmas.{heads_below-has}
use Rattle.partition.proofs.classes.JudgedPartition.{class-has_class, class-inside, same_classing}
use Rattle.rig.specs.RigState.{RigState}
use Rattle.rig.specs.Trail.{Agrees, Forces, Determines}
use Rattle.learn.specs.Groups.{IsPossible}
use Rattle.learn.proofs.Possible.{IsPossible-over}

-- what joins each point that counts with its head joins all
pub forced : (state : RigState) (classes : List ℕ) → ((other : List ℕ) → IsOver classes other → Agrees state other → (p : ℕ) → HasClass classes p
    → Same other (class_at classes p) p) → Forces state classes
forced state classes known other over agrees a b in_a in_b same =
    sym (known other over agrees a in_a) ∙ ap (class_at other) same ∙ known other over agrees b in_b

-- two heads that count and are joined are one
abbrev pub HeadsApart : RigState → List ℕ → Type 0
HeadsApart state list = (other : List ℕ) → IsPossible state other → (a b : ℕ) → HasClass other a → Contains list a → Contains list b → Same other a b → a ≡ b

pub determined : (state : RigState) (classes : List ℕ) → length classes ≡ state.points → IsClassing classes → Forces state classes
    → HeadsApart state (heads classes) → Determines state classes
determined state classes points part forces apart other over agrees =
    let forced_here = forces other over agrees in
    let joined : JoinsAllOf classes other = λ a b in_a in_b same.
    let has_a = (over.judged a).0 in_a in
    let has_b = (over.judged b).0 in_b in
    let head_has_a = class-has_class classes a part has_a in
    let head_has_b = class-has_class classes b part has_b in
    let head_a = forced_here (class_at classes a) a head_has_a has_a (part.own a has_a) in
    let head_b = forced_here (class_at classes b) b head_has_b has_b (part.own b has_b) in
    apart other (IsPossible-over points over agrees) (class_at classes a) (class_at classes b) ((over.judged (class_at classes a)).1 head_has_a)
    (heads_below-has classes (length classes) (class_at classes a) (class-inside classes (class_at classes a) head_has_a) (part.own a has_a))
    (heads_below-has classes (length classes) (class_at classes b) (class-inside classes (class_at classes b) head_has_b) (part.own b has_b))
    (head_a ∙ same ∙ sym head_b) in
    same_classing other classes agrees.partition part over forced_here joined
