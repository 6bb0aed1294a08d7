-- Connections, one more behind the others.
use Rattle.std.proofs.Common.{◌≡◌, sym, refl, subst, arith, ℕ, ◌+◌, List, [], ◌∷◌, ◌++◌, length}
use Rattle.serving.specs.Visits.{Stage, IsVisited, Visits, last_stage}

pub last-more : (first : Stage) (stages : List Stage) (next : Stage) → last_stage first (stages ++ next ∷ []) ≡ next
last-more first [] next = refl
last-more first (s ∷ stages) next = last-more s stages next

visits-from : (number place : ℕ) (first : Stage) (stages : List Stage) (next : Stage) → Visits number first stages → place ≡ number + length stages
    → IsVisited place (last_stage first stages) next → Visits number first (stages ++ next ∷ [])
visits-from number place first [] next visits e visit =
    let same : place ≡ number = omega (arith, e) in (subst (λ (n : ℕ). IsVisited n first next) same visit, tt)
visits-from number place first (s ∷ stages) next visits e visit =
    (visits.0, visits-from (number + 1) place s stages next visits.1 (omega (arith, e)) visit)

-- one connection more
pub visits-more : (first current : Stage) (stages : List Stage) (next : Stage) (place : ℕ) → Visits 1 first stages → last_stage first stages ≡ current → place ≡ length stages + 1
    → IsVisited place current next → Visits 1 first (stages ++ next ∷ [])
visits-more first current stages next place visits last e visit =
    visits-from 1 place first stages next visits (omega (arith, e)) (subst (λ (s : Stage). IsVisited place s next) (sym last) visit)
