-- Descent as a function. Nothing here has to be believed: `rests_exactly` (proofs/Descending) says that it gives what is meant (RestsOn).
use Rattle.std.specs.Prelude.{ℕ, suc, ◌<◌, cond, List, [], ◌∷◌, ◌++◌}
use Rattle.logic.specs.Syntax.{Step}
use Rattle.logic.specs.Descent.{Member, among, used_parents, numbers_below}

-- The used parents of each step are below its own number.
unfoldable pub ParentsFall : ℕ → List Step → Type 0
ParentsFall n [] = Unit
ParentsFall n (s ∷ ss) = ((p : ℕ) → Member p (used_parents s) → p < n) × ParentsFall (suc n) ss

-- The clauses that are reached from some, the last step first; n is the number of the first step's claim.
unfoldable pub reached : ℕ → List Step → List ℕ → List ℕ
reached n [] from = from
reached n (s ∷ ss) from =
    let later = reached (suc n) ss from in
    cond (among n later) (used_parents s ++ later) later

-- The numbers of the inputs from which a clause descends.
unfoldable pub rests_on : ℕ → List Step → ℕ → List ℕ
rests_on inputs ss first = numbers_below inputs (λ n. among n (reached inputs ss (first ∷ [])))
