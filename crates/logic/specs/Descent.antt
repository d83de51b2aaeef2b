-- Which clauses a clause descends from (V30).
use Rattle.std.specs.Prelude.{ℕ, zero, suc, ◌+◌, ◌<◌, Bool, false, cond, ◌||◌, List, [], ◌∷◌, ◌++◌, ◌⊎◌, ◌↔◌, ◌≡◌, eqb, drop}
use Rattle.logic.specs.Syntax.{Step}
use Rattle.logic.specs.Rules.{uses}

-- A number is one of a list.
unfoldable pub Member : ℕ → List ℕ → Type 0
Member n [] = ⊥
Member n (m ∷ ns) = (n ≡ m) ⊎ Member n ns

-- The same as a test.
unfoldable pub among : ℕ → List ℕ → Bool
among n [] = false
among n (m ∷ ns) = eqb n m || among n ns

-- R6, V30: the numbers of the parents that a step uses.
unfoldable pub used_parents : Step → List ℕ
used_parents s = cond (uses s.rule).a (s.a ∷ []) [] ++ cond (uses s.rule).b (s.b ∷ []) []

-- V30: "A clause descends from itself, and the clause of a step descends from what a used parent (R6) of the step descends from." Clauses
-- are numbered (T17): first the inputs, so many, then the claims of the steps.
pub data Descends (inputs : ℕ) (ss : List Step) : ℕ → ℕ → Type 0 where
  itself : {n : ℕ} → Descends inputs ss n n
  through : (k : ℕ) {p n : ℕ} {s : Step} {later : List Step} → drop k ss ≡ s ∷ later → Member p (used_parents s) →
      Descends inputs ss p n → Descends inputs ss (inputs + k) n

-- V30, "rising, each once": each number is below those after it.
unfoldable pub Rising : List ℕ → Type 0
Rising [] = Unit
Rising (n ∷ ns) = ((m : ℕ) → Member m ns → n < m) × Rising ns

-- V30: the numbers of "the input clauses from which" a clause descends, "rising, each once".
pub record RestsOn (inputs : ℕ) (ss : List Step) (first : ℕ) (ns : List ℕ) : Type 0 where
  pub rising : Rising ns
  pub exactly : (n : ℕ) → Member n ns ↔ ((n < inputs) × Descends inputs ss first n)

-- V30: the numbers below n that pass a test, rising.
unfoldable pub numbers_below : ℕ → (ℕ → Bool) → List ℕ
numbers_below zero test = []
numbers_below (suc n) test = numbers_below n test ++ cond (test n) (n ∷ []) []
