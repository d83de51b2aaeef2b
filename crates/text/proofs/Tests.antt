-- Tests as facts.
use mathlib.Core.Path.{◌≡◌, refl}
use mathlib.Core.Bool.{Bool, true, false, not, cond, ◌&&◌}
use mathlib.Core.Logic.{◌↔◌}
use lib.Dec.{T}

pub T_and : (a b : Bool) → T (a && b) ↔ T a × T b
T_and true b = (λ t. (tt, t), λ t. t.1)
T_and false b = (λ t. absurd t, λ t. t.0)

pub holds : (b : Bool) → T b → b ≡ true
holds true t = refl
holds false t = absurd t

-- Two tests that hold alike are equal.
pub same_test : (a b : Bool) → (T a → T b) → (T b → T a) → a ≡ b
same_test true true f g = refl
same_test true false f g = absurd (f tt)
same_test false true f g = absurd (g tt)
same_test false false f g = refl

-- By cases of a test.
pub on_test : {A : Type 0} (P : A → Type 0) (b : Bool) {x y : A} → (T b → P x) → (T (not b) → P y) → P (cond b x y)
on_test P true f g = f tt
on_test P false f g = g tt
