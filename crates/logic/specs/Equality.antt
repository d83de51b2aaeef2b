-- Nothing in this file has to be believed: the type of each function says what it decides. Equality of signs, links, arrows, atoms and
-- clauses; an enum's through the number of its case.
use Rattle.std.specs.Prelude.{ℕ, zero, suc, ◌≡◌, refl}
use mathlib.Core.List.{[], ◌∷◌, nil≢cons, cons≢nil, head-eq_of_cons-eq, tail-eq_of_cons-eq}
use Rattle.std.proofs.Math.Path.{Path}
use Rattle.std.proofs.Common.{sym, ap, ap₂, ◌∙◌}
use Rattle.std.proofs.Math.Decide.{ℕ_discrete}
use Rattle.logic.specs.declared.Sign.{Sign}
use Rattle.logic.specs.declared.Sign.TheVariants.{Positive, Negative}
use Rattle.logic.specs.declared.Link.{Link}
use Rattle.logic.specs.declared.Link.TheVariants.{Eq, Mem, Sub}
use Rattle.logic.specs.declared.Arrow.{Arrow}
use Rattle.logic.specs.declared.Arrow.TheVariants.{Sv, Si, Mv, Mi, St, Mt}
use Rattle.logic.specs.Syntax.{Term, Term-discrete, Terms, Terms-discrete, Result-discrete}
use Rattle.logic.specs.Syntax.{Part, Part-discrete, Parts, Parts-discrete, Atom, Atom-discrete, Literal, Literal-discrete, Clause}
use Rattle.logic.specs.Rules.{Call, Call-discrete}

unfoldable pub sign_number : Sign → ℕ
sign_number Positive = 0
sign_number Negative = 1

unfoldable pub nth_sign : ℕ → Sign
nth_sign zero = Positive
nth_sign (suc n) = Negative

unfoldable pub link_number : Link → ℕ
link_number Eq = 0
link_number Mem = 1
link_number Sub = 2

unfoldable pub nth_link : ℕ → Link
nth_link zero = Eq
nth_link (suc zero) = Mem
nth_link (suc (suc n)) = Sub

unfoldable pub arrow_number : Arrow → ℕ
arrow_number Sv = 0
arrow_number Si = 1
arrow_number Mv = 2
arrow_number Mi = 3
arrow_number St = 4
arrow_number Mt = 5

unfoldable pub nth_arrow : ℕ → Arrow
nth_arrow zero = Sv
nth_arrow (suc zero) = Si
nth_arrow (suc (suc zero)) = Mv
nth_arrow (suc (suc (suc zero))) = Mi
nth_arrow (suc (suc (suc (suc zero)))) = St
nth_arrow (suc (suc (suc (suc (suc n))))) = Mt

-- A type whose cases are numbered, and found again by their number, has decided equality.
unfoldable pub by_number : {A : Type 0} (f : A → ℕ) (g : ℕ → A) → ((a : A) → g (f a) ≡ a) → (a b : A) → Dec (f a ≡ f b) → Dec (a ≡ b)
by_number f g back a b (yes e) = yes (sym (back a) ∙ (ap g e ∙ back b))
by_number f g back a b (no n) = no (λ e. n (ap f e))

pub sign_back : (s : Sign) → nth_sign (sign_number s) ≡ s
unfolding nth_sign sign_number
sign_back Positive = refl
sign_back Negative = refl

pub link_back : (l : Link) → nth_link (link_number l) ≡ l
unfolding nth_link link_number
link_back Eq = refl
link_back Mem = refl
link_back Sub = refl

pub arrow_back : (a : Arrow) → nth_arrow (arrow_number a) ≡ a
unfolding nth_arrow arrow_number
arrow_back Sv = refl
arrow_back Si = refl
arrow_back Mv = refl
arrow_back Mi = refl
arrow_back St = refl
arrow_back Mt = refl

unfoldable pub sign? : (a b : Sign) → Dec (a ≡ b)
sign? a b = by_number sign_number nth_sign (λ s. sign_back s) a b (ℕ_discrete (sign_number a) (sign_number b))

unfoldable pub link? : (a b : Link) → Dec (a ≡ b)
link? a b = by_number link_number nth_link (λ l. link_back l) a b (ℕ_discrete (link_number a) (link_number b))

unfoldable pub arrow? : (a b : Arrow) → Dec (a ≡ b)
arrow? a b = by_number arrow_number nth_arrow (λ l. arrow_back l) a b (ℕ_discrete (arrow_number a) (arrow_number b))

unfoldable pub term? : (t u : Term) → Dec (t ≡ u)
term? = Term-discrete ℕ_discrete

unfoldable pub terms? : (ts us : Terms) → Dec (ts ≡ us)
terms? = Terms-discrete ℕ_discrete

unfoldable pub part? : (p q : Part) → Dec (p ≡ q)
part? = Part-discrete arrow? term? terms? (Result-discrete term?)

unfoldable pub parts? : (ps qs : Parts) → Dec (ps ≡ qs)
parts? = Parts-discrete part?

unfoldable pub atom? : (x y : Atom) → Dec (x ≡ y)
atom? = Atom-discrete link? term? parts?

unfoldable pub call? : (x y : Call) → Dec (x ≡ y)
call? = Call-discrete arrow? term? terms?

unfoldable pub literal? : (l m : Literal) → Dec (l ≡ m)
literal? = Literal-discrete sign? atom?

unfoldable pub cons_same : {l m : Literal} {c d : Clause} → Dec (l ≡ m) → Dec (c ≡ d) → Dec (Path Clause (l ∷ c) (m ∷ d))
cons_same (yes e) (yes f) = yes (ap₂ ◌∷◌ e f)
cons_same (yes e) (no f) = no (λ h. f (tail-eq_of_cons-eq h))
cons_same (no e) f = no (λ h. e (head-eq_of_cons-eq h))

unfoldable pub clause? : (c d : Clause) → Dec (c ≡ d)
clause? [] [] = yes refl
clause? [] (m ∷ d) = no nil≢cons
clause? (l ∷ c) [] = no cons≢nil
clause? (l ∷ c) (m ∷ d) = cons_same (literal? l m) (clause? c d)
