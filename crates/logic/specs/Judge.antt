-- Nothing in this file has to be believed: the rule table as a function, and checks 7 to 11 computed by it. That they are computed right is
-- proved: `passed_exactly` and `failed_exactly` (proofs/Steps), over `infers→concludes` and `concludes→infers` (proofs/Table).
use Rattle.std.specs.Prelude.{ℕ, zero, suc, Bool, cond, List, [], ◌∷◌, ◌++◌, ◌⊎◌, eqb, Ok, Err}
use Rattle.std.proofs.Common.{inl, inr, ⊎_elim}
use Rattle.std.proofs.Math.Logic.{ite}
use Rattle.logic.specs.declared.Sign.TheVariants.{Positive, Negative}
use Rattle.logic.specs.declared.Link.{Link}
use Rattle.logic.specs.declared.Link.TheVariants.{Eq, Mem, Sub}
use Rattle.logic.specs.declared.Arrow.{Arrow}
use Rattle.logic.specs.declared.Rule.{Rule}
use Rattle.logic.specs.declared.Rule.TheVariants.{Refl, Res, Fac, Par, Acy, Tra, Inc, Inh, Inp, Out, Sca, Eli, Mer, Pro}
use Rattle.logic.specs.declared.Check.{Check}
use Rattle.logic.specs.Syntax.{Term, Terms, nil, cons, Result, value, none, Part, part, Parts, only, also}
use Rattle.logic.specs.Syntax.{Atom, link, obj, arrows, method, Literal, lit, Clause, Step}
use Rattle.logic.specs.Equality.{link?, term?, terms?, part?, atom?, call?, clause?}
use Rattle.logic.specs.Fill.{Substitution, fill_clause}
use Rattle.logic.specs.Occurrence.{Search, past, found, find_literal}
use Rattle.logic.specs.Rules.{bare, bare_part, Covers, CoversPart, SomeCovers, EachCovered, Fits, Agreement, always, equal, fitting, call, alike}
use Rattle.logic.specs.Rules.{Holds, signature, scalar, join_parts, plus, one, Parent, filled}
use Rattle.logic.specs.StepChecks.{parent_a, parent_b, parents_below, numbers_right, Checked}

-- The rule table as a function: a literal, number or result is not as the shape says, or the row's agreement and clause.
pub data Conclusion : Type 0 where
  misshapen : Conclusion
  concludes : Agreement → Clause → Conclusion

-- One small view for each thing that a shape names.
unfoldable pub on_at : ℕ → Clause → (Literal → Clause → Conclusion) → Conclusion
on_at i [] f = misshapen
on_at zero (l ∷ c) f = f l c
on_at (suc i) (m ∷ c) f = on_at i c (λ l r. f l (m ∷ r))

unfoldable pub on_plus : Literal → (Atom → Conclusion) → Conclusion
on_plus (lit Positive x) f = f x
on_plus (lit Negative x) f = misshapen

unfoldable pub on_minus : Literal → (Atom → Conclusion) → Conclusion
on_minus (lit Positive x) f = misshapen
on_minus (lit Negative x) f = f x

unfoldable pub on_link : Link → Atom → (Term → Term → Conclusion) → Conclusion
on_link k (link l t u) f = ite (link? k l) (f t u) misshapen
on_link k (obj t) f = misshapen
on_link k (arrows o ps) f = misshapen

unfoldable pub on_obj : Atom → (Term → Conclusion) → Conclusion
on_obj (link l t u) f = misshapen
on_obj (obj t) f = f t
on_obj (arrows o ps) f = misshapen

unfoldable pub on_result : Result → (Term → Conclusion) → Conclusion
on_result (value t) f = f t
on_result none f = misshapen

-- An arrow atom whose arrow is one of those asked for.
unfoldable pub on_method : (Arrow → Bool) → Atom → (Arrow → Term → Term → Terms → Result → Conclusion) → Conclusion
on_method p (link l t u) f = misshapen
on_method p (obj t) f = misshapen
on_method p (arrows o (only (part a m ts r))) f = cond (p a) (f a o m ts r) misshapen
on_method p (arrows o (also q qs)) f = misshapen

-- An arrow atom or a molecule; a molecule alone; part k.
unfoldable pub on_parts : Atom → (Term → Parts → Conclusion) → Conclusion
on_parts (link l t u) f = misshapen
on_parts (obj t) f = misshapen
on_parts (arrows o ps) f = f o ps

unfoldable pub on_molecule : Atom → (Term → Part → Parts → Conclusion) → Conclusion
on_molecule (link l t u) f = misshapen
on_molecule (obj t) f = misshapen
on_molecule (arrows o (only p)) f = misshapen
on_molecule (arrows o (also p ps)) f = f o p ps

unfoldable pub on_part : ℕ → Parts → (Part → Conclusion) → Conclusion
on_part zero (only p) f = f p
on_part (suc k) (only p) f = misshapen
on_part zero (also p ps) f = f p
on_part (suc k) (also p ps) f = on_part k ps f

-- Argument k, and the arguments with s in its place.
unfoldable pub on_placed : Term → ℕ → Terms → (Term → Terms → Conclusion) → Conclusion
on_placed s k nil f = misshapen
on_placed s zero (cons t ts) f = f t (cons s ts)
on_placed s (suc k) (cons t ts) f = on_placed s k ts (λ q us. f q (cons t us))

unfoldable pub on_found : Search Literal → (Term → Literal → Conclusion) → Conclusion
on_found (past k) f = misshapen
on_found (found s l) f = f s l

-- A row's agreement and new literal.
abbrev pub with_new : Agreement → Atom → Conclusion
with_new g x = concludes g (plus x ∷ [])

-- R21: "The claim, all of it filled, is the new literal, if there is one, then A's other literals, then B's other literals, in order."
unfoldable pub before : Conclusion → Clause → Conclusion
before misshapen c = misshapen
before (concludes g new) c = concludes g (new ++ c)

-- The rules with two parents, on the literal at I and the literal at J.
unfoldable pub on_sub : Literal → (Term → Term → Conclusion) → Conclusion
on_sub l f = on_plus l (λ y. on_link Sub y f)

unfoldable pub conclude_res : Literal → Literal → Conclusion
conclude_res l m = on_minus l (λ x. on_plus m (λ y. concludes (fitting x y) []))

unfoldable pub conclude_acy : Literal → Literal → Conclusion
conclude_acy l m = on_sub l (λ p q. on_sub m (λ q' p'. with_new (equal (cons p (one q)) (cons p' (one q'))) (link Eq p q)))

-- tra and inc: the first literal is of the link asked for, and so is the new one.
unfoldable pub conclude_link : Link → Literal → Literal → Conclusion
conclude_link k l m = on_plus l (λ x. on_link k x (λ p q. on_sub m (λ q' r. with_new (equal (one q) (one q')) (link k p r))))

unfoldable pub on_signature : Literal → (Arrow → Term → Term → Terms → Result → Conclusion) → Conclusion
on_signature l f = on_plus l (λ x. on_method signature x f)

unfoldable pub conclude_inh : Literal → Literal → Conclusion
conclude_inh l m = on_signature l (λ a p n ts r. on_sub m (λ s p'. with_new (equal (one p) (one p')) (method a s n ts r)))

unfoldable pub conclude_inp : ℕ → Literal → Literal → Conclusion
conclude_inp k l m =
    on_signature l (λ a o n ts r. on_sub m (λ s q'. on_placed s k ts (λ q us. with_new (equal (one q) (one q')) (method a o n us r))))

unfoldable pub conclude_out : Literal → Literal → Conclusion
conclude_out l m =
    on_signature l (λ a o n ts x. on_result x (λ r. on_sub m (λ r' s. with_new (equal (one r) (one r')) (method a o n ts (value s)))))

unfoldable pub on_scalar : Literal → (Arrow → Term → Term → Terms → Term → Conclusion) → Conclusion
on_scalar l f = on_plus l (λ x. on_method scalar x (λ a o n ts r. on_result r (f a o n ts)))

unfoldable pub conclude_sca : Literal → Literal → Conclusion
conclude_sca l m =
    on_scalar l (λ a o n ts r. on_scalar m (λ a' o' n' ts' r'. with_new (alike (call a o n ts) (call a' o' n' ts')) (link Eq r r')))

unfoldable pub conclude_mer : Literal → Literal → Conclusion
conclude_mer l m =
    on_plus l (λ x. on_parts x (λ o ps. on_plus m (λ y. on_parts y (λ o' qs. with_new (equal (one o) (one o')) (arrows o (join_parts ps qs))))))

-- The rows of the rules with two parents, par apart; the other rules have none here.
unfoldable pub table_row : ℕ → Rule → Literal → Literal → Conclusion
table_row k Refl l m = misshapen
table_row k Res l m = conclude_res l m
table_row k Fac l m = misshapen
table_row k Par l m = misshapen
table_row k Acy l m = conclude_acy l m
table_row k Tra l m = conclude_link Sub l m
table_row k Inc l m = conclude_link Mem l m
table_row k Inh l m = conclude_inh l m
table_row k Inp l m = conclude_inp k l m
table_row k Out l m = conclude_out l m
table_row k Sca l m = conclude_sca l m
table_row k Eli l m = misshapen
table_row k Mer l m = conclude_mer l m
table_row k Pro l m = misshapen

unfoldable pub conclude_two : Parent → Parent → ℕ → ℕ → (Literal → Literal → Conclusion) → Conclusion
conclude_two A B i j f = on_at i (filled A) (λ l r. on_at j (filled B) (λ m r'. before (f l m) (r ++ r')))

-- par: the literal at I before filling.
unfoldable pub conclude_par : Substitution → ℕ → Literal → Literal → Conclusion
conclude_par σ k l m =
    on_plus m (λ y. on_link Eq y (λ s' u. on_found (find_literal σ u l k) (λ s l'. concludes (equal (one s) (one s')) (l' ∷ []))))

-- fac, on the literals at I and J, each with A's other literals.
unfoldable pub conclude_fac : ℕ → ℕ → Literal → Clause → Literal → Clause → Conclusion
conclude_fac i j (lit Positive x) r m r' = cond (eqb i j) misshapen (on_plus m (λ y. concludes (fitting x y) r'))
conclude_fac i j (lit Negative x) r m r' = cond (eqb i j) misshapen (on_minus m (λ y. concludes (fitting x y) r))

unfoldable pub conclude_eli : Literal → Clause → Conclusion
conclude_eli l r = on_minus l (λ x. on_obj x (λ p. concludes always r))

unfoldable pub conclude_pro : ℕ → Literal → Clause → Conclusion
conclude_pro k l r =
    on_plus l (λ x. on_molecule x (λ o p ps. on_part k (also p ps) (λ q. concludes always (plus (arrows o (only q)) ∷ r))))

unfoldable pub conclude : Parent → Parent → ℕ → ℕ → ℕ → Rule → Conclusion
conclude A B i j k Refl = with_new always (link Sub (A.image 0) (A.image 0))
conclude A B i j k Res = conclude_two A B i j (table_row k Res)
conclude A B i j k Fac = on_at i (filled A) (λ l r. on_at j (filled A) (conclude_fac i j l r))
conclude A B i j k Par =
    on_at i A.clause (λ l r. on_at j (filled B) (λ m r'. before (conclude_par A.image k l m) (fill_clause A.image r ++ r')))
conclude A B i j k Acy = conclude_two A B i j (table_row k Acy)
conclude A B i j k Tra = conclude_two A B i j (table_row k Tra)
conclude A B i j k Inc = conclude_two A B i j (table_row k Inc)
conclude A B i j k Inh = conclude_two A B i j (table_row k Inh)
conclude A B i j k Inp = conclude_two A B i j (table_row k Inp)
conclude A B i j k Out = conclude_two A B i j (table_row k Out)
conclude A B i j k Sca = conclude_two A B i j (table_row k Sca)
conclude A B i j k Eli = on_at i (filled A) conclude_eli
conclude A B i j k Mer = conclude_two A B i j (table_row k Mer)
conclude A B i j k Pro = on_at i (filled A) (conclude_pro k)

-- What the rule table says of a step.
unfoldable pub conclusion : List Clause → Step → Conclusion
conclusion cs s = conclude (parent_a cs s) (parent_b cs s) s.i s.j s.k s.rule

-- Whether an agreement holds is decided.
unfoldable pub either? : {A B : Type 0} → Dec A → Dec B → Dec (A ⊎ B)
either? (yes a) d = yes (inl a)
either? (no n) (yes b) = yes (inr b)
either? (no n) (no m) = no (⊎_elim n m)

unfoldable pub both? : {A B : Type 0} → Dec A → Dec B → Dec (A × B)
both? (yes a) (yes b) = yes (a, b)
both? (yes a) (no m) = no (λ w. m w.1)
both? (no n) d = no (λ w. n w.0)

unfoldable pub covers? : (x y : Atom) → Dec (Covers x y)
unfolding Covers
covers? x y = either? (atom? x y) (atom? (bare x) y)

unfoldable pub covers_part? : (p q : Part) → Dec (CoversPart p q)
unfolding CoversPart
covers_part? p q = either? (part? p q) (part? (bare_part p) q)

unfoldable pub some_covers? : (ps : Parts) (q : Part) → Dec (SomeCovers ps q)
unfolding SomeCovers
some_covers? (only p) q = covers_part? p q
some_covers? (also p ps) q = either? (covers_part? p q) (some_covers? ps q)

unfoldable pub each_covered? : (ps qs : Parts) → Dec (EachCovered ps qs)
unfolding EachCovered
each_covered? ps (only q) = some_covers? ps q
each_covered? ps (also q qs) = both? (some_covers? ps q) (each_covered? ps qs)

unfoldable pub fits? : (x y : Atom) → Dec (Fits x y)
unfolding Fits
fits? (arrows o qs) (arrows o' ps) = both? (term? o o') (each_covered? ps qs)
fits? (arrows o qs) (link l t u) = covers? (link l t u) (arrows o qs)
fits? (arrows o qs) (obj t) = covers? (obj t) (arrows o qs)
fits? (link l t u) y = covers? y (link l t u)
fits? (obj t) y = covers? y (obj t)

unfoldable pub holds? : (g : Agreement) → Dec (Holds g)
unfolding Holds
holds? always = yes tt
holds? (equal ts us) = terms? ts us
holds? (fitting x y) = fits? x y
holds? (alike x y) = call? x y

-- Checks 7 to 11 of a step, in order: the first that fails, if any.
unfoldable pub judge_conclusion : Conclusion → Clause → Checked
judge_conclusion misshapen claim = Err Check.Shape
judge_conclusion (concludes g c) claim = ite (holds? g) (ite (clause? c claim) (Ok tt) (Err Check.Claim)) (Err Check.Agreement)

unfoldable pub judge : List Clause → Step → Checked
judge cs s =
    cond (parents_below cs s)
    (cond (numbers_right cs s) (judge_conclusion (conclusion cs s) s.claim) (Err Check.Numbers)) (Err Check.Parents)
