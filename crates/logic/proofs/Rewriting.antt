-- Six rules rewrite: a term of the literal at I agrees with one side of a positive link at J, and the other side takes its place.
use Prim.Native.Nat.{ℕ, zero, suc}
use mathlib.Core.Bool.{Bool, true, false, cond}
use mathlib.Core.List.{[], ◌∷◌}
use mathlib.Core.Logic.{ite}
use mathlib.Core.Path.{◌≡◌, refl}
use Rattle.logic.specs.declared.Sign.TheVariants.{Positive, Negative}
use Rattle.logic.specs.declared.Link.{Link}
use Rattle.logic.specs.declared.Link.TheVariants.{Mem, Sub}
use Rattle.logic.specs.declared.Arrow.{Arrow}
use Rattle.logic.specs.declared.Rule.{Rule}
use Rattle.logic.specs.declared.Rule.TheVariants.{Refl, Res, Fac, Par, Acy, Tra, Inc, Inh, Inp, Out, Sca, Eli, Mer, Pro}
use Rattle.logic.specs.Syntax.{Term, Terms, nil, cons, Result, value, none, part, only, also, Atom, link, obj, arrows, method, Literal, lit}
use Rattle.logic.specs.Equality.{link?}
use Rattle.logic.specs.Fill.{Substitution, fill, fills, fill_result, fill_part, fill_parts, fill_atom, fill_literal}
use Rattle.logic.specs.Rules.{equal, signature, plus, one}
use Rattle.logic.specs.Judge.{Conclusion, misshapen, concludes, on_plus, on_link, on_result, on_method, on_placed, on_sub, on_signature, conclude_link, conclude_inh, conclude_inp, conclude_out, table_row}

-- The term that a rule rewrites, and the filled literal with another term in its place.
pub record Target : Type 0 where
  pub term : Term
  pub with : Substitution → Term → Literal

pub data Aim : Type 0 where
  misses : Aim
  hits : Target → Aim

-- The sides of the link: the term agrees with the first or the second, and the other takes its place.
abbrev pub agreeing : Bool → Term → Term → Term
agreeing true s u = s
agreeing false s u = u

abbrev pub replacing : Bool → Term → Term → Term
replacing true s u = u
replacing false s u = s

-- The rewriting of what a target says, by a link at J.
unfoldable pub rewrite : Link → Bool → Substitution → Aim → Literal → Conclusion
rewrite k forward σ misses m = misshapen
rewrite k forward σ (hits t) m =
    on_plus m (λ y. on_link k y (λ s u. concludes (equal (one (fill σ t.term)) (one (agreeing forward s u))) (t.with σ (replacing forward s u) ∷ [])))

-- The targets: the second term of a link; the object, an argument and the term result of a signature.
unfoldable pub link_aim : Link → Atom → Aim
link_aim k (link l p q) = ite (link? k l) (hits (record { term = q; with = λ σ u. plus (link k (fill σ p) u) })) misses
link_aim k (obj t) = misses
link_aim k (arrows o ps) = misses

unfoldable pub result_aim : Result → (Term → Aim) → Aim
result_aim (value t) f = f t
result_aim none f = misses

unfoldable pub method_aim : Atom → (Arrow → Term → Term → Terms → Result → Aim) → Aim
method_aim (link l t u) f = misses
method_aim (obj t) f = misses
method_aim (arrows o (only (part a m ts r))) f = cond (signature a) (f a o m ts r) misses
method_aim (arrows o (also q qs)) f = misses

unfoldable pub object_aim : Arrow → Term → Term → Terms → Result → Aim
object_aim a o m ts r = hits (record { term = o; with = λ σ u. plus (method a u (fill σ m) (fills σ ts) (fill_result σ r)) })

unfoldable pub output_aim : Arrow → Term → Term → Terms → Result → Aim
output_aim a o m ts x = result_aim x (λ r. hits (record { term = r; with = λ σ u. plus (method a (fill σ o) (fill σ m) (fills σ ts) (value u)) }))

-- Argument k, and the filled arguments with another term in its place.
pub record Argument : Type 0 where
  pub term : Term
  pub with : Substitution → Term → Terms

unfoldable pub argument_aim : ℕ → Terms → (Argument → Aim) → Aim
argument_aim k nil f = misses
argument_aim zero (cons t ts) f = f (record { term = t; with = λ σ u. cons u (fills σ ts) })
argument_aim (suc k) (cons t ts) f = argument_aim k ts (λ g. f (record { term = g.term; with = λ σ u. cons (fill σ t) (g.with σ u) }))

unfoldable pub input_aim : ℕ → Arrow → Term → Term → Terms → Result → Aim
input_aim k a o m ts r = argument_aim k ts (λ g. hits (record { term = g.term; with = λ σ u. plus (method a (fill σ o) (fill σ m) (g.with σ u) (fill_result σ r)) }))

unfoldable pub positive_aim : Literal → (Atom → Aim) → Aim
positive_aim (lit Positive x) f = f x
positive_aim (lit Negative x) f = misses

unfoldable pub aim : ℕ → Rule → Literal → Aim
aim k Refl l = misses
aim k Res l = misses
aim k Fac l = misses
aim k Par l = misses
aim k Acy l = misses
aim k Tra l = positive_aim l (link_aim Sub)
aim k Inc l = positive_aim l (link_aim Mem)
aim k Inh l = positive_aim l (λ x. method_aim x object_aim)
aim k Inp l = positive_aim l (λ x. method_aim x (input_aim k))
aim k Out l = positive_aim l (λ x. method_aim x output_aim)
aim k Sca l = misses
aim k Eli l = misses
aim k Mer l = misses
aim k Pro l = misses

-- The views of a filled literal, as rewriting.
link_rewrite : (k : Link) (σ : Substitution) (x : Atom) (m : Literal) →
    on_link k (fill_atom σ x) (λ p q. on_sub m (λ q' r. concludes (equal (one q) (one q')) (plus (link k p r) ∷ []))) ≡ rewrite Sub true σ (link_aim k x) m
unfolding fill_atom on_link link_aim rewrite on_sub
link_rewrite k σ (link l p q) m = go (link? k l)
  where
    go : (d : Dec (k ≡ l)) → ite d (on_sub m (λ q' r. concludes (equal (one (fill σ q)) (one q')) (plus (link k (fill σ p) r) ∷ []))) misshapen ≡
        rewrite Sub true σ (ite d (hits (record { term = q; with = λ σ u. plus (link k (fill σ p) u) })) misses) m
    go (yes e) = refl
    go (no e) = refl
link_rewrite k σ (obj t) m = refl
link_rewrite k σ (arrows o ps) m = refl

-- A signature, and what is aimed at in it.
method_rewrite : (d : Bool) (σ : Substitution) (x : Atom) (m : Literal) (f : Arrow → Term → Term → Terms → Result → Conclusion) (g : Arrow → Term → Term → Terms → Result → Aim) →
    ((a : Arrow) (o n : Term) (ts : Terms) (r : Result) → f a (fill σ o) (fill σ n) (fills σ ts) (fill_result σ r) ≡ rewrite Sub d σ (g a o n ts r) m) →
    on_method signature (fill_atom σ x) f ≡ rewrite Sub d σ (method_aim x g) m
unfolding fill_atom fill_parts fill_part on_method method_aim rewrite
method_rewrite d σ (link l t u) m f g e = refl
method_rewrite d σ (obj t) m f g e = refl
method_rewrite d σ (arrows o (also q qs)) m f g e = refl
method_rewrite d σ (arrows o (only (part a n ts r))) m f g e = go (signature a)
  where
    go : (b : Bool) → cond b (f a (fill σ o) (fill σ n) (fills σ ts) (fill_result σ r)) misshapen ≡ rewrite Sub d σ (cond b (g a o n ts r) misses) m
    go true = e a o n ts r
    go false = refl

-- Its result, where that is a term.
result_rewrite : (d : Bool) (σ : Substitution) (r : Result) (m : Literal) (f : Term → Conclusion) (g : Term → Aim) →
    ((t : Term) → f (fill σ t) ≡ rewrite Sub d σ (g t) m) → on_result (fill_result σ r) f ≡ rewrite Sub d σ (result_aim r g) m
unfolding fill_result on_result result_aim rewrite
result_rewrite d σ (value t) m f g e = e t
result_rewrite d σ none m f g e = refl

positive_rewrite : (d : Bool) (σ : Substitution) (l m : Literal) (f : Atom → Conclusion) (g : Atom → Aim) →
    ((x : Atom) → f (fill_atom σ x) ≡ rewrite Sub d σ (g x) m) → on_plus (fill_literal σ l) f ≡ rewrite Sub d σ (positive_aim l g) m
unfolding fill_literal on_plus positive_aim rewrite
positive_rewrite d σ (lit Positive x) m f g e = e x
positive_rewrite d σ (lit Negative x) m f g e = refl

-- Where nothing is aimed at, the literal at J does not matter.
sub_misses : (m : Literal) → on_sub m (λ s q. misshapen) ≡ misshapen
unfolding on_sub on_plus on_link
sub_misses (lit Positive (link l t u)) = go (link? Sub l)
  where
    go : (d : Dec (Sub ≡ l)) → ite d misshapen misshapen ≡ misshapen
    go (yes e) = refl
    go (no e) = refl
sub_misses (lit Positive (obj t)) = refl
sub_misses (lit Positive (arrows o ps)) = refl
sub_misses (lit Negative x) = refl

argument_rewrite : (σ : Substitution) (k : ℕ) (ts : Terms) (m : Literal) (f : Term → Terms → Term → Conclusion) (g : Argument → Aim) →
    ((t : Argument) → on_sub m (λ s q'. f (fill σ t.term) (t.with σ s) q') ≡ rewrite Sub false σ (g t) m) →
    on_sub m (λ s q'. on_placed s k (fills σ ts) (λ q us. f q us q')) ≡ rewrite Sub false σ (argument_aim k ts g) m
unfolding fill on_placed argument_aim rewrite
argument_rewrite σ k nil m f g e = sub_misses m
argument_rewrite σ zero (cons t ts) m f g e = e (record { term = t; with = λ σ u. cons u (fills σ ts) })
argument_rewrite σ (suc k) (cons t ts) m f g e =
    argument_rewrite σ k ts m (λ q us q'. f q (cons (fill σ t) us) q') (λ h. g (record { term = h.term; with = λ σ u. cons (fill σ t) (h.with σ u) }))
    (λ h. e (record { term = h.term; with = λ σ u. cons (fill σ t) (h.with σ u) }))

-- tra, inc and out go from the first side to the second, inh and inp back.
pub tra_rewrites : (k : ℕ) (σ : Substitution) (l m : Literal) → table_row k Tra (fill_literal σ l) m ≡ rewrite Sub true σ (aim k Tra l) m
unfolding table_row conclude_link aim
tra_rewrites k σ l m = positive_rewrite true σ l m _ (link_aim Sub) (λ x. link_rewrite Sub σ x m)

pub inc_rewrites : (k : ℕ) (σ : Substitution) (l m : Literal) → table_row k Inc (fill_literal σ l) m ≡ rewrite Sub true σ (aim k Inc l) m
unfolding table_row conclude_link aim
inc_rewrites k σ l m = positive_rewrite true σ l m _ (link_aim Mem) (λ x. link_rewrite Mem σ x m)

pub inh_rewrites : (k : ℕ) (σ : Substitution) (l m : Literal) → table_row k Inh (fill_literal σ l) m ≡ rewrite Sub false σ (aim k Inh l) m
unfolding table_row conclude_inh on_signature on_sub aim object_aim rewrite
inh_rewrites k σ l m = positive_rewrite false σ l m _ _ (λ x. method_rewrite false σ x m _ object_aim (λ a o n ts r. refl))

pub inp_rewrites : (k : ℕ) (σ : Substitution) (l m : Literal) → table_row k Inp (fill_literal σ l) m ≡ rewrite Sub false σ (aim k Inp l) m
unfolding table_row conclude_inp on_signature aim input_aim rewrite on_sub
inp_rewrites k σ l m =
    positive_rewrite false σ l m _ _ (λ x. method_rewrite false σ x m _ (input_aim k) (λ a o n ts r. argument_rewrite σ k ts m _ _ (λ t. refl)))

pub out_rewrites : (k : ℕ) (σ : Substitution) (l m : Literal) → table_row k Out (fill_literal σ l) m ≡ rewrite Sub true σ (aim k Out l) m
unfolding table_row conclude_out on_signature on_sub aim output_aim rewrite
out_rewrites k σ l m =
    positive_rewrite true σ l m _ _ (λ x. method_rewrite true σ x m _ output_aim (λ a o n ts r. result_rewrite true σ r m _ _ (λ t. refl)))
