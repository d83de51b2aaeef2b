-- The rule table as a relation and as a function agree.
use Prim.Native.Nat.{ℕ, zero, suc}
use mathlib.Core.Bool.{Bool, true, false, cond}
use mathlib.Core.List.{[], ◌∷◌, ◌++◌}
use mathlib.Core.Logic.{ite, if_pos}
use mathlib.Core.Path.{◌≡◌, refl, sym, ap, subst, ◌∙◌}
use native.Mathlib.Omega.{arith}
use lib.Dec.{T, eqb, eqb→eq, eqb_refl}
use Rattle.logic.specs.declared.Sign.TheVariants.{Positive, Negative}
use Rattle.logic.specs.declared.Link.{Link}
use Rattle.logic.specs.declared.Link.TheVariants.{Eq, Mem, Sub}
use Rattle.logic.specs.declared.Arrow.{Arrow}
use Rattle.logic.specs.declared.Rule.{Rule}
use Rattle.logic.specs.declared.Rule.TheVariants.{Refl, Res, Fac, Par, Acy, Tra, Inc, Inh, Inp, Out, Sca, Eli, Mer, Pro}
use Rattle.logic.specs.Syntax.{Term, Terms, nil, cons, Result, value, none, Part, part, Parts, only, also}
use Rattle.logic.specs.Syntax.{Atom, link, obj, arrows, method, Literal, lit, Clause}
use Rattle.logic.specs.Equality.{link?}
use Rattle.logic.specs.Fill.{fill_clause}
use Rattle.logic.specs.Occurrence.{Search, past, found}
use Rattle.logic.specs.Rules.{Agreement, signature, scalar, Placed, PartAt, plus, minus, Row, Parent, filled, At, Infers}
use Rattle.logic.specs.Judge.{Conclusion, misshapen, concludes, on_at, on_plus, on_minus, on_link, on_obj, on_result, on_method, on_placed, on_found, on_sub, on_signature, on_scalar, on_parts, on_molecule, on_part, before, table_row, conclude_two, conclude, conclude_eli, conclude_res, conclude_acy, conclude_link, conclude_inh, conclude_inp, conclude_out, conclude_sca, conclude_mer, conclude_fac, conclude_par, conclude_pro}

-- Nothing misshapen concludes.
not_misshapen : {g : Agreement} {c : Clause} {P : Type 0} → misshapen ≡ concludes g c → P
not_misshapen e = let z : ◌≡◌ {A = ℕ} 0 1 = cc in absurd (omega arith)

-- Each view, from the table to the function: what it finds.
at_finds : {i : ℕ} {l : Literal} {c r : Clause} (f : Literal → Clause → Conclusion) → At i l c r → on_at i c f ≡ f l r
unfolding on_at
at_finds f At.here = refl
at_finds f (At.there {m = m} p) = at_finds (λ l r. f l (m ∷ r)) p

link_finds : (l : Link) (t u : Term) (f : Term → Term → Conclusion) → on_link l (link l t u) f ≡ f t u
unfolding on_link
link_finds l t u f = if_pos (link? l l) refl (f t u) misshapen

method_finds : (p : Arrow → Bool) (a : Arrow) (o m : Term) (ts : Terms) (r : Result) (f : Arrow → Term → Term → Terms → Result → Conclusion) →
    T (p a) → on_method p (method a o m ts r) f ≡ f a o m ts r
unfolding on_method
method_finds p a o m ts r f h = go (p a) h
  where
    go : (b : Bool) → T b → cond b (f a o m ts r) misshapen ≡ f a o m ts r
    go true h = refl
    go false h = absurd h

placed_finds : {s : Term} {k : ℕ} {q : Term} {ts us : Terms} (f : Term → Terms → Conclusion) → Placed s k q ts us → on_placed s k ts f ≡ f q us
unfolding on_placed
placed_finds f Placed.here = refl
placed_finds f (Placed.there {t = t} p) = placed_finds (λ q us. f q (cons t us)) p

part_finds : {k : ℕ} {q : Part} {ps : Parts} (f : Part → Conclusion) → PartAt k q ps → on_part k ps f ≡ f q
unfolding on_part
part_finds f PartAt.alone = refl
part_finds f PartAt.here = refl
part_finds f (PartAt.there p) = part_finds f p

found_finds : (w : Search Literal) (f : Term → Literal → Conclusion) {s : Term} {l : Literal} → w ≡ found s l → on_found w f ≡ f s l
unfolding on_found
found_finds w f {s} {l} e = rw e

-- Each view, from the function to the table: where it concludes, it found.
module _ {g : Agreement} {d : Clause} {P : Type 0} where
  at_found : (i : ℕ) (c : Clause) (f : Literal → Clause → Conclusion) → on_at i c f ≡ concludes g d →
      ((l : Literal) (r : Clause) → At i l c r → f l r ≡ concludes g d → P) → P
  unfolding on_at
  at_found i [] f e k = not_misshapen e
  at_found zero (l ∷ c) f e k = k l c At.here e
  at_found (suc i) (m ∷ c) f e k = at_found i c (λ l r. f l (m ∷ r)) e (λ l r p. k l (m ∷ r) (At.there p))

  plus_found : (l : Literal) (f : Atom → Conclusion) → on_plus l f ≡ concludes g d → ((x : Atom) → l ≡ plus x → f x ≡ concludes g d → P) → P
  unfolding on_plus
  plus_found (lit Positive x) f e k = k x refl e
  plus_found (lit Negative x) f e k = not_misshapen e

  minus_found : (l : Literal) (f : Atom → Conclusion) → on_minus l f ≡ concludes g d → ((x : Atom) → l ≡ minus x → f x ≡ concludes g d → P) → P
  unfolding on_minus
  minus_found (lit Positive x) f e k = not_misshapen e
  minus_found (lit Negative x) f e k = k x refl e

  link_found : (n : Link) (x : Atom) (f : Term → Term → Conclusion) → on_link n x f ≡ concludes g d →
      ((t u : Term) → x ≡ link n t u → f t u ≡ concludes g d → P) → P
  unfolding on_link
  link_found n (link l t u) f e k = go (link? n l) e
    where
      go : (w : Dec (n ≡ l)) → ite w (f t u) misshapen ≡ concludes g d → P
      go (yes h) e = k t u (ap (λ v. link v t u) (sym h)) e
      go (no h) e = not_misshapen e
  link_found n (obj t) f e k = not_misshapen e
  link_found n (arrows o ps) f e k = not_misshapen e

  obj_found : (x : Atom) (f : Term → Conclusion) → on_obj x f ≡ concludes g d → ((t : Term) → x ≡ obj t → f t ≡ concludes g d → P) → P
  unfolding on_obj
  obj_found (link l t u) f e k = not_misshapen e
  obj_found (obj t) f e k = k t refl e
  obj_found (arrows o ps) f e k = not_misshapen e

  result_found : (r : Result) (f : Term → Conclusion) → on_result r f ≡ concludes g d → ((t : Term) → r ≡ value t → f t ≡ concludes g d → P) → P
  unfolding on_result
  result_found (value t) f e k = k t refl e
  result_found none f e k = not_misshapen e

  method_found : (p : Arrow → Bool) (x : Atom) (f : Arrow → Term → Term → Terms → Result → Conclusion) → on_method p x f ≡ concludes g d →
      ((a : Arrow) (o m : Term) (ts : Terms) (r : Result) → T (p a) → x ≡ method a o m ts r → f a o m ts r ≡ concludes g d → P) → P
  unfolding on_method
  method_found p (link l t u) f e k = not_misshapen e
  method_found p (obj t) f e k = not_misshapen e
  method_found p (arrows o (also q qs)) f e k = not_misshapen e
  method_found p (arrows o (only (part a m ts r))) f e k = go (p a) (λ h. k a o m ts r h refl) e
    where
      go : (b : Bool) → (T b → f a o m ts r ≡ concludes g d → P) → cond b (f a o m ts r) misshapen ≡ concludes g d → P
      go true k e = k tt e
      go false k e = not_misshapen e

  placed_found : (s : Term) (n : ℕ) (ts : Terms) (f : Term → Terms → Conclusion) → on_placed s n ts f ≡ concludes g d →
      ((q : Term) (us : Terms) → Placed s n q ts us → f q us ≡ concludes g d → P) → P
  unfolding on_placed
  placed_found s n nil f e k = not_misshapen e
  placed_found s zero (cons t ts) f e k = k t (cons s ts) Placed.here e
  placed_found s (suc n) (cons t ts) f e k = placed_found s n ts (λ q us. f q (cons t us)) e (λ q us p. k q (cons t us) (Placed.there p))

  parts_found : (l : Literal) (f : Term → Parts → Conclusion) → on_plus l (λ x. on_parts x f) ≡ concludes g d →
      ((o : Term) (ps : Parts) → l ≡ plus (arrows o ps) → f o ps ≡ concludes g d → P) → P
  unfolding on_plus on_parts
  parts_found (lit Positive (arrows o ps)) f e k = k o ps refl e
  parts_found (lit Positive (link l t u)) f e k = not_misshapen e
  parts_found (lit Positive (obj t)) f e k = not_misshapen e
  parts_found (lit Negative x) f e k = not_misshapen e

  molecule_found : (l : Literal) (f : Term → Part → Parts → Conclusion) → on_plus l (λ x. on_molecule x f) ≡ concludes g d →
      ((o : Term) (p : Part) (ps : Parts) → l ≡ plus (arrows o (also p ps)) → f o p ps ≡ concludes g d → P) → P
  unfolding on_plus on_molecule
  molecule_found (lit Positive (arrows o (also p ps))) f e k = k o p ps refl e
  molecule_found (lit Positive (arrows o (only p))) f e k = not_misshapen e
  molecule_found (lit Positive (link l t u)) f e k = not_misshapen e
  molecule_found (lit Positive (obj t)) f e k = not_misshapen e
  molecule_found (lit Negative x) f e k = not_misshapen e

  part_found : (n : ℕ) (ps : Parts) (f : Part → Conclusion) → on_part n ps f ≡ concludes g d →
      ((q : Part) → PartAt n q ps → f q ≡ concludes g d → P) → P
  unfolding on_part
  part_found zero (only p) f e k = k p PartAt.alone e
  part_found (suc n) (only p) f e k = not_misshapen e
  part_found zero (also p ps) f e k = k p PartAt.here e
  part_found (suc n) (also p ps) f e k = part_found n ps f e (λ q w. k q (PartAt.there w))

  found_found : (w : Search Literal) (f : Term → Literal → Conclusion) → on_found w f ≡ concludes g d →
      ((s : Term) (l : Literal) → w ≡ found s l → f s l ≡ concludes g d → P) → P
  unfolding on_found
  found_found (past n) f e k = not_misshapen e
  found_found (found s l) f e k = k s l refl e

  -- The views of a positive literal.
  sub_found : (n : Link) (l : Literal) (f : Term → Term → Conclusion) → on_plus l (λ x. on_link n x f) ≡ concludes g d →
      ((t u : Term) → l ≡ plus (link n t u) → f t u ≡ concludes g d → P) → P
  sub_found n l f e k = plus_found l _ e (λ x e₁ e₂. link_found n x f e₂ (λ t u e₃. k t u (e₁ ∙ ap plus e₃)))

  arrow_found : (p : Arrow → Bool) (l : Literal) (f : Arrow → Term → Term → Terms → Result → Conclusion) → on_plus l (λ x. on_method p x f) ≡ concludes g d →
      ((a : Arrow) (o m : Term) (ts : Terms) (r : Result) → T (p a) → l ≡ plus (method a o m ts r) → f a o m ts r ≡ concludes g d → P) → P
  arrow_found p l f e k = plus_found l _ e (λ x e₁ e₂. method_found p x f e₂ (λ a o m ts r h e₃. k a o m ts r h (e₁ ∙ ap plus e₃)))

  -- With a term result.
  valued_found : (p : Arrow → Bool) (l : Literal) (f : Arrow → Term → Term → Terms → Term → Conclusion) →
      on_plus l (λ x. on_method p x (λ a o m ts r. on_result r (f a o m ts))) ≡ concludes g d →
      ((a : Arrow) (o m : Term) (ts : Terms) (r : Term) → T (p a) → l ≡ plus (method a o m ts (value r)) → f a o m ts r ≡ concludes g d → P) → P
  valued_found p l f e k =
      arrow_found p l _ e (λ a o m ts r h e₁ e₂. result_found r _ e₂ (λ t e₃. k a o m ts t h (e₁ ∙ ap (λ z. plus (method a o m ts z)) e₃)))

two_finds : (A B : Parent) {i j : ℕ} {l m : Literal} {r r' : Clause} (f : Literal → Literal → Conclusion) →
    At i l (filled A) r → At j m (filled B) r' → conclude_two A B i j f ≡ before (f l m) (r ++ r')
unfolding conclude_two
two_finds A B {i} {j} {l} {m} {r} {r'} f p q =
    at_finds (λ l r. on_at j (filled B) (λ m r'. before (f l m) (r ++ r'))) p ∙ at_finds (λ m r'. before (f l m) (r ++ r')) q

-- A row of the table is what its function gives.
row_finds : {k : ℕ} {rule : Rule} {l m : Literal} {g : Agreement} {new : Clause} → Row k rule l m g new → table_row k rule l m ≡ concludes g new
unfolding table_row conclude_res conclude_acy conclude_link conclude_inh conclude_inp conclude_out conclude_sca conclude_mer on_sub on_signature on_scalar on_parts on_plus on_minus on_result
row_finds Row.res = refl
row_finds Row.acy = link_finds Sub _ _ _ ∙ link_finds Sub _ _ _
row_finds Row.tra = link_finds Sub _ _ _ ∙ link_finds Sub _ _ _
row_finds Row.inc = link_finds Mem _ _ _ ∙ link_finds Sub _ _ _
row_finds (Row.inh h) = method_finds signature _ _ _ _ _ _ h ∙ link_finds Sub _ _ _
row_finds (Row.inp h w) = method_finds signature _ _ _ _ _ _ h ∙ (link_finds Sub _ _ _ ∙ placed_finds _ w)
row_finds (Row.out h) = method_finds signature _ _ _ _ _ _ h ∙ link_finds Sub _ _ _
row_finds (Row.sca h h') = method_finds scalar _ _ _ _ _ _ h ∙ method_finds scalar _ _ _ _ _ _ h'
row_finds Row.mer = refl

-- A rule with a row has two parents.
row_two : (A B : Parent) (i j k : ℕ) {rule : Rule} {l m : Literal} {g : Agreement} {new : Clause} → Row k rule l m g new → conclude A B i j k rule ≡ conclude_two A B i j (table_row k rule)
unfolding conclude
row_two A B i j k Row.res = refl
row_two A B i j k Row.acy = refl
row_two A B i j k Row.tra = refl
row_two A B i j k Row.inc = refl
row_two A B i j k (Row.inh h) = refl
row_two A B i j k (Row.inp h w) = refl
row_two A B i j k (Row.out h) = refl
row_two A B i j k (Row.sca h h') = refl
row_two A B i j k Row.mer = refl

before_finds : {o : Conclusion} {g : Agreement} {new : Clause} (c : Clause) → o ≡ concludes g new → before o c ≡ concludes g (new ++ c)
unfolding before
before_finds c e = rw e

fac_finds : (A : Parent) (i j : ℕ) {l m : Literal} {r r' : Clause} → At i l (filled A) r → At j m (filled A) r' →
    on_at i (filled A) (λ l r. on_at j (filled A) (conclude_fac i j l r)) ≡ conclude_fac i j l r m r'
fac_finds A i j {l} {m} {r} p q = at_finds (λ l r. on_at j (filled A) (conclude_fac i j l r)) p ∙ at_finds (conclude_fac i j l r) q

-- Two positions that differ.
apart_positions : (i j : ℕ) (x y : Conclusion) → (i ≡ j → ⊥) → cond (eqb i j) x y ≡ y
apart_positions i j x y n = go (eqb i j) (λ t. n (eqb→eq i j t))
  where
    go : (b : Bool) → (T b → ⊥) → cond b x y ≡ y
    go true n = absurd (n tt)
    go false n = refl

-- Whatever the table infers, the function concludes.
pub infers→concludes : (A B : Parent) (i j k : ℕ) {rule : Rule} {g : Agreement} {c : Clause} →
    Infers A B i j k rule g c → conclude A B i j k rule ≡ concludes g c
unfolding conclude conclude_fac conclude_par conclude_eli conclude_pro on_plus on_minus on_obj on_molecule on_found
infers→concludes A B i j k Infers.refl = refl
infers→concludes A B i j k (Infers.fac⁺ p q n) = fac_finds A i j p q ∙ apart_positions i j _ _ n
infers→concludes A B i j k (Infers.fac⁻ p q n) = fac_finds A i j p q ∙ apart_positions i j _ _ n
infers→concludes A B i j k (Infers.par {l = l} {r = r} p q e) =
    let f : Literal → Clause → Literal → Clause → Conclusion = λ l r m r'. before (conclude_par A.image k l m) (fill_clause A.image r ++ r') in
    at_finds (λ l r. on_at j (filled B) (f l r)) p ∙ (at_finds (f l r) q ∙ before_finds (fill_clause A.image r ++ _) (link_finds Eq _ _ _ ∙ found_finds _ _ e))
infers→concludes A B i j k (Infers.eli p) = at_finds _ p
infers→concludes A B i j k (Infers.pro p w) = at_finds (conclude_pro k) p ∙ part_finds _ w
infers→concludes A B i j k (Infers.two {r = r} {r' = r'} p q w) =
    row_two A B i j k w ∙ (two_finds A B (table_row k _) p q ∙ before_finds (r ++ r') (row_finds w))

concluded : {g g' : Agreement} {c d : Clause} → concludes g' c ≡ concludes g d → (g' ≡ g) × (c ≡ d)
concluded e = (cc, cc)

differ : {g : Agreement} {d : Clause} {P : Type 0} (i j : ℕ) (x : Conclusion) → cond (eqb i j) misshapen x ≡ concludes g d →
    ((i ≡ j → ⊥) → x ≡ concludes g d → P) → P
differ {g} {d} {P} i j x e k = go (eqb i j) (λ n. k (λ h. n (subst (λ m. T (eqb i m)) h (eqb_refl i)))) e
  where
    go : (b : Bool) → ((T b → ⊥) → x ≡ concludes g d → P) → cond b misshapen x ≡ concludes g d → P
    go true k e = not_misshapen e
    go false k e = k (λ t. t) e

before_found : {g : Agreement} {c d : Clause} {P : Type 0} (o : Conclusion) → before o c ≡ concludes g d → ((new : Clause) → o ≡ concludes g new → new ++ c ≡ d → P) → P
unfolding before
before_found misshapen e k = not_misshapen e
before_found (concludes h new) e k = let w = concluded e in k new (ap (λ x. concludes x new) w.0) w.1

-- Where a rule's function concludes, the rule has a row.
module _ {k : ℕ} {g : Agreement} {d : Clause} {l m : Literal} where
  -- A row, its literals and agreement as they were found.
  row_found : {rule : Rule} {l' m' : Literal} {g' : Agreement} {new : Clause} → l ≡ l' → m ≡ m' → Row k rule l' m' g' new → concludes g' new ≡ concludes g d → Row k rule l m g d
  row_found e₁ e₂ w e = rw (e₁, e₂, ← (concluded e).0, ← (concluded e).1) w

  pub table_found : (rule : Rule) → table_row k rule l m ≡ concludes g d → Row k rule l m g d
  unfolding table_row conclude_res conclude_acy conclude_link conclude_inh conclude_inp conclude_out conclude_sca conclude_mer on_sub on_signature on_scalar
  table_found Refl e = not_misshapen e
  table_found Res e = minus_found l _ e (λ x e₁ h. plus_found m _ h (λ y e₂. row_found e₁ e₂ Row.res))
  table_found Fac e = not_misshapen e
  table_found Par e = not_misshapen e
  table_found Acy e = sub_found Sub l _ e (λ p q e₁ h. sub_found Sub m _ h (λ q' p' e₂. row_found e₁ e₂ Row.acy))
  table_found Tra e = sub_found Sub l _ e (λ p q e₁ h. sub_found Sub m _ h (λ q' r e₂. row_found e₁ e₂ Row.tra))
  table_found Inc e = sub_found Mem l _ e (λ p q e₁ h. sub_found Sub m _ h (λ q' r e₂. row_found e₁ e₂ Row.inc))
  table_found Inh e = arrow_found signature l _ e (λ a o n ts r t e₁ h. sub_found Sub m _ h (λ s p e₂. row_found e₁ e₂ (Row.inh t)))
  table_found Inp e =
      arrow_found signature l _ e (λ a o n ts r t e₁ h. sub_found Sub m _ h (λ s q e₂ h₂.
      placed_found s k ts _ h₂ (λ q' us w. row_found e₁ e₂ (Row.inp t w))))
  table_found Out e = valued_found signature l _ e (λ a o n ts r t e₁ h. sub_found Sub m _ h (λ r' s e₂. row_found e₁ e₂ (Row.out t)))
  table_found Sca e = valued_found scalar l _ e (λ a o n ts r t e₁ h. valued_found scalar m _ h (λ a' o' n' ts' r' t' e₂. row_found e₁ e₂ (Row.sca t t')))
  table_found Eli e = not_misshapen e
  table_found Mer e = parts_found l _ e (λ o ps e₁ h. parts_found m _ h (λ o' qs e₂. row_found e₁ e₂ Row.mer))
  table_found Pro e = not_misshapen e

-- Whatever the function concludes, the table infers.
module _ (A B : Parent) (i j k : ℕ) {g : Agreement} {d : Clause} where
  two_found : (rule : Rule) → conclude_two A B i j (table_row k rule) ≡ concludes g d → Infers A B i j k rule g d
  unfolding conclude_two
  two_found rule e =
      at_found i (filled A) _ e (λ l r p e₁. at_found j (filled B) _ e₁ (λ m r' q e₂.
      before_found _ e₂ (λ new e₃ e₄. rw (← e₄) (Infers.two p q (table_found rule e₃)))))

  fac_found : (l m : Literal) (r r' : Clause) → At i l (filled A) r → At j m (filled A) r' → conclude_fac i j l r m r' ≡ concludes g d →
      Infers A B i j k Fac g d
  unfolding conclude_fac
  fac_found (lit Positive x) m r r' p q e = differ i j _ e (λ n h. plus_found m _ h (λ y e₁ e₂. rw (← (concluded e₂).0, ← (concluded e₂).1) (Infers.fac⁺ p (rw e₁ at q) n)))
  fac_found (lit Negative x) m r r' p q e = differ i j _ e (λ n h. minus_found m _ h (λ y e₁ e₂. rw (← (concluded e₂).0, ← (concluded e₂).1) (Infers.fac⁻ p (rw e₁ at q) n)))

  par_found : (l m : Literal) (r r' : Clause) → At i l A.clause r → At j m (filled B) r' →
      before (conclude_par A.image k l m) (fill_clause A.image r ++ r') ≡ concludes g d → Infers A B i j k Par g d
  unfolding conclude_par
  par_found l m r r' p q e =
      before_found _ e (λ new e₀ e₄. sub_found Eq m _ e₀ (λ s u e₁ h. found_found _ _ h (λ s' l' e₂ e₃.
      rw (← e₄, ← (concluded e₃).0, ← (concluded e₃).1) (Infers.par p (rw e₁ at q) e₂))))

pub concludes→infers : (A B : Parent) (i j k : ℕ) (rule : Rule) {g : Agreement} {d : Clause} →
    conclude A B i j k rule ≡ concludes g d → Infers A B i j k rule g d
unfolding conclude conclude_eli conclude_pro
concludes→infers A B i j k Refl e = rw (← (concluded e).0, ← (concluded e).1) Infers.refl
concludes→infers A B i j k Res e = two_found A B i j k Res e
concludes→infers A B i j k Fac e = at_found i (filled A) _ e (λ l r p h. at_found j (filled A) _ h (λ m r' q. fac_found A B i j k l m r r' p q))
concludes→infers A B i j k Par e = at_found i A.clause _ e (λ l r p h. at_found j (filled B) _ h (λ m r' q. par_found A B i j k l m r r' p q))
concludes→infers A B i j k Acy e = two_found A B i j k Acy e
concludes→infers A B i j k Tra e = two_found A B i j k Tra e
concludes→infers A B i j k Inc e = two_found A B i j k Inc e
concludes→infers A B i j k Inh e = two_found A B i j k Inh e
concludes→infers A B i j k Inp e = two_found A B i j k Inp e
concludes→infers A B i j k Out e = two_found A B i j k Out e
concludes→infers A B i j k Sca e = two_found A B i j k Sca e
concludes→infers A B i j k Mer e = two_found A B i j k Mer e
concludes→infers A B i j k Pro e =
    at_found i (filled A) _ e (λ l r p h. molecule_found l _ h (λ o q qs e₁ h₂. part_found k (also q qs) _ h₂ (λ q' w e₃.
    rw (← (concluded e₃).0, ← (concluded e₃).1) (Infers.pro (rw e₁ at p) w))))
concludes→infers A B i j k Eli e =
    at_found i (filled A) _ e (λ l r p h. minus_found l _ h (λ x e₁ h₂. obj_found x _ h₂ (λ t e₂ e₃.
    rw (← (concluded e₃).0, ← (concluded e₃).1) (Infers.eli (rw (e₁, e₂) at p)))))
