-- Walking over an item while its filled bytes are matched: the steps of `fill_item`, of the inside, and where it ends.
use Prim.Native.Nat.{ℕ, zero, suc, ◌-◌, ◌<◌}
use mathlib.Core.Path.{◌≡◌, refl, ◌∙◌, ap₂}
use mathlib.Core.Bool.{Bool, true, false, cond}
use mathlib.Core.List.{List, [], ◌∷◌, ◌++◌}
use native.Mathlib.Omega.{arith}
use lib.Dec.{eqb}
use lib.ListN.{length}
use borrow.Author.Tests.{eq-eqb, ne_eqb}
use Rattle.text.specs.Read.{Parsed, bad, got, Reader, and_then, one_of, strip}
use Rattle.text.specs.Access.{skip_item}
use Rattle.text.proofs.Tests.{on_test}
use Rattle.text.proofs.Gives.{Gives, nothing, gives, weaken, bind, none, branch, one_of_meets}
use Rattle.text.proofs.Number.{number_sound}
use Rattle.text.proofs.Plain.{number_plain}
use Rattle.text.proofs.Positions.{End, Tail, end_refl, end_trans, end_cons, strip_tail, sound_tail, closing_tail}
use Rattle.filling.specs.Filled.{Filler, prefixed, inside_up_to, inside, read_index, indexed, instead, fill_item, matches, along}

-- The steps of filling.
module _ (f : Filler) where
  pub fill_zero : (d : ℕ) (bs : List ℕ) → d ≡ 0 → fill_item f d bs ≡ bad
  unfolding fill_item
  fill_zero d bs z = rw z

  pub fill_empty : (d : ℕ) → fill_item f d [] ≡ bad
  unfolding fill_item skip_item strip one_of
  fill_empty zero = refl
  fill_empty (suc d) = on_test (λ x. x ≡ bad) (eqb 0 f.hole) (λ _. refl) (λ _. refl)

  pub fill_hole : (d : ℕ) (bs : List ℕ) → 0 < d → length bs ≡ f.hole → fill_item f d bs ≡ and_then (skip_item bs) (λ _. instead (f.new (d - 1)))
  unfolding fill_item
  fill_hole zero bs h e = absurd (omega arith)
  fill_hole (suc d) bs h e = let k : suc d - 1 ≡ d = omega arith in rw (eq-eqb _ _ e, k)

  module _ (bs : List ℕ) (apart : length bs ≡ f.hole → ⊥) where
    pub fill_variable : (d : ℕ) {rest : List ℕ} → 0 < d → strip (40 ∷ 118 ∷ 32 ∷ []) bs ≡ got tt rest → fill_item f d bs ≡ indexed f.entry rest
    unfolding fill_item one_of
    fill_variable zero h e = absurd (omega arith)
    fill_variable (suc d) h e = rw (ne_eqb _ _ apart, e)

    pub fill_bracket : (d : ℕ) {rest : List ℕ} → 0 < d → strip (40 ∷ 118 ∷ 32 ∷ []) bs ≡ bad → strip (40 ∷ []) bs ≡ got tt rest → fill_item f d bs ≡ prefixed (40 ∷ []) (inside (fill_item f (d - 1)) rest)
    unfolding fill_item one_of
    fill_bracket zero h e g = absurd (omega arith)
    fill_bracket (suc d) h e g = let k : suc d - 1 ≡ d = omega arith in rw (ne_eqb _ _ apart, e, g, k)

    pub fill_other : (d : ℕ) → 0 < d → strip (40 ∷ 118 ∷ 32 ∷ []) bs ≡ bad → strip (40 ∷ []) bs ≡ bad → fill_item f d bs ≡ bad
    unfolding fill_item one_of
    fill_other zero h e g = absurd (omega arith)
    fill_other (suc d) h e g = rw (ne_eqb _ _ apart, e, g)

-- A reader that takes at least one byte.
pub record Less (bs rest : List ℕ) : Type 0 where
  pub tail : End bs rest
  pub less : length rest < length bs

pub record Shrinks {A : Type 0} (read : Reader A) : Type 0 where
  pub shrinks : (bs : List ℕ) → Gives (λ _ rest. Less bs rest) (read bs)

pub less_cons : (b : ℕ) {bs rest : List ℕ} → End bs rest → Less (b ∷ bs) rest
less_cons b e = record { tail = end_cons b e; less = omega (arith, e.within) }

pub less_end : {bs mid rest : List ℕ} → Less bs mid → End mid rest → Less bs rest
less_end l e = record { tail = end_trans l.tail e; less = omega (arith, l.less, e.within) }

pub shrinks_tail : {A : Type 0} {read : Reader A} → Shrinks read → Tail read
shrinks_tail s = record { tail = λ bs. weaken (s.shrinks bs) (λ _ rest l. l.tail) }

first_shrinks : {B : Type 0} (b : ℕ) {next : Reader B} → Tail next → (bs : List ℕ) → Gives (λ _ rest. Less bs rest) (and_then (strip (b ∷ []) bs) (λ _. next))
unfolding strip
first_shrinks b t [] = nothing
first_shrinks b {next} t (x ∷ bs) = on_test {A = Parsed (Unit {0})} (λ p. Gives (λ _ rest. Less (x ∷ bs) rest) (and_then p (λ _. next))) (eqb b x) (λ _. weaken (t.tail bs) (λ _ rest e. less_cons x e)) (λ _. nothing)

pub skip_shrinks : Shrinks skip_item
unfolding skip_item
skip_shrinks = record { shrinks = first_shrinks 40 (closing_tail 0) }

pub index_tail : (entry : ℕ → List ℕ) → Tail (indexed entry)
unfolding indexed read_index
index_tail entry = record { tail = λ bs. bind (bind ((sound_tail number_sound number_plain).tail bs) (λ n mid p. bind ((strip_tail (41 ∷ [])).tail mid) (λ _ rest q. gives (end_trans p q)))) (λ n rest e. gives e) }

front_gives : {Q : List ℕ → Type 0} {p : Parsed (List ℕ)} (w : List ℕ) → Gives (λ _ rest. Q rest) p → Gives (λ _ rest. Q rest) (prefixed w p)
unfolding prefixed
front_gives w nothing = nothing
front_gives w (gives q) = gives q

inside_next : (item : Reader (List ℕ)) → Tail item → (k : ℕ) → Tail (inside_up_to item k) → (bs : List ℕ) → Gives (λ _ rest. End bs rest) (inside_up_to item (suc k) bs)
unfolding inside_up_to
inside_next item t k u [] = nothing
inside_next item t k u (b ∷ bs) =
    on_test (Gives (λ _ rest. End (b ∷ bs) rest)) (eqb b 41) (λ _. gives (end_cons b (end_refl bs))) (λ _.
    on_test (Gives (λ _ rest. End (b ∷ bs) rest)) (eqb b 40)
    (λ _. bind (t.tail (b ∷ bs)) (λ w mid p. front_gives w (weaken (u.tail mid) (λ _ rest q. end_trans p q))))
    (λ _. front_gives (b ∷ []) (weaken (u.tail bs) (λ _ rest q. end_cons b q))))

inside_tail : (item : Reader (List ℕ)) → Tail item → (k : ℕ) → Tail (inside_up_to item k)
unfolding inside_up_to
inside_tail item t zero = record { tail = λ bs. nothing }
inside_tail item t (suc k) = record { tail = inside_next item t k (inside_tail item t k) }

instead_tail : (p : Parsed (List ℕ)) → Tail (instead p)
unfolding instead
instead_tail bad = record { tail = λ bs. nothing }
instead_tail (got w _) = record { tail = λ bs. gives (end_refl bs) }

fill_next : (f : Filler) (d : ℕ) → Tail (fill_item f d) → (bs : List ℕ) → Gives (λ _ rest. Less bs rest) (fill_item f (suc d) bs)
unfolding fill_item inside
fill_next f d t bs =
    on_test (Gives (λ _ rest. Less bs rest)) (eqb (length bs) f.hole)
    (λ _. bind (skip_shrinks.shrinks bs) (λ _ mid l. weaken ((instead_tail (f.new d)).tail mid) (λ _ rest e. less_end l e)))
    (λ _. (one_of_meets {R = λ cs _ rest. Less cs rest}
    (branch (record { at = λ cs. weaken ((index_tail f.entry).tail cs) (λ _ rest e. less_cons 40 (end_cons 118 (end_cons 32 e))) })
    (branch (record { at = λ cs. front_gives (40 ∷ []) (weaken ((inside_tail (fill_item f d) t (length cs)).tail cs) (λ _ rest e. less_cons 40 e)) }) none))).at bs)

-- Filling passes the item and nothing else.
pub fill_shrinks : (f : Filler) (d : ℕ) → Shrinks (fill_item f d)
unfolding fill_item
fill_shrinks f zero = record { shrinks = λ bs. nothing }
fill_shrinks f (suc d) = record { shrinks = fill_next f d (shrinks_tail (fill_shrinks f d)) }

-- What matches: first what stands in front, then the rest.
pub strip_append : (v w bs : List ℕ) → strip (v ++ w) bs ≡ and_then (strip v bs) (λ _. strip w)
unfolding strip
strip_append [] w bs = refl
strip_append (b ∷ v) w [] = refl
strip_append (b ∷ v) w (x ∷ bs) = elim (eqb b x) as (λ y. cond y (strip (v ++ w) bs) bad ≡ and_then (cond y (strip v bs) bad) (λ _. strip w)) [ true ↦ strip_append v w bs | false ↦ refl ]

pub matches_front : (w : List ℕ) (p : Parsed (List ℕ)) (ts : List ℕ) → matches (prefixed w p) ts ≡ and_then (strip w ts) (λ _. matches p)
unfolding matches prefixed
matches_front w bad ts = go (strip w ts)
  where
    go : (q : Parsed (Unit {0})) → ◌≡◌ {A = Parsed (List ℕ)} bad (and_then q (λ _ _. bad))
    go bad = refl
    go (got u left) = refl
matches_front w (got ws rest) ts = rw (strip_append w ws ts) (go (strip w ts))
  where
    go : (q : Parsed (Unit {0})) → and_then (and_then q (λ _. strip ws)) (λ _ left. got left rest) ≡ and_then q (λ _ left. and_then (strip ws left) (λ _ more. got more rest))
    go bad = refl
    go (got u left) = refl

pub never_front : (w : List ℕ) (p : Parsed (List ℕ)) (ts : List ℕ) → strip w ts ≡ bad → matches (prefixed w p) ts ≡ bad
never_front w p ts b = matches_front w p ts ∙ rw b

-- Two texts read along, and both get shorter.
abbrev pub Pair : Type 0
Pair = List ℕ → List ℕ → Parsed (List ℕ)

pub record Both (ps ts left rest : List ℕ) : Type 0 where
  pub first : Less ps rest
  pub second : End ts left

pub record Shortens (item : Pair) : Type 0 where
  pub shortens : (ps ts : List ℕ) → Gives (λ left rest. Both ps ts left rest) (item ps ts)

abbrev pub matching : Reader (List ℕ) → Pair
matching item ps ts = matches (item ps) ts

pub matching_shortens : {item : Reader (List ℕ)} → Shrinks item → Shortens (matching item)
unfolding matches
matching_shortens {item} s = record { shortens = λ ps ts. go ps ts (s.shrinks ps) }
  where
    go : (ps ts : List ℕ) {x : Parsed (List ℕ)} → Gives (λ _ rest. Less ps rest) x → Gives (λ left rest. Both ps ts left rest) (matches x ts)
    go ps ts nothing = nothing
    go ps ts (gives {a = w} l) = bind ((strip_tail w).tail ts) (λ _ left e. gives (record { first = l; second = e }))

-- The steps of an inside.
module _ (item : Reader (List ℕ)) (k b : ℕ) (bs : List ℕ) where
  pub inside_open : b ≡ 40 → inside_up_to item (suc k) (b ∷ bs) ≡ and_then (item (b ∷ bs)) (λ w rest. prefixed w (inside_up_to item k rest))
  unfolding inside_up_to
  inside_open e = rw e

  pub inside_close : b ≡ 41 → inside_up_to item (suc k) (b ∷ bs) ≡ got (41 ∷ []) bs
  unfolding inside_up_to
  inside_close e = rw e

  pub inside_on : (b ≡ 40 → ⊥) → (b ≡ 41 → ⊥) → inside_up_to item (suc k) (b ∷ bs) ≡ prefixed (b ∷ []) (inside_up_to item k bs)
  unfolding inside_up_to
  inside_on o c = rw (ne_eqb b 41 c, ne_eqb b 40 o)

-- The steps of two insides.
module _ (item : Pair) (k b : ℕ) (ps ts : List ℕ) where
  pub along_open : b ≡ 40 → along item (suc k) (b ∷ ps) ts ≡ and_then (item (b ∷ ps) ts) (λ left rest. along item k rest left)
  unfolding along
  along_open e = rw e

  pub along_close : b ≡ 41 → along item (suc k) (b ∷ ps) ts ≡ and_then (strip (41 ∷ []) ts) (λ _ left. got left ps)
  unfolding along
  along_close e = rw e

  pub along_on : (b ≡ 40 → ⊥) → (b ≡ 41 → ⊥) → along item (suc k) (b ∷ ps) ts ≡ and_then (strip (b ∷ []) ts) (λ _ left. along item k ps left)
  unfolding along
  along_on o c = rw (ne_eqb b 41 c, ne_eqb b 40 o)

-- Filling the inside and matching it is reading along.
matches_cond : (y : Bool) (v w : Parsed (List ℕ)) (ts : List ℕ) → matches (cond y v w) ts ≡ cond y (matches v ts) (matches w ts)
matches_cond true v w ts = refl
matches_cond false v w ts = refl

module _ (item : Reader (List ℕ)) (k : ℕ) (onward : (ps ts : List ℕ) → matches (inside_up_to item k ps) ts ≡ along (matching item) k ps ts) where
  along_on_both : (y : Parsed (Unit {0})) (ps : List ℕ) → and_then y (λ _. matches (inside_up_to item k ps)) ≡ and_then y (λ _ left. along (matching item) k ps left)
  along_on_both bad ps = refl
  along_on_both (got u left) ps = onward ps left

  along_part : (x : Parsed (List ℕ)) (ts : List ℕ) → matches (and_then x (λ w rest. prefixed w (inside_up_to item k rest))) ts ≡ and_then (matches x ts) (λ left rest. along (matching item) k rest left)
  unfolding matches
  along_part bad ts = refl
  along_part (got w rest) ts = matches_front w (inside_up_to item k rest) ts ∙ along_on_both (strip w ts) rest ∙ go (strip w ts)
    where
      go : (y : Parsed (Unit {0})) → and_then y (λ _ left. along (matching item) k rest left) ≡ and_then (and_then y (λ _ left. got left rest)) (λ left more. along (matching item) k more left)
      go bad = refl
      go (got u left) = refl

pub inside_along : (item : Reader (List ℕ)) (k : ℕ) (ps ts : List ℕ) → matches (inside_up_to item k ps) ts ≡ along (matching item) k ps ts
unfolding inside_up_to along matches
inside_along item zero ps ts = refl
inside_along item (suc k) [] ts = refl
inside_along item (suc k) (b ∷ ps) ts =
    matches_cond (eqb b 41) _ _ ts
    ∙ ap₂ (cond (eqb b 41)) refl (matches_cond (eqb b 40) _ _ ts
    ∙ ap₂ (cond (eqb b 40)) (along_part item k (inside_along item k) (item (b ∷ ps)) ts) (matches_front (b ∷ []) (inside_up_to item k ps) ts ∙ along_on_both item k (inside_along item k) (strip (b ∷ []) ts) ps))
