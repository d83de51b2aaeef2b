-- What `same` finds, at each place where it answers.
use Prim.Native.Nat.{ℕ, zero, suc, ◌-◌, ◌<◌}
use mathlib.Core.Path.{◌≡◌}
use mathlib.Core.List.{List, [], ◌∷◌}
use native.Mathlib.Omega.{arith}
use lib.Dec.{eqb}
use lib.ListN.{length}
use Rattle.text.specs.Read.{Parsed, bad, got, Reader, and_then, or_else, strip}
use Rattle.text.proofs.Tests.{on_test}
use Rattle.text.proofs.Gives.{Gives, nothing, gives, weaken, bind}
use Rattle.text.proofs.Positions.{End, end_refl, end_trans, end_cons, strip_tail}
use Rattle.filling.specs.Filled.{Filler, indexed, fill_item, matches, along, nothing_left, both, turned, same_item}
use Rattle.filling.proofs.Walk.{Less, less_cons, less_end, index_tail, fill_shrinks, Pair, Shortens}

-- The steps.
module _ (f g : Filler) where
  pub same_zero : (d : ℕ) (ps qs : List ℕ) → d ≡ 0 → same_item f g d ps qs ≡ bad
  unfolding same_item
  same_zero d ps qs z = rw z

  pub same_first : (d : ℕ) (ps qs : List ℕ) {u : Unit {0}} {cs : List ℕ} → 0 < d → strip (40 ∷ 118 ∷ 32 ∷ []) ps ≡ got u cs → same_item f g d ps qs ≡ both (indexed f.entry cs) (fill_item g d qs)
  unfolding same_item
  same_first zero ps qs h e = absurd (omega arith)
  same_first (suc d) ps qs h e = rw e

  module _ (ps qs : List ℕ) (b : strip (40 ∷ 118 ∷ 32 ∷ []) ps ≡ bad) where
    pub same_second : (d : ℕ) {u : Unit {0}} {cs : List ℕ} → 0 < d → strip (40 ∷ 118 ∷ 32 ∷ []) qs ≡ got u cs → same_item f g d ps qs ≡ turned (both (indexed g.entry cs) (fill_item f d ps))
    unfolding same_item
    same_second zero h e = absurd (omega arith)
    same_second (suc d) h e = rw (b, e)

    pub same_nested : (d : ℕ) → 0 < d → strip (40 ∷ 118 ∷ 32 ∷ []) qs ≡ bad → same_item f g d ps qs ≡ and_then (strip (40 ∷ []) ps) (λ _ cs. and_then (strip (40 ∷ []) qs) (λ _ ds. along (same_item f g (d - 1)) (length cs) cs ds))
    unfolding same_item
    same_nested zero h e = absurd (omega arith)
    same_nested (suc d) h e = let k : suc d - 1 ≡ d = omega arith in rw (b, e, k)

-- Where two items end.
whole_gives : {R S : List ℕ → Type 0} {y : Parsed (List ℕ)} (rest : List ℕ) → R rest → Gives (λ _ other. S other) y → Gives (λ other more. R more × S other) (nothing_left y rest)
unfolding nothing_left
whole_gives rest r nothing = nothing
whole_gives rest r (gives {a = []} s) = gives (r, s)
whole_gives rest r (gives {a = b ∷ bs} s) = nothing

matched : {S : List ℕ → Type 0} {y : Parsed (List ℕ)} (w : List ℕ) → Gives (λ _ other. S other) y → Gives (λ _ other. S other) (matches y w)
unfolding matches
matched w nothing = nothing
matched w (gives {a = v} s) = bind ((strip_tail v).tail w) (λ _ left e. gives s)

both_gives : {R S : List ℕ → Type 0} {x y : Parsed (List ℕ)} → Gives (λ _ rest. R rest) x → Gives (λ _ other. S other) y → Gives (λ other rest. R rest × S other) (both x y)
unfolding both
both_gives nothing s = nothing
both_gives (gives {a = w} {rest} r) s = whole_gives rest r (matched w s)

pub turned_gives : {Q : List ℕ → List ℕ → Type 0} {x : Parsed (List ℕ)} → Gives Q x → Gives (λ left rest. Q rest left) (turned x)
unfolding turned
turned_gives nothing = nothing
turned_gives (gives q) = gives q

record Tails (ps ts left rest : List ℕ) : Type 0 where
  first : End ps rest
  second : End ts left

along_tails : (item : Pair) → Shortens item → (k : ℕ) (ps ts : List ℕ) → Gives (λ left rest. Tails ps ts left rest) (along item k ps ts)
unfolding along
along_tails item s zero ps ts = nothing
along_tails item s (suc k) [] ts = nothing
along_tails item s (suc k) (b ∷ ps) ts =
    on_test (Gives (λ left rest. Tails (b ∷ ps) ts left rest)) (eqb b 41)
    (λ _. bind ((strip_tail (41 ∷ [])).tail ts) (λ _ left e. gives (record { first = end_cons b (end_refl ps); second = e })))
    (λ _. on_test (Gives (λ left rest. Tails (b ∷ ps) ts left rest)) (eqb b 40)
    (λ _. bind (s.shortens (b ∷ ps) ts) (λ left rest q. weaken (along_tails item s k rest left) (λ l r t. record { first = end_trans q.first.tail t.first; second = end_trans q.second t.second })))
    (λ _. bind ((strip_tail (b ∷ [])).tail ts) (λ _ left e. weaken (along_tails item s k ps left) (λ l r t. record { first = end_cons b t.first; second = end_trans e t.second }))))

first_less : (b : ℕ) (w : List ℕ) (bs : List ℕ) → Gives (λ _ rest. Less bs rest) (strip (b ∷ w) bs)
unfolding strip
first_less b w [] = nothing
first_less b w (x ∷ bs) = on_test (Gives (λ _ rest. Less (x ∷ bs) rest)) (eqb b x) (λ _. weaken ((strip_tail w).tail bs) (λ _ rest e. less_cons x e)) (λ _. nothing)

or_else_gives : {A : Type 0} {Q : List ℕ → Type 0} {S : A → List ℕ → Type 0} {p : Parsed (Unit {0})} {r : Reader A} (q : Reader A) (bs : List ℕ) → Gives (λ _ rest. Q rest) p → ((rest : List ℕ) → Q rest → Gives S (r rest)) → Gives S (q bs) → Gives S (or_else p r q bs)
or_else_gives q bs nothing h k = k
or_else_gives q bs (gives {rest} s) h k = h rest s

pub same_shortens : (f g : Filler) (d : ℕ) → Shortens (same_item f g d)
unfolding same_item
same_shortens f g zero = record { shortens = λ ps qs. nothing }
same_shortens f g (suc d) =
    record {
      shortens = λ ps qs.
          or_else_gives _ ps (first_less 40 (118 ∷ 32 ∷ []) ps)
          (λ cs l. weaken (both_gives ((index_tail f.entry).tail cs) ((fill_shrinks g (suc d)).shrinks qs)) (λ other rest b. record { first = less_end l b.0; second = b.1.tail }))
          (or_else_gives _ qs (first_less 40 (118 ∷ 32 ∷ []) qs)
          (λ cs l. weaken (turned_gives (both_gives ((index_tail g.entry).tail cs) ((fill_shrinks f (suc d)).shrinks ps))) (λ other rest b. record { first = b.1; second = (less_end l b.0).tail }))
          (bind (first_less 40 [] ps) (λ _ cs l. bind (first_less 40 [] qs) (λ _ ds m. weaken (along_tails (same_item f g d) (same_shortens f g d) (length cs) cs ds) (λ other rest t. record { first = less_end l t.first; second = end_trans m.tail t.second })))));
    }
