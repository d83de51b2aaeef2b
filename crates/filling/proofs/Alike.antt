-- What `same_item` gives: on any bytes, equal filled bytes; on written forms, that the filled forms are the same.
use Prim.Native.Nat.{ℕ, zero, suc, ◌-◌, ◌≤◌, ◌<◌}
use mathlib.Core.Path.{◌≡◌, refl, sym, ◌∙◌, ap}
use mathlib.Core.Bool.{not}
use mathlib.Core.List.{List, [], ◌∷◌, ◌++◌, append-nil}
use native.Mathlib.Omega.{arith}
use lib.Dec.{T, eqb, T_not, eqb→eq}
use lib.ListN.{length}
use borrow.Author.Tests.{eq-eqb}
use Rattle.logic.specs.Fill.{Substitution}
use Rattle.text.specs.Write.{put_number, put_term}
use Rattle.text.specs.Form.{formed_number}
use Rattle.text.specs.Read.{Parsed, bad, got, Reader, and_then, strip, digit}
use Rattle.text.specs.Access.{closing, skip_item}
use Rattle.text.proofs.Tests.{on_test}
use Rattle.text.proofs.Gives.{Gives, nothing, gives, given, weaken, bind, strip_gives, none, branch, one_of_meets}
use Rattle.text.proofs.Number.{number_complete}
use Rattle.text.proofs.Trees.{Tree, var, node, Trees, end, byte, bracket, put_tree, put_inside, Clean, CleanIn, Within, WithinIn, Below, put_term_lem}
use Rattle.text.proofs.Nesting.{inner_tests}
use Rattle.filling.specs.Filled.{Filler, prefixed, inside_up_to, inside, read_index, indexed, instead, fill_item, matches, along, nothing_left, both, turned, same_item}
use Rattle.filling.proofs.Filling.{fill_tree, fill_trees, tree_longer, not_variable, after_it, fill_tree_lem, trees}
use Rattle.filling.proofs.Walk.{Pair, inside_open, inside_close, inside_on, fill_shrinks, fill_variable, fill_bracket}
use Rattle.filling.proofs.Expecting.{variable}
use Rattle.filling.proofs.Sameness.{same_first, same_second, same_nested, turned_gives}

strip_self : (w : List ℕ) → strip w w ≡ got tt []
unfolding strip
strip_self [] = refl
strip_self (b ∷ w) = rw (eq-eqb b b refl, strip_self w)

both_same : (w rest other : List ℕ) → both (got w rest) (got w other) ≡ got other rest
unfolding both nothing_left matches
both_same w rest other = rw (strip_self w)

turned_same : (w v rest other : List ℕ) → v ≡ w → turned (both (got w other) (got v rest)) ≡ got other rest
unfolding turned
turned_same w v rest other e = rw (e, both_same w other rest)

index_number : (entry : ℕ → List ℕ) (n : ℕ) (rest : List ℕ) → T (formed_number n) → indexed entry (put_number n (41 ∷ rest)) ≡ got (entry n) rest
unfolding indexed read_index strip digit
index_number entry n rest f = rw (number_complete n (41 ∷ rest) f tt)

variable_here : (n : ℕ) (rest : List ℕ) → strip (40 ∷ 118 ∷ 32 ∷ []) (put_tree (var n) rest) ≡ got tt (put_number n (41 ∷ rest))
unfolding strip put_tree
variable_here n rest = refl

pub no_variable : (ts : Trees) → Clean (node ts) → (rest : List ℕ) → strip (40 ∷ 118 ∷ 32 ∷ []) (put_tree (node ts) rest) ≡ bad
unfolding strip put_tree
no_variable ts c rest = rw (not_variable ts c.0 rest)

along_part : (item : Pair) (k : ℕ) (t : Tree) (rest ts : List ℕ) → along item (suc k) (put_tree t rest) ts ≡ and_then (item (put_tree t rest) ts) (λ left more. along item k more left)
unfolding along put_tree
along_part item k (var n) rest ts = refl
along_part item k (node us) rest ts = refl

pub record Fills (f : Filler) (σ : ℕ → Tree) (P : ℕ → Type 0) : Type 1 where
  pub bare : f.hole ≡ 0
  pub formed : (n : ℕ) → P n → T (formed_number n)
  pub entry : (n : ℕ) → P n → f.entry n ≡ put_tree (σ n) []

filled : {f : Filler} {σ : ℕ → Tree} {P : ℕ → Type 0} → Fills f σ P → (t : Tree) (d : ℕ) → Clean t → Within P t d → (rest : List ℕ) → fill_item f d (put_tree t rest) ≡ got (put_tree (fill_tree σ t) []) rest
filled {f} {σ} {P} h t d c w rest = fill_tree_lem f σ P h.formed h.entry t d c w rest (after_it (omega (arith, h.bare)))

module _ {f g : Filler} {σ τ : ℕ → Tree} {P Q : ℕ → Type 0} (F : Fills f σ P) (G : Fills g τ Q) where
  mutual
    unfolding fill_tree put_tree strip along

    pub same_tree : (t u : Tree) (d : ℕ) → Clean t → Clean u → Within P t d → Within Q u d → fill_tree σ t ≡ fill_tree τ u → (r s : List ℕ) → same_item f g d (put_tree t r) (put_tree u s) ≡ got s r
    same_tree (var n) u zero c e v w h r s = absurd v
    same_tree (var n) u (suc d) c e v w h r s =
        same_first f g (suc d) (put_tree (var n) r) (put_tree u s) (omega arith) (variable_here n r)
        ∙ rw (index_number f.entry n r (F.formed n v), F.entry n v, filled G u (suc d) e w s, ← h) (both_same (put_tree (σ n) []) r s)
    same_tree (node ts) (var m) zero c e v w h r s = absurd v
    same_tree (node ts) (var m) (suc d) c e v w h r s =
        same_second f g (put_tree (node ts) r) (put_tree (var m) s) (no_variable ts c r) (suc d) (omega arith) (variable_here m s)
        ∙ rw (index_number g.entry m s (G.formed m w), G.entry m w, filled F (node ts) (suc d) c v r) (turned_same (put_tree (τ m) []) (put_tree (node (fill_trees σ ts)) []) r s (ap (λ t. put_tree t []) h))
    same_tree (node ts) (node us) zero c e v w h r s = absurd v
    same_tree (node ts) (node us) (suc d) c e v w h r s =
        same_nested f g (put_tree (node ts) r) (put_tree (node us) s) (no_variable ts c r) (suc d) (omega arith) (no_variable us e s)
        ∙ (let k : suc d - 1 ≡ d = omega arith in let i : fill_trees σ ts ≡ fill_trees τ us = cc in rw k (same_inside ts us d c.1 e.1 v w i (length (put_inside ts (41 ∷ r))) r s (omega arith)))

    same_inside : (ts us : Trees) (d : ℕ) → CleanIn ts → CleanIn us → WithinIn P ts d → WithinIn Q us d → fill_trees σ ts ≡ fill_trees τ us → (k : ℕ) (r s : List ℕ) → length (put_inside ts (41 ∷ r)) ≤ k → along (same_item f g d) k (put_inside ts (41 ∷ r)) (put_inside us (41 ∷ s)) ≡ got s r
    same_inside end end d c e v w h zero r s l = absurd (omega arith)
    same_inside end end d c e v w h (suc k) r s l = refl
    same_inside end (byte b us) d c e v w h k r s l = cc
    same_inside end (bracket u us) d c e v w h k r s l = cc
    same_inside (byte b ts) end d c e v w h k r s l = cc
    same_inside (byte b ts) (byte x us) d c e v w h zero r s l = absurd (omega arith)
    same_inside (byte b ts) (byte x us) d c e v w h (suc k) r s l =
        let i : b ≡ x = cc in
        let j : fill_trees σ ts ≡ fill_trees τ us = cc in
        let (m, n) = inner_tests b c.0 in
        rw (m, n, eq-eqb b x i, same_inside ts us d c.1 e.1 v w j k r s (omega arith))
    same_inside (byte b ts) (bracket u us) d c e v w h k r s l = cc
    same_inside (bracket t ts) end d c e v w h k r s l = cc
    same_inside (bracket t ts) (byte b us) d c e v w h k r s l = cc
    same_inside (bracket t ts) (bracket u us) d c e v w h zero r s l = absurd (omega (arith, tree_longer t (put_inside ts (41 ∷ r))))
    same_inside (bracket t ts) (bracket u us) d c e v w h (suc k) r s l =
        let i : fill_tree σ t ≡ fill_tree τ u = cc in
        let j : fill_trees σ ts ≡ fill_trees τ us = cc in
        let m = tree_longer t (put_inside ts (41 ∷ r)) in
        along_part (same_item f g d) k t (put_inside ts (41 ∷ r)) (put_tree u (put_inside us (41 ∷ s)))
        ∙ rw (same_tree t u d c.0 e.0 v.0 w.0 i (put_inside ts (41 ∷ r)) (put_inside us (41 ∷ s)), same_inside ts us d c.1 e.1 v.1 w.1 j k r s (omega arith))

-- On any bytes: the two filled items are the same bytes.
pub record Agree (f g : Filler) (d : ℕ) (ps qs other rest : List ℕ) : Type 0 where
  pub bytes : List ℕ
  pub first : fill_item f d ps ≡ got bytes rest
  pub second : fill_item g d qs ≡ got bytes other

record AgreeIn (f g : Reader (List ℕ)) (k m : ℕ) (ps qs other rest : List ℕ) : Type 0 where
  bytes : List ℕ
  first : inside_up_to f k ps ≡ got bytes rest
  second : inside_up_to g m qs ≡ got bytes other

-- What a filled item begins with.
record Opened (bs : List ℕ) : Type 0 where
  inner : List ℕ
  opens : bs ≡ 40 ∷ inner

any_gives : {A Q : Type 0} → Q → (p : Parsed A) → Gives (λ _ _. Q) p
any_gives q bad = nothing
any_gives q (got a rest) = gives q

fill_opens : (f : Filler) (d : ℕ) (bs : List ℕ) → Gives (λ _ _. Opened bs) (fill_item f d bs)
unfolding fill_item skip_item
fill_opens f zero bs = nothing
fill_opens f (suc d) bs =
    on_test (Gives (λ _ _. Opened bs)) (eqb (length bs) f.hole)
    (λ _. bind (bind (strip_gives (40 ∷ []) bs) (λ _ mid e. any_gives (record { inner = mid; opens = e }) (closing 0 mid))) (λ _ mid o. any_gives o (instead (f.new d) mid)))
    (λ _. (one_of_meets {R = λ cs _ _. Opened cs} (branch (record { at = λ cs. any_gives (record { inner = 118 ∷ 32 ∷ cs; opens = refl }) (indexed f.entry cs) }) (branch (record { at = λ cs. any_gives (record { inner = cs; opens = refl }) (prefixed (40 ∷ []) (inside (fill_item f d) cs)) }) none))).at bs)

-- Equal bytes of a variable and of an item.
record Equal (x y : Parsed (List ℕ)) (other rest : List ℕ) : Type 0 where
  bytes : List ℕ
  first : x ≡ got bytes rest
  second : y ≡ got bytes other

both_agrees : (x y : Parsed (List ℕ)) → Gives (λ other rest. Equal x y other rest) (both x y)
unfolding both nothing_left matches
both_agrees bad y = nothing
both_agrees (got w rest) bad = nothing
both_agrees (got w rest) (got v other) = go (strip_gives v w)
  where
    go : {z : Parsed (Unit {0})} → Gives (λ _ left. w ≡ v ++ left) z → Gives (λ o r. Equal (got w rest) (got v other) o r) (nothing_left (and_then z (λ _ left. got left other)) rest)
    go nothing = nothing
    go (gives {rest = []} e) = gives (record { bytes = w; first = refl; second = ap (λ b. got b other) (sym (e ∙ append-nil v)) })
    go (gives {rest = b ∷ bs} e) = nothing

open_step : (item : Reader (List ℕ)) (k : ℕ) (bs : List ℕ) → Opened bs → inside_up_to item (suc k) bs ≡ and_then (item bs) (λ w rest. prefixed w (inside_up_to item k rest))
unfolding inside_up_to
open_step item k bs o = rw o.opens

not_here : {b x : ℕ} → T (not (eqb b x)) → b ≡ x → ⊥
not_here {b} {x} n e = T_not (eqb b x) n (rw (eq-eqb b x e) tt)

module _ (f g : Filler) where
  module _ (d : ℕ) (agrees : (ps qs : List ℕ) → Gives (λ other rest. Agree f g d ps qs other rest) (same_item f g d ps qs)) where
    along_agrees : (k m : ℕ) (ps qs : List ℕ) → length qs ≤ m → Gives (λ other rest. AgreeIn (fill_item f d) (fill_item g d) k m ps qs other rest) (along (same_item f g d) k ps qs)
    unfolding along prefixed
    along_agrees zero m ps qs h = nothing
    along_agrees (suc k) m [] qs h = nothing
    along_agrees (suc k) zero (b ∷ ps) qs h =
        on_test (Gives (λ o r. AgreeIn (fill_item f d) (fill_item g d) (suc k) zero (b ∷ ps) qs o r)) (eqb b 41)
        (λ _. bind (strip_gives (41 ∷ []) qs) (λ _ left e. absurd (omega (arith, ap length e))))
        (λ _. on_test (Gives (λ o r. AgreeIn (fill_item f d) (fill_item g d) (suc k) zero (b ∷ ps) qs o r)) (eqb b 40)
        (λ _. bind (agrees (b ∷ ps) qs) (λ left rest a. absurd (omega (arith, ap length (given (fill_opens g d qs) a.second).opens))))
        (λ _. bind (strip_gives (b ∷ []) qs) (λ _ left e. absurd (omega (arith, ap length e)))))
    along_agrees (suc k) (suc m) (b ∷ ps) qs h =
        on_test (Gives (λ o r. AgreeIn (fill_item f d) (fill_item g d) (suc k) (suc m) (b ∷ ps) qs o r)) (eqb b 41)
        (λ t. bind (strip_gives (41 ∷ []) qs) (λ _ left e. gives (record { bytes = 41 ∷ []; first = inside_close (fill_item f d) k b ps (eqb→eq b 41 t); second = rw e (inside_close (fill_item g d) m 41 left refl) })))
        (λ n. on_test (Gives (λ o r. AgreeIn (fill_item f d) (fill_item g d) (suc k) (suc m) (b ∷ ps) qs o r)) (eqb b 40)
        (λ t. bind (agrees (b ∷ ps) qs) (λ left rest a. weaken (along_agrees k m rest left (omega (arith, (given ((fill_shrinks g d).shrinks qs) a.second).less))) (λ o r q. record { bytes = a.bytes ++ q.bytes; first = inside_open (fill_item f d) k b ps (eqb→eq b 40 t) ∙ rw (a.first, q.first); second = open_step (fill_item g d) m qs (given (fill_opens g d qs) a.second) ∙ rw (a.second, q.second) })))
        (λ i. bind (strip_gives (b ∷ []) qs) (λ _ left e. weaken (along_agrees k m ps left (omega (arith, ap length e))) (λ o r q. record { bytes = b ∷ q.bytes; first = inside_on (fill_item f d) k b ps (not_here i) (not_here n) ∙ rw q.first; second = rw e (inside_on (fill_item g d) m b left (not_here i) (not_here n) ∙ rw q.second) }))))

  module _ (fh : f.hole ≡ 0) (gh : g.hole ≡ 0) where
    apart : (h : Filler) → h.hole ≡ 0 → (w bs : List ℕ) {rest : List ℕ} → strip (40 ∷ w) bs ≡ got tt rest → length bs ≡ h.hole → ⊥
    apart h z w bs e l = omega (arith, ap length (given (strip_gives (40 ∷ w) bs) e))

    module _ (d : ℕ) (agrees : (ps qs : List ℕ) → Gives (λ other rest. Agree f g d ps qs other rest) (same_item f g d ps qs)) (ps qs : List ℕ) where
      Goal : Parsed (List ℕ) → Type 0
      Goal x = Gives (λ other rest. Agree f g (suc d) ps qs other rest) x

      nested_agrees : strip variable ps ≡ bad → strip variable qs ≡ bad → (x y : Parsed (Unit {0})) → strip (40 ∷ []) ps ≡ x → strip (40 ∷ []) qs ≡ y → Goal (and_then x (λ _ cs. and_then y (λ _ ds. along (same_item f g d) (length cs) cs ds)))
      unfolding Goal inside prefixed
      nested_agrees v w bad y e h = nothing
      nested_agrees v w (got u cs) bad e h = nothing
      nested_agrees v w (got u cs) (got u' ds) e h =
          let k : suc d - 1 ≡ d = omega arith in
          weaken (along_agrees d agrees (length cs) (length ds) cs ds (omega arith)) (λ o r q. record {
            bytes = 40 ∷ q.bytes;
            first = fill_bracket f ps (apart f fh [] ps e) (suc d) (omega arith) v e ∙ rw (k, q.first);
            second = fill_bracket g qs (apart g gh [] qs h) (suc d) (omega arith) w h ∙ rw (k, q.second);
          })

      second_agrees : strip variable ps ≡ bad → (x : Parsed (Unit {0})) → strip variable qs ≡ x → Goal (same_item f g (suc d) ps qs)
      unfolding Goal
      second_agrees v bad w = let k : suc d - 1 ≡ d = omega arith in rw (same_nested f g ps qs v (suc d) (omega arith) w, k) (nested_agrees v w (strip (40 ∷ []) ps) (strip (40 ∷ []) qs) refl refl)
      second_agrees v (got u cs) e =
          rw (same_second f g ps qs v (suc d) (omega arith) e) (weaken (turned_gives (both_agrees (indexed g.entry cs) (fill_item f (suc d) ps))) (λ o r q. record { bytes = q.bytes; first = q.second; second = fill_variable g qs (apart g gh (118 ∷ 32 ∷ []) qs e) (suc d) (omega arith) e ∙ q.first }))

      next_agrees : (x : Parsed (Unit {0})) → strip variable ps ≡ x → Goal (same_item f g (suc d) ps qs)
      unfolding Goal
      next_agrees bad v = second_agrees v (strip variable qs) refl
      next_agrees (got u cs) e =
          rw (same_first f g (suc d) ps qs (omega arith) e) (weaken (both_agrees (indexed f.entry cs) (fill_item g (suc d) qs)) (λ o r q. record { bytes = q.bytes; first = fill_variable f ps (apart f fh (118 ∷ 32 ∷ []) ps e) (suc d) (omega arith) e ∙ q.first; second = q.second }))

    pub same_agrees : (d : ℕ) (ps qs : List ℕ) → Gives (λ other rest. Agree f g d ps qs other rest) (same_item f g d ps qs)
    unfolding same_item Goal
    same_agrees zero ps qs = nothing
    same_agrees (suc d) ps qs = next_agrees d (same_agrees d) ps qs (strip variable ps) refl

-- On written forms: the same exactly if the filled forms are.
module _ {f g : Filler} {σ τ : ℕ → Tree} {P Q : ℕ → Type 0} (F : Fills f σ P) (G : Fills g τ Q) where
  pub same_only : (t u : Tree) (d : ℕ) → Clean t → Clean u → Within P t d → Within Q u d → (r s : List ℕ) {other rest : List ℕ} → same_item f g d (put_tree t r) (put_tree u s) ≡ got other rest → put_tree (fill_tree σ t) [] ≡ put_tree (fill_tree τ u) []
  same_only t u d c e v w r s h =
      let a = given (same_agrees f g F.bare G.bare d (put_tree t r) (put_tree u s)) h in
      let i = filled F t d c v r in
      let j = filled G u d e w s in
      let m = a.first in
      let n = a.second in
      cc

pub term_fills : (f : Filler) (σ : Substitution) (w : ℕ) → f.hole ≡ 0 → ((n : ℕ) → n < w → f.entry n ≡ put_term (σ n) []) → Fills f (trees σ) (Below w)
term_fills f σ w h e = record { bare = h; formed = λ n b. b.0; entry = λ n b. e n b.1 ∙ put_term_lem (σ n) [] }
