-- A walk by places and a reader of the bytes from a place on come to the same: the shapes of a clause.
use Prim.Native.Nat.{ℕ, zero, suc, ◌+◌}
use mathlib.Core.Bool.{Bool, true, false, cond, true≢false}
use borrow.Author.Tests.{eq-eqb}
use mathlib.Core.List.{List, [], ◌∷◌}
use mathlib.Core.Path.{◌≡◌, refl, sym, ap, subst, ◌∙◌}
use native.Mathlib.Omega.{arith}
use lib.Dec.{eqb, eqb→eq}
use lib.ListN.{length, drop, drop_of_length-le}
use Rattle.logic.specs.declared.Link.{Link}
use Rattle.logic.specs.declared.Link.TheVariants.{Eq, Mem, Sub}
use Rattle.text.specs.Words.{bytes}
use Rattle.text.specs.Read.{Parsed, bad, got, Reader, and_then, ◌>>◌, strip, skip}
use Rattle.text.proofs.Places.{end_of}
use Rattle.text.specs.Access.{skip_item, pass_item, to_item, opening, to_argument, to_occurrence, stood}
use Rattle.text.proofs.Gives.{Gives, nothing, gives}
use Rattle.text.proofs.Positions.{End, end_drop, Tail, strip_tail, skip_tail, item_tail}
use Rattle.clauses.specs.Entries.{after}
use Rattle.clauses.specs.Shapes.{literal, next, positive, negative, first_or, atom, link, denied, object, scalar, signature, result_of, value_of, argument_of, same_sign, is_sv, same_arrow}
use Rattle.clauses.specs.Parts.{molecule, arrow_head, arrow_object, object_of}
use Rattle.clauses.proofs.Places.{strip_at, skip_at, next_at, argument_at, place_at, positive_at, negative_at, first_at, or_place, if_place, result_at, value_at, object_at, scalar_at, signature_at, denied_at, method_argument_at, link_at, occurrence_at, within, same_sign_at, atom_at, same_arrow_at}
use Rattle.clauses.proofs.Placing.{Stands, none_past, or_else_here, or_else_past, if_place_here, if_place_past}
use Rattle.rules.proofs.Answered.{within_here, within_past}
use Rattle.rules.proofs.RowPlaces.{object_place}
use Rattle.rules.proofs.Tails.{object_tail}
use Rattle.rules.proofs.Targets.{argument_tail}
use Rattle.rules.proofs.ParMeets.{occurrence_tail}

-- Where something was read, the bytes after it stand at the place; where nothing was, the place is past the end.
pub data Lands (p : List ℕ) (x : ℕ) : Parsed (Unit {0}) → Type 0 where
  lands : {rest : List ℕ} → Stands p x rest → Lands p x (got tt rest)
  lost : x ≡ length p + 1 → Lands p x bad

-- What follows may be said of all that was read before.
pub assoc : {A B C : Type 0} (q : Parsed A) (f : A → Reader B) (g : B → Reader C) → and_then (and_then q f) g ≡ and_then q (λ a rest. and_then (f a rest) g)
assoc bad f g = refl
assoc (got a rest) f g = refl

pub land : {read : Reader (Unit {0})} (p : List ℕ) (at : ℕ) → Tail read → Lands p (end_of p (read (drop at p))) (read (drop at p))
unfolding end_of
land {read} p at t = go (t.tail (drop at p))
  where
    go : {q : Parsed (Unit {0})} → Gives (λ _ rest. End (drop at p) rest) q → Lands p (end_of p q) q
    go nothing = lost refl
    go (gives {rest} e) = lands (record { within = omega arith; bytes_there = end_drop p at rest e })

-- At the place stand the bytes after what was read; none, where nothing was.
pub landed : {p : List ℕ} {x : ℕ} {q : Parsed (Unit {0})} → Lands p x q → drop x p ≡ after q
unfolding after
landed (lands s) = s.bytes_there
landed {p} (lost e) = drop_of_length-le p (omega (arith, e))

pub within_lands : (p : List ℕ) {x : ℕ} {q : Parsed (Unit {0})} → Lands p x q → within p x ≡ stood q
unfolding stood
within_lands p {x} (lands s) = within_here p x s.within
within_lands p {x} (lost e) = within_past p x e

-- A walk from any place.
pub record Walks (p : List ℕ) (walk : ℕ → ℕ) (read : Reader (Unit {0})) : Type 0 where
  pub from : {x : ℕ} {q : Parsed (Unit {0})} → Lands p x q → Lands p (walk x) (and_then q (λ _. read))

is_lost : {p : List ℕ} {x : ℕ} → Lands p x bad → x ≡ length p + 1
is_lost (lost e) = e

pub lost_walk : {p : List ℕ} {walk : ℕ → ℕ} {read : Reader (Unit {0})} → Walks p walk read → {x : ℕ} → x ≡ length p + 1 → walk x ≡ length p + 1
lost_walk w e = is_lost (w.from (lost e))

-- A test of an item's first byte, the item left where it is.
data Opens : List ℕ → Parsed (Unit {0}) → Parsed (Unit {0}) → Type 0 where
  opens : {bs more : List ℕ} → Opens bs (got tt more) (got tt bs)
  other : {bs : List ℕ} → Opens bs bad bad

opening_view : (bs : List ℕ) → Opens bs (skip "(" bs) (opening bs)
unfolding strip opening
opening_view [] = other
opening_view (b ∷ bs) = go (eqb 40 b) (eqb b 40) refl refl
  where
    go : (c d : Bool) → eqb 40 b ≡ c → eqb b 40 ≡ d → Opens (b ∷ bs) (cond c (got tt bs) bad) (cond d (got tt (b ∷ bs)) bad)
    go true true e f = opens
    go false false e f = other
    go true false e f = absurd (true≢false (sym (eq-eqb b 40 (sym (eqb→eq 40 b (rw e tt)))) ∙ f))
    go false true e f = absurd (true≢false (sym (eq-eqb 40 b (sym (eqb→eq b 40 (rw f tt)))) ∙ e))

module _ (p : List ℕ) where
  one_walk : (read : Reader (Unit {0})) → Tail read → read [] ≡ bad → Walks p (λ x. end_of p (read (drop x p))) read
  one_walk read t none = record { from = go }
    where
      go : {x : ℕ} {q : Parsed (Unit {0})} → Lands p x q → Lands p (end_of p (read (drop x p))) (and_then q (λ _. read))
      go {x} (lands s) = subst (λ (bs : List ℕ). Lands p (end_of p (read (drop x p))) (read bs)) s.bytes_there (land p x t)
      go {x} (lost e) = lost (ap (λ y. end_of p (read (drop y p))) e ∙ none_past p read none)

  pub then_walk : {v w : ℕ → ℕ} {f g : Reader (Unit {0})} → Walks p v f → Walks p w g → Walks p (λ x. w (v x)) (f >> g)
  then_walk {v} {w} {f} {g} a b = record { from = go }
    where
      go : {x : ℕ} {q : Parsed (Unit {0})} → Lands p x q → Lands p (w (v x)) (and_then q (λ _. f >> g))
      go {x} {q} l = subst (Lands p (w (v x))) (assoc q (λ _. f) (λ _. g)) (b.from (a.from l))

  pub strip_walk : (b : ℕ) (w : List ℕ) → Walks p (strip_at p (b ∷ w)) (strip (b ∷ w))
  unfolding strip_at strip
  strip_walk b w = one_walk (strip (b ∷ w)) (strip_tail (b ∷ w)) refl

  pub skip_walk : Walks p (skip_at p) skip_item
  unfolding skip_at skip_item strip
  skip_walk = one_walk skip_item skip_tail refl

  pub next_walk : Walks p (next_at p) next
  unfolding next_at next
  next_walk = then_walk skip_walk (strip_walk 32 [])

  -- From any place, whether anything stands there or not.
  pub next_landed : (x : ℕ) {bs : List ℕ} → drop x p ≡ bs → drop (next_at p x) p ≡ after (next bs)
  unfolding next_at skip_at next
  next_landed x d = landed ((strip_walk 32 []).from (subst (λ (bs : List ℕ). Lands p (end_of p (skip_item (drop x p))) (skip_item bs)) d (land p x skip_tail)))

  pub positive_walk : Walks p (positive_at p) positive
  unfolding positive_at positive
  positive_walk = strip_walk 40 _

  pub negative_walk : Walks p (negative_at p) negative
  unfolding negative_at negative
  negative_walk = strip_walk 40 _

  pub denied_walk : Walks p (denied_at p) denied
  unfolding denied
  denied_walk = strip_walk 40 _

  pub link_walk : (k : Link) → Walks p (link_at p k) (link k)
  unfolding first_at link
  link_walk Eq = then_walk positive_walk (strip_walk 40 _)
  link_walk Mem = then_walk positive_walk (strip_walk 40 _)
  link_walk Sub = then_walk positive_walk (strip_walk 40 _)

  -- The one or else the other.
  either_lands : {x y : ℕ} {q r : Parsed (Unit {0})} → Lands p x q → Lands p y r → Lands p (or_place p x y) (first_or q r)
  unfolding first_or
  either_lands {x} {y} (lands s) m = rw (or_else_here p {x = x} y s.within) (lands s)
  either_lands {x} {y} (lost e) m = rw (or_else_past p x y e) m

  both_ways : (v w : Reader (Unit {0})) (q : Parsed (Unit {0})) → first_or (and_then q (λ _. v)) (and_then q (λ _. w)) ≡ and_then q (λ _ bs. first_or (v bs) (w bs))
  unfolding first_or
  both_ways v w bad = refl
  both_ways v w (got u bs) = refl

  either_walk : {v w : ℕ → ℕ} {f g : Reader (Unit {0})} → Walks p v f → Walks p w g → Walks p (λ x. or_place p (v x) (w x)) (λ bs. first_or (f bs) (g bs))
  either_walk {v} {w} {f} {g} a b = record { from = go }
    where
      go : {x : ℕ} {q : Parsed (Unit {0})} → Lands p x q → Lands p (or_place p (v x) (w x)) (and_then q (λ _ bs. first_or (f bs) (g bs)))
      go {x} {q} l = subst (Lands p (or_place p (v x) (w x))) (both_ways f g q) (either_lands (a.from l) (b.from l))

  pub atom_walk : Walks p (atom_at p) atom
  unfolding atom_at atom
  atom_walk = either_walk positive_walk negative_walk

  pub scalar_walk : Walks p (scalar_at p) scalar
  unfolding object_at object
  scalar_walk = then_walk positive_walk (either_walk (strip_walk 40 _) (strip_walk 40 _))

  pub signature_walk : Walks p (signature_at p) signature
  unfolding object_at object
  signature_walk = then_walk positive_walk (either_walk (strip_walk 40 _) (strip_walk 40 _))

  pub result_walk : Walks p (result_at p) result_of
  unfolding result_at result_of
  result_walk = then_walk next_walk (then_walk next_walk next_walk)

  -- A place where an item begins.
  opening_walk : Walks p (λ x. if_place p (strip_at p (bytes "(") x) x) opening
  unfolding strip_at opening strip
  opening_walk = record { from = go }
    where
      here : {x : ℕ} {bs : List ℕ} {q r : Parsed (Unit {0})} → Stands p x bs → Opens bs q r → Lands p (end_of p q) q → Lands p (if_place p (end_of p q) x) r
      here {x} s opens (lands t) = rw (if_place_here p _ x t.within) (lands s)
      here {x} s other (lost e) = lost (if_place_past p _ x e)

      go : {x : ℕ} {q : Parsed (Unit {0})} → Lands p x q → Lands p (if_place p (end_of p (skip "(" (drop x p))) x) (and_then q (λ _. opening))
      go {x} (lands {rest} s) =
          subst (λ (bs : List ℕ). Lands p (if_place p (end_of p (skip "(" bs)) x) (opening rest)) (sym s.bytes_there)
          (here s (opening_view rest) (subst (λ (bs : List ℕ). Lands p (end_of p (skip "(" bs)) (skip "(" bs)) s.bytes_there (land p x (strip_tail (bytes "(")))))
      go {x} (lost e) = lost (if_place_past p _ x (ap (λ y. end_of p (skip "(" (drop y p))) e ∙ none_past p (skip "(") refl))

  pub value_walk : Walks p (value_at p) value_of
  unfolding value_at value_of
  value_walk = then_walk result_walk opening_walk

  -- The object of an arrow atom or a molecule, and of a molecule.
  pub object_walk : Walks p (object_place p) object_of
  unfolding object_place object_of molecule arrow_object arrow_head first_or strip
  object_walk = one_walk object_of object_tail refl

  pub molecule_walk : Walks p (strip_at p (bytes "(mol ")) molecule
  unfolding molecule
  molecule_walk = strip_walk 40 _

  no_argument : (k : ℕ) → to_argument k [] ≡ bad
  unfolding to_argument strip
  no_argument zero = refl
  no_argument (suc k) = refl

  pub argument_walk : (k : ℕ) → Walks p (λ o. method_argument_at p o k) (argument_of k)
  unfolding argument_at argument_of
  argument_walk k = then_walk next_walk (then_walk next_walk (one_walk (to_argument k) (argument_tail k) (no_argument k)))

  pub occurrence_walk : (k : ℕ) → Walks p (λ x. occurrence_at p x k) (to_occurrence k)
  unfolding to_occurrence strip
  occurrence_walk k = one_walk (to_occurrence k) (occurrence_tail k) refl

  no_item : (n : ℕ) → to_item n [] ≡ bad
  unfolding to_item pass_item strip
  no_item zero = refl
  no_item (suc n) = refl

  -- Literal n of the clause that p begins with.
  pub literal_lands : (n : ℕ) → Lands p (place_at p n) (literal n p)
  unfolding place_at strip_at literal
  literal_lands n = (one_walk (to_item n) (item_tail n) (no_item n)).from (land p 0 (strip_tail (bytes "(or")))

-- Tests of two literals.
module _ (p q : List ℕ) {i j : ℕ} {x y : List ℕ} (s : Stands p i x) (t : Stands q j y) where
  pub same_sign_lands : same_sign_at p i q j ≡ same_sign x y
  unfolding same_sign_at same_sign
  same_sign_lands =
      rw (
        within_lands p ((positive_walk p).from (lands s)),
        within_lands q ((positive_walk q).from (lands t)),
        within_lands p ((negative_walk p).from (lands s)),
        within_lands q ((negative_walk q).from (lands t)),
      )

  pub same_arrow_lands : same_arrow_at p i q j ≡ same_arrow x y
  unfolding same_arrow_at same_arrow is_sv first_at
  same_arrow_lands =
      let a : within p (first_at p (bytes "(sv ") i) ≡ is_sv x = within_lands p ((then_walk p (positive_walk p) (strip_walk p 40 _)).from (lands s)) in
      let b : within q (first_at q (bytes "(sv ") j) ≡ is_sv y = within_lands q ((then_walk q (positive_walk q) (strip_walk q 40 _)).from (lands t)) in
      rw (a, b)
