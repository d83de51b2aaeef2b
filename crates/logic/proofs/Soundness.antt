-- Each of the fourteen rules is sound, for one ground substitution, constructively.
use Prim.Native.Nat.{ℕ, suc}
use mathlib.Core.Bool.{true, ◌&&◌}
use mathlib.Core.List.{List, [], ◌∷◌, ◌++◌}
use mathlib.Core.Logic.{◌⊎◌, inl, inr}
use mathlib.Core.Path.{◌≡◌, refl, sym, ap, subst}
use lib.Dec.{T}
use Rattle.logic.specs.declared.Sign.TheVariants.{Positive, Negative}
use Rattle.logic.specs.declared.Link.TheVariants.{Eq, Sub}
use Rattle.logic.specs.declared.Rule.{Rule}
use Rattle.logic.specs.Syntax.{Term, nil, cons, value, Part, Parts, only, also, Atom, link, obj, arrows, method, Literal, lit, Clause}
use Rattle.logic.specs.Terms.{terms_of, with_terms, nth, entry_or}
use Rattle.logic.specs.Each.{each_term, each_atom, each_clause, declares, never, ground_term, no_molecule, ground_atom}
use Rattle.logic.specs.Fill.{Substitution, fill_atom, fill_literal, fill_clause}
use Rattle.logic.specs.Occurrence.{found, find_atom, find_literal, Replaced, ReplacedAtom}
use Rattle.logic.specs.Rules.{uses, Fits, Agreement, equal, Holds, PartAt, plus, minus, one, Row, Parent, filled, At, Infers}
use Rattle.logic.specs.Structure.{Structure, AllIn, TrueIn, SatisfiesLiteral, SomeLiteral, Satisfies}
use Rattle.logic.proofs.Both.{left}
use Rattle.logic.proofs.Finding.{atom_back, atom_replaced, found_map}
use Rattle.logic.proofs.Instances.{at_fill}
use Rattle.logic.proofs.Ground.{at_each}
use Rattle.logic.proofs.Parts.{link_parts}
use Rattle.logic.proofs.Truth.{true_replaced, fits_true, join_true}
use Rattle.logic.proofs.Tested.{atom_in}

-- A satisfied literal of a clause is at a position or among the others.
module _ (S : Atom → Type 0) where
  at_split : {i : ℕ} {l : Literal} {c r : Clause} → At i l c r → SomeLiteral S c → SatisfiesLiteral S l ⊎ SomeLiteral S r
  unfolding SomeLiteral
  at_split At.here (inl h) = inl h
  at_split At.here (inr h) = inr h
  at_split (At.there p) (inl h) = inr (inl h)
  at_split (At.there {l = l} {m = m} {r = r} p) (inr h) = go (at_split p h)
    where
      go : SatisfiesLiteral S l ⊎ SomeLiteral S r → SatisfiesLiteral S l ⊎ (SatisfiesLiteral S m ⊎ SomeLiteral S r)
      go (inl h) = inl h
      go (inr h) = inr (inr h)

  at_literal : {i : ℕ} {l : Literal} {c r : Clause} → At i l c r → SatisfiesLiteral S l → SomeLiteral S c
  unfolding SomeLiteral
  at_literal At.here h = inl h
  at_literal (At.there p) h = inr (at_literal p h)

  -- Of two positions that differ, each stands among the other's other literals.
  at_other : {i j : ℕ} {l m : Literal} {c r r' : Clause} → At i l c r → At j m c r' → (i ≡ j → ⊥) → SatisfiesLiteral S l → SomeLiteral S r'
  unfolding SomeLiteral
  at_other At.here At.here n h = absurd (n refl)
  at_other At.here (At.there q) n h = inl h
  at_other (At.there p) At.here n h = at_literal p h
  at_other (At.there p) (At.there q) n h = inr (at_other p q (λ e. n (ap suc e)) h)

  some_left : (c d : Clause) → SomeLiteral S c → SomeLiteral S (c ++ d)
  unfolding SomeLiteral
  some_left [] d h = absurd h
  some_left (l ∷ c) d (inl h) = inl h
  some_left (l ∷ c) d (inr h) = inr (some_left c d h)

  some_right : (c d : Clause) → SomeLiteral S d → SomeLiteral S (c ++ d)
  unfolding SomeLiteral
  some_right [] d h = h
  some_right (l ∷ c) d h = inr (some_right c d h)

module _ {table : List ℕ} (H : Atom → Type 0) (S : Structure table H) where
  eq_ground : {a b : Term} → H (link Eq a b) → T (ground_term table a)
  unfolding ground_atom no_molecule ground_term
  eq_ground {a} {b} h = (link_parts never (declares table) Eq a b (S.ground h)).0

  eq_sym : {a b : Term} → H (link Eq a b) → H (link Eq b a)
  unfolding ReplacedAtom terms_of with_terms nth entry_or
  eq_sym {a} {b} h = S.replace h (S.eq_refl a (eq_ground h)) (cons b (cons a nil), Replaced.here, refl)

  -- Replacing an occurrence by an equal term keeps a literal satisfied, of either sign.
  replaced_sound : (σ : Substitution) (u : Term) {s : Term} (l : Literal) {l' : Literal} (k : ℕ) → find_literal σ u l k ≡ found s l' →
      H (link Eq s u) → SatisfiesLiteral H (fill_literal σ l) → SatisfiesLiteral H l'
  unfolding find_literal fill_literal SatisfiesLiteral
  replaced_sound σ u (lit Positive x) k e q h =
      found_map (lit Positive) (find_atom σ u x k) e (λ y e₁ e₂.
      rw (← e₂) (true_replaced H S q (fill_atom σ x) y (atom_replaced σ u x k e₁) h))
  replaced_sound σ u {s} (lit Negative x) k e q h =
      found_map (lit Negative) (find_atom σ u x k) e (λ y e₁ e₂.
      rw (← e₂) (λ w. h (true_replaced H S (eq_sym q) y (fill_atom σ x) (atom_back s u (fill_atom σ x) y (atom_replaced σ u x k e₁)) w)))

  row_sound : {k : ℕ} {rule : Rule} {l m : Literal} {g : Agreement} {new : Clause} → Row k rule l m g new → Holds g →
      SatisfiesLiteral H l → SatisfiesLiteral H m → SomeLiteral H new
  unfolding Holds SatisfiesLiteral SomeLiteral TrueIn AllIn
  row_sound (Row.res {x = x} {y = y}) e h h' = h (fits_true H S x y e h')
  row_sound (Row.acy {p = p} {q = q} {p' = p'} {q' = q'}) e h h' = let w : link Sub q' p' ≡ link Sub q p = cc in inl (S.sub_antisym h (subst H w h'))
  row_sound (Row.tra {q = q} {q' = q'} {r = r}) e h h' = let w : link Sub q' r ≡ link Sub q r = cc in inl (S.sub_trans h (subst H w h'))
  row_sound (Row.inc {q = q} {q' = q'} {r = r}) e h h' = let w : link Sub q' r ≡ link Sub q r = cc in inl (S.mem_sub h (subst H w h'))
  row_sound (Row.inh {p = p} {p' = p'} {s = s} t) e h h' = let w : link Sub s p' ≡ link Sub s p = cc in inl (S.sub_object t h (subst H w h'))
  row_sound (Row.inp {q = q} {q' = q'} {s = s} t p) e h h' = let w : link Sub s q' ≡ link Sub s q = cc in inl (S.sub_argument t h p (subst H w h'))
  row_sound (Row.out {r = r} {r' = r'} {s = s} t) e h h' = let w : link Sub r' s ≡ link Sub r s = cc in inl (S.sub_result t h (subst H w h'))
  row_sound (Row.sca {a = a} {b = b} {o = o} {m = m} {o' = o'} {m' = m'} {r' = r'} {ts = ts} {ts' = ts'} t t') e h h' =
      let w : method b o' m' ts' (value r') ≡ method a o m ts (value r') = cc in inl (S.scalar_eq t h (subst H w h'))
  row_sound (Row.mer {o = o} {o' = o'} {ps = ps} {qs = qs}) e h h' =
      let w : o' ≡ o = cc in inl (join_true H S o ps qs h (subst (λ t. AllIn H t qs) w h'))

  obj_ground : (p : Term) → T (each_clause never (declares table) (minus (obj p) ∷ [])) → T (ground_term table p)
  unfolding each_clause each_atom each_term terms_of ground_term
  obj_ground p h = left (each_term never (declares table) p) true (left (each_term never (declares table) p && true) true h)

  -- A rule with two parents, one satisfied literal of each in hand.
  two_sound : {i j k : ℕ} {rule : Rule} {l m : Literal} {g : Agreement} {new a b r r' : Clause} → At i l a r → At j m b r' → Row k rule l m g new → Holds g →
      SomeLiteral H a → SomeLiteral H b → SomeLiteral H (new ++ (r ++ r'))
  two_sound {l = l} {m} {new = new} {r = r} {r'} p q w e h h' = go (at_split H p h) (at_split H q h')
    where
      go : SatisfiesLiteral H l ⊎ SomeLiteral H r → SatisfiesLiteral H m ⊎ SomeLiteral H r' → SomeLiteral H (new ++ (r ++ r'))
      go (inl x) (inl y) = some_left H new (r ++ r') (row_sound w e x y)
      go (inl x) (inr y) = some_right H new (r ++ r') (some_right H r r' y)
      go (inr x) y = some_right H new (r ++ r') (some_left H r r' x)

  par_sound : (A B : Parent) (k : ℕ) {i j : ℕ} {l l' : Literal} {s s' u : Term} {r r' : Clause} →
      At i l A.clause r → At j (plus (link Eq s' u)) (filled B) r' → find_literal A.image u l k ≡ found s l' → Holds (equal (one s) (one s')) →
      SomeLiteral H (filled A) → SomeLiteral H (filled B) → SomeLiteral H (l' ∷ (fill_clause A.image r ++ r'))
  unfolding Holds filled SomeLiteral SatisfiesLiteral TrueIn
  par_sound A B k {l = l} {l'} {s} {s'} {u} {r} {r'} p q e w h h' =
      go (at_split H (at_fill A.image p) h) (at_split H q h')
    where
      σ : Substitution
      σ = A.image

      same : link Eq s' u ≡ link Eq s u
      same = cc

      go : SatisfiesLiteral H (fill_literal σ l) ⊎ SomeLiteral H (fill_clause σ r) → H (link Eq s' u) ⊎ SomeLiteral H r' →
          SatisfiesLiteral H l' ⊎ SomeLiteral H (fill_clause σ r ++ r')
      go (inl x) (inl y) = inl (replaced_sound σ u l k e (subst H same y) x)
      go (inl x) (inr y) = inr (some_right H (fill_clause σ r) r' y)
      go (inr x) y = inr (some_left H (fill_clause σ r) r' x)

  -- Factoring: the literal that goes fits into the one that stays, or has it fit in.
  fac_plus : {i j : ℕ} {x y : Atom} {c r r' : Clause} → At i (plus x) c r → At j (plus y) c r' → (i ≡ j → ⊥) → Fits x y → SomeLiteral H c → SomeLiteral H r'
  unfolding SatisfiesLiteral
  fac_plus {x = x} {y} {r' = r'} p q n e h = go (at_split H q h)
    where
      go : TrueIn H y ⊎ SomeLiteral H r' → SomeLiteral H r'
      go (inl w) = at_other H p q n (fits_true H S x y e w)
      go (inr w) = w

  fac_minus : {i j : ℕ} {x y : Atom} {c r r' : Clause} → At i (minus x) c r → At j (minus y) c r' → (i ≡ j → ⊥) → Fits x y → SomeLiteral H c → SomeLiteral H r
  unfolding SatisfiesLiteral
  fac_minus {x = x} {y} {r = r} p q n e h = go (at_split H p h)
    where
      go : (TrueIn H x → ⊥) ⊎ SomeLiteral H r → SomeLiteral H r
      go (inl w) = at_other H q p (λ h. n (sym h)) (λ v. w (fits_true H S x y e v))
      go (inr w) = w

  eli_sound : {i : ℕ} {p : Term} {c r : Clause} → At i (minus (obj p)) c r → T (each_clause never (declares table) c) → SomeLiteral H c → SomeLiteral H r
  unfolding SatisfiesLiteral TrueIn
  eli_sound {p = p} {r = r} q g h = go (at_split H q h)
    where
      go : (H (obj p) → ⊥) ⊎ SomeLiteral H r → SomeLiteral H r
      go (inl w) = absurd (w (S.obj_all p (obj_ground p (at_each never (declares table) q g))))
      go (inr w) = w

  pro_sound : {i k : ℕ} {o : Term} {p q : Part} {ps : Parts} {c r : Clause} → At i (plus (arrows o (also p ps))) c r → PartAt k q (also p ps) →
      SomeLiteral H c → SomeLiteral H (plus (arrows o (only q)) ∷ r)
  unfolding SomeLiteral SatisfiesLiteral TrueIn AllIn
  pro_sound {o = o} {p} {q} {ps} {r = r} a w h = go (at_split H a h)
    where
      go : (H (arrows o (only p)) × AllIn H o ps) ⊎ SomeLiteral H r → H (arrows o (only q)) ⊎ SomeLiteral H r
      go (inl t) = inl (atom_in H o w t)
      go (inr t) = inr t

  row_uses : {k : ℕ} {rule : Rule} {l m : Literal} {g : Agreement} {new : Clause} → Row k rule l m g new → T (uses rule).a × T (uses rule).b
  unfolding uses
  row_uses Row.res = (tt, tt)
  row_uses Row.acy = (tt, tt)
  row_uses Row.tra = (tt, tt)
  row_uses Row.inc = (tt, tt)
  row_uses (Row.inh h) = (tt, tt)
  row_uses (Row.inp h p) = (tt, tt)
  row_uses (Row.out h) = (tt, tt)
  row_uses (Row.sca h h') = (tt, tt)
  row_uses Row.mer = (tt, tt)

  -- All fourteen: where the used parents are satisfied, so is what the rule gives.
  pub infers_sound : (A B : Parent) {i j k : ℕ} {rule : Rule} {g : Agreement} {c : Clause} →
      T (each_clause never (declares table) (filled A)) → T (ground_term table (A.image 0)) →
      Infers A B i j k rule g c → Holds g →
      (T (uses rule).a → Satisfies H (filled A)) → (T (uses rule).b → Satisfies H (filled B)) → Satisfies H c
  unfolding uses Holds SomeLiteral SatisfiesLiteral Satisfies TrueIn
  infers_sound A B ground zero-ground Infers.refl e a b n = n (inl (S.sub_refl (A.image 0) zero-ground))
  infers_sound A B ground zero-ground (Infers.fac⁺ p q d) e a b n = a tt (λ h. n (fac_plus p q d e h))
  infers_sound A B ground zero-ground (Infers.fac⁻ p q d) e a b n = a tt (λ h. n (fac_minus p q d e h))
  infers_sound A B {k = k} ground zero-ground (Infers.par p q w) e a b n = a tt (λ h. b tt (λ h'. n (par_sound A B k p q w e h h')))
  infers_sound A B ground zero-ground (Infers.eli p) e a b n = a tt (λ h. n (eli_sound p ground h))
  infers_sound A B ground zero-ground (Infers.pro p w) e a b n = a tt (λ h. n (pro_sound p w h))
  infers_sound A B ground zero-ground (Infers.two p q w) e a b n = a (row_uses w).0 (λ h. b (row_uses w).1 (λ h'. n (two_sound p q w e h h')))
