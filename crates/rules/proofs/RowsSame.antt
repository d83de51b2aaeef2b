-- What the rule table finds by places and by bytes is the same.
use Prim.Native.Nat.{ℕ, ◌+◌, ◌-◌}
use mathlib.Core.Bool.{Bool, true, false, cond, not, ◌&&◌, ◌||◌, true≢false}
use mathlib.Core.List.{List}
use mathlib.Core.Logic.{◌⊎◌, inl, inr}
use mathlib.Core.Path.{◌≡◌, refl, sym, ap, ◌∙◌}
use native.Mathlib.Omega.{arith}
use native.Mathlib.Decide.{ℕ_discrete}
use borrow.Author.Tests.{ne_eqb, eq-eqb}
use lib.Dec.{eqb}
use lib.ListN.{length, length-drop}
use Rattle.std.specs.Prelude.{Option, Some, None}
use Rattle.logic.specs.declared.Link.TheVariants.{Mem, Sub}
use Rattle.text.specs.Read.{Parsed, bad, got}
use Rattle.text.specs.Access.{stood}
use Rattle.clauses.specs.Shapes.{positive, negative, first_or, atom, same_sign}
use Rattle.clauses.specs.Parts.{PartIn, part_at}
use Rattle.clauses.proofs.Places.{atom_at, same_sign_at}
use Rattle.clauses.proofs.Placing.{Stands}
use Rattle.rule_table.specs.declared.Target as code
use Rattle.rule_table.specs.declared.Rewriting as table
use Rattle.rule_table.specs.declared.Target.TheVariants as target
use Rattle.rule_table.specs.Rows.{FoundAt, nothing, fitting, rewriting, crossing, calling, denied_term, merging, projecting, behind, term_at, resolved, factored, replaced, crossed, called, denying, joined, with_part, projected}
use Rattle.rules.proofs.Answered.{within_here, within_past}
use Rattle.rules.proofs.RowPlaces as old
use Rattle.rules.proofs.RowPlaces.{Kind, Reflexivity, Resolution, Factoring, Rewriting, Acyclicity, Scalarity, Elimination, Merging, Projection, Found, is_part}
use Rattle.rules.proofs.RowsMeet.{both_within, one_past}
use Rattle.rules.proofs.MoleculeRows.{no_part}
use Rattle.rules.proofs.Landing.{Lands, lands, lost, lost_walk, within_lands, Walks, then_walk, next_walk, positive_walk, negative_walk, link_walk, denied_walk, atom_walk, scalar_walk, signature_walk, value_walk, object_walk, molecule_walk, argument_walk, occurrence_walk, same_sign_lands, same_arrow_lands}

-- What was found, at the places.
pub data Alike (p q : List ℕ) (f : Found) : FoundAt → Type 0 where
  same_none : f.kind ≡ Reflexivity → Alike p q f nothing
  same_fit : {l r : List ℕ} → (f.kind ≡ Resolution) ⊎ (f.kind ≡ Factoring) → Stands p f.left l → Stands q f.right r → Alike p q f (fitting l r)
  same_rewrite : {l t s o : List ℕ} → f.kind ≡ Rewriting → Stands p f.literal l → Stands p f.left t → Stands q f.right s → Stands q f.other o → Alike p q f (rewriting l t s o)
  same_cross : {a b c d : List ℕ} → f.kind ≡ Acyclicity → Stands p f.left a → Stands p f.more b → Stands q f.right c → Stands q f.other d → Alike p q f (crossing a b c d)
  same_call : {o r o' r' : List ℕ} {b : Bool} → f.kind ≡ Scalarity → f.arrows ≡ b → Stands p f.left o → Stands p f.more r → Stands q f.right o' → Stands q f.other r' → Alike p q f (calling b o r o' r')
  same_denied : f.kind ≡ Elimination → Alike p q f denied_term
  same_merge : {l o r o' : List ℕ} → f.kind ≡ Merging → Stands p f.left l → Stands p f.more o → Stands q f.right r → Stands q f.other o' → Alike p q f (merging l o r o')
  same_project : {o : List ℕ} {x : PartIn} → f.kind ≡ Projection → Stands p f.left o → part_at f.more o ≡ Some x → Alike p q f (projecting o x)

pub data Same (p q : List ℕ) (f : Found) : Option FoundAt → Type 0 where
  unfound : f.shaped ≡ false → Same p q f None
  is_found : {g : FoundAt} → f.shaped ≡ true → Alike p q f g → Same p q f (Some g)

-- Behind what was read.
find_behind : {p q s : List ℕ} {f : Found} {x : ℕ} {a : Parsed (Unit {0})} (found : List ℕ → Option FoundAt) → Lands s x a → (x ≡ length s + 1 → Same p q f None) → ((rest : List ℕ) → Stands s x rest → Same p q f (found rest)) →
    Same p q f (behind a found)
unfolding behind
find_behind found (lands {rest} s) none some = some rest s
find_behind found (lost e) none some = none e

either_stands : (q : List ℕ) (b : Bool) {y z : ℕ} {u v : List ℕ} → Stands q y u → Stands q z v → Stands q (cond b y z) (cond b u v)
either_stands q true s t = s
either_stands q false s t = t

-- The term that is replaced.
abbrev pub old_target : code.Target → old.Target
old_target target.Occurrence = old.Occurrence
old_target target.Subclass = old.Subclass
old_target target.Member = old.Member
old_target target.Object = old.Object
old_target target.Argument = old.Argument
old_target target.Result = old.Result

-- The row of a rewriting rule.
abbrev pub old_row : table.Rewriting → old.Row
old_row r = record { kind = Rewriting; target = old_target r.target; link = r.link; forward = r.forward }

term_walk : (p : List ℕ) (k : ℕ) (t : code.Target) → Walks p (old.target_place (old_target t) k p) (term_at t k)
unfolding old.target_place term_at
term_walk p k target.Occurrence = occurrence_walk p k
term_walk p k target.Subclass = then_walk p (link_walk p Sub) (next_walk p)
term_walk p k target.Member = then_walk p (link_walk p Mem) (next_walk p)
term_walk p k target.Object = signature_walk p
term_walk p k target.Argument = then_walk p (signature_walk p) (argument_walk p k)
term_walk p k target.Result = then_walk p (signature_walk p) (value_walk p)

-- As many bytes stand from one place on as from another only where they are one place.
one_place : (p : List ℕ) {i j : ℕ} {x y : List ℕ} → Stands p i x → Stands p j y → eqb i j ≡ eqb (length x) (length y)
one_place p {i} {j} {x} {y} s t = go (ℕ_discrete i j)
  where
    go : Dec (i ≡ j) → eqb i j ≡ eqb (length x) (length y)
    go d =
        let a : length p - i ≡ length x = sym (length-drop i p) ∙ ap length s.bytes_there in
        let b : length p - j ≡ length y = sym (length-drop j p) ∙ ap length t.bytes_there in
        let h = s.within in
        let k = t.within in
        elim d as (λ _. eqb i j ≡ eqb (length x) (length y)) [
          | yes e ↦ eq-eqb i j e ∙ sym (eq-eqb (length x) (length y) (omega arith))
          | no n ↦ ne_eqb i j n ∙ sym (ne_eqb (length x) (length y) (λ z. n (omega arith)))
        ]

-- Where two literals have one sign, both have an atom.
sign_atoms : (a b c d : Parsed (Unit {0})) → (stood a && stood b) || (stood c && stood d) ≡ true → (stood (first_or a c) ≡ true) × (stood (first_or b d) ≡ true)
unfolding stood first_or
sign_atoms (got u xs) (got v ys) c d e = (refl, refl)
sign_atoms bad (got v ys) (got u xs) d e = (refl, refl)
sign_atoms bad (got v ys) bad d e = absurd (true≢false (sym e))
sign_atoms bad bad (got u xs) (got v ys) e = (refl, refl)
sign_atoms bad bad (got u xs) bad e = absurd (true≢false (sym e))
sign_atoms bad bad bad d e = absurd (true≢false (sym e))
sign_atoms (got u xs) bad (got v ys) (got w zs) e = (refl, refl)
sign_atoms (got u xs) bad (got v ys) bad e = absurd (true≢false (sym e))
sign_atoms (got u xs) bad bad d e = absurd (true≢false (sym e))

module _ (p q : List ℕ) {i j : ℕ} {x y : List ℕ} (s : Stands p i x) (t : Stands q j y) where
  pub resolved_same : Same p q (old.resolved p i q j) (resolved x y)
  unfolding old.resolved resolved
  resolved_same =
      find_behind _ ((negative_walk p).from (lands s)) (λ e. unfound (one_past p q _ _ (inl e))) (λ l u.
      find_behind _ ((positive_walk q).from (lands t)) (λ e. unfound (one_past p q _ _ (inr e))) (λ r v.
      is_found (both_within p q u.within v.within) (same_fit (inl refl) u v)))

  pub crossed_same : Same p q (old.crossed p i q j) (crossed x y)
  unfolding old.crossed crossed
  crossed_same =
      find_behind _ ((link_walk p Sub).from (lands s)) (λ e. unfound (one_past p q _ _ (inl (lost_walk (next_walk p) e)))) (λ a u.
      find_behind _ ((next_walk p).from (lands u)) (λ e. unfound (one_past p q _ _ (inl e))) (λ b v.
      find_behind _ ((link_walk q Sub).from (lands t)) (λ e. unfound (one_past p q _ _ (inr (lost_walk (next_walk q) e)))) (λ c w.
      find_behind _ ((next_walk q).from (lands w)) (λ e. unfound (one_past p q _ _ (inr e))) (λ d z.
      is_found (both_within p q v.within z.within) (same_cross refl u v z w)))))

  pub called_same : Same p q (old.called p i q j) (called x y)
  unfolding old.called called
  called_same =
      find_behind _ ((scalar_walk p).from (lands s)) (λ e. unfound (one_past p q _ _ (inl (lost_walk (value_walk p) e)))) (λ a u.
      find_behind _ ((scalar_walk q).from (lands t)) (λ e. unfound (one_past p q _ _ (inr (lost_walk (value_walk q) e)))) (λ c w.
      find_behind _ ((value_walk p).from (lands u)) (λ e. unfound (one_past p q _ _ (inl e))) (λ b v.
      find_behind _ ((value_walk q).from (lands w)) (λ e. unfound (one_past p q _ _ (inr e))) (λ d z.
      is_found (both_within p q v.within z.within) (same_call refl (same_arrow_lands p q s t) u v w z)))))

  pub replaced_same : (r : table.Rewriting) (k : ℕ) → Same p q (old.replaced (old_row r) k p i q j) (replaced r k x y)
  unfolding old.replaced replaced
  replaced_same r k =
      find_behind _ ((term_walk p k r.target).from (lands s)) (λ e. unfound (one_past p q _ _ (inl e))) (λ a u.
      find_behind _ ((link_walk q r.link).from (lands t)) (λ e. unfound (one_past p q _ _ (inr (lost_walk (next_walk q) e)))) (λ b v.
      find_behind _ ((next_walk q).from (lands v)) (λ e. unfound (one_past p q _ _ (inr e))) (λ c w.
      is_found (both_within p q u.within w.within) (same_rewrite refl s u (either_stands q r.forward v w) (either_stands q r.forward w v)))))

  pub denying_same : Same p q (old.denying p i) (denying x)
  unfolding denying
  denying_same =
      find_behind _ ((denied_walk p).from (lands s)) (λ e. unfound (within_past p _ e)) (λ a u. is_found (within_here p _ u.within) (same_denied refl))

  pub joined_same : Same p q (old.joined p i q j) (joined x y)
  unfolding old.joined joined
  joined_same =
      find_behind _ ((positive_walk p).from (lands s)) (λ e. unfound (one_past p q _ _ (inl (lost_walk (object_walk p) e)))) (λ l u.
      find_behind _ ((positive_walk q).from (lands t)) (λ e. unfound (one_past p q _ _ (inr (lost_walk (object_walk q) e)))) (λ r v.
      find_behind _ ((object_walk p).from (lands u)) (λ e. unfound (one_past p q _ _ (inl e))) (λ o w.
      find_behind _ ((object_walk q).from (lands v)) (λ e. unfound (one_past p q _ _ (inr e))) (λ o' z.
      is_found (both_within p q w.within z.within) (same_merge refl u w v z)))))

  -- Part k, of the object where it stands.
  with_part_same : (k : ℕ) {o : List ℕ} (r : Option PartIn) → Stands p (old.molecule_place p i) o → part_at k o ≡ r → Same p q (old.projected k p i) (with_part o r)
  unfolding old.projected with_part
  with_part_same k None v e = unfound (ap is_part (ap (part_at k) v.bytes_there ∙ e))
  with_part_same k (Some z) v e = is_found (ap is_part (ap (part_at k) v.bytes_there ∙ e)) (same_project refl v e)

  pub projected_same : (k : ℕ) → Same p q (old.projected k p i) (projected k x)
  unfolding old.projected projected old.molecule_place
  projected_same k =
      find_behind _ ((positive_walk p).from (lands s)) (λ e. unfound (no_part p k _ (lost_walk (molecule_walk p) e))) (λ l u.
      find_behind _ ((molecule_walk p).from (lands u)) (λ e. unfound (no_part p k _ e)) (λ o v. with_part_same k (part_at k o) v refl))

module _ (p : List ℕ) {i j : ℕ} {x y : List ℕ} (s : Stands p i x) (t : Stands p j y) where
  pub factored_same : Same p p (old.factored p i p j) (factored x y)
  unfolding old.factored factored same_sign atom
  factored_same = go (not (eqb (length x) (length y)) && same_sign x y) refl
    where
      tested : (not (eqb i j) && same_sign_at p i p j) ≡ (not (eqb (length x) (length y)) && same_sign x y)
      tested = rw (one_place p s t, same_sign_lands p p s t)

      no_atom : {k : ℕ} {z : List ℕ} → Stands p k z → stood (atom z) ≡ true → atom_at p k ≡ length p + 1 → ⊥
      no_atom {k} u a e = true≢false (sym a ∙ (sym (within_lands p ((atom_walk p).from (lands u))) ∙ within_past p (atom_at p k) e))

      go : (b : Bool) → (not (eqb (length x) (length y)) && same_sign x y) ≡ b → Same p p (old.factored p i p j) (cond b (behind (atom x) (λ l. behind (atom y) (λ r. Some (fitting l r)))) None)
      go false e = unfound (tested ∙ e)
      go true e =
          let a = sign_atoms (positive x) (positive y) (negative x) (negative y) (signed (not (eqb (length x) (length y))) e) in
          find_behind _ ((atom_walk p).from (lands s)) (λ z. absurd (no_atom s a.0 z)) (λ l u.
          find_behind _ ((atom_walk p).from (lands t)) (λ z. absurd (no_atom t a.1 z)) (λ r v.
          is_found (tested ∙ e) (same_fit (inr refl) u v)))
        where
          signed : (b : Bool) → (b && same_sign x y) ≡ true → same_sign x y ≡ true
          signed true e = e
          signed false e = absurd (true≢false (sym e))
