-- The rewriting rules tra, inc, inh, inp and out in bytes say what the rule table says.
use Prim.Native.Nat.{ℕ, ◌+◌, ◌-◌, ◌≤◌, ◌<◌}
use mathlib.Core.Bool.{Bool, true, false, cond, ◌&&◌}
use mathlib.Core.List.{List, [], ◌∷◌}
use mathlib.Core.Logic.{◌↔◌, ◌⊎◌, inl, inr, ⊎_elim}
use mathlib.Core.Path.{◌≡◌, refl, sym, ap, subst, ◌∙◌}
use native.Mathlib.Omega.{arith}
use lib.Dec.{T}
use lib.ListN.{length, drop, length-drop}
use Rattle.logic.specs.declared.Link.{Link}
use Rattle.logic.specs.declared.Link.TheVariants.{Sub}
use Rattle.text.specs.Heads.{head, link_kind}
use Rattle.rules.proofs.RowPlaces.{Target as TargetKind}
use Rattle.rules.proofs.RowPlaces.{Rewriting}
use Rattle.logic.specs.declared.Rule.{Rule}
use Rattle.std.specs.Prelude.{Err}
use Rattle.logic.specs.declared.Check.{Check}
use Rattle.logic.specs.StepChecks.{Checked}
use Rattle.logic.specs.Syntax.{Term, Literal, Clause}
use Rattle.logic.specs.Fill.{Substitution, fill, fill_literal}
use Rattle.logic.specs.Rules.{Agreement, equal, Holds, one}
use Rattle.logic.specs.Judge.{Conclusion, misshapen, concludes, table_row}
use Rattle.logic.proofs.Rewriting.{Aim, aim, agreeing, replacing as other-side, rewrite}
use Rattle.text.specs.Words.{bytes}
use Rattle.text.specs.Write.{put_term, put_literal, put_literals}
use Rattle.text.specs.Read.{got}
use Rattle.filling.specs.Filled.{Filler, fill_item, matches, hole_depth}
use Rattle.filling.proofs.Places.{replacing, ends_of}
use Rattle.clauses.proofs.Places.{strip_at, next_at, first_at}
use Rattle.filling.proofs.Claims.{rewritten_at}
use Rattle.clauses.proofs.Placing.{Stands}
use Rattle.filling.proofs.Claimed.{match_place, spaced_literal}
use Rattle.rules.proofs.Answered.{judged_of, right_shape}
use Rattle.filling.proofs.LineLists.{replacing_entry, new_term}
use Rattle.rules.proofs.Targets.{Placed, missed, found, Aimed, past_second, past_target}
use Rattle.rules.proofs.Meets.{Images, LiteralAt, Meets}
use Rattle.rules.proofs.TermsMeet.{TermAt, term_meets}
use Rattle.rules.proofs.RowsMeet.{LinkView, no_link, a_link, on_link_of, link_view, both_within, past_shape}
use Rattle.rules.proofs.RowPlaces.{answer, row_of, target_place, target_at, row_at, found_by, replaced, agrees_by}
use Rattle.filling.proofs.Agree.{agree_at}
use Rattle.clauses.proofs.Places.{within}
use Rattle.rules.proofs.ClaimPlaces.{new_at, new_by}

module _ (depth : ℕ) where
  -- A rewriting rule: the term at x agrees with one side of the positive link whose first term is at y, and the other side takes its place.
  unfoldable pub rewrite_at : List ℕ → ℕ → List ℕ → List ℕ → List ℕ → ℕ → Bool → List ℕ → Checked
  rewrite_at p x line starts q y forward others =
      answer (within p x && within q (next_at q y)) (agree_at depth p x line starts q (cond forward y (next_at q y)) others)

  unfoldable pub rewrite_new_at : List ℕ → ℕ → ℕ → List ℕ → List ℕ → List ℕ → ℕ → Bool → List ℕ → List ℕ → ℕ → ℕ
  rewrite_new_at p i x line starts q y forward others rest pos = rewritten_at depth p i x line starts q (cond forward (next_at q y) y) others rest pos

  -- What is asked of a rewriting rule: the term at x, and the link whose first term is at y.
  pub record Rewritten (p : List ℕ) (i x : ℕ) (line starts q : List ℕ) (y : ℕ) (forward : Bool) (others : List ℕ) (c : Conclusion) : Type 0 where
    pub judged : rewrite_at p x line starts q y forward others ≡ judged_of c
    pub claimed : (g : Agreement) (new : Clause) → c ≡ concludes g new → (target : List ℕ) (pos b : ℕ) (z : List ℕ) →
        strip_at target (put_literals new (b ∷ z)) pos ≡ strip_at target (b ∷ z) (rewrite_new_at p i x line starts q y forward others target pos)

  module _ (p : List ℕ) (i x : ℕ) (line starts q : List ℕ) (y : ℕ) (forward : Bool) (others : List ℕ) where
    -- A place that is missing.
    pub misses : (x ≡ length p + 1) ⊎ (next_at q y ≡ length q + 1) → rewrite_at p x line starts q y forward others ≡ Err Check.Shape
    unfolding rewrite_at
    misses e = past_shape p q x (next_at q y) _ e

    pub not_rewritten : {c : Conclusion} → (x ≡ length p + 1) ⊎ (next_at q y ≡ length q + 1) → c ≡ misshapen → Rewritten p i x line starts q y forward others c
    unfolding judged_of
    not_rewritten e d = record { judged = misses e ∙ ap judged_of (sym d); claimed = λ g new h target pos b z. let n : ◌≡◌ {A = ℕ} 0 1 = cc in absurd (omega arith) }

    -- The new literal, expected.
    literal_expected : (from : ℕ) (l l' : Literal) (rest : List ℕ) → Stands p i (put_literal l rest) → fill_item (replacing line starts (length p - x) q from others) (hole_depth depth) (put_literal l rest) ≡ got (put_literal l' []) rest → (target : List ℕ) (pos b : ℕ) (z : List ℕ) →
        strip_at target (put_literals (l' ∷ []) (b ∷ z)) pos ≡ strip_at target (b ∷ z) (rewritten_at depth p i x line starts q from others target pos)
    unfolding rewritten_at put_literals strip_at
    literal_expected from l l' rest s e target pos b z =
        spaced_literal target l' pos b z
        ∙ ap (strip_at target (b ∷ z))
        (sym
        (ap (λ r. (ends_of p target (matches r (drop (strip_at target (bytes " ") pos) target))).pos) (ap (fill_item (replacing line starts (length p - x) q from others) (hole_depth depth)) s.bytes_there ∙ e)
        ∙ match_place p target (put_literal l' []) rest (drop (strip_at target (bytes " ") pos) target)))

  module _ (p line starts q others : List ℕ) (σ τ : Substitution) (v w : ℕ) (images : Images line starts σ v) (images' : Images line others τ w) where
    -- Terms agree as lists of one.
    pub agrees_one : {x y : ℕ} {t s : Term} → TermAt depth p x v t → TermAt depth q y w s → T (agree_at depth p x line starts q y others) ↔ Holds (equal (one (fill σ t)) (one (fill τ s)))
    unfolding Holds
    agrees_one {t} {s} a b = let e = term_meets depth images images' a b in (λ h. ap one (e.0 h), λ h. e.1 cc)

    -- The side of the link that agrees.
    side_agrees : (forward : Bool) {x y : ℕ} (t s u : Term) → TermAt depth p x v t → TermAt depth q y w s → TermAt depth q (next_at q y) w u →
        T (agree_at depth p x line starts q (cond forward y (next_at q y)) others) ↔ Holds (equal (one (fill σ t)) (one (agreeing forward (fill τ s) (fill τ u))))
    side_agrees true t s u a b c = agrees_one a b
    side_agrees false t s u a b c = agrees_one a c

    -- What filling with a hole at x asks.
    abbrev pub filler : ℕ → ℕ → Filler
    filler x from = replacing line starts (length p - x) q from others

    pub filler_entry : (x from n : ℕ) → n < v → (filler x from).entry n ≡ put_term (σ n) []
    filler_entry x from = replacing_entry line starts (length p - x) q from others σ v images.entry

    filler_new : (x : ℕ) {from : ℕ} (u : Term) → TermAt depth q from w u → (e : ℕ) → depth ≤ e → (r : List ℕ) × ((filler x from).new e ≡ got (put_term (fill τ u) []) r)
    filler_new x {from} u a = new_term line starts (length p - x) q from others τ w depth images'.entry u a.rest a.formed a.narrow a.stands.bytes_there

    -- The side that goes into the hole.
    pub side_new : (forward : Bool) (x : ℕ) {y : ℕ} (s u : Term) → TermAt depth q y w s → TermAt depth q (next_at q y) w u → (e : ℕ) → depth ≤ e →
        (r : List ℕ) × ((filler x (cond forward (next_at q y) y)).new e ≡ got (put_term (other-side forward (fill τ s) (fill τ u)) []) r)
    side_new true x s u a b = filler_new x u b
    side_new false x s u a b = filler_new x s a

    pub filler_hole : {x : ℕ} (from : ℕ) {bs : List ℕ} → Stands p x bs → (filler x from).hole ≡ length bs
    unfolding replacing
    filler_hole {x} from s = sym (length-drop x p) ∙ ap length s.bytes_there

    -- A term at x of the literal at I, that a link's side agrees with.
    pub rewritten : (forward : Bool) {i x y : ℕ} (t s u : Term) (l l' : Literal) (rest : List ℕ) → TermAt depth p x v t → TermAt depth q y w s → TermAt depth q (next_at q y) w u → Stands p i (put_literal l rest) →
        fill_item (filler x (cond forward (next_at q y) y)) (hole_depth depth) (put_literal l rest) ≡ got (put_literal l' []) rest →
        Rewritten p i x line starts q y forward others (concludes (equal (one (fill σ t)) (one (agreeing forward (fill τ s) (fill τ u)))) (l' ∷ []))
    unfolding rewrite_at rewrite_new_at
    rewritten forward {i} {x} {y} t s u l l' rest a b c k e =
        record {
          judged = rw (both_within p q a.stands.within c.stands.within) (right_shape (agree_at depth p x line starts q (cond forward y (next_at q y)) others) _ (l' ∷ []) (side_agrees forward t s u a b c));
          claimed = λ g new h target pos b z. let n : new ≡ l' ∷ [] = cc in rw n (literal_expected p i x line starts q y forward others (cond forward (next_at q y) y) l l' rest k e target pos b z);
        }

    -- What is aimed at, and the link.
    aimed : (forward : Bool) {i x y : ℕ} (l m : Literal) (rest : List ℕ) {a : Aim} → Stands p i (put_literal l rest) → Placed depth p x v l rest a → LinkView depth q y τ w (on_link_of τ Sub m) →
        Rewritten p i x line starts q y forward others (rewrite Sub forward σ a (fill_literal τ m))
    unfolding rewrite
    aimed forward {i} {x} {y} l m rest k (missed e) n = not_rewritten p i x line starts q y forward others (inl e) refl
    aimed forward {i} {x} {y} l m rest k (found t left s h) (no_link e d) = not_rewritten p i x line starts q y forward others (inr e) (d _)
    aimed forward {i} {x} {y} l m rest k (found t left s h) (a_link b c at_b at_c d) =
        let from = cond forward (next_at q y) y in
        let at-t : TermAt depth p x v t.term = record { rest = left; stands = s; formed = h.formed; narrow = h.narrow } in
        subst (Rewritten p i x line starts q y forward others) (sym (d _))
        (rewritten forward t.term b c l _ rest at-t at_b at_c k (h.filled (filler x from) σ _ (filler_entry x from) (side_new forward x b c at_b at_c) (filler_hole from s)))

    -- A rule that rewrites by a link + sub.
    module _ (i j k : ℕ) (l m : Literal) (a : LiteralAt depth p i v l) (b : LiteralAt depth q j w m) where
      abbrev pub Row : Rule → Type 0
      Row rule = Meets depth rule k p i line starts q j others (table_row k rule (fill_literal σ l) (fill_literal τ m))

      by_sub : (rule : Rule) (forward : Bool) → table_row k rule (fill_literal σ l) (fill_literal τ m) ≡ rewrite Sub forward σ (aim k rule l) (fill_literal τ m) → Aimed depth p v rule →
          Rewritten p i (target_at p rule k i) line starts q (first_at q (bytes "(sub ") j) forward others (table_row k rule (fill_literal σ l) (fill_literal τ m))
      by_sub rule forward e t = rw e (aimed forward l m a.rest a.stands (t i k l a.rest a.stands a.formed a.narrow) (link_view depth q j w τ Sub m b))

      -- Any of the rules that do, by its row.
      pub sub_meets : (rule : Rule) (target : TargetKind) (forward : Bool) → row_of rule ≡ record { kind = Rewriting; target = target; link = Sub; forward = forward } →
          table_row k rule (fill_literal σ l) (fill_literal τ m) ≡ rewrite Sub forward σ (aim k rule l) (fill_literal τ m) → Aimed depth p v rule → Row rule
      unfolding row_at found_by replaced agrees_by new_at new_by rewrite_at rewrite_new_at
      sub_meets rule target forward r e t =
          let s = by_sub rule forward e t in
          record { judged = rw r (rw r at s.judged); claimed = rw r (rw r at s.claimed) }

  -- A literal that is missing is misshapen, in the row of any rule that rewrites.
  module _ (k : ℕ) (p : List ℕ) (i : ℕ) (line starts q : List ℕ) (j : ℕ) (others : List ℕ) where
    pub rewrites_past : (rule : Rule) (target : TargetKind) (kind : Link) (forward : Bool) → row_of rule ≡ record { kind = Rewriting; target = target; link = kind; forward = forward } →
        (i ≡ length p + 1) ⊎ (j ≡ length q + 1) → row_at depth rule k p i line starts q j others ≡ Err Check.Shape
    unfolding row_at found_by replaced agrees_by rewrite_at
    rewrites_past rule target kind forward r missing =
        rw r (misses p i (target_place target k p i) line starts q (first_at q (head (link_kind kind)) j) forward others
        (⊎_elim (λ e. inl (ap (target_place target k p) e ∙ past_target p target k)) (λ e. inr (ap (λ at. next_at q (first_at q (head (link_kind kind)) at)) e ∙ past_second q kind)) missing))
