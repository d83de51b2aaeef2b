-- mer and pro: what checks 9 to 11 say in bytes is what the rule table says.
use Prim.Native.Nat.{ℕ, zero, suc, ◌+◌, ◌≤◌}
use mathlib.Core.Bool.{true, false}
use mathlib.Core.List.{List, [], ◌∷◌}
use mathlib.Core.Logic.{◌⊎◌, inl, inr}
use mathlib.Core.Path.{◌≡◌, refl, sym, ap, subst, ◌∙◌}
use native.Mathlib.Omega.{arith}
use lib.ListN.{length, drop, drop_of_length-le}
use Rattle.std.specs.Prelude.{Some, Err}
use Rattle.logic.specs.declared.Sign.TheVariants.{Positive, Negative}
use Rattle.logic.specs.declared.Rule.TheVariants.{Mer, Pro}
use Rattle.logic.specs.declared.Check.{Check}
use Rattle.logic.specs.Syntax.{Term, Part, arrow_of, Parts, only, also, Atom, link, obj, arrows, Literal, lit, Clause}
use Rattle.logic.specs.Terms.{terms_of}
use Rattle.logic.specs.Each.{terms_width, width}
use Rattle.logic.specs.Fill.{Substitution, fill, fills, fill_part, fill_parts, fill_atom, fill_literal}
use Rattle.logic.specs.Rules.{always, equal, Holds, join_parts, PartAt, plus, one}
use Rattle.logic.specs.Judge.{Conclusion, misshapen, on_plus, on_parts, on_molecule, on_part, conclude_mer, conclude_pro, table_row}
use Rattle.text.specs.Words.{bytes}
use Rattle.text.specs.Write.{word, put_term, put_parts, put_atom, put_literals}
use Rattle.text.specs.Read.{strip}
use Rattle.text.specs.Access.{skip_item}
use Rattle.text.specs.Form.{formed_atom, formed_literal}
use Rattle.text.specs.Heads.{kind_number, head}
use Rattle.text.proofs.Places.{end_of}
use Rattle.text.proofs.Plain.{in_front, literals_plain}
use Rattle.text.proofs.Tests.{T_and}
use Rattle.text.proofs.Trees.{tree_term, tree_arguments, put_term_lem, put_arguments_lem, clean_term, clean_arguments, within_term, within_arguments}
use Rattle.clauses.specs.Shapes.{first_or}
use Rattle.clauses.specs.Parts.{PartIn, arrow_head, molecule, arrow_object, object_of, part_at, made_at}
use Rattle.clauses.proofs.Molecules.{from_object, object_stands, no_object, Shows, PartView, there, nowhere, part_view}
use Rattle.clauses.proofs.Places.{strip_at, positive_at}
use Rattle.clauses.proofs.Placing.{Stands, strip_stands, walk_stands, walk_past, none_past, head_past, past_strip}
use Rattle.filling.specs.Items.{Item}
use Rattle.filling.specs.Filled.{item_depth}
use Rattle.filling.proofs.Filling.{tree_term_lem, tree_arguments_lem}
use Rattle.filling.proofs.Grounds.{Entries, filled_by_lem}
use Rattle.filling.proofs.Claimed.{strip_chain}
use Rattle.filling.proofs.NumberedFill.{term_deeper, terms_deeper}
use Rattle.expected.proofs.Molecules.{Reads, merged_reads, projected_reads, part_at_formed, part_at_narrow}
use Rattle.rules.proofs.Answered.{right_shape}
use Rattle.rules.proofs.Meets.{Images, LiteralAt, Meets}
use Rattle.rules.proofs.TermsMeet.{TermAt, missing, concluding}
use Rattle.rules.proofs.RowsMeet.{both_within, past_shape}
use Rattle.rules.proofs.CoversMeet.{AtomAt, arrow_range}
use Rattle.rules.proofs.CoverRows.{positive_at_lem, not_positive}
use Rattle.rules.proofs.Rewrites.{agrees_one}
use Rattle.rules.proofs.Targets.{link_small, past_positive}
use Rattle.rules.proofs.Tails.{object_tail}
use Rattle.rules.proofs.RowPlaces.{is_part, object_place, molecule_place, answer, row_at, found_by, joined, projected as projected_row, agrees_by}
use Rattle.rules.proofs.ClaimPlaces.{expected_at, merged_at, projected_at, new_at, new_by}

module _ (depth : ℕ) where
  -- What is expected of an item is its filled bytes, and what stands after it is left of its clause.
  reads : (line starts : List ℕ) (σ : Substitution) (w : ℕ) → Entries line starts σ w → (x : Item) → Reads (expected_at depth line starts) x σ depth w
  reads line starts σ w entry x = record {
    term = λ t rest f h bs.
        rw (put_term_lem t rest, filled_by_lem line starts σ w entry (tree_term t) (item_depth depth) (clean_term t) (within_term w t (item_depth depth) (term_deeper depth (item_depth depth) t (omega arith) f) h) rest, tree_term_lem σ t, ← put_term_lem (fill σ t) []) refl;
    arguments = λ ts rest f h bs.
        rw (put_arguments_lem ts rest, filled_by_lem line starts σ w entry (tree_arguments ts) (item_depth depth) (clean_arguments ts) (within_arguments w (suc (suc (suc depth))) ts (terms_deeper depth (suc (suc (suc depth))) ts (omega arith) f) h) rest, tree_arguments_lem σ ts, ← put_arguments_lem (fills σ ts) []) refl;
  }

-- What is read as the new literal is the new literal.
new_read : (new : Clause) (target : List ℕ) (pos b : ℕ) (x : List ℕ) → strip_at target (put_literals new (b ∷ x)) pos ≡ strip_at target (b ∷ x) (strip_at target (put_literals new []) pos)
new_read new target pos b x = ap (λ z. strip_at target z pos) (in_front (literals_plain new) (b ∷ x)) ∙ strip_chain target (put_literals new []) b x pos

-- From an object on, a term stands.
object_first : (o : Term) (ps : Parts) (rest : List ℕ) → (more : List ℕ) × (from_object o ps rest ≡ put_term o more)
unfolding from_object
object_first o (only p) rest = (_, refl)
object_first o (also p ps) rest = (_, refl)

-- Past the end there is no part.
pub no_part : (p : List ℕ) (k at : ℕ) → at ≡ length p + 1 → is_part (part_at k (drop at p)) ≡ false
unfolding part_at made_at skip_item strip
no_part p k at e = let l : length p ≤ at = omega arith in rw (drop_of_length-le p l)

-- Part k of filled parts.
module _ (σ : Substitution) (f : Part → Conclusion) where
  part_there : {k : ℕ} {q : Part} {ps : Parts} → PartAt k q ps → on_part k (fill_parts σ ps) f ≡ f (fill_part σ q)
  unfolding on_part fill_parts
  part_there PartAt.alone = refl
  part_there PartAt.here = refl
  part_there (PartAt.there w) = part_there w

  none_there : {k : ℕ} (ps : Parts) → ((q : Part) → PartAt k q ps → ⊥) → on_part k (fill_parts σ ps) f ≡ misshapen
  unfolding on_part fill_parts
  none_there {k = zero} (only p) n = absurd (n p PartAt.alone)
  none_there {k = suc k} (only p) n = refl
  none_there {k = zero} (also p ps) n = absurd (n p PartAt.here)
  none_there {k = suc k} (also p ps) n = none_there ps (λ q w. n q (PartAt.there w))

module _ (depth : ℕ) where
  -- A literal is a positive arrow atom or molecule, or it is not.
  data SaidView (p : List ℕ) (i : ℕ) (σ : Substitution) (v : ℕ) (c : (Term → Parts → Conclusion) → Conclusion) : Type 0 where
    unsaid : object_place p (positive_at p i) ≡ length p + 1 → ((f : Term → Parts → Conclusion) → c f ≡ misshapen) → SaidView p i σ v c
    said : (o : Term) (ps : Parts) → AtomAt depth p (positive_at p i) v (arrows o ps) → TermAt depth p (object_place p (positive_at p i)) v o →
        ((f : Term → Parts → Conclusion) → c f ≡ f (fill σ o) (fill_parts σ ps)) → SaidView p i σ v c

  module _ (p : List ℕ) where
    past_object : object_place p (length p + 1) ≡ length p + 1
    unfolding object_place object_of first_or molecule arrow_object arrow_head strip
    past_object = none_past p object_of refl

    object_at_lem : {at v : ℕ} (o : Term) (ps : Parts) → AtomAt depth p at v (arrows o ps) → TermAt depth p (object_place p at) v o
    unfolding object_place formed_atom terms_of terms_width
    object_at_lem {at} o ps a =
        let e = object_first o ps a.rest in
        let s = walk_stands p at object_tail a.stands (object_stands o ps a.rest) in
        let h = a.narrow in
        record { rest = e.0; stands = record { within = s.within; bytes_there = s.bytes_there ∙ e.1 }; formed = (simp T_and at a.formed).0; narrow = omega arith }

    no_object_at : {at v : ℕ} (x : Atom) → ((o : Term) (ps : Parts) → x ≡ arrows o ps → ⊥) → AtomAt depth p at v x → object_place p at ≡ length p + 1
    unfolding object_place
    no_object_at {at} x n a = walk_past p at object_of a.stands (no_object x a.rest n)

    module _ (i v : ℕ) (σ : Substitution) where
      said_view : (l : Literal) → LiteralAt depth p i v l → SaidView p i σ v (λ f. on_plus (fill_literal σ l) (λ x. on_parts x f))
      unfolding on_plus on_parts fill_literal fill_atom
      said_view (lit Negative x) a = unsaid (ap (object_place p) (not_positive depth p x a) ∙ past_object) (λ f. refl)
      said_view (lit Positive (link l t u)) a = unsaid (no_object_at (link l t u) (λ o ps e. no_link e) (positive_at_lem depth p (link l t u) a)) (λ f. refl)
        where
          no_link : {o : Term} {ps : Parts} → link l t u ≡ arrows o ps → ⊥
          no_link e = let z : ◌≡◌ {A = ℕ} 0 1 = cc in absurd (omega arith)
      said_view (lit Positive (obj t)) a = unsaid (no_object_at (obj t) (λ o ps e. no_obj e) (positive_at_lem depth p (obj t) a)) (λ f. refl)
        where
          no_obj : {o : Term} {ps : Parts} → obj t ≡ arrows o ps → ⊥
          no_obj e = let z : ◌≡◌ {A = ℕ} 0 1 = cc in absurd (omega arith)
      said_view (lit Positive (arrows o ps)) a = let c = positive_at_lem depth p (arrows o ps) a in said o ps c (object_at_lem o ps c) (λ f. refl)

  -- R25, mer.
  module _ {line starts others : List ℕ} {σ τ : Substitution} {v w : ℕ} (g : Images line starts σ v) (h : Images line others τ w) (k : ℕ) (p q : List ℕ) (i j : ℕ) where
    merged_claimed : (o o' : Term) (ps qs : Parts) → AtomAt depth p (positive_at p i) v (arrows o ps) → AtomAt depth q (positive_at q j) w (arrows o' qs) → (target : List ℕ) (pos b : ℕ) (x : List ℕ) →
        strip_at target (put_literals (plus (arrows (fill σ o) (join_parts (fill_parts σ ps) (fill_parts τ qs))) ∷ []) (b ∷ x)) pos
        ≡ strip_at target (b ∷ x) (merged_at depth line starts (drop (positive_at p i) p) others (drop (positive_at q j) q) target pos)
    unfolding merged_at strip_at
    merged_claimed o o' ps qs a c target pos b x =
        let new = plus (arrows (fill σ o) (join_parts (fill_parts σ ps) (fill_parts τ qs))) ∷ [] in
        new_read new target pos b x
        ∙ ap (λ z. end_of target (strip (b ∷ x) (drop (end_of target z) target)))
        (sym (merged_reads (reads depth line starts σ v g.entry _) (reads depth line others τ w h.entry _) o o' ps qs a.rest c.rest a.stands.bytes_there c.stands.bytes_there a.formed c.formed a.narrow c.narrow a.few c.few (drop pos target)))

    pub mer_meets : (l m : Literal) → LiteralAt depth p i v l → LiteralAt depth q j w m → Meets depth Mer k p i line starts q j others (table_row k Mer (fill_literal σ l) (fill_literal τ m))
    unfolding table_row conclude_mer row_at found_by joined agrees_by new_at new_by
    mer_meets l m a b = go (said_view p i v σ l a) (said_view q j w τ m b)
      where
        go : SaidView p i σ v (λ f. on_plus (fill_literal σ l) (λ x. on_parts x f)) → SaidView q j τ w (λ f. on_plus (fill_literal τ m) (λ x. on_parts x f)) →
            Meets depth Mer k p i line starts q j others (conclude_mer (fill_literal σ l) (fill_literal τ m))
        go (unsaid e n) d = missing depth _ (n _) (past_shape p q _ _ _ (inl e))
        go (said o ps c t e) (unsaid f n) = missing depth _ (e _ ∙ n _) (past_shape p q _ _ _ (inr f))
        go (said o ps c t e) (said o' qs d u f) =
            concluding depth _ (equal (one (fill σ o)) (one (fill τ o'))) (plus (arrows (fill σ o) (join_parts (fill_parts σ ps) (fill_parts τ qs))) ∷ []) (e _ ∙ f _)
            (rw (both_within p q t.stands.within u.stands.within) (right_shape _ _ _ (agrees_one depth p line starts q others σ τ v w g h t u))) (merged_claimed o o' ps qs c d)

  -- R26, pro.
  module _ (k : ℕ) (p : List ℕ) (i : ℕ) (line starts q : List ℕ) (j : ℕ) (others : List ℕ) where
    no_molecule : {at : ℕ} → positive_at p i ≡ at → strip_at p (bytes "(mol ") at ≡ length p + 1 → row_at depth Pro k p i line starts q j others ≡ Err Check.Shape
    unfolding row_at found_by projected_row agrees_by answer molecule_place
    no_molecule e f = rw (no_part p k _ (ap (strip_at p (bytes "(mol ")) e ∙ f))

    other_pro : {c : Conclusion} → c ≡ misshapen → strip_at p (bytes "(mol ") (positive_at p i) ≡ length p + 1 → Meets depth Pro k p i line starts q j others c
    other_pro e f = missing depth _ e (no_molecule refl f)

    -- A molecule's part k, where there is one.
    module _ {σ : Substitution} {v : ℕ} (g : Images line starts σ v) (o : Term) (m : Part) (ms : Parts) (a : LiteralAt depth p i v (lit Positive (arrows o (also m ms)))) where
      molecule_at : Stands p (molecule_place p i) (put_term o (put_parts (also m ms) (word ")" (positive_at_lem depth p (arrows o (also m ms)) a).rest)))
      unfolding molecule_place put_atom strip
      molecule_at = let c = positive_at_lem depth p (arrows o (also m ms)) a in strip_stands p (bytes "(mol ") c.stands refl

      projected_claimed : {x : PartIn} {q : Part} → part_at k (drop (molecule_place p i) p) ≡ Some x → Shows x q → PartAt k q (also m ms) → (target : List ℕ) (pos b : ℕ) (z : List ℕ) →
          strip_at target (put_literals (plus (arrows (fill σ o) (only (fill_part σ q))) ∷ []) (b ∷ z)) pos
          ≡ strip_at target (b ∷ z) (projected_at depth line starts (drop (molecule_place p i) p) (part_at k (drop (molecule_place p i) p)) target pos)
      unfolding projected_at strip_at formed_literal formed_atom terms_of terms_width width
      projected_claimed {q} e s w target pos b z =
          let new = plus (arrows (fill σ o) (only (fill_part σ q))) ∷ [] in
          let (f, h) = simp T_and at a.formed in
          let narrow = a.narrow in
          new_read new target pos b z
          ∙ rw e (ap (λ z'. end_of target (strip (b ∷ z) (drop (end_of target z') target)))
          (sym (projected_reads (reads depth line starts σ v g.entry _) o _ q molecule_at.bytes_there f (omega arith) s (part_at_formed depth w h) (omega (arith, part_at_narrow w)) (drop pos target))))

      part_meets : PartView k (also m ms) (part_at k (drop (molecule_place p i) p)) → Meets depth Pro k p i line starts q j others (conclude_pro k (fill_literal σ (lit Positive (arrows o (also m ms)))) [])
      unfolding conclude_pro on_plus on_molecule fill_literal fill_atom fill_parts row_at found_by projected_row agrees_by answer new_at new_by Holds
      part_meets (nowhere e n) = missing depth _ (none_there σ _ (also m ms) n) (rw e)
      part_meets (there {x} {p = r} e s w) =
          concluding depth _ always (plus (arrows (fill σ o) (only (fill_part σ r))) ∷ []) (part_there σ _ w) (rw e (right_shape true always _ (λ _. tt, λ _. tt))) (projected_claimed e s w)

    pub pro_meets : {σ : Substitution} {v : ℕ} → Images line starts σ v → (l : Literal) → LiteralAt depth p i v l → Meets depth Pro k p i line starts q j others (conclude_pro k (fill_literal σ l) [])
    unfolding conclude_pro on_plus on_molecule fill_literal fill_atom fill_parts kind_number
    pro_meets g (lit Negative x) a = other_pro refl (ap (strip_at p (head 10)) (not_positive depth p x a) ∙ past_strip p 40 _)
    pro_meets g (lit Positive (link l t u)) a =
        let c = positive_at_lem depth p (link l t u) a in
        other_pro refl (head_past p 10 (link l t u) c.rest (omega arith) (λ e. omega (arith, link_small l)) c.stands)
    pro_meets g (lit Positive (obj t)) a =
        let c = positive_at_lem depth p (obj t) a in
        other_pro refl (head_past p 10 (obj t) c.rest (omega arith) (λ e. omega arith) c.stands)
    pro_meets g (lit Positive (arrows o (only r))) a =
        let c = positive_at_lem depth p (arrows o (only r)) a in
        other_pro refl (head_past p 10 (arrows o (only r)) c.rest (omega arith) (λ e. omega (arith, (arrow_range (arrow_of r)).1)) c.stands)
    pro_meets g (lit Positive (arrows o (also m ms))) a =
        part_meets g o m ms a (subst (PartView k (also m ms)) (ap (part_at k) (sym (molecule_at g o m ms a).bytes_there)) (part_view k o (also m ms) _))

-- A literal that is missing is misshapen.
module _ (depth k : ℕ) (p : List ℕ) (i : ℕ) (line starts q : List ℕ) (j : ℕ) (others : List ℕ) where
  pub mer_past : (i ≡ length p + 1) ⊎ (j ≡ length q + 1) → row_at depth Mer k p i line starts q j others ≡ Err Check.Shape
  unfolding row_at found_by joined agrees_by
  mer_past (inl e) = past_shape p q _ _ _ (inl (ap (λ x. object_place p (positive_at p x)) e ∙ ap (object_place p) (past_positive p) ∙ past_object depth p))
  mer_past (inr e) = past_shape p q _ _ _ (inr (ap (λ x. object_place q (positive_at q x)) e ∙ ap (object_place q) (past_positive q) ∙ past_object depth q))

  pub pro_past : i ≡ length p + 1 → row_at depth Pro k p i line starts q j others ≡ Err Check.Shape
  pro_past e = no_molecule depth k p i line starts q j others (ap (positive_at p) e ∙ past_positive p) (past_strip p 40 _)
