-- Terms of written literals: when two agree, and a new literal of two of them.
use Prim.Native.Nat.{ℕ, suc, ◌≤◌}
use mathlib.Core.List.{List, [], ◌∷◌, ◌++◌}
use mathlib.Core.Logic.{◌↔◌}
use mathlib.Core.Path.{◌≡◌, refl, sym, ap, subst, ◌∙◌}
use native.Mathlib.Omega.{arith}
use lib.Dec.{T}
use lib.ListN.{drop}
use Rattle.logic.specs.declared.Link.{Link}
use Rattle.logic.specs.declared.Arrow.{Arrow}
use Rattle.logic.specs.declared.Rule.{Rule}
use Rattle.std.specs.Prelude.{Err}
use Rattle.logic.specs.declared.Check.{Check}
use Rattle.logic.specs.Syntax.{Term, var, app, Terms, Result, value, part, link, method, Clause}
use Rattle.logic.specs.Terms.{result_terms, part_terms, parts_terms, terms_of}
use Rattle.logic.specs.Each.{term_width, terms_width}
use Rattle.logic.specs.Fill.{Substitution, fill, fills}
use Rattle.logic.specs.Rules.{Agreement, plus}
use Rattle.logic.specs.Judge.{Conclusion, misshapen, concludes}
use Rattle.text.specs.Words.{link_word}
use Rattle.text.specs.Write.{word, put_term, put_arguments, put_result, put_part, put_atom, put_literal, put_literals}
use Rattle.text.specs.Form.{numbered, numbereds, formed_term, formed_terms, formed_result, formed_part, formed_parts, formed_atom}
use Rattle.text.proofs.Plain.{in_front, term_plain}
use Rattle.text.proofs.Tests.{T_and}
use Rattle.text.proofs.Trees.{join_width}
use Rattle.filling.specs.Filled.{matches, item_depth}
use Rattle.filling.proofs.Places.{ends_of}
use Rattle.clauses.proofs.Places.{strip_at, next_at, result_at}
use Rattle.filling.proofs.Claims.{filled_at, linked_at}
use Rattle.filling.proofs.Filling.{tree_term_lem}
use Rattle.filling.proofs.Grounds.{Entries, filled_by_lem}
use Rattle.text.proofs.Trees.{tree_term, put_term_lem, clean_term, within_term}
use Rattle.clauses.proofs.Placing.{Stands, next_term, result_stands}
use Rattle.filling.proofs.Claimed.{strip_chain, match_place}
use Rattle.filling.proofs.Agreed.{terms_agree, arguments_agree}
use Rattle.rules.proofs.Answered.{judged_of}
use Rattle.filling.proofs.NumberedFill.{fill_numbered, fills_numbered, term_deeper, terms_deeper}
use Rattle.rules.proofs.Meets.{Images, Meets}
use Rattle.filling.proofs.Agree.{agree_at, parts_at, calls_at}
use Rattle.rules.proofs.RowPlaces.{row_at}
use Rattle.rules.proofs.ClaimPlaces.{new_at}

module _ (depth : ℕ) where
  -- A term, and a list of arguments, that stand at a place of p, formed, their variables below w.
  pub record TermAt (p : List ℕ) (at : ℕ) (w : ℕ) (t : Term) : Type 0 where
    pub rest : List ℕ
    pub stands : Stands p at (put_term t rest)
    pub formed : T (formed_term depth t)
    pub narrow : term_width t ≤ w

  pub record ArgumentsAt (p : List ℕ) (at : ℕ) (w : ℕ) (ts : Terms) : Type 0 where
    pub rest : List ℕ
    pub stands : Stands p at (put_arguments ts rest)
    pub formed : T (formed_terms depth ts)
    pub narrow : terms_width ts ≤ w

  -- Method and arguments of a part, the method at x; and object, method and arguments of an arrow atom, the object at x.
  pub record PartAt (p : List ℕ) (x : ℕ) (w : ℕ) (m : Term) (ts : Terms) : Type 0 where
    pub method : TermAt p x w m
    pub arguments : ArgumentsAt p (next_at p x) w ts

  pub record CallAt (p : List ℕ) (x : ℕ) (w : ℕ) (o m : Term) (ts : Terms) : Type 0 where
    pub object : TermAt p x w o
    pub said : PartAt p (next_at p x) w m ts

  pub part_stands : {p : List ℕ} {x : ℕ} {w : ℕ} (a : Arrow) (m : Term) (ts : Terms) (r : Result) (rest : List ℕ) → Stands p x (put_part (part a m ts r) rest) →
      T (formed_part depth (part a m ts r)) → terms_width (part_terms (part a m ts r)) ≤ w → PartAt p x w m ts
  unfolding put_part formed_part part_terms term_width
  part_stands {p} a m ts r rest s f h =
      let ((fm, fs), _) = simp T_and at f in
      let k = join_width ts (result_terms r) in
      record {
        method = record { rest = _; stands = s; formed = fm; narrow = omega arith };
        arguments = record { rest = _; stands = next_term p m s; formed = fs; narrow = omega arith };
      }

  pub call_stands : {p : List ℕ} {x : ℕ} {w : ℕ} (a : Arrow) (o m : Term) (ts : Terms) (r : Result) (rest : List ℕ) → Stands p x (put_term o (word " " (put_part (part a m ts r) rest))) →
      T (formed_atom depth (method a o m ts r)) → terms_width (terms_of (method a o m ts r)) ≤ w → CallAt p x w o m ts
  unfolding formed_atom formed_parts terms_of parts_terms term_width
  call_stands {p} a o m ts r rest s f h =
      let (fo, fp) = simp T_and at f in
      record {
        object = record { rest = _; stands = s; formed = fo; narrow = omega arith };
        said = part_stands a m ts r rest (next_term p o s) fp (omega arith);
      }

  pub result_at_lem : {p : List ℕ} {x : ℕ} {w : ℕ} (a : Arrow) (o m : Term) (ts : Terms) (r : Term) (rest : List ℕ) → Stands p x (put_term o (word " " (put_part (part a m ts (value r)) rest))) →
      T (formed_atom depth (method a o m ts (value r))) → terms_width (terms_of (method a o m ts (value r))) ≤ w → TermAt p (result_at p x) w r
  unfolding formed_atom formed_parts formed_part formed_result terms_of parts_terms part_terms result_terms term_width put_result
  result_at_lem {p} a o m ts r rest s f h =
      let (_, (_, fr)) = simp T_and at f in
      let k = join_width ts (result_terms (value r)) in
      record { rest = _; stands = result_stands p o a m ts (value r) rest s; formed = fr; narrow = omega arith }

  term_numbered : (line starts : List ℕ) (σ : Substitution) (w : ℕ) → Images line starts σ w → (t : Term) → T (formed_term depth t) → term_width t ≤ w → T (numbered (fill σ t))
  unfolding formed_term
  term_numbered line starts σ w g t f h = let (_, n) = simp T_and at f in fill_numbered σ w g.numbers t n h

  terms_numbered : (line starts : List ℕ) (σ : Substitution) (w : ℕ) → Images line starts σ w → (ts : Terms) → T (formed_terms depth ts) → terms_width ts ≤ w → T (numbereds (fills σ ts))
  unfolding formed_terms
  terms_numbered line starts σ w g ts f h = let (_, n) = simp T_and at f in fills_numbered σ w g.numbers ts n h

  module _ {line starts others : List ℕ} {σ τ : Substitution} {v w : ℕ} (g : Images line starts σ v) (h : Images line others τ w) {p q : List ℕ} where
    pub term_meets : {x y : ℕ} {t u : Term} → TermAt p x v t → TermAt q y w u → T (agree_at depth p x line starts q y others) ↔ (fill σ t ≡ fill τ u)
    term_meets {x} {y} {t} {u} a b =
        terms_agree depth p q line starts others σ τ v w g.entry h.entry t u a.rest b.rest a.stands b.stands
        (term_deeper depth (item_depth depth) t (omega arith) a.formed) (term_deeper depth (item_depth depth) u (omega arith) b.formed) a.narrow b.narrow
        (term_numbered line starts σ v g t a.formed a.narrow) (term_numbered line others τ w h u b.formed b.narrow)

    pub arguments_meet : {x y : ℕ} {ts us : Terms} → ArgumentsAt p x v ts → ArgumentsAt q y w us → T (agree_at depth p x line starts q y others) ↔ (fills σ ts ≡ fills τ us)
    arguments_meet {x} {y} {ts} {us} a b =
        arguments_agree depth p q line starts others σ τ v w g.entry h.entry ts us a.rest b.rest a.stands b.stands
        (terms_deeper depth (suc (suc (suc depth))) ts (omega arith) a.formed) (terms_deeper depth (suc (suc (suc depth))) us (omega arith) b.formed) a.narrow b.narrow
        (terms_numbered line starts σ v g ts a.formed a.narrow) (terms_numbered line others τ w h us b.formed b.narrow)

    pub parts_meet : {x y : ℕ} {m m' : Term} {ts ts' : Terms} → PartAt p x v m ts → PartAt q y w m' ts' →
        T (parts_at depth p x line starts q y others) ↔ ((fill σ m ≡ fill τ m') × (fills σ ts ≡ fills τ ts'))
    unfolding parts_at
    parts_meet {x} {y} a c =
        let first = term_meets a.method c.method in
        let second = arguments_meet a.arguments c.arguments in (
          λ h. let (j, k) = simp T_and at h in (first.0 j, second.0 k),
          λ h. simp T_and (first.1 h.0, second.1 h.1),
        )

    pub calls_meet : {x y : ℕ} {o m o' m' : Term} {ts ts' : Terms} → CallAt p x v o m ts → CallAt q y w o' m' ts' →
        T (calls_at depth p x line starts q y others) ↔ ((fill σ o ≡ fill τ o') × (fill σ m ≡ fill τ m') × (fills σ ts ≡ fills τ ts'))
    unfolding calls_at
    calls_meet {x} {y} a c =
        let first = term_meets a.object c.object in
        let more = parts_meet a.said c.said in (
          λ h. let (j, k) = simp T_and at h in let l = more.0 k in (first.0 j, l.0, l.1),
          λ h. simp T_and (first.1 h.0, more.1 (h.1, h.2)),
        )

module _ (depth : ℕ) where
  -- What is formed is formed at an item's depth.
  pub term_deep : {p : List ℕ} {at w : ℕ} {t : Term} → TermAt depth p at w t → TermAt (item_depth depth) p at w t
  term_deep {t = t} a = record { rest = a.rest; stands = a.stands; formed = term_deeper depth (item_depth depth) t (omega arith) a.formed; narrow = a.narrow }

  -- A filled term, expected.
  pub term_claimed : (line starts target : List ℕ) (σ : Substitution) (w : ℕ) → Entries line starts σ w → {p : List ℕ} {at : ℕ} {t : Term} → TermAt (item_depth depth) p at w t → (pos : ℕ) →
      filled_at depth p at line starts target pos ≡ strip_at target (put_term (fill σ t) []) pos
  unfolding filled_at strip_at
  term_claimed line starts target σ w entry {p} {at} {t} a pos =
      ap (λ q. (ends_of p target (matches q (drop pos target))).pos)
      (rw (a.stands.bytes_there, put_term_lem t a.rest, put_term_lem (fill σ t) [], ← tree_term_lem σ t)
      (filled_by_lem line starts σ w entry (tree_term t) (item_depth depth) (clean_term t) (within_term w t (item_depth depth) a.formed a.narrow) a.rest))
      ∙ match_place p target (put_term (fill σ t) []) a.rest (drop pos target)

-- A term is written from an open bracket on.
term_opens : (t : Term) (rest : List ℕ) → (more : List ℕ) × (put_term t rest ≡ 40 ∷ more)
unfolding put_term
term_opens (var n) rest = (_, refl)
term_opens (app n ts) rest = (_, refl)

-- Bytes and then a term, and a term and then bytes.
then_term : (line v : List ℕ) (t : Term) (rest : List ℕ) (pos : ℕ) → strip_at line (v ++ put_term t rest) pos ≡ strip_at line (put_term t rest) (strip_at line v pos)
then_term line v t rest pos = let o = term_opens t rest in rw o.1 (strip_chain line v 40 o.0 pos)

past_term : (line : List ℕ) (t : Term) (b : ℕ) (x : List ℕ) (pos : ℕ) → strip_at line (put_term t (b ∷ x)) pos ≡ strip_at line (b ∷ x) (strip_at line (put_term t []) pos)
past_term line t b x pos = ap (λ z. strip_at line z pos) (in_front (term_plain t) (b ∷ x)) ∙ strip_chain line (put_term t []) b x pos

module _ (depth : ℕ) where
  -- A new literal of two filled terms.
  pub linked_claimed : {line starts others : List ℕ} {σ τ : Substitution} {v w : ℕ} → Images line starts σ v → Images line others τ w → {p q : List ℕ} {x y : ℕ} {t u : Term} → TermAt (item_depth depth) p x v t → TermAt (item_depth depth) q y w u →
      (l : Link) (head : List ℕ) → ((rest : List ℕ) → word " (+ (" (word (link_word l) (word " " rest)) ≡ head ++ rest) → (target : List ℕ) (pos b : ℕ) (z : List ℕ) →
      strip_at target (put_literals (plus (link l (fill σ t) (fill τ u)) ∷ []) (b ∷ z)) pos ≡ strip_at target (b ∷ z) (linked_at depth head p x line starts q y others target pos)
  unfolding linked_at put_literals put_literal put_atom
  linked_claimed {line} {starts} {others} {σ} {τ} {v} {w} g h {p} {q} {x} {y} {t} {u} a c l head e target pos b z =
      let last : List ℕ = 41 ∷ 41 ∷ b ∷ z in
      let second = put_term (fill τ u) last in
      ap (λ s. strip_at target s pos) (e (put_term (fill σ t) (32 ∷ second)))
      ∙ (then_term target head (fill σ t) (32 ∷ second) pos
      ∙ (past_term target (fill σ t) 32 second (strip_at target head pos)
      ∙ (ap (strip_at target (32 ∷ second)) (sym (term_claimed depth line starts target σ v g.entry a (strip_at target head pos)))
      ∙ (then_term target (32 ∷ []) (fill τ u) last _
      ∙ (past_term target (fill τ u) 41 (41 ∷ b ∷ z) _
      ∙ (ap (strip_at target last) (sym (term_claimed depth line others target τ w h.entry c _))
      ∙ strip_chain target (41 ∷ 41 ∷ []) b z _))))))

  -- A row that misses, and one that concludes.
  module _ {rule : Rule} {k : ℕ} {p : List ℕ} {i : ℕ} {line starts q : List ℕ} {j : ℕ} {others : List ℕ} where
    pub missing : (c : Conclusion) → c ≡ misshapen → row_at depth rule k p i line starts q j others ≡ Err Check.Shape → Meets depth rule k p i line starts q j others c
    unfolding judged_of
    missing c e h = record { judged = rw e h; claimed = λ g new d target pos b x. let w : misshapen ≡ concludes g new = sym e ∙ d in cc }

    pub concluding : (c : Conclusion) (g : Agreement) (new : Clause) → c ≡ concludes g new → row_at depth rule k p i line starts q j others ≡ judged_of (concludes g new) →
        ((target : List ℕ) (pos b : ℕ) (x : List ℕ) → strip_at target (put_literals new (b ∷ x)) pos ≡ strip_at target (b ∷ x) (new_at depth rule k p i line starts q j others target pos)) → Meets depth rule k p i line starts q j others c
    concluding c g new e h claims = record {
      judged = rw e h;
      claimed = λ g' new' d target pos b x. let n : new ≡ new' = same (sym e ∙ d) in subst (λ (z : Clause). strip_at target (put_literals z (b ∷ x)) pos ≡ strip_at target (b ∷ x) (new_at depth rule k p i line starts q j others target pos)) n (claims target pos b x);
    }
      where
        same : {g g' : Agreement} {new new' : Clause} → concludes g new ≡ concludes g' new' → new ≡ new'
        same d = cc
