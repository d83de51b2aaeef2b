-- The places of what the rewriting rules aim at.
use Prim.Native.Nat.{ℕ, zero, suc, ◌+◌, ◌≤◌, ◌<◌}
use mathlib.Core.Bool.{Bool, true, false, cond, true≢false}
use mathlib.Core.List.{List, [], ◌∷◌}
use mathlib.Core.Logic.{◌⊎◌, inl, inr, ite}
use mathlib.Core.Path.{◌≡◌, refl, sym, ap, ◌∙◌}
use native.Mathlib.Omega.{arith}
use lib.Dec.{T, eqb, leb→le, le→leb}
use lib.ListN.{length, drop}
use Rattle.logic.specs.declared.Sign.TheVariants.{Positive, Negative}
use Rattle.logic.specs.declared.Link.{Link}
use Rattle.logic.specs.declared.Link.TheVariants.{Eq, Mem, Sub}
use Rattle.logic.specs.declared.Arrow.{Arrow}
use Rattle.logic.specs.declared.Arrow.TheVariants.{Sv, Si, Mv, Mi, St, Mt}
use Rattle.logic.specs.declared.Rule.{Rule}
use Rattle.logic.specs.declared.Rule.TheVariants.{Tra, Inc, Inh, Inp, Out}
use Rattle.logic.specs.Syntax.{Term, Terms, nil, cons, Result, value, none, Part, part, arrow_of, only, also, Atom, link, obj, arrows, method, Literal, lit}
use Rattle.logic.specs.Equality.{link?, link_number, nth_link, link_back}
use Rattle.logic.specs.Terms.{join, result_terms, part_terms, parts_terms, terms_of}
use Rattle.logic.specs.Each.{term_width, terms_width, width}
use Rattle.logic.specs.Fill.{Substitution, fill, fills, fill_result, fill_part, fill_parts}
use Rattle.logic.specs.Rules.{signature, plus}
use Rattle.logic.proofs.Rewriting.{Argument, Target, Aim, misses, hits, link_aim, result_aim, method_aim, object_aim, output_aim, input_aim, argument_aim, positive_aim, aim}
use Rattle.logic.proofs.Both.{right}
use Rattle.text.specs.Words.{bytes}
use Rattle.text.specs.Write.{word, put_term, put_terms, put_arguments, put_result, put_part, put_atom, put_literal}
use Rattle.text.specs.Form.{depth_ofs, numbereds, formed_term, formed_terms, formed_result, formed_part, formed_parts, formed_atom, formed_literal}
use Rattle.text.specs.Read.{Parsed, bad, got, strip}
use Rattle.text.proofs.Places.{end_of}
use Rattle.text.specs.Access.{opening, to_argument, to_occurrence}
use Rattle.text.proofs.Nesting.{from_item, listed, terms_each, argument_item}
use Rattle.text.proofs.Trees.{join_width}
use Rattle.text.proofs.Tests.{T_and, on_test}
use Rattle.text.proofs.Gives.{Gives, nothing, gives}
use Rattle.text.proofs.Positions.{Tail, End, end_refl, strip_tail, skip_tail, item_tail, and_tail}
use Rattle.text.specs.Heads.{link_kind, arrow_kind, kind_number, head}
use Rattle.text.proofs.Heads.{after_head}
use Rattle.clauses.proofs.Places.{strip_at, next_at, positive_at, first_at, value_at, object_at, argument_at}
use Rattle.filling.specs.Filled.{Filler, fill_item, item_depth, hole_depth}
use Rattle.filling.proofs.LineLists.{stack_sum}
use Rattle.filling.proofs.Placed.{Argument as Chosen, first, next, replaced, hole_second, hole_object, hole_argument, hole_result}
use Rattle.clauses.proofs.Placing.{Stands, walk_stands, walk_past, none_past, inner, past_inner, past_value, result_stands, either_past, either_stands, value_of, value_none, next_term, past_next, past_strip, positive_stands, negative_past, head_stands, head_past}
use Rattle.rules.proofs.RowPlaces.{Target as TargetKind}
use Rattle.rules.proofs.RowPlaces.{Nothing, Occurrence, Subclass, Member, Object as Owner, Argument as Input, Result as Output}
use Rattle.rules.proofs.RowPlaces.{target_at, target_place}

module _ (depth : ℕ) where
  -- A target of the literal l, which `rest` follows: it is formed, its variables are below w, and filling with the hole at it, which `left` follows, puts
  -- another term in its place.
  pub record Hole (w : ℕ) (l : Literal) (rest : List ℕ) (t : Target) (left : List ℕ) : Type 0 where
    pub formed : T (formed_term depth t.term)
    pub narrow : term_width t.term ≤ w
    pub filled : (f : Filler) (σ : Substitution) (u : Term) → ((n : ℕ) → n < w → f.entry n ≡ put_term (σ n) []) → ((e : ℕ) → depth ≤ e → (r : List ℕ) × (f.new e ≡ got (put_term u []) r)) →
        f.hole ≡ length (put_term t.term left) → fill_item f (hole_depth depth) (put_literal l rest) ≡ got (put_literal (t.with σ u) []) rest

  -- A place of what is aimed at.
  pub data Placed (p : List ℕ) (x w : ℕ) (l : Literal) (rest : List ℕ) : Aim → Type 0 where
    missed : x ≡ length p + 1 → Placed p x w l rest misses
    found : (t : Target) (left : List ℕ) → Stands p x (put_term t.term left) → Hole w l rest t left → Placed p x w l rest (hits t)

  -- A formed atom, its variables below w.
  abbrev Fits : ℕ → Atom → Type 0
  Fits w x = T (formed_atom depth x) × (terms_width (terms_of x) ≤ w)

-- A link's kind tells the link.
link_number_lem : (k : Link) → link_number k ≡ link_kind k
unfolding link_number
link_number_lem = elim [ Eq ↦ refl | Mem ↦ refl | Sub ↦ refl ]

pub kind_link : (k l : Link) → link_kind k ≡ link_kind l → k ≡ l
kind_link k l e = sym (link_back k) ∙ (ap nth_link (link_number_lem k ∙ (e ∙ sym (link_number_lem l))) ∙ link_back l)

-- Links come before the other kinds.
pub link_small : (k : Link) → link_kind k < 3
link_small = elim [ Eq ↦ omega arith | Mem ↦ omega arith | Sub ↦ omega arith ]

-- A link is no object and no arrow.
pub link_object : (k : Link) → link_kind k ≡ 3 → ⊥
link_object k e = omega (arith, link_small k)

pub link_molecule : (k : Link) → link_kind k ≡ 10 → ⊥
link_molecule k e = omega (arith, link_small k)

pub link_arrow : (k : Link) (a : Arrow) → link_kind k ≡ arrow_kind a → ⊥
link_arrow k a e = omega (arith, link_small k, high a)
  where
    high : (a : Arrow) → 4 ≤ arrow_kind a
    high = elim [ Sv ↦ omega arith | Si ↦ omega arith | Mv ↦ omega arith | Mi ↦ omega arith | St ↦ omega arith | Mt ↦ omega arith ]

opening_tail : Tail opening
unfolding opening
opening_tail = record { tail = go }
  where
    go : (bs : List ℕ) → Gives (λ _ rest. End bs rest) (opening bs)
    go [] = nothing
    go (b ∷ bs) = on_test (Gives _) (eqb b 40) (λ _. gives (end_refl (b ∷ bs))) (λ _. nothing)

pub argument_tail : (k : ℕ) → Tail (to_argument k)
unfolding to_argument
argument_tail zero = and_tail (strip_tail (40 ∷ [])) opening_tail
argument_tail (suc k) = and_tail (and_tail (strip_tail (40 ∷ [])) skip_tail) (item_tail k)

-- Argument k, as it is written and as it is aimed at.
data Written (k : ℕ) (ts : Terms) (rest : List ℕ) (f : Argument → Aim) : Parsed (Unit {0}) → Aim → Type 0 where
  absent : Written k ts rest f bad misses
  present : {t : Term} {more : Terms} (a : Chosen t k ts more) → Written k ts rest f (got tt (put_term t (put_terms more rest))) (f (record { term = t; with = λ σ u. replaced σ u a }))

argument_written : (k : ℕ) (ts : Terms) (f : Argument → Aim) (rest : List ℕ) → Written k ts rest f (from_item put_term (drop k (listed ts)) rest) (argument_aim k ts f)
unfolding from_item listed argument_aim replaced
argument_written zero nil f rest = absent
argument_written (suc k) nil f rest = absent
argument_written zero (cons t ts) f rest = rw (← terms_each ts rest) (present first)
argument_written (suc k) (cons t ts) f rest = go (argument_written k ts inner rest)
  where
    inner : Argument → Aim
    inner g = f (record { term = g.term; with = λ σ u. cons (fill σ t) (g.with σ u) })

    go : {q : Parsed (Unit {0})} {a : Aim} → Written k ts rest inner q a → Written (suc k) (cons t ts) rest f q a
    go absent = absent
    go (present a) = present (next a)

module _ (depth : ℕ) where
  -- An argument is formed, and no wider than the terms that it is among.
  chosen_formed : {t : Term} {k : ℕ} {ts more : Terms} → Chosen t k ts more → T (formed_terms depth ts) → T (formed_term depth t)
  unfolding formed_terms formed_term depth_ofs numbereds
  chosen_formed (first {ts}) h = let (m, n) = simp T_and at h in simp T_and (omega (arith, leb→le, le→leb), n.0)
  chosen_formed (next {a} {ts} p) h = let (m, n) = simp T_and at h in chosen_formed p (simp T_and (omega (arith, leb→le, le→leb), n.1))

chosen_narrow : {t : Term} {k : ℕ} {ts more : Terms} → Chosen t k ts more → (us : Terms) → term_width t ≤ terms_width (join ts us)
unfolding join terms_width
chosen_narrow first us = omega arith
chosen_narrow (next p) us = omega (arith, chosen_narrow p us)

module _ (depth : ℕ) where
  -- The targets in a link and in a signature.
  module _ (w : ℕ) (rest : List ℕ) where
    second_hole : (l : Link) (t u : Term) → Fits depth w (link l t u) → Hole depth w (plus (link l t u)) rest (record { term = u; with = λ σ v. plus (link l (fill σ t) v) }) (word ")" (word ")" rest))
    unfolding formed_atom terms_of terms_width
    second_hole l t u fits =
        record {
          formed = right (formed_term depth t) (formed_term depth u) fits.0;
          narrow = omega (arith, fits.1);
          filled = λ f σ v entry new h. rw (← stack_sum depth (item_depth depth)) (hole_second f σ w depth depth entry v new Positive l t u fits.0 fits.1 rest h);
        }

    object_hole : (o : Term) (p : Part) → Fits depth w (arrows o (only p)) → Hole depth w (plus (arrows o (only p))) rest (record { term = o; with = λ σ u. plus (arrows u (only (fill_part σ p))) }) (word " " (put_part p (word ")" rest)))
    unfolding formed_atom terms_of terms_width
    object_hole o p fits =
        let (f, _) = simp T_and at fits.0 in
        record {
          formed = f;
          narrow = omega (arith, fits.1);
          filled = λ f σ u entry new h. rw (← stack_sum depth (item_depth depth)) (hole_object f σ w depth depth entry u new Positive o p fits.0 fits.1 rest h);
        }

    argument_hole : (a : Arrow) (o m : Term) (ts : Terms) (r : Result) → Fits depth w (method a o m ts r) → {t : Term} {k : ℕ} {more : Terms} (c : Chosen t k ts more) →
        Hole depth w (plus (method a o m ts r)) rest (record { term = t; with = λ σ u. plus (method a (fill σ o) (fill σ m) (replaced σ u c) (fill_result σ r)) })
        (put_terms more (word ")" (word " " (put_result r (word ")" (word ")" rest))))))
    unfolding formed_atom formed_parts formed_part terms_of parts_terms part_terms terms_width
    argument_hole a o m ts r fits c =
        let (_, ((_, g), _)) = simp T_and at fits.0 in
        record {
          formed = chosen_formed depth c g;
          narrow = omega (arith, fits.1, chosen_narrow c (result_terms r));
          filled = λ f σ u entry new h. rw (← stack_sum depth (item_depth depth)) (hole_argument f σ w depth depth entry u new Positive a o m ts r fits.0 fits.1 c rest h);
        }

    result_hole : (a : Arrow) (o m : Term) (ts : Terms) (r : Term) → Fits depth w (method a o m ts (value r)) →
        Hole depth w (plus (method a o m ts (value r))) rest (record { term = r; with = λ σ u. plus (method a (fill σ o) (fill σ m) (fills σ ts) (value u)) }) (word ")" (word ")" rest))
    unfolding formed_atom formed_parts formed_part formed_result terms_of parts_terms part_terms result_terms terms_width
    result_hole a o m ts r fits =
        let (_, (_, k)) = simp T_and at fits.0 in
        record {
          formed = k;
          narrow = omega (arith, fits.1, join_width ts (cons r nil));
          filled = λ f σ u entry new h. rw (← stack_sum depth (item_depth depth)) (hole_result f σ w depth depth entry u new Positive a o m ts r fits.0 fits.1 rest h);
        }

-- st and mt are the signatures.
signature_kind : (a : Arrow) → T (signature a) → (8 ≡ arrow_kind a) ⊎ (9 ≡ arrow_kind a)
unfolding signature
signature_kind Sv h = absurd h
signature_kind Si h = absurd h
signature_kind Mv h = absurd h
signature_kind Mi h = absurd h
signature_kind St h = inl refl
signature_kind Mt h = inr refl

kind_signature : (a : Arrow) → (signature a ≡ false) → (8 ≡ arrow_kind a → ⊥) × (9 ≡ arrow_kind a → ⊥)
unfolding signature
kind_signature Sv h = (λ e. omega arith, λ e. omega arith)
kind_signature Si h = (λ e. omega arith, λ e. omega arith)
kind_signature Mv h = (λ e. omega arith, λ e. omega arith)
kind_signature Mi h = (λ e. omega arith, λ e. omega arith)
kind_signature St h = absurd (true≢false h)
kind_signature Mt h = absurd (true≢false h)

module _ (p : List ℕ) where
  -- The second term of a link, from its atom on.
  pub link_past : (k : Link) {at : ℕ} (x : Atom) (rest : List ℕ) → (link_kind k ≡ kind_number x → ⊥) → Stands p at (put_atom x rest) → next_at p (strip_at p (head (link_kind k)) at) ≡ length p + 1
  link_past k x rest e s = ap (next_at p) (head_past p (link_kind k) x rest (omega (arith, link_small k)) e s) ∙ past_next p

  pub past_link : (k : Link) → next_at p (strip_at p (head (link_kind k)) (length p + 1)) ≡ length p + 1
  past_link Eq = ap (next_at p) (past_strip p 40 _) ∙ past_next p
  past_link Mem = ap (next_at p) (past_strip p 40 _) ∙ past_next p
  past_link Sub = ap (next_at p) (past_strip p 40 _) ∙ past_next p

  -- The object of a signature, from its atom on.
  abbrev signature_from : ℕ → ℕ
  signature_from at = inner p 8 9 at

  past_signature : signature_from (length p + 1) ≡ length p + 1
  past_signature = past_inner p 8 9 40 40 _ _ refl refl

  other_signature : {at : ℕ} (x : Atom) (rest : List ℕ) → (8 ≡ kind_number x → ⊥) → (9 ≡ kind_number x → ⊥) → Stands p at (put_atom x rest) → signature_from at ≡ length p + 1
  other_signature x rest e f s = either_past p 8 9 x rest (omega arith) (omega arith) e f s

  past_argument : (k : ℕ) → argument_at p (length p + 1) k ≡ length p + 1
  unfolding argument_at to_argument strip
  past_argument zero = none_past p (to_argument zero) refl
  past_argument (suc k) = none_past p (to_argument (suc k)) refl

  past_input : (k : ℕ) → argument_at p (next_at p (next_at p (length p + 1))) k ≡ length p + 1
  past_input k = ap (λ a. argument_at p (next_at p a) k) (past_next p) ∙ (ap (λ a. argument_at p a k) (past_next p) ∙ past_argument k)

  -- A literal that is missing has no target.
  pub past_positive : positive_at p (length p + 1) ≡ length p + 1
  unfolding positive_at
  past_positive = past_strip p 40 _

  pub past_second : (k : Link) → next_at p (first_at p (head (link_kind k)) (length p + 1)) ≡ length p + 1
  unfolding first_at
  past_second k = rw past_positive (past_link k)

  past_object_at : object_at p (bytes "(st ") (bytes "(mt ") (length p + 1) ≡ length p + 1
  unfolding object_at
  past_object_at = rw past_positive past_signature

  pub past_target : (t : TargetKind) (k : ℕ) → target_place t k p (length p + 1) ≡ length p + 1
  unfolding target_place to_occurrence strip
  past_target Nothing k = refl
  past_target Occurrence k = none_past p (to_occurrence k) refl
  past_target Subclass k = past_second Sub
  past_target Member k = past_second Mem
  past_target Owner k = past_object_at
  past_target Input k = ap (λ o. argument_at p (next_at p (next_at p o)) k) past_object_at ∙ past_input k
  past_target Output k = ap (value_at p) past_object_at ∙ past_value p

module _ (depth : ℕ) where
  -- Where the targets of a literal stand.
  module _ (p : List ℕ) (w : ℕ) where
    link_placed : (k : Link) {at : ℕ} (x : Atom) (rest : List ℕ) → Fits depth w x → Stands p at (put_atom x (word ")" rest)) → Placed depth p (next_at p (strip_at p (head (link_kind k)) at)) w (plus x) rest (link_aim k x)
    unfolding link_aim kind_number after_head
    link_placed k {at} (link l t u) rest fits s = go (link? k l)
      where
        here : Link → Target
        here k = record { term = u; with = λ σ v. plus (link k (fill σ t) v) }

        go : (d : Dec (k ≡ l)) → Placed depth p (next_at p (strip_at p (head (link_kind k)) at)) w (plus (link l t u)) rest (ite d (hits (here k)) misses)
        go (yes e) = rw e (found (here l) (word ")" (word ")" rest)) (next_term p t (head_stands p (link l t u) (word ")" rest) s)) (second_hole depth w rest l t u fits))
        go (no e) = missed (link_past p k (link l t u) (word ")" rest) (λ h. e (kind_link k l h)) s)
    link_placed k (obj t) rest fits s = missed (link_past p k (obj t) (word ")" rest) (link_object k) s)
    link_placed k (arrows o (only q)) rest fits s = missed (link_past p k (arrows o (only q)) (word ")" rest) (link_arrow k (arrow_of q)) s)
    link_placed k (arrows o (also q qs)) rest fits s = missed (link_past p k (arrows o (also q qs)) (word ")" rest) (link_molecule k) s)

    positive_placed : {at : ℕ} (l : Literal) (rest : List ℕ) (f : ℕ → ℕ) (g : Atom → Aim) → f (length p + 1) ≡ length p + 1 →
        ((x : Atom) (at : ℕ) → Fits depth w x → Stands p at (put_atom x (word ")" rest)) → Placed depth p (f at) w (plus x) rest (g x)) →
        Stands p at (put_literal l rest) → T (formed_literal depth l) → width (l ∷ []) ≤ w → Placed depth p (f (positive_at p at)) w l rest (positive_aim l g)
    unfolding positive_aim formed_literal width
    positive_placed (lit Positive x) rest f g e h s i n = h x _ (i, omega arith) (positive_stands p x rest s)
    positive_placed (lit Negative x) rest f g e h s i n = missed (ap f (negative_past p x rest s) ∙ e)

    -- What a literal at a place of p gives: where its target is.
    abbrev pub Aimed : Rule → Type 0
    Aimed rule = (at k : ℕ) (l : Literal) (rest : List ℕ) → Stands p at (put_literal l rest) → T (formed_literal depth l) → width (l ∷ []) ≤ w → Placed depth p (target_at p rule k at) w l rest (aim k rule l)

    pub tra_placed : Aimed Tra
    unfolding target_place first_at aim
    tra_placed at k l rest =
        positive_placed l rest (λ at. next_at p (strip_at p (head 2) at)) (link_aim Sub) (past_link p Sub) (λ x at i s. link_placed Sub x rest i s)

    pub inc_placed : Aimed Inc
    unfolding target_place first_at aim
    inc_placed at k l rest =
        positive_placed l rest (λ at. next_at p (strip_at p (head 1) at)) (link_aim Mem) (past_link p Mem) (λ x at i s. link_placed Mem x rest i s)

    -- What is aimed at in a signature: where the object stands, the walk from there finds it.
    method_placed : {at : ℕ} (x : Atom) (rest : List ℕ) (f : ℕ → ℕ) (g : Arrow → Term → Term → Terms → Result → Aim) → f (length p + 1) ≡ length p + 1 →
        ((a : Arrow) (o m : Term) (ts : Terms) (r : Result) (at : ℕ) → Fits depth w (method a o m ts r) → Stands p at (put_term o (word " " (put_part (part a m ts r) (word ")" rest)))) →
        Placed depth p (f at) w (plus (method a o m ts r)) rest (g a o m ts r)) →
        Fits depth w x → Stands p at (put_atom x (word ")" rest)) → Placed depth p (f (signature_from p at)) w (plus x) rest (method_aim x g)
    unfolding method_aim kind_number after_head
    method_placed (link l t u) rest f g e h i s =
        missed (ap f (other_signature p (link l t u) (word ")" rest) (λ w. link_arrow l St (sym w)) (λ w. link_arrow l Mt (sym w)) s) ∙ e)
    method_placed (obj t) rest f g e h i s = missed (ap f (other_signature p (obj t) (word ")" rest) (λ w. omega arith) (λ w. omega arith) s) ∙ e)
    method_placed (arrows o (also q qs)) rest f g e h i s = missed (ap f (other_signature p (arrows o (also q qs)) (word ")" rest) (λ w. omega arith) (λ w. omega arith) s) ∙ e)
    method_placed {at} (arrows o (only (part a m ts r))) rest f g e h i s = go (signature a) refl
      where
        go : (b : Bool) → signature a ≡ b → Placed depth p (f (signature_from p at)) w (plus (method a o m ts r)) rest (cond b (g a o m ts r) misses)
        go true d = h a o m ts r _ i (either_stands p 8 9 (method a o m ts r) (word ")" rest) (omega arith) (signature_kind a (rw d tt)) s)
        go false d = missed (ap f (other_signature p (method a o m ts r) (word ")" rest) (kind_signature a d).0 (kind_signature a d).1 s) ∙ e)

    -- The three places that are aimed at in a signature.
    pub inh_placed : Aimed Inh
    unfolding target_place object_at aim object_aim fill_parts fill_part
    inh_placed at k l rest =
        positive_placed l rest (signature_from p) _ (past_signature p) (λ x at i s. method_placed x rest (λ o. o) object_aim refl (λ a o m ts r at i v. found _ _ v (object_hole depth w rest o (part a m ts r) i)) i s)

    output_placed : {at : ℕ} (a : Arrow) (o m : Term) (ts : Terms) (r : Result) (rest : List ℕ) → Fits depth w (method a o m ts r) →
        Stands p at (put_term o (word " " (put_part (part a m ts r) (word ")" rest)))) → Placed depth p (value_at p at) w (plus (method a o m ts r)) rest (output_aim a o m ts r)
    unfolding output_aim result_aim put_result
    output_placed a o m ts (value r) rest i s = rw (value_of p o a m ts r (word ")" rest) s) (found _ _ (result_stands p o a m ts (value r) (word ")" rest) s) (result_hole depth w rest a o m ts r i))
    output_placed a o m ts none rest i s = missed (value_none p o a m ts (word ")" rest) s)

    pub out_placed : Aimed Out
    unfolding target_place object_at aim
    out_placed at k l rest =
        positive_placed l rest (λ at. value_at p (signature_from p at)) _ (ap (value_at p) (past_signature p) ∙ past_value p) (λ x at i s.
        method_placed x rest (value_at p) output_aim (past_value p) (λ a o m ts r at i v. output_placed a o m ts r rest i v) i s)

    argument_placed : {at : ℕ} (k : ℕ) (a : Arrow) (o m : Term) (ts : Terms) (r : Result) (rest : List ℕ) → Fits depth w (method a o m ts r) →
        Stands p at (put_arguments ts (word " " (put_result r (word ")" (word ")" rest))))) → Placed depth p (argument_at p at k) w (plus (method a o m ts r)) rest (input_aim k a o m ts r)
    unfolding argument_at input_aim
    argument_placed {at} k a o m ts r rest i s = go (argument_item ts k _) (argument_written k ts _ _)
      where
        behind : List ℕ
        behind = word " " (put_result r (word ")" (word ")" rest)))

        aimed : Argument → Aim
        aimed g = hits (record { term = g.term; with = λ σ u. plus (method a (fill σ o) (fill σ m) (g.with σ u) (fill_result σ r)) })

        go : {q : Parsed (Unit {0})} {b : Aim} → to_argument k (put_arguments ts behind) ≡ q → Written k ts (word ")" behind) aimed q b → Placed depth p (end_of p (to_argument k (drop at p))) w (plus (method a o m ts r)) rest b
        go e absent = missed (walk_past p at (to_argument k) s e)
        go e (present c) = found _ _ (walk_stands p at (argument_tail k) s e) (argument_hole depth w rest a o m ts r i c)

    pub inp_placed : Aimed Inp
    unfolding target_place object_at aim put_part
    inp_placed at k l rest =
        let f : ℕ → ℕ = λ o. argument_at p (next_at p (next_at p o)) k in
        positive_placed l rest (λ at. f (signature_from p at)) _ (ap f (past_signature p) ∙ past_input p k) (λ x at i s.
        method_placed x rest f (input_aim k) (past_input p k) (λ a o m ts r at i v. argument_placed k a o m ts r rest i (next_term p m (next_term p o v))) i s)
