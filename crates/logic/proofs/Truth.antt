-- What is true in an H-structure stays true where an occurrence is replaced by an equal term, and where it covers or what fits into it is
-- told.
use Prim.Native.Nat.{ℕ}
use mathlib.Core.List.{List}
use mathlib.Core.Logic.{inl, inr}
use mathlib.Core.Path.{◌≡◌, refl, sym, ap, subst}
use Rattle.logic.specs.declared.Link.TheVariants.{Eq}
use Rattle.logic.specs.Syntax.{Term, Terms, nil, cons, Part, Parts, only, also, Atom, link, obj, arrows}
use Rattle.logic.specs.Terms.{join, part_terms, parts_terms, terms_of, nth, entry_or, rest, with_parts_terms, with_terms}
use Rattle.logic.specs.Occurrence.{Replaced, ReplacedAtom}
use Rattle.logic.specs.Rules.{bare, Covers, CoversPart, SomeCovers, EachCovered, Fits, join_parts}
use Rattle.logic.specs.Structure.{Structure, AllIn, TrueIn}
use Rattle.logic.proofs.Filling.{part_own, parts_own, front_join, rest_join}
use Rattle.logic.proofs.Finding.{replaced_count}

-- An occurrence replaced in two lists in a row is replaced in one of them.
join_replaced : {P : Type 0} {a b : Term} (ts us : Terms) {vs : Terms} → Replaced a b (join ts us) vs →
    ((ts' : Terms) → Replaced a b ts ts' → vs ≡ join ts' us → P) → ((us' : Terms) → Replaced a b us us' → vs ≡ join ts us' → P) → P
unfolding join
join_replaced nil us {vs} r left right = right vs r refl
join_replaced (cons t ts) us Replaced.here left right = left _ Replaced.here refl
join_replaced (cons t ts) us (Replaced.inside r) left right = left _ (Replaced.inside r) refl
join_replaced (cons t ts) us (Replaced.later r) left right =
    join_replaced ts us r (λ ts' q e. left (cons t ts') (Replaced.later q) (ap (cons t) e)) (λ us' q e. right us' q (ap (cons t) e))

module _ {table : List ℕ} (H : Atom → Type 0) (S : Structure table H) {a b : Term} (equal : H (link Eq a b)) where
  atom_object : {o o' : Term} → ((ts : Terms) → Replaced a b (cons o ts) (cons o' ts)) → (p : Part) → H (arrows o (only p)) → H (arrows o' (only p))
  unfolding ReplacedAtom terms_of parts_terms with_terms with_parts_terms nth entry_or rest
  atom_object {o} {o'} r p h = S.replace equal h (cons o' (part_terms p), r (part_terms p), sym (ap (λ q. arrows o' (only q)) (part_own p)))

  -- The object replaced: in all the atoms.
  object_replaced : {o o' : Term} → ((ts : Terms) → Replaced a b (cons o ts) (cons o' ts)) → (ps : Parts) → AllIn H o ps → AllIn H o' ps
  unfolding AllIn
  object_replaced r (only p) h = atom_object r p h
  object_replaced r (also p ps) (h, k) = (atom_object r p h, object_replaced r ps k)

  -- A term of the parts replaced: in one atom, and the others stay.
  part_replaced : (o : Term) (ps : Parts) {us : Terms} → Replaced a b (parts_terms ps) us → AllIn H o ps → AllIn H o (with_parts_terms ps us)
  unfolding AllIn ReplacedAtom terms_of parts_terms with_terms with_parts_terms nth entry_or rest
  part_replaced o (only p) {us} r h = S.replace equal h (cons o us, Replaced.later r, refl)
  part_replaced o (also p ps) {us} r (h, k) =
      join_replaced (part_terms p) (parts_terms ps) r
      (λ ts q e. rw (e, ← replaced_count q, front_join ts (parts_terms ps), rest_join ts (parts_terms ps), parts_own ps)
      (S.replace equal h (cons o ts, Replaced.later q, refl), k))
      (λ ts q e. rw (e, front_join (part_terms p) ts, rest_join (part_terms p) ts, part_own p) (h, part_replaced o ps q k))

  arrows_replaced : (o : Term) (ps : Parts) {us : Terms} → Replaced a b (cons o (parts_terms ps)) us → AllIn H o ps →
      TrueIn H (with_terms (arrows o ps) us)
  unfolding TrueIn with_terms nth entry_or rest
  arrows_replaced o ps Replaced.here h = rw (parts_own ps) (object_replaced (λ ts. Replaced.here) ps h)
  arrows_replaced o ps (Replaced.inside r) h = rw (parts_own ps) (object_replaced (λ ts. Replaced.inside r) ps h)
  arrows_replaced o ps (Replaced.later r) h = part_replaced o ps r h

  pub true_replaced : (x y : Atom) → ReplacedAtom a b x y → TrueIn H x → TrueIn H y
  unfolding ReplacedAtom TrueIn terms_of with_terms
  true_replaced (link l t u) y (us, r, e) h = rw e (S.replace equal h (us, r, refl))
  true_replaced (obj t) y (us, r, e) h = rw e (S.replace equal h (us, r, refl))
  true_replaced (arrows o ps) y (us, r, e) h = rw e (arrows_replaced o ps r h)

module _ {table : List ℕ} (H : Atom → Type 0) (S : Structure table H) where
  bare_true : (x : Atom) → TrueIn H x → TrueIn H (bare x)
  unfolding TrueIn bare AllIn
  bare_true (link l t u) h = h
  bare_true (obj t) h = h
  bare_true (arrows o (only p)) h = S.none_holds h
  bare_true (arrows o (also p ps)) h = h

  covers_true : (x y : Atom) → Covers x y → TrueIn H x → TrueIn H y
  unfolding Covers
  covers_true x y (inl e) h = subst (TrueIn H) e h
  covers_true x y (inr e) h = subst (TrueIn H) e (bare_true x h)

  part_true : (o : Term) (p q : Part) → CoversPart p q → H (arrows o (only p)) → H (arrows o (only q))
  unfolding CoversPart bare
  part_true o p q (inl e) h = subst (λ p. H (arrows o (only p))) e h
  part_true o p q (inr e) h = subst (λ p. H (arrows o (only p))) e (S.none_holds h)

  some_true : (o : Term) (ps : Parts) (q : Part) → SomeCovers ps q → AllIn H o ps → H (arrows o (only q))
  unfolding SomeCovers AllIn
  some_true o (only p) q c h = part_true o p q c h
  some_true o (also p ps) q (inl c) (h, k) = part_true o p q c h
  some_true o (also p ps) q (inr c) (h, k) = some_true o ps q c k

  each_true : (o : Term) (ps qs : Parts) → EachCovered ps qs → AllIn H o ps → AllIn H o qs
  unfolding EachCovered AllIn
  each_true o ps (only q) c h = some_true o ps q c h
  each_true o ps (also q qs) (c, d) h = (some_true o ps q c h, each_true o ps qs d h)

  -- Two molecules merged.
  pub join_true : (o : Term) (ps qs : Parts) → AllIn H o ps → AllIn H o qs → AllIn H o (join_parts ps qs)
  unfolding AllIn join_parts
  join_true o (only p) qs h k = (h, k)
  join_true o (also p ps) qs (h, h') k = (h, join_true o ps qs h' k)

  -- What fits into an atom that is true is true.
  pub fits_true : (x y : Atom) → Fits x y → TrueIn H y → TrueIn H x
  unfolding Fits TrueIn
  fits_true (arrows o qs) (arrows o' ps) (e, c) h = each_true o ps qs c (subst (λ t. AllIn H t ps) (sym e) h)
  fits_true (arrows o qs) (link l t u) c h = covers_true (link l t u) (arrows o qs) c h
  fits_true (arrows o qs) (obj t) c h = covers_true (obj t) (arrows o qs) c h
  fits_true (link l t u) y c h = covers_true y (link l t u) c h
  fits_true (obj t) y c h = covers_true y (obj t) c h
