-- The bounds of a line decide check 5.
use Prim.Native.Nat.{ℕ, ◌+◌, ◌/◌, ◌≤◌, max}
use mathlib.Core.Path.{◌≡◌, refl, sym, ◌∙◌, ap, ap₂}
use mathlib.Core.Bool.{Bool, true, false, ◌&&◌}
use mathlib.Core.List.{List, [], ◌∷◌}
use native.Mathlib.Omega.{arith}
use lib.Dec.{T, leb, ltb, leb→le, le→leb}
use lib.ListN.{length}
use Rattle.logic.specs.Syntax.{Term, var, app, Terms, nil, cons, Part, part, Parts, only, also, Atom, link, obj, arrows, lit, Clause, Step}
use Rattle.logic.specs.Terms.{count, result_terms}
use Rattle.logic.specs.Each.{each_terms, width}
use Rattle.reader.specs.declared.measures.Bounds.{Bounds}
use Rattle.text.specs.Figures.{max_arguments, max_molecule, count_parts, few_parts, few_parts_all}
use Rattle.state.specs.State.{part_fits, parts_fit, arguments_fit, arguments_fit_all, any_symbol, clause_fits, list_fits}
use Rattle.reader.specs.Summary.{of_term, of_terms, of_part, of_parts, of_atom, of_literal, of_clause, joined, bounds}
use Rattle.reader.specs.LineAt.{step_of}
use Rattle.state.specs.ReadLine.{line_fits, step_most, step_bounds}
use Rattle.text.proofs.Tests.{T_and, same_test}
use Rattle.reader.proofs.Bounds.{and_true, and_assoc, tell_terms, tell_clause, width_told, leb_max, below_told}

pub and_comm : (a b : Bool) → a && b ≡ b && a
and_comm true b = sym (and_true b)
and_comm false true = refl
and_comm false false = refl

and_swap : (a b c : Bool) → a && (b && c) ≡ b && (a && c)
and_swap true b c = refl
and_swap false true c = refl
and_swap false false c = refl

and_middle : (a b c d : Bool) → (a && b) && (c && d) ≡ (a && c) && (b && d)
and_middle true b c d = and_swap b c d
and_middle false b c d = refl

-- Two parts are within the limits exactly if both are.
join_limits : (m n : ℕ) (a b : Bounds) → line_fits (max m n) (joined a b) ≡ line_fits m a && line_fits n b
unfolding line_fits joined
join_limits m n a b = simp (leb_max, ← and_assoc, and_comm, and_swap)

module _ (table : List ℕ) where
  -- Terms have no method arguments; those of every atom are within the limit exactly if the most of them are.
  mutual
    unfolding of_term joined

    term_free : (t : Term) → (of_term (bounds table) t).arguments ≡ 0
    term_free (var n) = refl
    term_free (app f ts) = omega (arith, terms_free ts)

    terms_free : (ts : Terms) → (of_terms (bounds table) ts).arguments ≡ 0
    terms_free nil = refl
    terms_free (cons t ts) = omega (arith, term_free t, terms_free ts)

  abbrev few : ℕ → Bool
  few n = leb n max_arguments

  part_arguments : (p : Part) → few (of_part (bounds table) p).arguments ≡ part_fits p
  unfolding of_part joined part_fits
  part_arguments (part a m ts r) = let e : (of_part (bounds table) (part a m ts r)).arguments ≡ count ts = omega (arith, term_free m, terms_free ts, terms_free (result_terms r)) in ap few e

  parts_arguments : (ps : Parts) → few (of_parts (bounds table) ps).arguments ≡ parts_fit ps
  unfolding of_parts joined parts_fit
  parts_arguments (only p) = part_arguments p
  parts_arguments (also p ps) = leb_max (of_part (bounds table) p).arguments (of_parts (bounds table) ps).arguments max_arguments ∙ ap₂ ◌&&◌ (part_arguments p) (parts_arguments ps)

  -- A molecule's parts count as half as many arguments, which are at most 8 exactly if the parts are at most 16.
  half_few : (n : ℕ) → few ((n + 1) / 2) ≡ leb n max_molecule
  half_few n = same_test _ _ (λ h. let k = leb→le ((n + 1) / 2) max_arguments h in le→leb n max_molecule (omega arith)) (λ h. let k = leb→le n max_molecule h in le→leb ((n + 1) / 2) max_arguments (omega arith))

  atom_arguments : (x : Atom) → few (of_atom (bounds table) x).arguments ≡ few_parts x && arguments_fit x
  unfolding of_atom joined arguments_fit parts_fit few_parts count_parts
  atom_arguments (link l t u) = let e : (of_atom (bounds table) (link l t u)).arguments ≡ 0 = omega (arith, term_free t, term_free u) in ap few e
  atom_arguments (obj t) = ap few (term_free t)
  atom_arguments (arrows o (only p)) = let e : (of_atom (bounds table) (arrows o (only p))).arguments ≡ (of_part (bounds table) p).arguments = omega (arith, term_free o) in ap few e ∙ part_arguments p
  atom_arguments (arrows o (also p ps)) =
      let n = count_parts (also p ps) in
      let e : (of_atom (bounds table) (arrows o (also p ps))).arguments ≡ max ((n + 1) / 2) (of_parts (bounds table) (also p ps)).arguments = omega (arith, term_free o) in
      ap few e ∙ leb_max ((n + 1) / 2) (of_parts (bounds table) (also p ps)).arguments max_arguments ∙ ap₂ ◌&&◌ (half_few n) (parts_arguments (also p ps))

  clause_arguments : (c : Clause) → few (of_clause (bounds table) c).arguments ≡ few_parts_all c && arguments_fit_all c
  unfolding of_clause of_literal joined arguments_fit_all few_parts_all
  clause_arguments [] = refl
  clause_arguments (lit g x ∷ c) =
      leb_max (of_atom (bounds table) x).arguments (of_clause (bounds table) c).arguments max_arguments ∙ ap₂ ◌&&◌ (atom_arguments x) (clause_arguments c)
      ∙ and_middle (few_parts x) (arguments_fit x) (few_parts_all c) (arguments_fit_all c)

  pub input_limits : (c : Clause) → line_fits (length c) (of_clause (bounds table) c) ≡ clause_fits c
  unfolding line_fits clause_fits
  input_limits c = rw (leb_max (length c) (of_clause (bounds table) c).width 32, tell_clause (below_told table 32) c, clause_arguments c) (simp (← and_assoc, and_comm, and_swap))

  list_limits : (ts : Terms) → line_fits (count ts) (of_terms (bounds table) ts) ≡ list_fits ts
  unfolding line_fits list_fits
  list_limits ts = rw (leb_max (count ts) (of_terms (bounds table) ts).width 32, tell_terms (below_told table 32) ts, terms_free ts) (and_true (leb (count ts) 32 && each_terms (λ v. ltb v 32) any_symbol ts))

  pub step_limits : (s : List ℕ) (st : Step) → let x = step_of table s st in line_fits (step_most x) (step_bounds x) ≡ list_fits st.first && (list_fits st.second && clause_fits st.claim)
  unfolding step_of step_most step_bounds
  step_limits s st =
      join_limits (count st.first) _ (of_terms (bounds table) st.first) _
      ∙ ap₂ ◌&&◌ (list_limits st.first) (join_limits (count st.second) _ (of_terms (bounds table) st.second) _ ∙ ap₂ ◌&&◌ (list_limits st.second) (input_limits st.claim))

-- A clause within the limits has few literals and variables.
pub clause_small : (c : Clause) → T (clause_fits c) → (length c ≤ 32) × (width c ≤ 32)
unfolding line_fits
clause_small c h =
    let (a, _) = simp T_and at (rw (← input_limits [] c) at h) in
    let n = leb→le (max (length c) (of_clause (bounds []) c).width) 32 a in
    omega (arith, tell_clause (width_told []) c)

-- And its molecules have few parts.
pub clause_few : (c : Clause) → T (clause_fits c) → T (few_parts_all c)
unfolding clause_fits
clause_few c h = let (_, (_, (few, _))) = simp T_and at h in few
