-- The written form of a derivation passes every check, and what passes every check is the written form of a derivation.
use Prim.Native.Nat.{ℕ, suc}
use mathlib.Core.Bool.{not, ◌&&◌}
use mathlib.Core.List.{List, [], ◌∷◌, ◌++◌, map, append-nil, append_assoc}
use mathlib.Core.Path.{◌≡◌, refl, sym, ap, subst, ◌∙◌}
use lib.Dec.{T}
use lib.ListN.{get_or}
use Rattle.logic.specs.Syntax.{Clause, Step, Line, sym as sym_line, input, by}
use Rattle.logic.specs.Each.{each_terms, each_clause, declares, any, allowed_clause, over_clause}
use Rattle.logic.specs.StepChecks.{AllPass}
use Rattle.logic.specs.Derivation.{AllOver, WrittenForm, lines_of}
use Rattle.logic.proofs.Both.{left, right, both}
use Rattle.logic.proofs.Steps.{given→all}
use Rattle.logic.proofs.Entailment.{ClauseOver, AllGiven}
use Rattle.logic.proofs.Over.{over_allowed}
use Rattle.logic.proofs.Written.{all_written, all_given, inference_of}
use Rattle.text.specs.Form.{Reading, form, no_form, formed_number, formed_clause, formed_line, formed_lines}
use Rattle.text.specs.Read.{read_raw}
use Rattle.text.specs.Split.{split}
use Rattle.text.specs.declared.Figures.{Figures}
use Rattle.state.specs.State.{State, fresh, clauses, claim_of, advance, is_empty, ordered, has_constant, constant_ready, symbols_declared, line_checks, after, state_after}
use Rattle.text.proofs.Deep.{formed_symbol, formed_over}
use Rattle.text.proofs.Lines.{lines_complete, lines_sound}
use Rattle.meaning.specs.Checks.{readings, too_large, step_part, checks_of, checks_at, state_of, table_of, Accepted}
use Rattle.meaning.specs.Guarantee.{LinesWithin, WrittenText}
use Rattle.meaning.proofs.Meaning.{all_lines}
use Rattle.meaning.proofs.Entailed.{accepted_good, empty_list, not_a_form}

abbrev Passes : Figures → State → List Reading → Type 0
Passes F st rs = (m : ℕ) → AllPass (checks_at st rs m)

abbrev at : List ℕ → List Clause → List Step → State
at table inputs steps = record { symbols = table; inputs = inputs; steps = steps }

map_last : {A B : Type 0} (f : A → B) (xs : List A) (x : A) → map f (xs ++ (x ∷ [])) ≡ map f xs ++ (f x ∷ [])
map_last f [] x = refl
map_last f (y ∷ xs) x = ap (λ ys. f y ∷ ys) (map_last f xs x)

claims_last : (inputs : List Clause) (ss : List Step) (s : Step) → (inputs ++ map claim_of ss) ++ (s.claim ∷ []) ≡ inputs ++ map claim_of (ss ++ (s ∷ []))
claims_last inputs ss s = append_assoc inputs (map claim_of ss) (s.claim ∷ []) ∙ ap (λ cs. inputs ++ cs) (sym (map_last claim_of ss s))

module _ (F : Figures) (table : List ℕ) where
  -- by lines, each given by the rules.
  steps_pass : (inputs : List Clause) (before ss : List Step) → T (has_constant table) →
      AllGiven table (inputs ++ map claim_of before) ss → LinesWithin (at table inputs before) (map by ss) → Passes F (at table inputs before) (map form (map by ss))
  unfolding checks_of line_checks AllPass ordered constant_ready symbols_declared advance AllGiven step_part clauses checks_at LinesWithin after
  steps_pass inputs before [] k g w = λ m. tt
  steps_pass inputs before (s ∷ ss) k g w =
      let a = each_terms any (declares table) s.first in
      let b = each_terms any (declares table) s.second in
      let c = each_clause any (declares table) s.claim in
      all_lines F (at table inputs before) (form (by s)) (map form (map by ss))
      (tt, (tt, (k, (w.0, (both a (b && c) g.1.0 (both b c g.1.1 g.2), given→all (inputs ++ map claim_of before) s g.0)))))
      (steps_pass inputs (before ++ (s ∷ [])) ss k (subst (λ (cs : List Clause). AllGiven table cs ss) (claims_last inputs before s) g.3) w.1)

  -- in lines over the table, then the by lines.
  inputs_pass : (before inputs : List Clause) (ss : List Step) → T (has_constant table) → AllOver table inputs →
      AllGiven table (before ++ inputs) ss → LinesWithin (at table before []) (map input inputs ++ map by ss) →
      Passes F (at table before []) (map form (map input inputs ++ map by ss))
  unfolding checks_of line_checks AllPass ordered is_empty constant_ready symbols_declared advance step_part LinesWithin after AllOver over_clause
  inputs_pass before [] ss k o g w = steps_pass before [] ss k g w
  inputs_pass before (c ∷ inputs) ss k o g w =
      all_lines F (at table before []) (form (input c)) (map form (map input inputs ++ map by ss))
      (tt, (tt, (k, (w.0, (right (allowed_clause c) (each_clause any (declares table) c) o.0, tt)))))
      (inputs_pass (before ++ (c ∷ [])) inputs ss k o.1 (rw append_assoc g) w.1)

-- sym lines, then the others.
syms_pass : (F : Figures) (before table : List ℕ) (inputs : List Clause) (ss : List Step) → T (has_constant (before ++ table)) → AllOver (before ++ table) inputs →
    AllGiven (before ++ table) inputs ss → LinesWithin (at before [] []) (lines_of table inputs ss) →
    Passes F (at before [] []) (map form (lines_of table inputs ss))
unfolding lines_of checks_of line_checks AllPass ordered is_empty constant_ready symbols_declared advance step_part LinesWithin after
syms_pass F before [] inputs ss k o g w = let e = append-nil before in inputs_pass F before [] inputs ss (rw e at k) (rw e at o) (rw e at g) w
syms_pass F before (n ∷ table) inputs ss k o g w =
    let e = append_assoc before (n ∷ []) table in
    all_lines F (at before [] []) (form (sym_line n)) (map form (lines_of table inputs ss))
    (tt, (tt, (tt, (w.0, (tt, tt)))))
    (syms_pass F (before ++ (n ∷ [])) table inputs ss (rw e k) (rw e o) (rw e g) w.1)

-- The state after the lines of a table, inputs and steps.
state_steps : (t : List ℕ) (i : List Clause) (before ss : List Step) → state_after (at t i before) (map form (map by ss)) ≡ at t i (before ++ ss)
unfolding state_after after advance
state_steps t i before [] = ap (at t i) (sym (append-nil before))
state_steps t i before (s ∷ ss) = state_steps t i (before ++ (s ∷ [])) ss ∙ ap (at t i) (append_assoc before (s ∷ []) ss)

state_inputs : (t : List ℕ) (before i : List Clause) (ss : List Step) → state_after (at t before []) (map form (map input i ++ map by ss)) ≡ at t (before ++ i) ss
unfolding state_after after advance
state_inputs t before [] ss = state_steps t before [] ss ∙ ap (λ cs. at t cs ss) (sym (append-nil before))
state_inputs t before (c ∷ i) ss = state_inputs t (before ++ (c ∷ [])) i ss ∙ ap (λ cs. at t cs ss) (append_assoc before (c ∷ []) i)

state_lines : (before t : List ℕ) (i : List Clause) (ss : List Step) → state_after (at before [] []) (map form (lines_of t i ss)) ≡ at (before ++ t) i ss
unfolding state_after after advance lines_of
state_lines before [] i ss = state_inputs before [] i ss ∙ ap (λ ks. at ks i ss) (sym (append-nil before))
state_lines before (n ∷ t) i ss = state_lines (before ++ (n ∷ [])) t i ss ∙ ap (λ ks. at ks i ss) (append_assoc before (n ∷ []) t)

-- "And it is accepted whenever it lies within the limits and is the written form of a finite derivation by the rules".
pub written_accepted : (F : Figures) (text : List ℕ) → WrittenText F text → Accepted F text
unfolding readings WrittenForm table_of state_of fresh
written_accepted F text w =
    let d = w.derivation in
    let ss = w.written.0 in
    let read : readings F text ≡ map form (lines_of w.table d.inputs ss) =
    ap (λ t. map (read_raw F.depth) (split t)) w.bytes ∙ (lines_complete F.depth w.lines w.within.formed ∙ ap (map form) w.written.2) in
    record {
      small = subst (λ t. T (not (too_large F t))) (sym w.bytes) w.within.small;
      passes = rw read (syms_pass F [] w.table d.inputs ss w.constant d.inputs_over
          (all_written w.table d.inputs d.inferences ss d.inputs_over d.follow w.written.1)
          (subst (LinesWithin fresh) w.written.2 w.within.limits));
      constant = subst (λ (st : State). T (has_constant st.symbols)) (sym (ap (state_after fresh) read ∙ state_lines [] w.table d.inputs ss)) w.constant;
    }

-- The other way: what passes is a list of forms, in order.
forms : (F : Figures) (st : State) (rs : List Reading) → Passes F st rs → (ls : List Line) × (rs ≡ map form ls)
unfolding checks_at after
forms F st [] p = ([], refl)
forms F st (form l ∷ rs) p = let w = forms F (advance st l) rs (λ m. p (suc m)) in (l ∷ w.0, ap (λ qs. form l ∷ qs) w.1)
forms F st (no_form ∷ rs) p = not_a_form F st (p 0)

passes_within : (F : Figures) (st : State) (ls : List Line) → Passes F st (map form ls) → LinesWithin st ls
unfolding checks_at after checks_of line_checks AllPass LinesWithin
passes_within F st [] p = tt
passes_within F st (l ∷ ls) p = ((p 0).1.1.1.0, passes_within F (advance st l) ls (λ m. p (suc m)))

-- The lines that a state stands for.
abbrev lines_in : State → List Line
lines_in st = lines_of st.symbols st.inputs st.steps

line_last : (F : Figures) (st : State) (l : Line) → T (ordered st l) → lines_in (advance st l) ≡ lines_in st ++ (l ∷ [])
unfolding ordered advance lines_of
line_last F st (sym_line k) o =
    let i = empty_list st.inputs (left (is_empty st.inputs) (is_empty st.steps) o) in
    let s = empty_list st.steps (right (is_empty st.inputs) (is_empty st.steps) o) in
    rw (i, s) (simp (map_last, append-nil))
line_last F st (input c) o =
    rw (empty_list st.steps o) (simp (map_last, append-nil, append_assoc))
line_last F st (by s) o = simp (map_last, append_assoc)

passes_lines : (F : Figures) (st : State) (ls : List Line) → Passes F st (map form ls) → lines_in (state_after st (map form ls)) ≡ lines_in st ++ ls
unfolding checks_at after checks_of line_checks AllPass state_after
passes_lines F st [] p = sym (append-nil (lines_in st))
passes_lines F st (l ∷ ls) p =
    passes_lines F (advance st l) ls (λ m. p (suc m))
    ∙ (ap (λ ks. ks ++ ls) (line_last F st l (p 0).1.0) ∙ append_assoc (lines_in st) (l ∷ []) ls)

-- A form has the word none only where an arrow may have it.
formed_clause_lem : (d : ℕ) (c : Clause) → T (formed_clause d c) → T (allowed_clause c)
formed_clause_lem d c h = over_allowed formed_number formed_symbol c (formed_over d c h)

formed_append : (d : ℕ) (ls ms : List Line) → T (formed_lines d (ls ++ ms)) → T (formed_lines d ls) × T (formed_lines d ms)
unfolding formed_lines
formed_append d [] ms h = (tt, h)
formed_append d (l ∷ ls) ms h =
    let w = formed_append d ls ms (right (formed_line d l) (formed_lines d (ls ++ ms)) h) in
    (both (formed_line d l) (formed_lines d ls) (left (formed_line d l) (formed_lines d (ls ++ ms)) h) w.0, w.1)

inputs_over : (table : List ℕ) (d : ℕ) (cs : List Clause) → T (formed_lines d (map input cs)) → ((n : ℕ) → ClauseOver table (get_or cs n [])) → AllOver table cs
unfolding formed_lines formed_line AllOver over_clause
inputs_over table d [] f o = tt
inputs_over table d (c ∷ cs) f o = (
  both (allowed_clause c) (each_clause any (declares table) c) (formed_clause_lem d c (left (formed_clause d c) (formed_lines d (map input cs)) f)) (o 0),
  inputs_over table d cs (right (formed_clause d c) (formed_lines d (map input cs)) f) (λ n. o (suc n)),
)

-- An accepted text is the written form of a derivation within the limits.
pub accepted_written : (F : Figures) (text : List ℕ) → Accepted F text → WrittenText F text
unfolding readings WrittenForm table_of state_of fresh lines_of
accepted_written F text a =
    let st = state_of F text in
    let g = accepted_good F text a in
    let fs = forms F fresh (readings F text) a.passes in
    let ls = fs.0 in
    let w = lines_sound F.depth text ls fs.1 in
    let p : Passes F fresh (map form ls) = subst (Passes F fresh) fs.1 a.passes in
    let e : lines_in st ≡ ls = ap (λ rs. lines_in (state_after fresh rs)) fs.1 ∙ passes_lines F fresh ls p in
    let f : T (formed_lines F.depth (lines_in st)) = rw e w.1 in
    let f₁ = (formed_append F.depth (map sym_line st.symbols) (map input st.inputs ++ map by st.steps) f).1 in
    let f₂ = formed_append F.depth (map input st.inputs) (map by st.steps) f₁ in
    let k = all_given st.symbols st.inputs st.steps g.given in
    record {
      table = st.symbols;
      constant = a.constant;
      derivation = record {
        inputs = st.inputs;
        inferences = map inference_of st.steps;
        inputs_over = inputs_over st.symbols F.depth st.inputs f₂.0 g.inputs_over;
        follow = k.0;
      };
      lines = ls;
      written = (st.steps, k.1, sym e);
      bytes = w.0;
      within = record {
        small = subst (λ t. T (not (too_large F t))) w.0 a.small;
        formed = w.1;
        limits = passes_within F fresh ls p;
      };
    }
