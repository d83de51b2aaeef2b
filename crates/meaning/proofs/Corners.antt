-- C1 to C10 and C13 have the answers of TEXT-FORM, and the example texts theirs.
use Prim.Native.Nat.{ℕ, ◌-◌}
use Prim.Native.String.{String}
use mathlib.Core.List.{List, [], ◌∷◌, ◌++◌, map}
use mathlib.Core.Path.{◌≡◌, refl, ap}
use lib.ListN.{length, take, drop}
use Rattle.logic.specs.declared.Check.{Check}
use Rattle.meaning.specs.declared.Verdict.{Verdict}
use Rattle.meaning.specs.declared.Verdict.TheVariants.{Refuted, Open, Refused}
use Rattle.logic.specs.Each.{each_term, each_terms, each_atom, each_clause, declares, term_width, terms_width, width}
use Rattle.logic.specs.Equality.{sign_number, nth_sign, link_number, nth_link, arrow_number, nth_arrow, sign?, link?, arrow?, term?, terms?, part?, parts?, atom?, call?, literal?, cons_same, clause?, by_number}
use Rattle.logic.specs.Fill.{entries, fill, fills, fill_result, fill_part, fill_parts, fill_atom, fill_literal, fill_clause}
use Rattle.logic.specs.StepChecks.{parent_clause, parent_a, parent_b, below, parents_below, zero_if_unused, unused_zero, first_length, lists_fit, numbers_right}
use Rattle.logic.specs.Judge.{on_at, on_plus, on_minus, on_link, on_obj, on_result, on_method, on_placed, on_found, on_sub, conclude_res, conclude_acy, conclude_link, on_signature, conclude_inh, conclude_inp, conclude_out, on_scalar, conclude_sca, on_parts, on_molecule, on_part, conclude_mer, conclude_pro, before, table_row, conclude_eli, conclude_two, conclude_fac, conclude_par, conclude, conclusion, either?, both?, covers?, covers_part?, some_covers?, each_covered?, fits?, holds?, judge_conclusion, judge}
use Rattle.logic.specs.Occurrence.{map_search, in_turn, find_term, find_terms, find_atom, find_literal}
use Rattle.logic.specs.Descent.{among, used_parents, numbers_below}
use Rattle.logic.specs.Reach.{reached, rests_on}
use Rattle.logic.specs.Rules.{uses, bare_result, bare_part, bare, join_parts, signature, scalar, filled}
use Rattle.logic.specs.Syntax.{may_be_none}
use native.Mathlib.Decide.{ℕ_discrete}
use Rattle.logic.specs.Terms.{join, count, entry_or, result_terms, part_terms, parts_terms, terms_of, front, rest, nth, with_result, with_part_terms, with_terms}
use Rattle.text.specs.Figures.{count_parts, few_parts, few_parts_all, office}
use Rattle.text.specs.Read.{strip, one_of, digit, goes_on, read_digits, read_number, read_next, read_items, read_many, read_variable, read_applied, read_term, read_arguments, read_result, read_link, read_object, read_part, read_method, read_arrow, read_bracketed, parts_of, read_molecule, read_kind, read_atom, read_sign, read_literal, read_clause, read_let, read_rule, read_sym, read_input, read_step, read_form, whole, read_line, read_raw}
use Rattle.text.specs.Split.{push, split}
use Rattle.state.specs.State.{fresh, clauses, advance, is_empty, ordered, has_constant, constant_ready, part_fits, parts_fit, arguments_fit, arguments_fit_all, clause_fits, list_fits, within_limits, symbols_declared, after, state_after}
use Rattle.state.specs.Failure.{line_failure}
use Rattle.meaning.specs.Answer.{step_failure, failure, is_nil, first_empty, accepted_as, finish, refused_or, read_on, verdict, rests_in, rests}
use Rattle.meaning.specs.Checks.{readings, too_large, state_of, table_of, inputs_of}
use Rattle.meaning.specs.Guarantee.{is_accepted}
use Rattle.meaning.specs.Corners.{text_of, chain, first_corner, corners, AllMeant, JobCorners}
use Rattle.meaning.proofs.Examples.{refuted_text, open_text, refused_text, modelled, bare_text, bare_out_text, molecule_text}
use Rattle.meaning.proofs.Guaranteed.{answer_exactly}
use Rattle.meaning.proofs.Jobs.{refused_base, joined_base, nothing_more}

abbrev Row : Type 0
Row = List String × (Verdict × List ℕ)

abbrev answer_to : List String → Verdict × List ℕ
answer_to lines = (verdict office (text_of lines), rests office (text_of lines))

-- What is computed of the corners and of the example texts.
pub record Computed : Type 0 where
  pub answers : map (λ (c : Row). answer_to c.0) corners ≡ map (λ (c : Row). c.1) corners
  pub refuted_text_lem : verdict office refuted_text ≡ Refuted 3 2
  pub open_text_lem : verdict office open_text ≡ Open 1
  pub open_table : table_of office open_text ≡ 0 ∷ []
  pub open_inputs : inputs_of office open_text ≡ modelled
  pub refused_text_lem : verdict office refused_text ≡ Refused Check.Numbers 3
  pub refused_table : table_of office refused_text ≡ 0 ∷ []
  pub refused_inputs : inputs_of office refused_text ≡ modelled
  pub bare_text_lem : verdict office bare_text ≡ Refuted 6 5
  pub bare_rests : rests office bare_text ≡ 0 ∷ 1 ∷ 2 ∷ []
  pub bare_out_text_lem : verdict office bare_out_text ≡ Refused Check.Shape 5
  pub molecule_text_lem : verdict office molecule_text ≡ Refuted 6 5
  pub molecule_rests : rests office molecule_text ≡ 0 ∷ 1 ∷ 2 ∷ []
  pub empty_base : verdict office [] ≡ Refused Check.Constant 0
  pub cut_base : verdict office (text_of (take 3 first_corner)) ≡ Open 0
  pub cut_text : verdict office (text_of (take 3 first_corner) ++ text_of (drop 3 first_corner)) ≡ Refuted 5 4
  pub cut_rests : rests office (text_of (take 3 first_corner) ++ text_of (drop 3 first_corner)) ≡ 0 ∷ 1 ∷ 2 ∷ []
  pub whole_text : verdict office (text_of first_corner) ≡ Refuted 5 4
  pub whole_rests : rests office (text_of first_corner) ≡ 0 ∷ 1 ∷ 2 ∷ []
  pub unended_base : verdict office (take (length (text_of first_corner) - 1) (text_of first_corner)) ≡ Refused Check.Form 8

pub computed : Computed
unfolding each_term each_terms each_atom each_clause declares term_width terms_width width sign_number nth_sign link_number nth_link arrow_number nth_arrow sign? link? arrow? term? terms? part? parts? atom? call? literal? cons_same clause? by_number ℕ_discrete entries fill fills fill_result fill_part fill_parts fill_atom fill_literal fill_clause parent_clause parent_a parent_b below parents_below zero_if_unused unused_zero first_length lists_fit numbers_right on_at on_plus on_minus on_link on_obj on_result on_method on_placed on_found on_sub conclude_res conclude_acy conclude_link on_signature conclude_inh conclude_inp conclude_out on_scalar conclude_sca on_parts on_molecule on_part conclude_mer conclude_pro before table_row conclude_eli conclude_two conclude_fac conclude_par conclude conclusion either? both? covers? covers_part? some_covers? each_covered? fits? holds? judge_conclusion judge map_search in_turn find_term find_terms find_atom find_literal uses bare_result bare_part bare join_parts signature scalar filled may_be_none join count entry_or result_terms part_terms parts_terms terms_of front rest nth with_result with_part_terms with_terms strip one_of digit goes_on read_digits read_number read_next read_items read_many read_variable read_applied read_term read_arguments read_result read_link read_object read_part read_method read_arrow read_bracketed parts_of read_molecule read_kind read_atom read_sign read_literal read_clause read_let read_rule read_sym read_input read_step read_form whole read_line push split read_raw fresh clauses advance is_empty ordered has_constant constant_ready part_fits parts_fit count_parts few_parts few_parts_all arguments_fit arguments_fit_all clause_fits list_fits within_limits symbols_declared line_failure after step_failure failure is_nil first_empty accepted_as finish refused_or read_on verdict used_parents numbers_below among reached rests_on rests_in rests readings too_large text_of chain first_corner corners state_after state_of table_of inputs_of refuted_text open_text refused_text bare_text bare_out_text molecule_text
computed = record {
  answers = refl;
  refuted_text_lem = refl;
  open_text_lem = refl;
  open_table = refl;
  open_inputs = refl;
  refused_text_lem = refl;
  refused_table = refl;
  refused_inputs = refl;
  bare_text_lem = refl;
  bare_rests = refl;
  bare_out_text_lem = refl;
  molecule_text_lem = refl;
  molecule_rests = refl;
  empty_base = refl;
  cut_base = refl;
  cut_text = refl;
  cut_rests = refl;
  whole_text = refl;
  whole_rests = refl;
  unended_base = refl;
}

-- C1 to C10.
all_meant : (cs : List Row) → map (λ (c : Row). answer_to c.0) cs ≡ map (λ (c : Row). c.1) cs → AllMeant cs
unfolding AllMeant
all_meant [] e = tt
all_meant ((lines, (v, ns)) ∷ cs) e =
    let h : answer_to lines ≡ (v, ns) = cc in
    ((answer_exactly office (text_of lines) v ns).0 (ap (λ (p : Verdict × List ℕ). p.0) h, ap (λ (p : Verdict × List ℕ). p.1) h), all_meant cs (cc))

pub corners_right : AllMeant corners
corners_right = all_meant corners computed.answers

-- C13.
pub job_corners_right : JobCorners
unfolding is_accepted
job_corners_right = record {
  empty = refused_base office [] Check.Constant 0 computed.empty_base;
  cut = joined_base office (text_of (take 3 first_corner)) (text_of (drop 3 first_corner)) (rw computed.cut_base tt) computed.cut_text computed.cut_rests;
  whole = nothing_more office (text_of first_corner) computed.whole_text computed.whole_rests;
  unended = refused_base office _ Check.Form 8 computed.unended_base;
}
