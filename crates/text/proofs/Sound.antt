-- Read then write: whatever is read is formed, and the bytes read are the bytes written for it.
use Prim.Native.Nat.{ℕ, zero, suc}
use Prim.Native.String.{String}
use mathlib.Core.Path.{◌≡◌, refl}
use mathlib.Core.List.{List, [], ◌∷◌, ◌++◌}
use lib.Dec.{T}
use Rattle.logic.specs.declared.Arrow.{Arrow}
use Rattle.logic.specs.Syntax.{may_be_none, Part, part, arrow_of, only, also, link, arrows, Line}
use Rattle.text.specs.Read.{signs, links, arrow_table, rules, Parsed, bad, got, return, one_of, each, read_variable, read_applied, read_term, read_arguments, read_result, read_link, read_object, read_part, read_method, read_arrow, read_bracketed, parts_of, read_molecule, read_kind, read_atom, read_sign, read_literal, read_clause, read_let, read_rule, read_sym, read_input, read_step, read_form, whole, read_line}
use Rattle.text.specs.Words.{sign_word, link_word, arrow_word, rule_word}
use Rattle.text.specs.Write.{word, put_term, put_arguments, put_result, put_part, put_bracketed, put_parts, put_atom, put_literal, put_clause, put_let, put_step, put_line, write_line}
use Rattle.text.specs.Form.{formed_term, formed_terms, formed_result, formed_part, formed_parts, formed_atom, formed_literal, formed_clause, formed_step, formed_line, form}
use Rattle.text.proofs.Tests.{T_and, on_test}
use Rattle.text.proofs.Gives.{nothing, given, Meets, Sound, seq, finally, skipped, returned, none as no_branch, branch, branches, one_of_meets}
use Rattle.text.proofs.Formed.{var_formed, app_formed}
use Rattle.text.proofs.Number.{number_sound}
use Rattle.text.proofs.Items.{terms, literals, put_part_list, AllFormed, part_list, many_sound}

pub term_sound : (d : ℕ) → Sound put_term (λ t. T (formed_term d t)) (read_term d)
unfolding read_term read_variable read_applied put_term
term_sound zero = record { at = λ bs. nothing }
term_sound (suc d) =
    one_of_meets (branch (seq number_sound λ n f. skipped ")" (returned λ rest. (refl, (var_formed d n).0 f)))
    (branch (seq number_sound λ n f. seq (many_sound (terms d) (term_sound d)) λ ts g. returned λ rest. (refl, (app_formed d n ts).0 (f, g))) no_branch))

pub arguments_sound : (d : ℕ) → Sound put_arguments (λ ts. T (formed_terms d ts)) (read_arguments d)
unfolding read_arguments put_arguments
arguments_sound d =
    one_of_meets (branch (returned λ rest. (refl, (terms d).formed_empty))
    (branch (seq (term_sound d) λ t f. seq (many_sound (terms d) (term_sound d)) λ ts g. returned λ rest. (refl, ((terms d).formed_more t ts).1 (f, g))) no_branch))

pub result_sound : (d : ℕ) (a : Arrow) → Sound put_result (λ r. T (formed_result d a r)) (read_result d a)
unfolding read_result put_result formed_result
result_sound d a =
    one_of_meets (branch (on_test (Meets _) (may_be_none a) (λ t. returned λ rest. (refl, t)) (λ _. record { at = λ bs. nothing }))
    (branch (seq (term_sound d) λ t f. returned λ rest. (refl, f)) no_branch))

pub part_sound : (d : ℕ) (a : Arrow) → Sound put_part (λ p. (arrow_of p ≡ a) × T (formed_part d p)) (read_part d a)
unfolding read_part put_part formed_part
part_sound d a =
    seq (term_sound d) λ m f. skipped " " (seq (arguments_sound d) λ ts g. skipped " " (seq (result_sound d a) λ r h. skipped ")"
    (returned {a = part a m ts r} λ rest. (refl, (refl, simp T_and ((f, g), h))))))

-- a word of a table
pub table_sound : {A : Type 0} (w : A → String) (table : List A) → Sound (λ a. word (w a)) (λ _. Unit {0}) (one_of (each w return table ++ []))
table_sound w table = one_of_meets (branches w table (λ a. returned {a = a} λ rest. (refl, tt)) no_branch)

pub bracketed_sound : (d : ℕ) → Sound put_bracketed (λ p. T (formed_part d p)) (read_bracketed d)
unfolding read_bracketed read_arrow put_bracketed
bracketed_sound d =
    skipped "(" (seq (table_sound arrow_word arrow_table) λ a _. skipped " " (finally (part_sound d a) λ p g rest. (rw g.0, g.1)))

-- A part and those behind it are written one after the other.
pub parts_of_put : (p : Part) (qs : List Part) (rest : List ℕ) → put_parts (parts_of p qs) rest ≡ word " " (put_bracketed p (put_part_list qs rest))
unfolding put_parts parts_of put_part_list
parts_of_put p [] rest = refl
parts_of_put p (q ∷ qs) rest = rw (parts_of_put q qs rest)

pub parts_of_formed : (d : ℕ) (p : Part) (qs : List Part) → T (formed_part d p) → AllFormed d qs → T (formed_parts d (parts_of p qs))
unfolding formed_parts parts_of AllFormed
parts_of_formed d p [] h w = h
parts_of_formed d p (q ∷ qs) h w = simp T_and (h, parts_of_formed d q qs w.0 w.1)

pub atom_sound : (d : ℕ) → Sound put_atom (λ a. T (formed_atom d a)) (read_atom d)
unfolding read_atom read_kind read_link read_object read_method read_molecule put_atom put_parts formed_atom formed_parts
atom_sound d =
    skipped "(" (one_of_meets
    (branches link_word links (λ l. skipped " " (seq (term_sound d) λ t f. skipped " " (seq (term_sound d) λ u g. skipped ")" (returned {a = link l t u} λ rest. (refl, simp T_and (f, g))))))
    (branch (skipped " " (seq (term_sound d) λ t f. skipped ")" (returned λ rest. (refl, f))))
    (branch (skipped " " (seq (term_sound d) λ o f. skipped " " (seq (bracketed_sound d) λ p g. skipped " " (seq (bracketed_sound d) λ q h.
    seq (many_sound (part_list d) (bracketed_sound d)) λ qs i.
    returned {a = arrows o (also p (parts_of q qs))} λ rest. (rw (parts_of_put q qs), simp T_and (f, (g, parts_of_formed d q qs h i)))))))
    (branches arrow_word arrow_table (λ a. skipped " " (seq (term_sound d) λ o f. skipped " " (seq (part_sound d a) λ p g.
    returned {a = arrows o (only p)} λ rest. (rw g.0, simp T_and (f, g.1))))) no_branch)))))

pub literal_sound : (d : ℕ) → Sound put_literal (λ l. T (formed_literal d l)) (read_literal d)
unfolding read_literal read_sign put_literal formed_literal
literal_sound d = skipped "(" (seq (table_sound sign_word signs) λ s _. skipped " " (seq (atom_sound d) λ a f. skipped ")" (returned λ rest. (refl, f))))

pub clause_sound : (d : ℕ) → Sound put_clause (λ c. T (formed_clause d c)) (read_clause d)
unfolding read_clause put_clause
clause_sound d = skipped "(or" (finally (many_sound (literals d) (literal_sound d)) λ c f rest. (refl, f))

pub let_sound : (d : ℕ) → Sound put_let (λ ts. T (formed_terms d ts)) (read_let d)
unfolding read_let put_let
let_sound d = skipped "(let" (finally (many_sound (terms d) (term_sound d)) λ ts f rest. (refl, f))

pub form_sound : (d : ℕ) → Sound put_line (λ l. T (formed_line d l)) (read_form d)
unfolding read_form read_sym read_input read_step read_rule put_line put_step formed_line formed_step
form_sound d =
    one_of_meets (branch (seq number_sound λ k f. skipped ")" (returned λ rest. (refl, f)))
    (branch (seq (clause_sound d) λ c f. skipped ")" (returned λ rest. (refl, f)))
    (branch (seq (table_sound rule_word rules) λ r _.
    skipped " " (seq number_sound λ a f₁. skipped " " (seq number_sound λ i f₂. skipped " " (seq number_sound λ b f₃.
    skipped " " (seq number_sound λ j f₄. skipped " " (seq number_sound λ k f₅.
    skipped " " (seq (let_sound d) λ first f₆. skipped " " (seq (let_sound d) λ second f₇. skipped " " (seq (clause_sound d) λ claim f₈. skipped ")"
    (returned λ rest. (refl, simp T_and (((((((f₁, f₂), f₃), f₄), f₅), f₆), f₇), f₈)))))))))))) no_branch)))

whole_got : (p : Parsed Line) (l : Line) → whole p ≡ form l → p ≡ got l []
unfolding whole
whole_got bad l e = cc
whole_got (got k []) l e = cc
whole_got (got k (b ∷ bs)) l e = cc

pub line_sound : (d : ℕ) (bs : List ℕ) (l : Line) → read_line d bs ≡ form l → (bs ≡ write_line l) × T (formed_line d l)
unfolding read_line write_line
line_sound d bs l e = given ((form_sound d).at bs) (whole_got (read_form d bs) l e)
