-- Write then read: each formed value is read back from the bytes written for it, and reading stops there.
use Prim.Native.Nat.{ℕ, zero, suc}
use mathlib.Core.Path.{◌≡◌, refl, ap, ◌∙◌, sym as sym_path}
use mathlib.Core.Bool.{false}
use mathlib.Core.List.{List, [], ◌∷◌}
use lib.Dec.{T, T_not, eqb}
use Rattle.logic.specs.declared.Sign.TheVariants.{Positive, Negative}
use Rattle.logic.specs.declared.Link.{Link}
use Rattle.logic.specs.declared.Link.TheVariants.{Eq, Mem, Sub}
use Rattle.logic.specs.declared.Arrow.{Arrow}
use Rattle.logic.specs.declared.Arrow.TheVariants.{Sv, Si, Mv, Mi, St, Mt}
use Rattle.logic.specs.declared.Rule.TheVariants.{Refl, Res, Fac, Par, Acy, Tra, Inc, Inh, Inp, Out, Sca, Eli, Mer, Pro}
use Rattle.logic.specs.Syntax.{Term, var, app, Terms, nil, cons, Result, value, none, may_be_none, Part, part, arrow_of, Parts, only, also, link, obj, arrows, lit, Line, sym, input, by}
use Rattle.text.specs.Words.{bytes, sign_word, link_word, arrow_word, rule_word}
use Rattle.text.specs.Write.{◌∘◌, word, put_term, put_terms, put_arguments, put_result, put_part, put_bracketed, put_parts, put_atom, put_literal, put_clause, put_let, put_step, put_line, write_line}
use Rattle.text.specs.Form.{formed_term, formed_terms, formed_result, formed_part, formed_parts, formed_atom, formed_literal, formed_clause, formed_step, formed_line, form}
use Rattle.text.specs.Read.{bad, got, Reader, strip, one_of, digit, read_terms, read_variable, read_applied, read_term, read_arguments, read_result, read_link, read_object, read_part, read_method, read_arrow, read_bracketed, parts_of, read_molecule, read_kind, read_atom, read_sign, read_literal, read_clause, read_let, read_rule, read_sym, read_input, read_step, read_form, whole, read_line}
use Rattle.text.proofs.Tests.{T_and, on_test}
use Rattle.text.proofs.Gives.{Complete}
use Rattle.text.proofs.Formed.{var_formed, app_formed, no_depth}
use Rattle.text.proofs.Number.{ends, number_complete}
use Rattle.text.proofs.Plain.{term_plain, bracketed_plain, literal_plain}
use Rattle.text.proofs.Items.{terms, literals, put_part_list, AllFormed, part_list, many_complete}
use Rattle.text.proofs.Sound.{term_sound, bracketed_sound, parts_of_put, literal_sound}

-- A number is over where terms or the closing bracket follow.
terms_end : (ts : Terms) (rest : List ℕ) → T (ends (put_terms ts (word ")" rest)))
unfolding put_terms digit
terms_end nil rest = tt
terms_end (cons t ts) rest = tt

pub term_complete : (d : ℕ) → Complete put_term (λ t. T (formed_term d t)) (read_term d)
unfolding read_term read_variable read_applied one_of strip put_term digit
term_complete zero t f rest = absurd (no_depth t f)
term_complete (suc d) (var n) f rest = rw (number_complete n (41 ∷ rest) ((var_formed d n).1 f) tt)
term_complete (suc d) (app n ts) f rest =
    let (g, h) = (app_formed d n ts).1 f in
    rw (number_complete n (put_terms ts (41 ∷ rest)) g (terms_end ts rest), many_complete (terms d) (term_sound d) term_plain (term_complete d) ts h rest)

pub terms_complete : (d : ℕ) → Complete (λ ts. put_terms ts ∘ word ")") (λ ts. T (formed_terms d ts)) (read_terms (read_term d))
terms_complete d = many_complete (terms d) (term_sound d) term_plain (term_complete d)

-- No term begins with another byte than the bracket.
not_term : (b : ℕ) (w : List ℕ) (t : Term) (rest : List ℕ) → eqb b 40 ≡ false → strip (b ∷ w) (put_term t rest) ≡ bad
unfolding strip put_term
not_term b w (var n) rest e = rw e
not_term b w (app n ts) rest e = rw e

pub arguments_complete : (d : ℕ) → Complete put_arguments (λ ts. T (formed_terms d ts)) (read_arguments d)
unfolding read_arguments one_of strip put_arguments
arguments_complete d nil f rest = refl
arguments_complete d (cons t ts) f rest =
    let (g, h) = ((terms d).formed_more t ts).0 f in
    rw (not_term 41 [] t _ refl, term_complete d t g _, terms_complete d ts h rest)

pub result_complete : (d : ℕ) (a : Arrow) → Complete put_result (λ r. T (formed_result d a r)) (read_result d a)
unfolding read_result one_of strip put_result formed_result
result_complete d a (value t) f rest = rw (not_term 110 (bytes "one") t rest refl, term_complete d t f rest)
result_complete d a none f rest = on_test (λ (r : Reader Result). r rest ≡ got none rest) (may_be_none a) (λ _. refl) (λ n. absurd (T_not (may_be_none a) n f))

-- Each word of a table is read as itself.
link_kind_lem : (d : ℕ) (l : Link) (bs : List ℕ) → read_kind d (word (link_word l) bs) ≡ read_link d l bs
unfolding read_kind one_of strip
link_kind_lem d l bs = elim l as (λ k. read_kind d (word (link_word k) bs) ≡ read_link d k bs) [ Eq ↦ refl | Mem ↦ refl | Sub ↦ refl ]

arrow_kind_lem : (d : ℕ) (a : Arrow) (bs : List ℕ) → read_kind d (word (arrow_word a) bs) ≡ read_method d a bs
unfolding read_kind one_of strip
arrow_kind_lem d a bs = elim a as (λ k. read_kind d (word (arrow_word k) bs) ≡ read_method d k bs) [ Sv ↦ refl | Si ↦ refl | Mv ↦ refl | Mi ↦ refl | St ↦ refl | Mt ↦ refl ]

pub sign_complete : Complete (λ s. word (sign_word s)) (λ _. Unit {0}) read_sign
unfolding read_sign one_of strip
sign_complete s _ rest = elim s as (λ k. read_sign (word (sign_word k) rest) ≡ got k rest) [ Positive ↦ refl | Negative ↦ refl ]

pub rule_complete : Complete (λ r. word (rule_word r)) (λ _. Unit {0}) read_rule
unfolding read_rule one_of strip
rule_complete r _ rest = elim r as (λ k. read_rule (word (rule_word k) rest) ≡ got k rest) [ Refl ↦ refl | Res ↦ refl | Fac ↦ refl | Par ↦ refl | Acy ↦ refl | Tra ↦ refl | Inc ↦ refl | Inh ↦ refl | Inp ↦ refl | Out ↦ refl | Sca ↦ refl | Eli ↦ refl | Mer ↦ refl | Pro ↦ refl ]

part_complete : (d : ℕ) (p : Part) → T (formed_part d p) → (rest : List ℕ) → read_part d (arrow_of p) (put_part p rest) ≡ got p rest
unfolding read_part strip put_part formed_part
part_complete d (part a m ts r) f rest =
    let ((g, h), i) = simp T_and at f in
    rw (term_complete d m g _, arguments_complete d ts h _, result_complete d a r i _)

pub arrow_complete : Complete (λ a. word (arrow_word a)) (λ _. Unit {0}) read_arrow
unfolding read_arrow one_of strip
arrow_complete a _ rest = elim a as (λ k. read_arrow (word (arrow_word k) rest) ≡ got k rest) [ Sv ↦ refl | Si ↦ refl | Mv ↦ refl | Mi ↦ refl | St ↦ refl | Mt ↦ refl ]

pub bracketed_complete : (d : ℕ) → Complete put_bracketed (λ p. T (formed_part d p)) (read_bracketed d)
unfolding read_bracketed put_bracketed strip
bracketed_complete d p f rest = rw (arrow_complete (arrow_of p) tt _, part_complete d p f rest)

-- Parts as one part and a list of those behind it.
unfoldable pub first_part : Parts → Part
first_part (only p) = p
first_part (also p ps) = p

unfoldable pub other_parts : Parts → List Part
other_parts (only p) = []
other_parts (also p ps) = first_part ps ∷ other_parts ps

pub parts_back : (ps : Parts) → parts_of (first_part ps) (other_parts ps) ≡ ps
unfolding parts_of first_part other_parts
parts_back (only p) = refl
parts_back (also p ps) = ap (also p) (parts_back ps)

pub parts_put : (ps : Parts) (rest : List ℕ) → put_parts ps rest ≡ word " " (put_bracketed (first_part ps) (put_part_list (other_parts ps) rest))
parts_put ps rest = ap (λ qs. put_parts qs rest) (sym_path (parts_back ps)) ∙ parts_of_put (first_part ps) (other_parts ps) rest

parts_formed : (d : ℕ) (ps : Parts) → T (formed_parts d ps) → T (formed_part d (first_part ps)) × AllFormed d (other_parts ps)
unfolding formed_parts first_part other_parts AllFormed
parts_formed d (only p) h = (h, tt)
parts_formed d (also p ps) h = let (g, k) = simp T_and at h in (g, parts_formed d ps k)

molecule_complete : (d : ℕ) (o : Term) (p : Part) (ps : Parts) → T (formed_term d o) → T (formed_part d p) → T (formed_parts d ps) → (rest : List ℕ) →
    read_molecule d (word " " (put_term o (put_parts (also p ps) (word ")" rest)))) ≡ got (arrows o (also p ps)) rest
unfolding read_molecule put_parts strip
molecule_complete d o p ps f g h rest =
    let (i, j) = parts_formed d ps h in
    rw (
      parts_put ps,
      term_complete d o f _,
      bracketed_complete d p g _,
      bracketed_complete d (first_part ps) i _,
      many_complete (part_list d) (bracketed_sound d) bracketed_plain (bracketed_complete d) (other_parts ps) j rest,
      parts_back ps,
    )

pub atom_complete : (d : ℕ) → Complete put_atom (λ a. T (formed_atom d a)) (read_atom d)
unfolding read_atom read_kind read_link read_object read_method one_of strip put_atom formed_atom formed_parts
atom_complete d (link l t u) f rest =
    let (g, h) = simp T_and at f in
    rw (link_kind_lem d l, term_complete d t g _, term_complete d u h _)
atom_complete d (obj t) f rest = rw (term_complete d t f (41 ∷ rest))
atom_complete d (arrows o (also p ps)) f rest =
    let (g, h) = simp T_and at f in
    molecule_complete d o p ps g h.0 h.1 rest
atom_complete d (arrows o (only p)) f rest =
    let (g, h) = simp T_and at f in
    rw (arrow_kind_lem d (arrow_of p), term_complete d o g _, part_complete d p h rest)

pub literal_complete : (d : ℕ) → Complete put_literal (λ l. T (formed_literal d l)) (read_literal d)
unfolding read_literal strip put_literal formed_literal
literal_complete d (lit s a) f rest = rw (sign_complete s tt _, atom_complete d a f _)

pub clause_complete : (d : ℕ) → Complete put_clause (λ c. T (formed_clause d c)) (read_clause d)
unfolding read_clause strip put_clause
clause_complete d c f rest = many_complete (literals d) (literal_sound d) literal_plain (literal_complete d) c f rest

pub let_complete : (d : ℕ) → Complete put_let (λ ts. T (formed_terms d ts)) (read_let d)
unfolding read_let strip put_let
let_complete d ts f rest = terms_complete d ts f rest

pub form_complete : (d : ℕ) → Complete put_line (λ l. T (formed_line d l)) (read_form d)
unfolding read_form read_sym read_input read_step one_of strip put_line put_step formed_line formed_step digit
form_complete d (sym k) f rest = rw (number_complete k _ f tt)
form_complete d (input c) f rest = rw (clause_complete d c f _)
form_complete d (by s) f rest =
    let (g, f₈) = simp T_and at f in
    let ((h, f₆), f₇) = g in
    let ((i, f₄), f₅) = h in
    let ((f₁, f₂), f₃) = i in
    rw (
      rule_complete s.rule tt _,
      number_complete s.a _ f₁ tt,
      number_complete s.i _ f₂ tt,
      number_complete s.b _ f₃ tt,
      number_complete s.j _ f₄ tt,
      number_complete s.k _ f₅ tt,
      let_complete d s.first f₆ _,
      let_complete d s.second f₇ _,
      clause_complete d s.claim f₈ _,
    )

pub line_complete : (d : ℕ) (l : Line) → T (formed_line d l) → read_line d (write_line l) ≡ form l
unfolding read_line write_line whole
line_complete d l f = rw (form_complete d l f [])
