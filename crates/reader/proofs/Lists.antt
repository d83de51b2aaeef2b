-- Terms, literals and parts up to the closing bracket.
use Rattle.std.proofs.Common.{◌≡◌, ℕ, ◌≤◌, List, [], ◌∷◌, length, Option, Some, None, Bor, refl, sym, ◌∙◌, ap}
use Rattle.std.specs.Prelude.{IfSome}
use Rattle.logic.specs.Syntax.{Term, Terms, nil, cons, Part, Literal, Clause}
use Rattle.logic.specs.Terms.{count}
use Rattle.text.specs.Write.{Writer}
use Rattle.text.specs.Read.{got, Reader, strip, read_number, read_next, read_many, read_applied, read_term, read_terms}
use Rattle.text.specs.Read.{read_bracketed, read_literal}
use Rattle.reader.specs.declared.measures.Bounds.{Bounds}
use Rattle.reader.specs.Summary.{of_term, of_terms, of_part, of_part_list, of_literal, of_clause, symbol_bounds, bounds, empty}
use Rattle.reader.specs.Summary.{terms_measure, parts_measure, clause_measure}
use Rattle.text.proofs.Gives.{Sound, given}
use Rattle.text.proofs.Items.{part_list, many_step}
use Rattle.text.proofs.Plain.{Plain, put_grows, term_plain, bracketed_plain, literal_plain}
use Rattle.text.proofs.Sound.{term_sound, bracketed_sound, literal_sound}
use Rattle.text.proofs.Rest.{terms_step, clause_step}
use Rattle.reader.specs.Listed.{before, Listed}
use Rattle.reader.proofs.Listing.{measuring, mapped_next}
use Rattle.text.proofs.Chain.{first_word}
use Rattle.reader.proofs.Bounds.{bounds_lawful}
use Rattle.logic.specs.Each.{declares}
use Rattle.text.specs.Words.{bytes}
use Rattle.text.specs.Answers.{parsed, mapped}

-- An item that was read and measured leaves no more bytes than there were.
no_longer : {A M : Type 0} {put : A → Writer} {F : A → Type 0} {read : Reader A} → Sound put F read → ((a : A) → Plain (put a)) → (f : A → M)
    (bs : List ℕ) (r : Option (M × Bor (List ℕ))) → parsed r ≡ mapped f (read bs) → IfSome r (λ p. length p.1.now ≤ length bs)
no_longer sound plain f bs None e = tt
no_longer {read = read} sound plain f bs (Some p) e =
    let (a, q, _) = measuring f (read bs) e in rw ((given (sound.at bs) q).0) (put_grows (plain a) p.1.now)

pub term_no_longer : (d : ℕ) (table bs : List ℕ) (r : Option (Bounds × Bor (List ℕ)))
    → parsed r ≡ mapped (of_term (bounds table)) (read_term d bs) → IfSome r (λ p. length p.1.now ≤ length bs)
term_no_longer d table = no_longer (term_sound d) term_plain (of_term (bounds table))

pub part_no_longer : (d : ℕ) (table bs : List ℕ) (r : Option (Bounds × Bor (List ℕ)))
    → parsed r ≡ mapped (of_part (bounds table)) (read_bracketed d bs) → IfSome r (λ p. length p.1.now ≤ length bs)
part_no_longer d table = no_longer (bracketed_sound d) bracketed_plain (of_part (bounds table))

pub literal_no_longer : (d : ℕ) (table bs : List ℕ) (r : Option (Bounds × Bor (List ℕ)))
    → parsed r ≡ mapped (of_literal (bounds table)) (read_literal d bs) → IfSome r (λ p. length p.1.now ≤ length bs)
literal_no_longer d table = no_longer (literal_sound d) literal_plain (of_literal (bounds table))

pub terms_more : (table : List ℕ) (t : Term) (ts : Terms)
    → terms_measure table (cons t ts) ≡ before (of_term (bounds table) t) (terms_measure table ts)
unfolding of_terms count
terms_more table t ts = refl

pub terms_none : (table : List ℕ) → terms_measure table nil ≡ empty
unfolding of_terms count
terms_none table = refl

-- Parts are read by their first step, as terms and literals are.
pub parts_step : (d : ℕ) (bs : List ℕ)
    → read_many [] ◌∷◌ (read_bracketed d) bs ≡ read_next [] ◌∷◌ (read_bracketed d) (read_many [] ◌∷◌ (read_bracketed d)) bs
parts_step d = many_step (part_list d) (bracketed_sound d) bracketed_plain

parts_more : (table : List ℕ) (p : Part) (ps : List Part)
    → parts_measure table (p ∷ ps) ≡ before (of_part (bounds table) p) (parts_measure table ps)
unfolding of_part_list
parts_more table p ps = refl

parts_none : (table : List ℕ) → parts_measure table [] ≡ empty
unfolding of_part_list
parts_none table = refl

clause_more : (table : List ℕ) (l : Literal) (c : Clause)
    → clause_measure table (l ∷ c) ≡ before (of_literal (bounds table) l) (clause_measure table c)
unfolding of_clause
clause_more table l c = refl

clause_none : (table : List ℕ) → clause_measure table [] ≡ empty
unfolding of_clause
clause_none table = refl

pub term_list : (d : ℕ) (table : List ℕ)
    → Listed (λ bs. mapped (of_term (bounds table)) (read_term d bs)) (λ bs. mapped (terms_measure table) (read_terms (read_term d) bs))
term_list d table = record {
  step = λ bs.
      ap (mapped (terms_measure table)) (terms_step d bs)
      ∙ mapped_next nil cons (read_term d) (read_terms (read_term d)) (of_term (bounds table)) (terms_measure table) (terms_none table)
      (terms_more table) bs;
}

pub listed_parts : (d : ℕ) (table : List ℕ)
    → Listed (λ bs. mapped (of_part (bounds table)) (read_bracketed d bs))
    (λ bs. mapped (parts_measure table) (read_many [] ◌∷◌ (read_bracketed d) bs))
listed_parts d table = record {
  step = λ bs.
      ap (mapped (parts_measure table)) (parts_step d bs)
      ∙ mapped_next [] ◌∷◌ (read_bracketed d) (read_many [] ◌∷◌ (read_bracketed d)) (of_part (bounds table)) (parts_measure table)
      (parts_none table) (parts_more table) bs;
}

pub literal_list : (d : ℕ) (table : List ℕ)
    → Listed (λ bs. mapped (of_literal (bounds table)) (read_literal d bs))
    (λ bs. mapped (clause_measure table) (read_many [] ◌∷◌ (read_literal d) bs))
literal_list d table = record {
  step = λ bs.
      ap (mapped (clause_measure table)) (clause_step d bs)
      ∙ mapped_next [] ◌∷◌ (read_literal d) (read_many [] ◌∷◌ (read_literal d)) (of_literal (bounds table)) (clause_measure table)
      (clause_none table) (clause_more table) bs;
}

-- The measures of lists of terms.
pub ruleset of_lists = (terms_none, terms_more)

-- A symbol applied to no terms.
pub constant : (table : List ℕ) (d : ℕ) (s : List ℕ) {n : ℕ} {mid rest : List ℕ} → got n mid ≡ read_number s → got tt rest ≡ strip (bytes ")") mid
    → got (symbol_bounds n (declares table n 0)) rest ≡ mapped (of_term (bounds table)) (read_applied (read_term d) s)
unfolding read_applied read_next of_term count
constant table d s {n} {mid} {rest} e f =
    let no_terms : read_terms (read_term d) mid ≡ got nil rest = terms_step d mid ∙ first_word ")" _ _ mid (sym f) in
    rw (← e, no_terms, bounds_lawful.right)
