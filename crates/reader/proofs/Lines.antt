-- The three forms of a line, and where their parts stand.
use Rattle.std.proofs.Common.{◌≡◌, ℕ, Bool, true, false, cond, List, [], ◌∷◌, eqb, eqb-true, Some, None, refl, ◌∙◌, ap}
use Rattle.logic.specs.Syntax.{Clause, Step, Line, input, by}
use Rattle.logic.specs.Syntax as syntax
use Rattle.reader.specs.declared.measures.Measure.{Measure}
use Rattle.reader.specs.declared.forms.LineAt.{LineAt}
use Rattle.reader.specs.declared.forms.LineAt.TheVariants.{Sym, Input}
use Rattle.text.specs.Read.{Parsed, bad, got, and_then, return, strip, read_number, read_clause, read_sym, read_input, whole}
use Rattle.std.specs.Bool.{then_some}
use Rattle.text.specs.Words.{bytes}
use Rattle.text.specs.Form.{form, no_form}
use Rattle.text.specs.Answers.{mapped}
use Rattle.reader.specs.Summary.{clause_measure}
use Rattle.reader.specs.LineAt.{closed, from_clause, place_of, line_of}
use Rattle.text.proofs.Gives.{given}
use Rattle.text.proofs.Sound.{clause_sound}
use Rattle.reader.proofs.Listing.{measuring}

pub no_line : (table line : List ℕ) {p : Parsed Line} → p ≡ bad → line_of table line (whole p) ≡ None
unfolding whole line_of
no_line table line e = rw e

-- A closing bracket and nothing after it ends the form.
whole_closed : (s : List ℕ) (l : Line) → whole (and_then (strip (bytes ")") s) (λ _. return l)) ≡ cond (closed s) (form l) no_form
unfolding whole closed strip
whole_closed [] l = refl
whole_closed (b ∷ []) l = go (eqb 41 b)
  where
    go : (t : Bool) → whole (and_then (cond t (got (tt {0}) []) bad) (λ _. return l)) ≡ cond t (form l) no_form
    go true = refl
    go false = refl
whole_closed (b ∷ c ∷ bs) l = go (eqb 41 b)
  where
    go : (t : Bool) → whole (and_then (cond t (got (tt {0}) (c ∷ bs)) bad) (λ _. return l)) ≡ no_form
    go true = refl
    go false = refl

pub is_closed : (s : List ℕ) → closed s ≡ true → s ≡ bytes ")"
unfolding closed
is_closed [] e = cc
is_closed (b ∷ []) e = rw (← eqb-true 41 b e)
is_closed (b ∷ c ∷ bs) e = cc

-- The form l ends with the rest, and v is what the reader gives of it.
pub ended : (table line rest : List ℕ) (l : Line) {v : LineAt} → (closed rest ≡ true → Some v ≡ line_of table line (form l))
    → then_some (closed rest) v ≡ line_of table line (whole (and_then (strip (bytes ")") rest) (λ _. return l)))
unfolding line_of
ended table line rest l {v} h = rw (whole_closed rest l) (go (closed rest) h)
  where
    go : (t : Bool) → (t ≡ true → Some v ≡ line_of table line (form l)) → then_some t v ≡ line_of table line (cond t (form l) no_form)
    go true h = h refl
    go false h = refl

module _ (table line s : List ℕ) where
  pub sym_reads : {k : ℕ} {rest : List ℕ} → got k rest ≡ read_number s
      → then_some (closed rest) (Sym k) ≡ line_of table line (whole (read_sym s))
  unfolding read_sym line_of
  sym_reads {k} {rest} e = rw (← e) (ended table line rest (syntax.sym k) (λ _. refl))

  pub input_reads : (d : ℕ) {m : Measure} {rest : List ℕ} → got m rest ≡ mapped (clause_measure table) (read_clause d s)
      → then_some (closed rest) (Input (record { start = place_of line s; measure = m })) ≡ line_of table line (whole (read_input d s))
  unfolding read_input line_of from_clause
  input_reads d {m} {rest} e =
      let (c, p, q) = measuring (clause_measure table) (read_clause d s) e in
      ap (λ m. then_some (closed rest) (Input (record { start = place_of line s; measure = m }))) q ∙ go c p
    where
      go : (c : Clause) → read_clause d s ≡ got c rest
          → then_some (closed rest) (Input (record { start = place_of line s; measure = clause_measure table c }))
          ≡ line_of table line (whole (read_input d s))
      go c p = rw p (ended table line rest (input c) (λ z. rw ((given ((clause_sound d).at s) p).0, is_closed rest z) refl))
