-- The result of a method: a term, or the word none.
use Rattle.std.proofs.Common.{◌≡◌, ℕ, Bool, true, false, cond, List, Bor, refl, sym}
use Rattle.std.specs.Bool.{then_some}
use Rattle.logic.specs.declared.Arrow.{Arrow}
use Rattle.logic.specs.Syntax.{Term, value, none, may_be_none}
use Rattle.logic.specs.Terms.{result_terms}
use Rattle.text.specs.Words.{bytes}
use Rattle.text.specs.Read.{Parsed, bad, got, and_then, return, fail, strip, read_term, read_result}
use Rattle.text.specs.Answers.{parsed, mapped}
use Rattle.reader.specs.Summary.{of_term, of_terms, of_result, no_bounds, bounds}
use Rattle.text.proofs.Chain.{first_word, later_word, no_word}
use Rattle.reader.proofs.Bounds.{bounds_lawful}

module _ (table s : List ℕ) (d : ℕ) (a : Arrow) where
  pub none_result : (rest : Bor (List ℕ)) → got tt rest.now ≡ strip (bytes "none") s
      → parsed (then_some (may_be_none a) (no_bounds, rest)) ≡ mapped (of_result (bounds table)) (read_result d a s)
  unfolding read_result of_terms result_terms
  none_result rest e = rw (first_word "none" _ _ s (sym e)) (go (may_be_none a))
    where
      go : (b : Bool) → parsed (then_some b (no_bounds, rest)) ≡ mapped (of_result (bounds table)) (cond b (return none) fail rest.now)
      go true = refl
      go false = refl

  pub term_result : bad ≡ strip (bytes "none") s → mapped (of_result (bounds table)) (read_result d a s)
      ≡ mapped (of_term (bounds table)) (read_term d s)
  unfolding read_result of_terms result_terms
  term_result e = rw (later_word "none" _ _ s (sym e), no_word) (go (read_term d s))
    where
      go : (p : Parsed Term) → mapped (of_result (bounds table)) (and_then p (λ t. return (value t))) ≡ mapped (of_term (bounds table)) p
      go bad = refl
      go (got t rest) = rw (bounds_lawful.right (of_term (bounds table) t))
