-- A step: its head, and then its lists and its claim.
use Rattle.std.proofs.Common.{◌≡◌, ℕ, List, Some, refl, sym, ◌∙◌, ap}
use Rattle.std.specs.Bool.{then_some}
use Rattle.logic.specs.Syntax.{Terms, Clause, Step, Line, by}
use Rattle.reader.specs.declared.measures.Measure.{Measure}
use Rattle.logic.specs.declared.Rule.{Rule}
use Rattle.rule_numbers.specs.declared.Numbers.{Numbers}
use Rattle.reader.specs.declared.forms.ItemAt.{ItemAt}
use Rattle.reader.specs.declared.forms.StepAt.{StepAt}
use Rattle.reader.specs.declared.forms.LineAt.TheVariants.{By}
use Rattle.text.specs.Words.{bytes}
use Rattle.text.specs.Write.{word, put_clause, put_let}
use Rattle.text.specs.Read.{Parsed, bad, got, Reader, and_then, return, strip, skip, ◌>>=◌, ◌>>◌, read_number, read_rule, read_let}
use Rattle.text.specs.Read.{read_clause, read_step, whole}
use Rattle.text.specs.Answers.{mapped}
use Rattle.reader.specs.Summary.{terms_measure, clause_measure}
use Rattle.reader.specs.LineAt.{read_spaced, read_head, closed, from_clause, from_second, from_first, place_of, step_of, line_of}
use Rattle.text.proofs.Gives.{given, strip_gives}
use Rattle.text.proofs.Sound.{clause_sound, let_sound}
use Rattle.reader.proofs.Listing.{after, after_after, measuring}
use Rattle.reader.proofs.Lines.{is_closed, ended}

-- LET LET CLAUSE) after the head, each after one space.
unfoldable pub step_body : ℕ → Rule × Numbers → Reader Line
step_body depth h = do
  skip " "
  first ← read_let depth
  skip " "
  second ← read_let depth
  skip " "
  claim ← read_clause depth
  skip ")"
  return (by (record { rule = h.0; a = h.1.a; i = h.1.i; b = h.1.b; j = h.1.j; k = h.1.k; first = first; second = second; claim = claim }))

number_next : {A B : Type 0} (f : ℕ → Reader A) (g : A → Reader B) {h : ℕ → Reader B} (bs : List ℕ)
    → ((n : ℕ) (r : List ℕ) → and_then (f n r) g ≡ h n r)
    → and_then (and_then (read_spaced bs) f) g ≡ and_then (skip " " bs) (λ _ r. and_then (read_number r) h)
unfolding read_spaced
number_next f g {h} bs k = go (skip " " bs)
  where
    go : (p : Parsed (Unit {0})) → and_then (and_then (and_then p (λ _. read_number)) f) g ≡ and_then p (λ _ r. and_then (read_number r) h)
    go bad = refl
    go (got u r) = after_after (read_number r) f g ∙ after (read_number r) k

pub step_splits : (d : ℕ) (s : List ℕ) → read_step d s ≡ and_then (read_head s) (step_body d)
unfolding read_step read_head step_body
step_splits d s =
    sym (after_after (read_rule s) _ (step_body d)
    ∙ after (read_rule s) (λ rule r. number_next _ _ r (λ a r. number_next _ _ r (λ i r.
    number_next _ _ r (λ b r. number_next _ _ r (λ j r. number_next _ _ r (λ k r. refl)))))))

-- A list or a clause as it was read: its place and its measure.
abbrev item : ℕ → Measure → ItemAt
item at m = record { start = at; measure = m }

-- The step of a head, two lists and a claim.
abbrev made : Rule × Numbers → ItemAt → ItemAt → ItemAt → StepAt
made h first second claim =
    record { rule = h.0; numbers = h.1; first = first; second = second; claim = claim }

-- The parts of a step as they were read, each where the one before it ended, are the parts of the line.
module _ (table line s : List ℕ) (d : ℕ) {h : Rule × Numbers} {s₁ s₂ s₃ s₄ s₅ s₆ s₇ : List ℕ} {m₁ m₂ m₃ : Measure} where
  whole_step : (first second : Terms) (claim : Clause) → got h s₁ ≡ read_head s → got tt s₂ ≡ strip (bytes " ") s₁
      → read_let d s₂ ≡ got first s₃ → m₁ ≡ terms_measure table first → got tt s₄ ≡ strip (bytes " ") s₃
      → read_let d s₄ ≡ got second s₅ → m₂ ≡ terms_measure table second → got tt s₆ ≡ strip (bytes " ") s₅
      → read_clause d s₆ ≡ got claim s₇ → m₃ ≡ clause_measure table claim
      → then_some (closed s₇) (By (made h (item (place_of line s₂) m₁) (item (place_of line s₄) m₂) (item (place_of line s₆) m₃)))
      ≡ line_of table line (whole (read_step d s))
  unfolding step_body line_of step_of from_first from_second from_clause
  whole_step first second claim e₁ e₂ p₁ q₁ e₄ p₂ q₂ e₆ p₃ q₃ =
      let st : Step =
      record { rule = h.0; a = h.1.a; i = h.1.i; b = h.1.b; j = h.1.j; k = h.1.k; first = first; second = second; claim = claim } in
      rw (step_splits d s, ← e₁, ← e₂, p₁, ← e₄, p₂, ← e₆, p₃)
      (ended table line s₇ (by st) (λ z.
      let c : s₆ ≡ from_clause claim = (given ((clause_sound d).at s₆) p₃).0 ∙ ap (put_clause claim) (is_closed s₇ z) in
      let b : s₄ ≡ from_second st =
      (given ((let_sound d).at s₄) p₂).0
      ∙ ap (put_let second) (given (strip_gives (bytes " ") s₅) (sym e₆) ∙ ap (word " ") c) in
      let a : s₂ ≡ from_first st =
      (given ((let_sound d).at s₂) p₁).0
      ∙ ap (put_let first) (given (strip_gives (bytes " ") s₃) (sym e₄) ∙ ap (word " ") b) in
      λ t. Some (By (made h (item (place_of line (a t)) (q₁ t)) (item (place_of line (b t)) (q₂ t)) (item (place_of line (c t)) (q₃ t))))))

  pub step_reads : got h s₁ ≡ read_head s → got tt s₂ ≡ strip (bytes " ") s₁
      → got m₁ s₃ ≡ mapped (terms_measure table) (read_let d s₂) → got tt s₄ ≡ strip (bytes " ") s₃
      → got m₂ s₅ ≡ mapped (terms_measure table) (read_let d s₄) → got tt s₆ ≡ strip (bytes " ") s₅
      → got m₃ s₇ ≡ mapped (clause_measure table) (read_clause d s₆)
      → then_some (closed s₇) (By (made h (item (place_of line s₂) m₁) (item (place_of line s₄) m₂) (item (place_of line s₆) m₃)))
      ≡ line_of table line (whole (read_step d s))
  step_reads e₁ e₂ e₃ e₄ e₅ e₆ e₇ =
      let (first, p₁, q₁) = measuring (terms_measure table) (read_let d s₂) e₃ in
      let (second, p₂, q₂) = measuring (terms_measure table) (read_let d s₄) e₅ in
      let (claim, p₃, q₃) = measuring (clause_measure table) (read_clause d s₆) e₇ in
      whole_step first second claim e₁ e₂ p₁ q₁ e₄ p₂ q₂ e₆ p₃ q₃
