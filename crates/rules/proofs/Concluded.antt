-- Check 11: the claim that is expected in the line is the rule's, and then the answer is that of the definitions.
use Prim.Native.Nat.{ℕ, suc, ◌<◌}
use mathlib.Core.Bool.{Bool, cond}
use mathlib.Core.List.{List, [], ◌∷◌, ◌++◌, append-nil}
use mathlib.Core.Logic.{ite}
use mathlib.Core.Path.{◌≡◌, refl, sym, ap, ◌∙◌}
use native.Mathlib.Omega.{arith}
use borrow.Author.Tests.{ne_eqb, eq-eqb}
use lib.Dec.{eqb}
use lib.ListN.{length, drop}
use Rattle.std.specs.Prelude.{Err}
use Rattle.logic.specs.declared.Check.{Check}
use Rattle.logic.specs.StepChecks.{Checked}
use Rattle.logic.specs.declared.Rule.{Rule}
use Rattle.logic.specs.Syntax.{Clause}
use Rattle.logic.specs.Equality.{clause?}
use Rattle.logic.specs.Rules.{uses, Agreement, Holds}
use Rattle.logic.specs.Judge.{concludes, holds?, judge_conclusion}
use Rattle.logic.proofs.Over.{Over}
use Rattle.text.specs.Words.{bytes}
use Rattle.text.specs.Write.{word, put_literal, put_literals, put_clause}
use Rattle.text.specs.Form.{formed_number}
use Rattle.text.specs.Read.{Parsed, strip}
use Rattle.text.proofs.Places.{end_of}
use Rattle.reader.specs.LineAt.{from_clause}
use Rattle.text.proofs.Deep.{formed_symbol, clause_bytes}
use Rattle.text.proofs.Gives.{Gives, nothing, gives, strip_gives}
use Rattle.text.proofs.Heads.{strip_same}
use Rattle.clauses.proofs.Places.{strip_at}
use Rattle.filling.proofs.Claims.{others_at}
use Rattle.rules.proofs.StepPlaces.{then_claim}
use Rattle.clauses.proofs.Placing.{Stands}
use Rattle.filling.proofs.Claimed.{strip_chain, literals_open}
use Rattle.rules.proofs.Answered.{passes, judged_of}
use Rattle.rules.proofs.RowPlaces.{row_at}
use Rattle.rules.proofs.ClaimPlaces.{new_at, dropped_at, claim_at, claim_by}

-- A clause stands at the end of the line, before its last bracket.
pub record ClaimAt (line : List ℕ) (pos : ℕ) (claim : Clause) : Type 0 where
  pub stands : Stands line pos (from_clause claim)
  pub over : Over formed_number formed_symbol claim

-- Bytes are expected up to the end of the line exactly if they are those that stand there.
no_rest : (ws rest : List ℕ) → length rest ≡ 0 → ws ++ rest ≡ ws
no_rest ws [] e = append-nil ws
no_rest ws (b ∷ rest) e = absurd (omega arith)

ends_only : (line ws bs : List ℕ) → 0 < length line → end_of line (strip ws bs) ≡ length line → bs ≡ ws
unfolding end_of
ends_only line ws bs n h = go (strip_gives ws bs) h
  where
    go : {q : Parsed (Unit {0})} → Gives (λ _ rest. bs ≡ ws ++ rest) q → end_of line q ≡ length line → bs ≡ ws
    go nothing h = absurd (omega arith)
    go (gives {rest} e) h = e ∙ no_rest ws rest (omega arith)

ends_there : (line ws bs : List ℕ) → bs ≡ ws → end_of line (strip ws bs) ≡ length line
unfolding end_of
ends_there line ws bs e = rw (e, ap (strip ws) (sym (append-nil ws)) ∙ strip_same ws []) (omega arith)

module _ {line : List ℕ} {pos : ℕ} {claim : Clause} (at : ClaimAt line pos claim) (c : Clause) (over : Over formed_number formed_symbol c) where
  claim_only : strip_at (drop pos line) (put_clause c (word ")" [])) 0 ≡ length (drop pos line) → c ≡ claim
  unfolding strip_at from_clause put_clause
  claim_only h =
      let e : drop pos line ≡ put_clause claim (word ")" []) = at.stands.bytes_there in
      let k : length (drop pos line) ≡ suc _ = ap length e in
      (clause_bytes c claim (word ")" []) (word ")" []) over at.over (sym (ends_only (drop pos line) (put_clause c (word ")" [])) (drop pos line) (omega arith) h) ∙ e)).0

  claim_there : c ≡ claim → strip_at (drop pos line) (put_clause c (word ")" [])) 0 ≡ length (drop pos line)
  unfolding strip_at from_clause
  claim_there h = ends_there (drop pos line) (put_clause c (word ")" [])) (drop pos line) (at.stands.bytes_there ∙ ap (λ d. put_clause d (word ")" [])) (sym h))

  pub claim_exactly : cond (eqb (strip_at (drop pos line) (put_clause c (word ")" [])) 0) (length (drop pos line))) passes (Err Check.Claim) ≡ ite (clause? c claim) passes (Err Check.Claim)
  claim_exactly = go (clause? c claim)
    where
      go : (d : Dec (c ≡ claim)) → cond (eqb (strip_at (drop pos line) (put_clause c (word ")" [])) 0) (length (drop pos line))) passes (Err Check.Claim) ≡ ite d passes (Err Check.Claim)
      go (yes e) = rw (eq-eqb _ _ (claim_there e))
      go (no e) = rw (ne_eqb _ _ (λ h. e (claim_only h)))

literals_append : (c d : Clause) (rest : List ℕ) → put_literals (c ++ d) rest ≡ put_literals c (put_literals d rest)
unfolding put_literals
literals_append [] d rest = refl
literals_append (l ∷ c) d rest = ap (λ x. word " " (put_literal l x)) (literals_append c d rest)

-- What literals a walk expects.
abbrev pub Expects : List ℕ → Clause → (ℕ → ℕ) → Type 0
Expects target c walk = (pos b : ℕ) (x : List ℕ) → strip_at target (put_literals c (b ∷ x)) pos ≡ strip_at target (b ∷ x) (walk pos)

module _ (depth : ℕ) where
  module _ (rule : Rule) (k : ℕ) (p : List ℕ) (n i x : ℕ) (line starts q : List ℕ) (m j y : ℕ) (others rest : List ℕ) (new a b : Clause)
      (news : Expects rest new (new_at depth rule k p x line starts q y others rest))
      (firsts : Expects rest a (others_at depth p n (dropped_at (uses rule).b (uses rule).j p x i j) line starts rest))
      (seconds : Expects rest b (others_at depth q m j line others rest)) where
    claim_chain : strip_at rest (put_clause (new ++ (a ++ b)) (word ")" [])) 0 ≡ claim_at depth rule k p n i x line starts q m j y others rest
    unfolding put_clause claim_at claim_by new_at
    claim_chain =
        let o₃ = literals_open b 41 (41 ∷ []) in
        let o₂ = literals_open a o₃.0 o₃.1 in
        let o₁ = literals_open new o₂.0 o₂.1 in
        let begin = strip_at rest (bytes "(or") 0 in
        let first = new_at depth rule k p x line starts q y others rest begin in
        let second = others_at depth p n (dropped_at (uses rule).b (uses rule).j p x i j) line starts rest first in
        ap (λ z. strip_at rest (bytes "(or" ++ z) 0) (literals_append new (a ++ b) (41 ∷ 41 ∷ []) ∙ ap (put_literals new) (literals_append a b (41 ∷ 41 ∷ []) ∙ (ap (put_literals a) o₃.2 ∙ o₂.2)) ∙ o₁.2)
        ∙ (strip_chain rest (bytes "(or") o₁.0 o₁.1 0
        ∙ (ap (λ z. strip_at rest z begin) (sym o₁.2)
        ∙ (news begin o₂.0 o₂.1
        ∙ (ap (λ z. strip_at rest z first) (sym o₂.2)
        ∙ (firsts first o₃.0 o₃.1
        ∙ (ap (λ z. strip_at rest z second) (sym o₃.2) ∙ seconds second 41 (41 ∷ [])))))))

  -- Checks 9 and 10 as the table says, and the claim: then the answer is that of the conclusion.
  pub concluded : (rule : Rule) (k : ℕ) (p : List ℕ) (n i x : ℕ) (line starts q : List ℕ) (m j y : ℕ) (others : List ℕ) (new a b : Clause) {pos : ℕ} {claim : Clause} → ClaimAt line pos claim →
      Expects (drop pos line) new (new_at depth rule k p x line starts q y others (drop pos line)) →
      Expects (drop pos line) a (others_at depth p n (dropped_at (uses rule).b (uses rule).j p x i j) line starts (drop pos line)) →
      Expects (drop pos line) b (others_at depth q m j line others (drop pos line)) →
      (g : Agreement) → row_at depth rule k p x line starts q y others ≡ judged_of (concludes g new) → Over formed_number formed_symbol (new ++ (a ++ b)) →
      then_claim (row_at depth rule k p x line starts q y others) (eqb (claim_at depth rule k p n i x line starts q m j y others (drop pos line)) (length (drop pos line))) ≡ judge_conclusion (concludes g (new ++ (a ++ b))) claim
  unfolding judged_of judge_conclusion then_claim
  concluded rule k p n i x line starts q m j y others new a b {pos} {claim} at news firsts seconds g row over =
      rw (row, ← claim_chain rule k p n i x line starts q m j y others (drop pos line) new a b news firsts seconds) (go (holds? g) _ _ (claim_exactly at (new ++ (a ++ b)) over))
    where
      go : (d : Dec (Holds g)) (v : Checked) (t : Bool) → cond t passes (Err Check.Claim) ≡ v → then_claim (ite d passes (Err Check.Agreement)) t ≡ ite d v (Err Check.Agreement)
      go (yes h) v t e = e
      go (no h) v t e = refl
