-- Checks 7 to 11 of a step by places and by bytes come to the same.
use Prim.Native.Nat.{ℕ, ◌+◌}
use mathlib.Core.Bool.{Bool, true, false, cond, ◌&&◌, true≢false}
use mathlib.Core.List.{List}
use mathlib.Core.Logic.{◌⊎◌, inl, inr}
use mathlib.Core.Path.{◌≡◌, refl, sym, ap, subst}
use lib.Dec.{eqb}
use lib.ListN.{length, drop}
use Rattle.std.specs.Prelude.{Option, None, Ok, Err}
use Rattle.logic.specs.declared.Check.{Check}
use Rattle.logic.specs.StepChecks.{Checked}
use Rattle.logic.specs.declared.Rule.{Rule}
use Rattle.logic.specs.declared.Rule.TheVariants.{Refl, Res, Fac, Par, Acy, Tra, Inc, Inh, Inp, Out, Sca, Eli, Mer, Pro}
use Rattle.logic.specs.Rules.{uses}
use Rattle.text.specs.Words.{bytes}
use Rattle.text.specs.Read.{Parsed}
use Rattle.text.proofs.Positions.{strip_tail}
use Rattle.reader.specs.declared.forms.StepAt.{StepAt}
use Rattle.clauses.specs.Entries.{entries}
use Rattle.clauses.proofs.Places.{strip_at, list_at}
use Rattle.clauses.proofs.Placing.{Stands}
use Rattle.rule_table.specs.declared.Rewriting as table
use Rattle.rule_numbers.specs.Uses.{parent_numbers, unused_numbers}
use Rattle.rule_table.specs.Rows.{FoundAt, row_of, behind, found_by, agrees_by, resolved, factored, replaced, crossed, called, denying, joined, projected}
use Rattle.rules.specs.Claim.{KeptAt, new_by, literals_by, claims}
use Rattle.rules.specs.Judging.{ParentAt, given, dropped_by, checked, conclude_by, premise, under_lists, lists_fit, settled, step_at}
use Rattle.rules.proofs.Landing.{Lands, lands, lost, land, within_lands, literal_lands, positive_walk}
use Rattle.rules.proofs.ListsSame.{Lists, lists_given}
use Rattle.rules.proofs.ClaimsSame.{item, holds, Reads, then_read, landed_ahead, no_read, reflexive_read, equated_read, rewritten_read, others_read, ends_same}
use Rattle.rules.proofs.ExpectedSame.{merged_read, projected_read}
use Rattle.rules.proofs.AgreesSame.{agree_same, calls_same, fits_same}
use Rattle.rules.proofs.RowsSame.{Alike, same_none, same_fit, same_rewrite, same_cross, same_call, same_denied, same_merge, same_project, Same, unfound, is_found, old_target, old_row, resolved_same, crossed_same, called_same, replaced_same, denying_same, factored_same, joined_same, projected_same}
use Rattle.rules.proofs.RowPlaces as old
use Rattle.rules.proofs.RowPlaces.{Found, Rewriting, answer, row_at, found_at}
use Rattle.rules.proofs.ClaimPlaces as claim
use Rattle.rules.proofs.ClaimPlaces.{Kept, dropped_at, claim_by, claim_at}
use Rattle.rules.proofs.StepPlaces.{then_claim, conclude_at, filling_places, lists_at, settled_as, placed_step}
use Rattle.rules.proofs.RowsMeet.{acy_past, sca_past}
use Rattle.rules.proofs.CoverRows.{res_past, eli_past, fac_past}
use Rattle.rules.proofs.MoleculeRows.{mer_past, pro_past}
use Rattle.rules.proofs.Rewrites.{rewrites_past}

abbrev kept_of : List ℕ → Option (List (List ℕ)) → ℕ → ℕ → KeptAt
kept_of p es n dropped = record { clause = item p es; literals = n; dropped = dropped }

-- The answers in their order.
unshaped : {s : Bool} (a c : Bool) → s ≡ false → then_claim (answer s a) c ≡ Err Check.Shape
unfolding answer then_claim
unshaped a c e = rw e refl

in_order : {s a c a' c' : Bool} → s ≡ true → a ≡ a' → c ≡ c' → then_claim (answer s a) c ≡ cond a' (cond c' (Ok tt) (Err Check.Claim)) (Err Check.Agreement)
unfolding answer then_claim
in_order {a' = a} {c' = c} e f g = rw (e, f, g) (go a c)
  where
    go : (b c : Bool) → then_claim (cond b (Ok tt) (Err Check.Agreement)) c ≡ cond b (cond c (Ok tt) (Err Check.Claim)) (Err Check.Agreement)
    go true c = refl
    go false c = refl

module _ (depth : ℕ) (p line starts q others rest : List ℕ) {es fs : Option (List (List ℕ))} (l : Lists line starts es) (m : Lists line others fs) where
  -- What was found agrees alike, and has the new literal alike.
  agrees_alike : {f : Found} {g : FoundAt} → Alike p q f g → old.agrees_by depth f.kind f p line starts q others ≡ agrees_by depth (item p es) (item q fs) g
  unfolding old.agrees_by agrees_by
  agrees_alike (same_none k) = rw k refl
  agrees_alike (same_fit (inl k) s t) = rw k (fits_same depth p line starts q others l m s t)
  agrees_alike (same_fit (inr k) s t) = rw k (fits_same depth p line starts q others l m s t)
  agrees_alike (same_rewrite k s t u v) = rw k (agree_same depth p line starts q others l m t u)
  agrees_alike (same_cross k s t u v) = rw k (rw (agree_same depth p line starts q others l m s u, agree_same depth p line starts q others l m t v) refl)
  agrees_alike (same_call k b s t u v) = rw k (rw (b, calls_same depth p line starts q others l m s u) refl)
  agrees_alike (same_denied k) = rw k refl
  agrees_alike (same_merge k s t u v) = rw k (agree_same depth p line starts q others l m t v)
  agrees_alike (same_project k s e) = rw k refl

  new_alike : {f : Found} {g : FoundAt} → Alike p q f g → Reads rest (claim.new_by depth f.kind f p line starts q others rest) (new_by depth (item p es) (item q fs) g)
  unfolding claim.new_by new_by
  new_alike (same_none k) = rw k (reflexive_read rest depth l)
  new_alike (same_fit (inl k) s t) = rw k (no_read rest)
  new_alike (same_fit (inr k) s t) = rw k (no_read rest)
  new_alike (same_rewrite k s t u v) = rw k (rewritten_read rest depth _ (holds s l) t.bytes_there (holds v m))
  new_alike (same_cross k s t u v) = rw k (equated_read rest depth (holds s l) (holds t l))
  new_alike (same_call k b s t u v) = rw k (equated_read rest depth (holds t l) (holds v m))
  new_alike (same_denied k) = rw k (no_read rest)
  new_alike (same_merge k s t u v) = rw k (merged_read rest depth (holds s l) (holds u m))
  new_alike {f} (same_project k s e) = rw k (projected_read rest depth (holds s l) f.more e)

  -- Checks 9 to 11 of what was found.
  module _ (n i k j : ℕ) where
    claim_alike : {f : Found} {g : FoundAt} → Alike p q f g →
        eqb (claim_by f (record { depth = depth; a = n; i = i; b = k; j = j }) p line starts q others rest) (length rest) ≡ claims depth (kept_of p es n i) (kept_of q fs k j) g rest
    unfolding claim_by claims literals_by strip_at
    claim_alike a =
        ends_same rest
        ((then_read rest (new_alike a) (then_read rest (others_read rest depth p line starts l i n) (others_read rest depth q line others m j k))).from
        (landed_ahead (land rest 0 (strip_tail (bytes "(or")))))

    checked_same : {f : Found} {o : Option FoundAt} → Same p q f o →
        then_claim (answer f.shaped (old.agrees_by depth f.kind f p line starts q others)) (eqb (claim_by f (record { depth = depth; a = n; i = i; b = k; j = j }) p line starts q others rest) (length rest)) ≡
        checked depth (kept_of p es n i) (kept_of q fs k j) rest o
    unfolding checked
    checked_same {f} (unfound e) = unshaped _ _ e
    checked_same {f} (is_found {g} e a) = in_order e (agrees_alike a) (claim_alike a)

-- A step's checks 9 to 11, by the literals at I and J, whether they are there or not.
module _ (depth : ℕ) (p line starts q others rest : List ℕ) {es fs : Option (List (List ℕ))} (l : Lists line starts es) (m : Lists line others fs) (k n i w j : ℕ) where
  dropped_same : (rule : Rule) {x : ℕ} {X : Parsed (Unit {0})} → Lands p x X → dropped_at (uses rule).b (uses rule).j p x i j ≡ dropped_by (uses rule).b (uses rule).j X i j
  unfolding dropped_at dropped_by
  dropped_same rule a = rw (within_lands p ((positive_walk p).from a))

  abbrev Concludes : Rule → ℕ → ℕ → Option FoundAt → Parsed (Unit {0}) → Type 0
  Concludes rule x y o X =
      then_claim (row_at depth rule k p x line starts q y others) (eqb (claim_at depth rule k p n i x line starts q w j y others rest) (length rest)) ≡
      checked depth (kept_of p es n (dropped_by (uses rule).b (uses rule).j X i j)) (kept_of q fs w j) rest o

  by_found : (rule : Rule) {x : ℕ} (y : ℕ) {X : Parsed (Unit {0})} {o : Option FoundAt} → Lands p x X → Same p q (found_at rule k p x q y) o → Concludes rule x y o X
  unfolding row_at claim_at
  by_found rule {x} y a s = rw (dropped_same rule a) (checked_same depth p line starts q others rest l m n _ w j s)

  by_none : (rule : Rule) (x y : ℕ) (X : Parsed (Unit {0})) → row_at depth rule k p x line starts q y others ≡ Err Check.Shape → Concludes rule x y None X
  unfolding then_claim checked
  by_none rule x y X e = rw e refl

  -- A rule that asks for two literals.
  by_two : (rule : Rule) {x y : ℕ} {X Y : Parsed (Unit {0})} → Lands p x X → Lands q y Y →
      ((x ≡ length p + 1) ⊎ (y ≡ length q + 1) → row_at depth rule k p x line starts q y others ≡ Err Check.Shape) →
      (found : List ℕ → List ℕ → Option FoundAt) → ((xs ys : List ℕ) → Stands p x xs → Stands q y ys → Same p q (found_at rule k p x q y) (found xs ys)) →
      Concludes rule x y (behind X (λ xs. behind Y (λ ys. found xs ys))) X
  unfolding behind
  by_two rule {x} {y} (lost e) b past found h = by_none rule x y _ (past (inl e))
  by_two rule {x} {y} (lands s) (lost e) past found h = by_none rule x y _ (past (inr e))
  by_two rule {x} {y} (lands {rest = xs} s) (lands {rest = ys} t) past found h = by_found rule y (lands s) (h xs ys s t)

  by_one : (rule : Rule) {x : ℕ} (y : ℕ) {X : Parsed (Unit {0})} → Lands p x X → (x ≡ length p + 1 → row_at depth rule k p x line starts q y others ≡ Err Check.Shape) →
      (found : List ℕ → Option FoundAt) → ((xs : List ℕ) → Stands p x xs → Same p q (found_at rule k p x q y) (found xs)) → Concludes rule x y (behind X found) X
  unfolding behind
  by_one rule {x} y (lost e) past found h = by_none rule x y _ (past e)
  by_one rule {x} y (lands {rest = xs} s) past found h = by_found rule y (lands s) (h xs s)

  by_replaced : (rule : Rule) (r : table.Rewriting) → old.row_of rule ≡ old_row r →
      {x y : ℕ} {X Y : Parsed (Unit {0})} → Lands p x X → Lands q y Y → Concludes rule x y (behind X (λ xs. behind Y (λ ys. replaced r k xs ys))) X
  unfolding old.found_by
  by_replaced rule r e {x} {y} a b =
      by_two rule a b (rewrites_past depth k p x line starts q y others rule (old_target r.target) r.link r.forward e) (replaced r k)
      (λ xs ys s t. subst (λ (row : old.Row). Same p q (old.found_by row.kind row k p x q y) (replaced r k xs ys)) (sym e) (replaced_same p q s t r k))

  conclude_same : (rule : Rule) → ((uses rule).b ≡ true) → {x y : ℕ} {X Y : Parsed (Unit {0})} → Lands p x X → Lands q y Y → Concludes rule x y (found_by (row_of rule) k X Y) X
  unfolding found_by old.found_by uses
  conclude_same Refl u a b = absurd (true≢false (sym u))
  conclude_same Fac u a b = absurd (true≢false (sym u))
  conclude_same Eli u a b = absurd (true≢false (sym u))
  conclude_same Pro u a b = absurd (true≢false (sym u))
  conclude_same Res u {x} {y} a b = by_two Res a b (res_past depth k p x line starts q y others) resolved (λ xs ys s t. resolved_same p q s t)
  conclude_same Acy u {x} {y} a b = by_two Acy a b (acy_past depth k p x line starts q y others) crossed (λ xs ys s t. crossed_same p q s t)
  conclude_same Sca u {x} {y} a b = by_two Sca a b (sca_past depth k p x line starts q y others) called (λ xs ys s t. called_same p q s t)
  conclude_same Mer u {x} {y} a b = by_two Mer a b (mer_past depth k p x line starts q y others) joined (λ xs ys s t. joined_same p q s t)
  conclude_same Par u a b = by_replaced Par _ refl a b
  conclude_same Tra u a b = by_replaced Tra _ refl a b
  conclude_same Inc u a b = by_replaced Inc _ refl a b
  conclude_same Inh u a b = by_replaced Inh _ refl a b
  conclude_same Inp u a b = by_replaced Inp _ refl a b
  conclude_same Out u a b = by_replaced Out _ refl a b

-- The rules without B: A stands for it.
module _ (depth : ℕ) (p line starts rest : List ℕ) {es : Option (List (List ℕ))} (l : Lists line starts es) (k n i w j : ℕ) where
  alone_same : (rule : Rule) → ((uses rule).b ≡ false) → {x y : ℕ} {X Y : Parsed (Unit {0})} → Lands p x X → Lands p y Y →
      Concludes depth p line starts p starts rest l l k n i w j rule x y (found_by (row_of rule) k X Y) X
  unfolding found_by old.found_by uses
  alone_same Refl u {x} {y} a b = by_found depth p line starts p starts rest l l k n i w j Refl y a (is_found refl (same_none refl))
  alone_same Fac u {x} {y} a b =
      by_two depth p line starts p starts rest l l k n i w j Fac a b (fac_past depth k p x line starts p y starts) factored (λ xs ys s t. factored_same p s t)
  alone_same Eli u {x} {y} a b =
      by_one depth p line starts p starts rest l l k n i w j Eli y a (eli_past depth k p x line starts p y starts) denying (λ xs s. denying_same p p {i = x} {j = x} s s)
  alone_same Pro u {x} {y} a b =
      by_one depth p line starts p starts rest l l k n i w j Pro y a (pro_past depth k p x line starts p y starts) (projected k) (λ xs s. projected_same p p {i = x} {j = x} s s k)
  alone_same Res u a b = absurd (true≢false u)
  alone_same Mer u a b = absurd (true≢false u)
  alone_same Acy u a b = absurd (true≢false u)
  alone_same Sca u a b = absurd (true≢false u)
  alone_same Par u a b = absurd (true≢false u)
  alone_same Tra u a b = absurd (true≢false u)
  alone_same Inc u a b = absurd (true≢false u)
  alone_same Inh u a b = absurd (true≢false u)
  alone_same Inp u a b = absurd (true≢false u)
  alone_same Out u a b = absurd (true≢false u)

-- A step.
pub step_same : (depth own : ℕ) (a b : ParentAt) (line : List ℕ) (s : StepAt) → placed_step depth own a b line s ≡ step_at depth own a b line s
unfolding placed_step step_at settled_as settled lists_at lists_fit under_lists conclude_at conclude_by
step_same depth own a b line s =
    ap (λ z. settled (parent_numbers s.rule own s.numbers) (unused_numbers s.rule s.numbers && lists_fit s a.width b.width) z) (go (uses s.rule).b refl)
  where
    rest : List ℕ
    rest = drop s.claim.start line

    n : ℕ
    n = cond (uses s.rule).a a.literals 0

    firsts : Lists line (filling_places (cond (uses s.rule).a a.width 1) (list_at line s.first.start)) (given (cond (uses s.rule).a a.width 1) (entries (drop s.first.start line)))
    firsts = lists_given line s.first.start (cond (uses s.rule).a a.width 1)

    two : (uses s.rule).b ≡ true →
        conclude_at depth s.rule s.numbers.k a.clause n s.numbers.i line (filling_places (cond (uses s.rule).a a.width 1) (list_at line s.first.start)) b.clause b.literals s.numbers.j (filling_places b.width (list_at line s.second.start)) s.claim.start ≡
        conclude_by depth s (premise a.clause (given (cond (uses s.rule).a a.width 1) (entries (drop s.first.start line))) n) (premise b.clause (given b.width (entries (drop s.second.start line))) b.literals) rest
    two u =
        conclude_same depth a.clause line _ b.clause _ rest firsts (lists_given line s.second.start b.width) s.numbers.k n s.numbers.i b.literals s.numbers.j s.rule u
        (literal_lands a.clause s.numbers.i) (literal_lands b.clause s.numbers.j)

    one : (uses s.rule).b ≡ false →
        conclude_at depth s.rule s.numbers.k a.clause n s.numbers.i line (filling_places (cond (uses s.rule).a a.width 1) (list_at line s.first.start)) a.clause 0 s.numbers.j (filling_places (cond (uses s.rule).a a.width 1) (list_at line s.first.start)) s.claim.start ≡
        conclude_by depth s (premise a.clause (given (cond (uses s.rule).a a.width 1) (entries (drop s.first.start line))) n) (premise a.clause (given (cond (uses s.rule).a a.width 1) (entries (drop s.first.start line))) 0) rest
    one u = alone_same depth a.clause line _ rest firsts s.numbers.k n s.numbers.i 0 s.numbers.j s.rule u (literal_lands a.clause s.numbers.i) (literal_lands a.clause s.numbers.j)

    pick : (b : Bool) {x y z w : Checked} → (b ≡ true → x ≡ z) → (b ≡ false → y ≡ w) → cond b x y ≡ cond b z w
    pick true f g = f refl
    pick false f g = g refl

    go : (b' : Bool) → (uses s.rule).b ≡ b' →
        cond (uses s.rule).b
        (conclude_at depth s.rule s.numbers.k a.clause n s.numbers.i line (filling_places (cond (uses s.rule).a a.width 1) (list_at line s.first.start)) b.clause b.literals s.numbers.j (filling_places b.width (list_at line s.second.start)) s.claim.start)
        (conclude_at depth s.rule s.numbers.k a.clause n s.numbers.i line (filling_places (cond (uses s.rule).a a.width 1) (list_at line s.first.start)) a.clause 0 s.numbers.j (filling_places (cond (uses s.rule).a a.width 1) (list_at line s.first.start)) s.claim.start) ≡
        under_lists depth a b line s
    go b' e = pick (uses s.rule).b two one
