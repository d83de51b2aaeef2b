-- Nothing here is to be believed: `judge_meets` (crates/rules/proofs/JudgeMeets) says what it gives on written clauses.
-- The table of used numbers, by rows, and the checks that go by it.
use Rattle.std.specs.Prelude.{ℕ, Bool, ◌&&◌}
use Rattle.logic.specs.declared.Rule.{Rule}
use Rattle.logic.specs.declared.Rule.TheVariants.{Refl, Res, Fac, Par, Acy, Tra, Inc, Inh, Inp, Out, Sca, Eli, Mer, Pro}
use Rattle.logic.specs.Rules.{uses}
use Rattle.logic.specs.StepChecks.{below, zero_if_unused}
use Rattle.rule_numbers.specs.declared.Uses.{Uses}
use Rattle.rule_numbers.specs.declared.Numbers.{Numbers}

-- The rows of the rule table, counted from 0.
abbrev pub rule_row : Rule → ℕ
rule_row Refl = 0
rule_row Res = 1
rule_row Fac = 2
rule_row Par = 3
rule_row Acy = 4
rule_row Tra = 5
rule_row Inc = 6
rule_row Inh = 7
rule_row Inp = 8
rule_row Out = 9
rule_row Sca = 10
rule_row Eli = 11
rule_row Mer = 12
rule_row Pro = 13

-- R6: "Which numbers each rule uses".
abbrev pub uses_of : Rule → Uses
uses_of rule = record { a = (uses rule).a; i = (uses rule).i; b = (uses rule).b; j = (uses rule).j; k = (uses rule).k }

-- Check 7 (V17) and the first part of check 8 (V18), of a rule and its numbers.
unfoldable pub parent_numbers : Rule → ℕ → Numbers → Bool
parent_numbers rule own n = below own (uses rule).a n.a && below own (uses rule).b n.b

unfoldable pub unused_numbers : Rule → Numbers → Bool
unused_numbers rule n =
    zero_if_unused (uses rule).a n.a
    && (zero_if_unused (uses rule).i n.i
    && (zero_if_unused (uses rule).b n.b && (zero_if_unused (uses rule).j n.j && zero_if_unused (uses rule).k n.k)))
