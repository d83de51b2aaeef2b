-- Nothing here is to be believed: `judge_meets` (crates/rules/proofs/JudgeMeets) says what it gives on written clauses.
-- Checks 9 and 10 in bytes: the rule table, row by row. The literals at I and J are what stands from them on.
use Rattle.std.specs.Prelude.{ℕ, Bool, true, false, cond, not, ◌&&◌, List, eqb, length, Option, Some, None}
use Rattle.logic.specs.declared.Link.{Link}
use Rattle.logic.specs.declared.Link.TheVariants.{Eq, Mem, Sub}
use Rattle.logic.specs.declared.Rule.{Rule}
use Rattle.logic.specs.declared.Rule.TheVariants.{Refl, Res, Fac, Par, Acy, Tra, Inc, Inh, Inp, Out, Sca, Eli, Mer, Pro}
use Rattle.text.specs.Read.{Parsed, bad, got, Reader, ◌>>◌}
use Rattle.text.specs.Access.{to_occurrence}
use Rattle.clauses.specs.Shapes.{next, positive, negative, atom, link, denied, scalar, signature, value_of, argument_of}
use Rattle.clauses.specs.Shapes.{same_sign, same_arrow}
use Rattle.clauses.specs.Parts.{PartIn, molecule, object_of, part_at, shown}
use Rattle.filling.specs.Items.{Item, beside}
use Rattle.agreement.specs.Agrees.{agrees, calls_agree, is_fitting}
use Rattle.rule_table.specs.declared.Target.{Target}
use Rattle.rule_table.specs.declared.Target.TheVariants.{Occurrence, Subclass, Member, Object, Argument, Result}
use Rattle.rule_table.specs.declared.Row.{Row}
use Rattle.rule_table.specs.declared.Row.TheVariants.{Reflexivity, Resolution, Factoring, Acyclicity, Scalarity, Elimination, Merging, Projection}
use Rattle.rule_table.specs.declared.Rewriting.{Rewriting}
use Rattle.rule_table.specs.declared.Found.{Found}
use Rattle.rule_table.specs.declared.Found.TheVariants as code

-- R8 to R19, R25, R26: what a rule asks of its literals; of a rewriting rule the term of the literal at I that it replaces, the link at J, and
-- whether the link's first term agrees and its second takes the term's place, or the other way round.
abbrev pub rewriting_by : Target → Link → Bool → Row
rewriting_by target kind forward = Row.Rewriting (record { target = target; link = kind; forward = forward })

abbrev pub row_of : Rule → Row
row_of Refl = Reflexivity
row_of Res = Resolution
row_of Fac = Factoring
row_of Par = rewriting_by Occurrence Eq true
row_of Acy = Acyclicity
row_of Tra = rewriting_by Subclass Sub true
row_of Inc = rewriting_by Member Sub true
row_of Inh = rewriting_by Object Sub false
row_of Inp = rewriting_by Argument Sub false
row_of Out = rewriting_by Result Sub true
row_of Sca = Scalarity
row_of Eli = Elimination
row_of Mer = Merging
row_of Pro = Projection

-- The term that a rewriting rule replaces. R11, R20: "term occurrence K", "counted from 0 in the literal at I as it is before filling".
-- R13, R14: the second term of + sub or + mem. R15 to R17: "+ st or mt with object P", "an argument K", "a term result R".
unfoldable pub term_at : Target → ℕ → Reader (Unit {0})
term_at Occurrence k = to_occurrence k
term_at Subclass k = link Sub >> next
term_at Member k = link Mem >> next
term_at Object k = signature
term_at Argument k = signature >> argument_of k
term_at Result k = signature >> value_of

-- What a step names in its parents, each by what stands from it on: what has to agree, and what the new literal is made of. R8: nothing.
-- R9, R10: an atom, and one into which it has to fit. R11, R13 to R17: the literal at I, a term of it, the side of the link at J that it has to
-- agree with, and the other side. R12: P, Q, P' and Q'. R18: whether the arrows are the same, object and result, and those of the other.
-- R19: nothing. R25: an atom and its object, and the other atom and its object. R26: the object of a molecule, and a part.
pub data FoundAt : Type 0 where
  nothing : FoundAt
  fitting : List ℕ → List ℕ → FoundAt
  rewriting : List ℕ → List ℕ → List ℕ → List ℕ → FoundAt
  crossing : List ℕ → List ℕ → List ℕ → List ℕ → FoundAt
  calling : Bool → List ℕ → List ℕ → List ℕ → List ℕ → FoundAt
  denied_term : FoundAt
  merging : List ℕ → List ℕ → List ℕ → List ℕ → FoundAt
  projecting : List ℕ → PartIn → FoundAt

-- The code's answer.
abbrev pub at_found : Found → FoundAt
at_found code.Nothing = nothing
at_found (code.Fitting left right) = fitting left.now right.now
at_found (code.Rewriting literal term side other) = rewriting literal.now term.now side.now other.now
at_found (code.Crossing left more right other) = crossing left.now more.now right.now other.now
at_found (code.Calling same left value right other) = calling same left.now value.now right.now other.now
at_found code.Denied = denied_term
at_found (code.Merging left object right other) = merging left.now object.now right.now other.now
at_found (code.Projecting object part) = projecting object.now (shown part)

abbrev pub found_of : Option Found → Option FoundAt
found_of None = None
found_of (Some f) = Some (at_found f)

-- What is found behind what was passed.
unfoldable pub behind : Parsed (Unit {0}) → (List ℕ → Option FoundAt) → Option FoundAt
behind bad f = None
behind (got u rest) f = f rest

-- R9, res, "- L, + L'": the two atoms.
unfoldable pub resolved : List ℕ → List ℕ → Option FoundAt
resolved x y = behind (negative x) (λ l. behind (positive y) (λ r. Some (fitting l r)))

-- R10, fac, "A only; I and J differ, both literals have the same sign": as many bytes stand from the one on as from the other only where
-- they are one.
unfoldable pub factored : List ℕ → List ℕ → Option FoundAt
factored x y =
    cond (not (eqb (length x) (length y)) && same_sign x y) (behind (atom x) (λ l. behind (atom y) (λ r. Some (fitting l r)))) None

-- R11, R13 to R17, par, tra, inc, inh, inp, out: the term, the side of the link that has to agree with it, and the other side.
unfoldable pub replaced : Rewriting → ℕ → List ℕ → List ℕ → Option FoundAt
replaced r k x y =
    behind (term_at r.target k x) (λ t.
    behind (link r.link y) (λ u.
    behind (next u) (λ v.
    Some (rewriting x t (cond r.forward u v) (cond r.forward v u)))))

-- R12, acy, "+ sub(P,Q), + sub(Q',P')": P and Q, P' and Q'.
unfoldable pub crossed : List ℕ → List ℕ → Option FoundAt
crossed x y =
    behind (link Sub x) (λ p.
    behind (next p) (λ q.
    behind (link Sub y) (λ q'.
    behind (next q') (λ p'.
    Some (crossing p q p' q')))))

-- R18, sca, "+ sv or si with result R, + sv or si with result R'": the objects and the results, and whether the arrow is the same.
unfoldable pub called : List ℕ → List ℕ → Option FoundAt
called x y =
    behind (scalar x) (λ o.
    behind (scalar y) (λ o'.
    behind (value_of o) (λ r.
    behind (value_of o') (λ r'.
    Some (calling (same_arrow x y) o r o' r')))))

-- R19, eli: "A only; - obj(P) at I". No term has to agree.
unfoldable pub denying : List ℕ → Option FoundAt
denying x = behind (denied x) (λ p. Some denied_term)

-- R25, mer, "two + arrow atoms or molecules": each with its object.
unfoldable pub joined : List ℕ → List ℕ → Option FoundAt
joined x y =
    behind (positive x) (λ l.
    behind (positive y) (λ r.
    behind (object_of l) (λ o.
    behind (object_of r) (λ o'.
    Some (merging l o r o')))))

-- R26, pro: "A only; + a molecule with object P and a part K, counted from 0".
unfoldable pub with_part : List ℕ → Option PartIn → Option FoundAt
with_part o None = None
with_part o (Some p) = Some (projecting o p)

unfoldable pub projected : ℕ → List ℕ → Option FoundAt
projected k x = behind (positive x) (λ l. behind (molecule l) (λ o. with_part o (part_at k o)))

-- The shape (V19): "a position, sign, kind of atom, result, K, or pair I, J". R8, refl: "no parent".
unfoldable pub found_by : Row → ℕ → Parsed (Unit {0}) → Parsed (Unit {0}) → Option FoundAt
found_by Reflexivity k i j = Some nothing
found_by Resolution k i j = behind i (λ x. behind j (λ y. resolved x y))
found_by Factoring k i j = behind i (λ x. behind j (λ y. factored x y))
found_by (Row.Rewriting r) k i j = behind i (λ x. behind j (λ y. replaced r k x y))
found_by Acyclicity k i j = behind i (λ x. behind j (λ y. crossed x y))
found_by Scalarity k i j = behind i (λ x. behind j (λ y. called x y))
found_by Elimination k i j = behind i denying
found_by Merging k i j = behind i (λ x. behind j (λ y. joined x y))
found_by Projection k i j = behind i (projected k)

-- The "agreement, filled" (V20), of terms that nest at most so deep: of what was found in the clauses x and y.
unfoldable pub agrees_by : ℕ → Item → Item → FoundAt → Bool
agrees_by depth x y nothing = true
agrees_by depth x y (fitting l r) = is_fitting depth (beside x l) (beside y r)
agrees_by depth x y (rewriting l t s o) = agrees depth (beside x t) (beside y s)
agrees_by depth x y (crossing p q p' q') = agrees depth (beside x p) (beside y p') && agrees depth (beside x q) (beside y q')
agrees_by depth x y (calling same o r o' r') = same && calls_agree depth (beside x o) (beside y o')
agrees_by depth x y denied_term = true
agrees_by depth x y (merging l o r o') = agrees depth (beside x o) (beside y o')
agrees_by depth x y (projecting o p) = true
