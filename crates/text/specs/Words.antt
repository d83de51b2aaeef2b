-- The words of the text form (T6).
use Rattle.std.specs.Prelude.{ℕ, List, [], ◌∷◌}
use Prim.Native.Char.{code}
use Prim.Native.String.{String, [] as []ˢ, ◌∷◌ as ◌∷ˢ◌}
use Rattle.logic.specs.declared.Sign.{Sign}
use Rattle.logic.specs.declared.Sign.TheVariants.{Positive, Negative}
use Rattle.logic.specs.declared.Link.{Link}
use Rattle.logic.specs.declared.Link.TheVariants.{Eq, Mem, Sub}
use Rattle.logic.specs.declared.Arrow.{Arrow}
use Rattle.logic.specs.declared.Arrow.TheVariants.{Sv, Si, Mv, Mi, St, Mt}
use Rattle.logic.specs.declared.Rule.{Rule}
use Rattle.logic.specs.declared.Rule.TheVariants.{Refl, Res, Fac, Par, Acy, Tra, Inc, Inh, Inp, Out, Sca, Eli, Mer, Pro}

-- T6, "the bytes themselves": a word as its bytes.
abbrev pub bytes : String → List ℕ
bytes []ˢ = []
bytes (c ∷ˢ w) = code c ∷ bytes w

-- T1: "Every line ends with byte 10".
abbrev pub line_end : ℕ
line_end = 10

-- T16: "`(+ ATOM)` is a positive literal, `(- ATOM)` a negative one."
abbrev pub sign_word : Sign → String
sign_word Positive = "+"
sign_word Negative = "-"

-- T13: "`(eq T U)` is equality; `(mem T U)` is T : U; `(sub T U)` is T :: U".
abbrev pub link_word : Link → String
link_word Eq = "eq"
link_word Mem = "mem"
link_word Sub = "sub"

-- T14: "sv is a scalar value, si an inheritable scalar value, mv a set value, mi an inheritable set value, st a scalar signature, mt a
-- set signature."
abbrev pub arrow_word : Arrow → String
arrow_word Sv = "sv"
arrow_word Si = "si"
arrow_word Mv = "mv"
arrow_word Mi = "mi"
arrow_word St = "st"
arrow_word Mt = "mt"

-- T10: "RULE is one of the fourteen words (R8 to R19, R25, R26). A line with any other isn't a form."
abbrev pub rule_word : Rule → String
rule_word Refl = "refl"
rule_word Res = "res"
rule_word Fac = "fac"
rule_word Par = "par"
rule_word Acy = "acy"
rule_word Tra = "tra"
rule_word Inc = "inc"
rule_word Inh = "inh"
rule_word Inp = "inp"
rule_word Out = "out"
rule_word Sca = "sca"
rule_word Eli = "eli"
rule_word Mer = "mer"
rule_word Pro = "pro"
