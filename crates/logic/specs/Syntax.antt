-- The syntax of TEXT-FORM, "The text" (T6 to T17): terms, atoms, literals, clauses and the three kinds of line, with no bytes.
-- The words of signs (T16), links (T13), arrows (T14) and rules (T10) are the enums of src/lib.rt.
use Rattle.std.specs.Prelude.{ℕ, List, Bool, true, false}
pub use Rattle.logic.specs.declared.Sign.{Sign}
pub use Rattle.logic.specs.declared.Sign.TheVariants.{Positive, Negative}
pub use Rattle.logic.specs.declared.Link.{Link}
pub use Rattle.logic.specs.declared.Link.TheVariants.{Eq, Mem, Sub}
pub use Rattle.logic.specs.declared.Arrow.{Arrow}
pub use Rattle.logic.specs.declared.Arrow.TheVariants.{Sv, Si, Mv, Mi, St, Mt}
pub use Rattle.logic.specs.declared.Rule.{Rule}
pub use Rattle.logic.specs.declared.Rule.TheVariants.{Refl, Res, Fac, Par, Acy, Tra, Inc, Inh, Inp, Out, Sca, Eli, Mer, Pro}

-- T11: "`(v N)` is variable N. `(f N TERM ...)` is symbol N applied to the terms."
mutual
  pub data Term : Type 0 where
    var : ℕ → Term
    app : ℕ → Terms → Term
    deriving Discrete as Term-discrete

  pub data Terms : Type 0 where
    nil : Terms
    cons : Term → Terms → Terms
    deriving Discrete as Terms-discrete

-- T15: "The result R is a term. With mv, mi, st and mt it may be the word `none` instead: the empty set, or the empty signature."
pub data Result : Type 0 where
  value : Term → Result
  none : Result
  deriving Discrete as Result-discrete

-- T15: "With mv, mi, st and mt it may be the word `none` instead".
unfoldable pub may_be_none : Arrow → Bool
may_be_none Sv = false
may_be_none Si = false
may_be_none Mv = true
may_be_none Mi = true
may_be_none St = true
may_be_none Mt = true

-- T13: "`(ARROW O M (T ...) R)` has the object O, the method M, the arguments T ..., perhaps none at all, and the result R." Its part is
-- what it says of O: all but O. T21: "a PART is `(ARROW M (T ...) R)`".
pub data Part : Type 0 where
  part : Arrow → Term → Terms → Result → Part
  deriving Discrete as Part-discrete

-- T13, T14: its arrow.
abbrev pub arrow_of : Part → Arrow
arrow_of (part a m ts r) = a

-- T21: "`(mol T PART PART ...)`, a molecule, has the object T and two parts or more": an arrow atom has only one, a molecule has also others.
pub data Parts : Type 0 where
  only : Part → Parts
  also : Part → Parts → Parts
  deriving Discrete as Parts-discrete

-- T13: "`(eq T U)` is equality; `(mem T U)` is T : U; `(sub T U)` is T :: U; `(obj T)` is T[]"; an arrow atom or a molecule is its object
-- and its parts.
pub data Atom : Type 0 where
  link : Link → Term → Term → Atom
  obj : Term → Atom
  arrows : Term → Parts → Atom
  deriving Discrete as Atom-discrete

-- T13: `(ARROW O M (T ...) R)`.
abbrev pub method : Arrow → Term → Term → Terms → Result → Atom
method a o m ts r = arrows o (only (part a m ts r))

-- T16: "`(+ ATOM)` is a positive literal, `(- ATOM)` a negative one."
pub data Literal : Type 0 where
  lit : Sign → Atom → Literal
  deriving Discrete as Literal-discrete

-- T16: "`(or LIT ...)` is the clause of these literals, `(or)` the empty one."
abbrev pub Clause : Type 0
Clause = List Literal

-- T9: "`(by RULE A I B J K LET LET CLAUSE)` is a step."
pub record Step : Type 0 where
  pub rule : Rule
  pub a : ℕ
  pub i : ℕ
  pub b : ℕ
  pub j : ℕ
  pub k : ℕ
  pub first : Terms
  pub second : Terms
  pub claim : Clause

-- T7, T8, T9: `(sym K)`, `(in CLAUSE)`, `(by ...)`. T1: a line "is one form".
pub data Line : Type 0 where
  sym : ℕ → Line
  input : Clause → Line
  by : Step → Line
