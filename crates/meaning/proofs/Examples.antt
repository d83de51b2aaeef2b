-- Three texts, one of each answer, and the inputs of the two that have a model; two texts with a signature that has none; one with
-- molecules.
use Prim.Native.Nat.{ℕ}
use Prim.Native.String.{String}
use mathlib.Core.List.{List, [], ◌∷◌}
use Rattle.logic.specs.declared.Link.TheVariants.{Mem}
use Rattle.logic.specs.Rules.{plus}
use Rattle.logic.specs.Syntax.{var, app, nil, link, Clause}
use Rattle.meaning.specs.Corners.{text_of}

-- The second has a model of its inputs, and so has the third, whose step is refused.
unfoldable pub refuted_text : List ℕ
refuted_text = text_of ("(sym 0)" ∷ "(in (or (- (sub (f 0) (f 0)))))" ∷ "(by refl 0 0 0 0 0 (let (f 0)) (let) (or (+ (sub (f 0) (f 0)))))" ∷ "(by res 0 0 1 0 0 (let) (let) (or))" ∷ [])

unfoldable pub open_text : List ℕ
open_text = text_of ("(sym 0)" ∷ "(in (or (+ (mem (v 0) (f 0)))))" ∷ [])

unfoldable pub refused_text : List ℕ
refused_text = text_of ("(sym 0)" ∷ "(in (or (+ (mem (v 0) (f 0)))))" ∷ "(by refl 0 0 0 0 0 (let) (let) (or))" ∷ [])

-- + mem((v 0), (f 0))
abbrev pub modelled : List Clause
modelled = (plus (link Mem (var 0) (app 0 nil)) ∷ []) ∷ []

-- A signature with none, a link, and what comes after them.
abbrev bare_lines : String → List String → List String
bare_lines second steps = "(sym 0)" ∷ "(sym 0)" ∷ "(in (or (+ (mt (f 0) (f 0) ((f 0)) none))))" ∷ second ∷ steps

-- inh and inp pass it to the subclass (f 1), first as the object and then as the argument.
unfoldable pub bare_text : List ℕ
bare_text =
    text_of (bare_lines "(in (or (+ (sub (f 1) (f 0)))))"
    ("(in (or (- (mt (f 1) (f 0) ((f 1)) none))))"
    ∷ "(by inh 0 0 1 0 0 (let) (let) (or (+ (mt (f 1) (f 0) ((f 0)) none))))"
    ∷ "(by inp 3 0 1 0 0 (let) (let) (or (+ (mt (f 1) (f 0) ((f 1)) none))))"
    ∷ "(by res 2 0 4 0 0 (let) (let) (or))"
    ∷ []))

-- out does not take it.
unfoldable pub bare_out_text : List ℕ
bare_out_text =
    text_of (bare_lines "(in (or (+ (sub (f 0) (f 1)))))" ("(by out 0 0 1 0 0 (let) (let) (or (+ (mt (f 0) (f 0) ((f 0)) (f 1)))))" ∷ []))

-- mer has A's parts and then B's, pro takes the last of them, and res has what fits into the molecule.
unfoldable pub molecule_text : List ℕ
molecule_text =
    text_of
    ("(sym 0)"
    ∷ "(in (or (+ (mol (f 0) (sv (f 0) () (f 0)) (si (f 0) () (f 0))))))"
    ∷ "(in (or (+ (mv (f 0) (f 0) () (f 0)))))"
    ∷ "(in (or (- (mol (f 0) (mv (f 0) () none) (si (f 0) () (f 0))))))"
    ∷ "(by mer 0 0 1 0 0 (let) (let) (or (+ (mol (f 0) (sv (f 0) () (f 0)) (si (f 0) () (f 0)) (mv (f 0) () (f 0))))))"
    ∷ "(by pro 3 0 0 0 2 (let) (let) (or (+ (mv (f 0) (f 0) () (f 0)))))"
    ∷ "(by res 2 0 3 0 0 (let) (let) (or))"
    ∷ [])
