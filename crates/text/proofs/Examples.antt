-- The form on texts: example C1 of TEXT-FORM, and the edges of numbers and of depth.
use Prim.Native.Nat.{ℕ, zero, suc}
use Prim.Native.String.{String}
use mathlib.Core.Path.{◌≡◌, refl}
use mathlib.Core.Bool.{Bool, true, false, ◌&&◌, beq}
use lib.Dec.{T}
use mathlib.Core.List.{List, [], ◌∷◌, map}
use Rattle.logic.specs.declared.Sign.TheVariants.{Positive, Negative}
use Rattle.logic.specs.declared.Link.TheVariants.{Mem, Sub}
use Rattle.logic.specs.declared.Rule.TheVariants.{Inc, Res}
use Rattle.logic.specs.Syntax.{Term, var, app, nil, cons, link, lit, Line, sym, input, by, may_be_none}
use Rattle.text.specs.Words.{bytes}
use Rattle.text.specs.Write.{put_digits, put_number, put_term, put_atom, put_literal, put_literals, put_clause, put_let, put_step, put_line, write_lines}
use Rattle.text.specs.Form.{Reading, form, no_form}
use Rattle.text.specs.Read.{bad, got, strip, one_of, digit, goes_on, read_digits, read_number, read_next, read_items, read_many, read_variable, read_applied, read_term, read_arguments, read_result, read_link, read_object, read_method, read_part, read_kind, read_atom, read_sign, read_literal, read_clause, read_let, read_rule, read_sym, read_input, read_step, read_form, whole, read_line, read_raw}
use Rattle.text.specs.Split.{ended, unended, push, split}

abbrev text : List ℕ
text = bytes "(sym 0)\n(sym 0)\n(sym 0)\n(in (or (+ (mem (f 0) (f 1)))))\n(in (or (+ (sub (f 1) (f 2)))))\n(in (or (- (mem (v 0) (f 2)))))\n(by inc 0 0 1 0 0 (let) (let) (or (+ (mem (f 0) (f 2)))))\n(by res 2 0 3 0 0 (let (f 0)) (let) (or))\n"

-- a constant
abbrev c : ℕ → Term
c n = app n nil

abbrev lines : List Line
lines =
    sym 0 ∷ sym 0 ∷ sym 0
    ∷ input (lit Positive (link Mem (c 0) (c 1)) ∷ [])
    ∷ input (lit Positive (link Sub (c 1) (c 2)) ∷ [])
    ∷ input (lit Negative (link Mem (var 0) (c 2)) ∷ [])
    ∷ by (record { rule = Inc; a = 0; i = 0; b = 1; j = 0; k = 0; first = nil; second = nil; claim = lit Positive (link Mem (c 0) (c 2)) ∷ [] })
    ∷ by (record { rule = Res; a = 2; i = 0; b = 3; j = 0; k = 0; first = cons (c 0) nil; second = nil; claim = [] })
    ∷ []

C1-read : map (read_raw 16) (split text) ≡ map form lines
unfolding push split read_raw read_line read_form whole read_sym read_input read_step read_clause read_let read_rule read_literal read_sign read_atom read_kind read_link read_term read_applied read_variable read_many read_items read_next read_number read_digits digit one_of strip
C1-read = refl

C1-written : write_lines lines ≡ text
unfolding write_lines put_line put_step put_let put_clause put_literals put_literal put_atom put_term put_number put_digits
C1-written = refl

abbrev is_form : Reading → Bool
is_form (form l) = true
is_form no_form = false

-- each of the lines, read: a form or not
abbrev forms_are : Bool → List String → Bool
forms_are b [] = true
forms_are b (w ∷ ws) = beq b (is_form (read_line 16 (bytes w))) && forms_are b ws

forms : T (forms_are true ("(sym 65535)" ∷ "(sym 0)" ∷ "(sym 10)" ∷ "(in (or))" ∷ "(in (or (+ (sv (f 0) (v 7) () (f 1 (f 2) (v 0))))))" ∷ "(in (or (- (mt (f 0) (f 0) ((f 0) (f 1)) none)) (+ (obj (v 1)))))" ∷ []))
unfolding read_line read_form whole read_sym read_input read_clause read_literal read_sign read_atom read_kind read_object read_method read_part read_arguments read_result read_term read_applied read_variable read_many read_items read_next read_number read_digits goes_on digit one_of strip may_be_none
forms = tt

others : T (forms_are false ("(sym 65536)" ∷ "(sym 00)" ∷ "(sym 01)" ∷ "(sym )" ∷ "(sym 1) " ∷ " (sym 1)" ∷ "(sym  1)" ∷ "" ∷ "(in (or ))" ∷ "(by non 0 0 0 0 0 (let) (let) (or))" ∷ "(in (or (+ (sv (f 0) (f 0) () none))))" ∷ "(in (or (+ (sv (f 0) (f 0) ( (f 0)) (f 0)))))" ∷ []))
unfolding read_line read_form whole read_sym read_input read_step read_rule read_clause read_literal read_sign read_atom read_kind read_method read_part read_arguments read_result read_term read_applied read_many read_items read_next read_number read_digits goes_on digit one_of strip may_be_none
others = tt

-- depth 16 and 17
abbrev nested : ℕ → Term
nested zero = c 0
nested (suc k) = app 0 (cons (nested k) nil)

deep : read_term 16 (put_term (nested 15) []) ≡ got (nested 15) []
unfolding read_term read_applied read_many read_items read_next read_number read_digits digit one_of strip put_term put_number put_digits
deep = refl

deeper : read_term 16 (put_term (nested 16) []) ≡ bad
unfolding read_term read_applied read_many read_items read_next read_number read_digits digit one_of strip put_term put_number put_digits
deeper = refl

-- an empty text, a text with no line end, a line after the last line end
lines_of_lem : split [] ∷ split (bytes "ab") ∷ split (bytes "a\n\nb") ∷ [] ≡ [] ∷ (unended (bytes "ab") ∷ []) ∷ (ended (bytes "a") ∷ ended [] ∷ unended (bytes "b") ∷ []) ∷ []
unfolding split push
lines_of_lem = refl
