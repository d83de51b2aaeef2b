-- Lists of terms (T11, T13, R2), and the terms of an atom from left to right (T13, R20).
use Rattle.std.specs.Prelude.{ℕ, zero, suc}
use Rattle.logic.specs.Syntax.{Term, app, Terms, nil, cons, Result, value, none, Part, part, Parts, only, also, Atom, link, obj, arrows}

-- How many terms: of a symbol (T7), of a method (T18), of a list (R3).
unfoldable pub count : Terms → ℕ
count nil = zero
count (cons t ts) = suc (count ts)

-- R2: "term N of the .. list", or d past its end.
unfoldable pub entry_or : Term → Terms → ℕ → Term
entry_or d nil n = d
entry_or d (cons t ts) zero = t
entry_or d (cons t ts) (suc n) = entry_or d ts n

-- R20, "from left to right": one list behind another.
unfoldable pub join : Terms → Terms → Terms
join nil us = us
join (cons t ts) us = cons t (join ts us)

-- T15: a result is a term, or none, which is no term.
unfoldable pub result_terms : Result → Terms
result_terms (value t) = cons t nil
result_terms none = nil

-- T13: "`(ARROW O M (T ...) R)` has the object O, the method M, the arguments T ..., .. and the result R": the terms of an atom,
-- "from left to right" (R20).
unfoldable pub part_terms : Part → Terms
part_terms (part a m ts r) = cons m (join ts (result_terms r))

unfoldable pub parts_terms : Parts → Terms
parts_terms (only p) = part_terms p
parts_terms (also p ps) = join (part_terms p) (parts_terms ps)

-- R20, of a molecule: "the object, then part by part the method, the arguments, the result".
unfoldable pub terms_of : Atom → Terms
terms_of (link l t u) = cons t (cons u nil)
terms_of (obj t) = cons t nil
terms_of (arrows o ps) = cons o (parts_terms ps)

-- The first n terms, and the terms behind those: the arguments, and the result after them (T13).
unfoldable pub front : ℕ → Terms → Terms
front zero ts = nil
front (suc n) nil = nil
front (suc n) (cons t ts) = cons t (front n ts)

unfoldable pub rest : ℕ → Terms → Terms
rest zero ts = ts
rest (suc n) nil = nil
rest (suc n) (cons t ts) = rest n ts

-- Term n, counted from 0 (T17), of a list that is long enough.
unfoldable pub nth : Terms → ℕ → Term
nth us n = entry_or (app 0 nil) us n

-- T15: a result with another term in place of its own; none stays.
unfoldable pub with_result : Result → Terms → Result
with_result (value t) us = value (nth us 0)
with_result none us = none

-- T13, R11: a part, an atom with the terms us in place of its own, left to right; us has as many.
unfoldable pub with_part_terms : Part → Terms → Part
with_part_terms (part a m ts r) us = part a (nth us 0) (front (count ts) (rest 1 us)) (with_result r (rest (count ts) (rest 1 us)))

-- The first part takes as many as it has, the others those behind them.
unfoldable pub with_parts_terms : Parts → Terms → Parts
with_parts_terms (only p) us = only (with_part_terms p us)
with_parts_terms (also p ps) us =
    let n = count (part_terms p) in also (with_part_terms p (front n us)) (with_parts_terms ps (rest n us))

unfoldable pub with_terms : Atom → Terms → Atom
with_terms (link l t u) us = link l (nth us 0) (nth us 1)
with_terms (obj t) us = obj (nth us 0)
with_terms (arrows o ps) us = arrows (nth us 0) (with_parts_terms ps (rest 1 us))
