-- Nothing here is to be believed: the laws in proofs/ say what it gives on written clauses.
-- R2 in bytes: "variable N of A becomes term N of the first list, variable N of B becomes term N of the second list".
use Rattle.std.specs.Prelude.{ℕ, zero, suc, ◌+◌, cond, List, [], ◌∷◌, ◌++◌, eqb, length}
use Rattle.text.specs.Read.{Parsed, bad, got, Reader, and_then, ◌>>=◌, ◌>>◌, return, ◌⇒◌, or_else, one_of, strip, skip, read_number}
use Rattle.text.specs.Access.{skip_item}

-- Bytes in front of what is read.
unfoldable pub prefixed : List ℕ → Parsed (List ℕ) → Parsed (List ℕ)
prefixed w bad = bad
prefixed w (got ws rest) = got (w ++ ws) rest

-- T1, "nested brackets": the inside of an item up to its closing bracket, nested items by `item`. The number bounds the steps.
unfoldable pub inside_up_to : Reader (List ℕ) → ℕ → Reader (List ℕ)
inside_up_to item zero bs = bad
inside_up_to item (suc k) [] = bad
inside_up_to item (suc k) (b ∷ bs) =
    let part = and_then (item (b ∷ bs)) (λ w rest. prefixed w (inside_up_to item k rest)) in
    let on = prefixed (b ∷ []) (inside_up_to item k bs) in
    cond (eqb b 41) (got (41 ∷ []) bs) (cond (eqb b 40) part on)

unfoldable pub inside : Reader (List ℕ) → Reader (List ℕ)
inside item bs = inside_up_to item (length bs) bs

-- A variable's number, after "(v ".
unfoldable pub read_index : Reader ℕ
read_index = do
  n ← read_number
  skip ")"
  return n

-- A variable, from its number on: its entry's bytes.
unfoldable pub indexed : (ℕ → List ℕ) → Reader (List ℕ)
indexed entry = read_index >>= (λ n. return (entry n))

-- The variables' entries; the hole, as the number of bytes from there to the end; what goes into it, at a depth.
pub record Filler : Type 0 where
  pub entry : ℕ → List ℕ
  pub hole : ℕ
  pub new : ℕ → Parsed (List ℕ)

-- The item in the hole is passed, and other bytes stand for it.
unfoldable pub instead : Parsed (List ℕ) → Reader (List ℕ)
instead bad bs = bad
instead (got ws _) bs = got ws bs

-- The filled bytes of an item, at most so many brackets deep.
unfoldable pub fill_item : Filler → ℕ → Reader (List ℕ)
fill_item f zero bs = bad
fill_item f (suc depth) bs =
    let replaced = (skip_item >> instead (f.new depth)) bs in
    let kept = one_of (("(v " ⇒ indexed f.entry) ∷ ("(" ⇒ (λ inner. prefixed (40 ∷ []) (inside (fill_item f depth) inner))) ∷ []) bs in
    cond (eqb (length bs) f.hole) replaced kept

-- What was filled stands at the front of ts: the bytes after it in ts, and those after the item.
unfoldable pub matches : Parsed (List ℕ) → List ℕ → Parsed (List ℕ)
matches bad ts = bad
matches (got ws rest) ts = and_then (strip ws ts) (λ _ left. got left rest)

-- Two insides byte by byte, nested items by `item`, up to the closing bracket: the bytes after it in the second, and in the first.
unfoldable pub along : (List ℕ → List ℕ → Parsed (List ℕ)) → ℕ → List ℕ → List ℕ → Parsed (List ℕ)
along item zero ps ts = bad
along item (suc k) [] ts = bad
along item (suc k) (b ∷ ps) ts =
    let part = and_then (item (b ∷ ps) ts) (λ left rest. along item k rest left) in
    let closed = and_then (strip (41 ∷ []) ts) (λ _ left. got left ps) in
    let on = and_then (strip (b ∷ []) ts) (λ _ left. along item k ps left) in
    cond (eqb b 41) closed (cond (eqb b 40) part on)

-- A variable's entry against the other item, filled: the bytes are the same, and nothing is left of either.
unfoldable pub nothing_left : Parsed (List ℕ) → List ℕ → Parsed (List ℕ)
nothing_left bad rest = bad
nothing_left (got [] other) rest = got other rest
nothing_left (got (b ∷ bs) other) rest = bad

unfoldable pub both : Parsed (List ℕ) → Parsed (List ℕ) → Parsed (List ℕ)
both bad y = bad
both (got w rest) y = nothing_left (matches y w) rest

unfoldable pub turned : Parsed (List ℕ) → Parsed (List ℕ)
turned bad = bad
turned (got left rest) = got rest left

-- Two items, each filled by its own list, are the same: the bytes after the second, and after the first.
unfoldable pub same_item : Filler → Filler → ℕ → List ℕ → List ℕ → Parsed (List ℕ)
same_item f g zero ps qs = bad
same_item f g (suc depth) ps qs =
    let nested = and_then (skip "(" ps) (λ _ cs. and_then (skip "(" qs) (λ _ ds. along (same_item f g depth) (length cs) cs ds)) in
    let second = or_else (skip "(v " qs) (λ cs. turned (both (indexed g.entry cs) (fill_item f (suc depth) ps))) (λ _. nested) qs in
    or_else (skip "(v " ps) (λ cs. both (indexed f.entry cs) (fill_item g (suc depth) qs)) (λ _. second) ps

-- "Terms nest at most 16 terms deep": where they nest at most so deep, the brackets of a literal are its own, its atom's, its part's in a
-- molecule, its arguments' and those of its terms.
abbrev pub item_depth : ℕ → ℕ
item_depth depth = suc (suc (suc (suc depth)))

-- With a term in the hole, which the depth left falls for as well.
abbrev pub hole_depth : ℕ → ℕ
hole_depth depth = item_depth depth + depth
