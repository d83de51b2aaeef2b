-- A text and its lines.
use Prim.Native.Nat.{ℕ}
use mathlib.Core.Logic.{◌↔◌}
use mathlib.Core.Path.{◌≡◌, refl, sym, ◌∙◌, ap}
use mathlib.Core.Bool.{Bool, true, false, not, cond}
use mathlib.Core.List.{List, [], ◌∷◌, ◌++◌, map}
use native.Mathlib.Omega.{arith}
use lib.Dec.{T, eqb, eqb→eq, T_not}
use Rattle.logic.specs.Syntax.{Line}
use Rattle.text.specs.Words.{line_end}
use Rattle.text.specs.Write.{write_line, write_lines}
use Rattle.text.specs.Form.{formed_line, formed_lines, form}
use Rattle.text.specs.Read.{read_line, read_raw}
use Rattle.text.specs.Split.{Raw, ended, unended, push, split}
use Rattle.text.proofs.Tests.{T_and, on_test}
use Rattle.text.proofs.Plain.{unbroken, line_plain, in_front, unbroken_put}
use Rattle.text.proofs.Sound.{line_sound}
use Rattle.text.proofs.Complete.{line_complete}

split_push : (b : ℕ) (bs : List ℕ) → T (not (eqb b line_end)) → split (b ∷ bs) ≡ push b (split bs)
unfolding split
split_push b bs n = on_test (λ x. x ≡ push b (split bs)) (eqb b line_end) (λ t. absurd (T_not (eqb b line_end) n t)) (λ _. refl)

-- Up to the first line end, and where there is none.
pub split_line : (l rest : List ℕ) → T (unbroken l) → split (l ++ (line_end ∷ rest)) ≡ ended l ∷ split rest
unfolding split push
split_line [] rest t = refl
split_line (b ∷ l) rest t = let (n, u) = simp T_and at t in split_push b (l ++ (line_end ∷ rest)) n ∙ ap (push b) (split_line l rest u)

pub split_end : (b : ℕ) (l : List ℕ) → T (unbroken (b ∷ l)) → split (b ∷ l) ≡ unended (b ∷ l) ∷ []
unfolding split push
split_end b [] t = let (n, _) = simp T_and at t in split_push b [] n
split_end b (c ∷ l) t = let (n, u) = simp T_and at t in split_push b (c ∷ l) n ∙ ap (push b) (split_end c l (simp T_and u))

pub line_unbroken : (l : Line) → T (unbroken (write_line l))
unfolding write_line
line_unbroken l = unbroken_put (line_plain l)

pub split_written : (ls : List Line) → split (write_lines ls) ≡ map (λ l. ended (write_line l)) ls
unfolding write_lines write_line split
split_written [] = refl
split_written (l ∷ ls) = rw (in_front (line_plain l)) (split_line (write_line l) (write_lines ls) (line_unbroken l) ∙ ap (λ x. ended (write_line l) ∷ x) (split_written ls))

-- The lines' bytes, one after the other.
unfoldable pub lines_bytes : List Raw → List ℕ
lines_bytes [] = []
lines_bytes (ended bs ∷ lines) = bs ++ (line_end ∷ lines_bytes lines)
lines_bytes (unended bs ∷ lines) = bs ++ lines_bytes lines

bytes_push : (b : ℕ) (lines : List Raw) → lines_bytes (push b lines) ≡ b ∷ lines_bytes lines
unfolding lines_bytes push
bytes_push b [] = refl
bytes_push b (ended l ∷ lines) = refl
bytes_push b (unended l ∷ lines) = refl

pub bytes_split : (bs : List ℕ) → lines_bytes (split bs) ≡ bs
unfolding lines_bytes split
bytes_split [] = refl
bytes_split (b ∷ bs) = on_test (λ x. lines_bytes x ≡ b ∷ bs) (eqb b line_end) (λ t. rw (bytes_split bs, eqb→eq b line_end t)) (λ _. rw (bytes_push b (split bs), bytes_split bs))

pub lines_complete : (d : ℕ) (ls : List Line) → T (formed_lines d ls) → map (read_raw d) (split (write_lines ls)) ≡ map form ls
unfolding formed_lines read_raw write_lines split
lines_complete d [] f = refl
lines_complete d (l ∷ ls) f =
    let (g, h) = simp T_and at f in
    ap (map (read_raw d)) (split_written (l ∷ ls)) ∙ rw (line_complete d l g, sym (ap (map (read_raw d)) (split_written ls)) ∙ lines_complete d ls h)

lines_read : (d : ℕ) (lines : List Raw) (ls : List Line) → map (read_raw d) lines ≡ map form ls → (lines_bytes lines ≡ write_lines ls) × T (formed_lines d ls)
unfolding lines_bytes write_lines write_line formed_lines read_raw
lines_read d [] [] e = (refl, tt)
lines_read d [] (l ∷ ls) e = let z : ◌≡◌ {A = ℕ} 0 1 = cc in absurd (omega arith)
lines_read d (r ∷ lines) [] e = let z : ◌≡◌ {A = ℕ} 0 1 = cc in absurd (omega arith)
lines_read d (ended w ∷ lines) (l ∷ ls) e =
    let (p, f) = line_sound d w l (cc) in
    let (q, g) = lines_read d lines ls (cc) in
    (rw (p, q) (sym (in_front (line_plain l) (line_end ∷ write_lines ls))), simp T_and (f, g))
lines_read d (unended w ∷ lines) (l ∷ ls) e = let z : ◌≡◌ {A = ℕ} 0 1 = cc in absurd (omega arith)

pub lines_sound : (d : ℕ) (bs : List ℕ) (ls : List Line) → map (read_raw d) (split bs) ≡ map form ls → (bs ≡ write_lines ls) × T (formed_lines d ls)
lines_sound d bs ls e = let (j, f) = lines_read d (split bs) ls e in (sym (bytes_split bs) ∙ j, f)

-- A line is read as a form exactly if it is written so, and a text's lines exactly if the text is written so.
pub line_exactly : (d : ℕ) (bs : List ℕ) (l : Line) → (read_line d bs ≡ form l) ↔ ((bs ≡ write_line l) × T (formed_line d l))
line_exactly d bs l = (line_sound d bs l, λ w. ap (read_line d) w.0 ∙ line_complete d l w.1)

pub raw_exactly : (d : ℕ) (r : Raw) (l : Line) → (read_raw d r ≡ form l) ↔ ((r ≡ ended (write_line l)) × T (formed_line d l))
unfolding read_raw
raw_exactly d (ended bs) l = (
  λ e. let (p, f) = line_sound d bs l e in (ap ended p, f),
  λ w. let e = w.0 in (line_exactly d bs l).1 (cc, w.1),
)
raw_exactly d (unended bs) l = (λ e. let z : ◌≡◌ {A = ℕ} 0 1 = cc in absurd (omega arith), λ w. let e = w.0 in let z : ◌≡◌ {A = ℕ} 0 1 = cc in absurd (omega arith))

pub lines_exactly : (d : ℕ) (bs : List ℕ) (ls : List Line) → (map (read_raw d) (split bs) ≡ map form ls) ↔ ((bs ≡ write_lines ls) × T (formed_lines d ls))
lines_exactly d bs ls = (lines_sound d bs ls, λ w. ap (λ b. map (read_raw d) (split b)) w.0 ∙ lines_complete d ls w.1)

-- Every line is ended.
unfoldable pub AllEnded : List Raw → Type 0
AllEnded [] = Unit
AllEnded (ended w ∷ raws) = AllEnded raws
AllEnded (unended w ∷ raws) = ⊥

push_ended : (b : ℕ) (ls ms : List Raw) → AllEnded (push b ls) → AllEnded ls × (push b (ls ++ ms) ≡ push b ls ++ ms)
unfolding AllEnded push
push_ended b [] ms h = absurd h
push_ended b (ended w ∷ ls) ms h = (h, refl)
push_ended b (unended w ∷ ls) ms h = absurd h

front_ended : (t : Bool) (b : ℕ) (ls ms both : List Raw) → (AllEnded ls → both ≡ ls ++ ms) → AllEnded (cond t (ended [] ∷ ls) (push b ls)) →
    cond t (ended [] ∷ both) (push b both) ≡ cond t (ended [] ∷ ls) (push b ls) ++ ms
unfolding AllEnded
front_ended true b ls ms both e h = ap (λ x. ended [] ∷ x) (e h)
front_ended false b ls ms both e h = let (k, q) = push_ended b ls ms h in ap (push b) (e k) ∙ q

-- The lines of two texts in a row, where those of the first are ended.
pub split_append : (base job : List ℕ) → AllEnded (split base) → split (base ++ job) ≡ split base ++ split job
unfolding split AllEnded
split_append [] job h = refl
split_append (b ∷ bs) job h = front_ended (eqb b line_end) b (split bs) (split job) (split (bs ++ job)) (split_append bs job) h
