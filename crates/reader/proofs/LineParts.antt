-- Where the parts of a line stand.
use Prim.Native.Nat.{ℕ, ◌+◌, ◌-◌}
use mathlib.Core.Path.{◌≡◌}
use mathlib.Core.List.{List, ◌++◌}
use native.Mathlib.Omega.{arith}
use lib.ListN.{length, drop, length-append}
use lib.Seq.{drop_at}
use Rattle.logic.specs.Syntax.{Clause, Step, input, by}
use Rattle.text.specs.Read.{read_line}
use Rattle.text.specs.Words.{rule_word}
use Rattle.text.specs.Write.{Writer, ◌∘◌, word, put_number, put_step, put_line, write_line}
use Rattle.text.specs.Form.{form}
use Rattle.reader.specs.LineAt.{from_clause, from_second, from_first, place_of}
use Rattle.text.proofs.Plain.{Plain, ◌⨾◌, plain, number_plain, rule_plain, let_plain}
use Rattle.text.proofs.Sound.{line_sound}

-- The parts of a line that was read begin at their places.
from_place : {put : Writer} → Plain put → (rest : List ℕ) {s : List ℕ} → s ≡ put rest → drop (place_of s rest) s ≡ rest
from_place p rest h =
    let n : length (p.front ++ rest) ≡ length p.front + length rest = length-append p.front rest in
    rw (h, p.puts rest) (drop_at p.front rest (length (p.front ++ rest) - length rest) (omega arith))

step_front : (st : Step)
    → Plain (word "(by " ∘ word (rule_word st.rule) ∘ word " " ∘ put_number st.a ∘ word " "
    ∘ put_number st.i ∘ word " " ∘ put_number st.b ∘ word " " ∘ put_number st.j ∘ word " " ∘ put_number st.k ∘ word " ")
step_front st =
    plain "(by " tt ⨾ rule_plain st.rule ⨾ plain " " tt ⨾ number_plain st.a ⨾ plain " " tt ⨾ number_plain st.i ⨾ plain " " tt
    ⨾ number_plain st.b ⨾ plain " " tt ⨾ number_plain st.j ⨾ plain " " tt ⨾ number_plain st.k ⨾ plain " " tt

module _ (d : ℕ) (s : List ℕ) where
  pub input_place : {c : Clause} → read_line d s ≡ form (input c) → drop (place_of s (from_clause c)) s ≡ from_clause c
  unfolding write_line put_line from_clause
  input_place {c} h = from_place (plain "(in " tt) (from_clause c) (line_sound d s (input c) h).0

  module _ {st : Step} (h : read_line d s ≡ form (by st)) where
    pub first_place : drop (place_of s (from_first st)) s ≡ from_first st
    unfolding write_line put_line put_step from_first from_second from_clause
    first_place = from_place (step_front st) (from_first st) (line_sound d s (by st) h).0

    pub second_place : drop (place_of s (from_second st)) s ≡ from_second st
    unfolding write_line put_line put_step from_first from_second from_clause
    second_place = from_place (step_front st ⨾ let_plain st.first ⨾ plain " " tt) (from_second st) (line_sound d s (by st) h).0

    pub claim_place : drop (place_of s (from_clause st.claim)) s ≡ from_clause st.claim
    unfolding write_line put_line put_step from_first from_second from_clause
    claim_place =
        from_place (step_front st ⨾ let_plain st.first ⨾ plain " " tt ⨾ let_plain st.second ⨾ plain " " tt) (from_clause st.claim)
        (line_sound d s (by st) h).0
