-- Items after one space each, up to the closing bracket: terms and literals alike.
use Prim.Native.Nat.{ℕ, zero, suc, ◌≤◌, ◌<◌}
use mathlib.Core.Path.{◌≡◌, refl, sym, ◌∙◌}
use mathlib.Core.List.{List, [], ◌∷◌}
use mathlib.Core.Logic.{◌↔◌}
use native.Mathlib.Omega.{arith}
use lib.ListN.{length}
use lib.Dec.{T, le→leb}
use Rattle.logic.specs.Syntax.{Term, Terms, nil, cons, Part}
use Rattle.text.specs.Write.{Writer, ◌∘◌, word, put_term, put_terms, put_bracketed, put_literal, put_literals}
use Rattle.text.specs.Form.{depth_ofs, numbereds, formed_term, formed_terms, formed_part, formed_literal, formed_clause}
use Rattle.text.specs.Read.{got, Reader, strip, one_of, read_next, read_items, read_many}
use Rattle.text.proofs.Tests.{T_and}
use Rattle.text.proofs.Gives.{Gives, nothing, weaken, Sound, Complete, seq, returned, none, branch, one_of_meets, Agree, one_of_cong, after_cong}
use Rattle.text.proofs.Formed.{terms_formed}
use Rattle.text.proofs.Plain.{Plain, put_grows}

-- S lists items of A, written by puts, formed as G says.
pub record Items {A S : Type 0} (empty : S) (more : A → S → S) (put : A → Writer) (puts : S → Writer) (F : A → Type 0) (G : S → Type 0) : Type 1 where
  pub put_empty : (rest : List ℕ) → puts empty rest ≡ rest
  pub put_more : (a : A) (s : S) (rest : List ℕ) → puts (more a s) rest ≡ word " " (put a (puts s rest))
  pub formed_empty : G empty
  pub formed_more : (a : A) (s : S) → G (more a s) ↔ F a × G s
  pub induct : (P : S → Type 0) → P empty → ((a : A) (s : S) → P s → P (more a s)) → (s : S) → P s

terms_induct : (P : Terms → Type 0) → P nil → ((t : Term) (ts : Terms) → P ts → P (cons t ts)) → (ts : Terms) → P ts
terms_induct P e m nil = e
terms_induct P e m (cons t ts) = m t ts (terms_induct P e m ts)

pub terms : (d : ℕ) → Items nil cons put_term put_terms (λ t. T (formed_term d t)) (λ ts. T (formed_terms d ts))
unfolding put_terms formed_terms numbereds depth_ofs
terms d = record { put_empty = λ _. refl; put_more = λ _ _ _. refl; formed_empty = simp T_and (omega (arith, le→leb), tt); formed_more = terms_formed d; induct = terms_induct }

pub literals : (d : ℕ) → Items [] ◌∷◌ put_literal put_literals (λ l. T (formed_literal d l)) (λ c. T (formed_clause d c))
unfolding put_literals formed_clause
literals d = record { put_empty = λ _. refl; put_more = λ _ _ _. refl; formed_empty = tt; formed_more = λ l c. T_and (formed_literal d l) (formed_clause d c); induct = λ P e m c. elim c as P [ [] ↦ e | l ∷ (ls → h) ↦ m l ls h ] }

-- A list of parts.
unfoldable pub put_part_list : List Part → Writer
put_part_list [] = word ""
put_part_list (p ∷ ps) = word " " ∘ put_bracketed p ∘ put_part_list ps

unfoldable pub AllFormed : ℕ → List Part → Type 0
AllFormed d [] = Unit
AllFormed d (p ∷ ps) = T (formed_part d p) × AllFormed d ps

pub part_list : (d : ℕ) → Items [] ◌∷◌ put_bracketed put_part_list (λ p. T (formed_part d p)) (AllFormed d)
unfolding put_part_list AllFormed
part_list d = record {
  put_empty = λ _. refl;
  put_more = λ _ _ _. refl;
  formed_empty = tt;
  formed_more = λ p ps. (λ h. h, λ h. h);
  induct = λ P e m c. elim c as P [ [] ↦ e | p ∷ (ps → h) ↦ m p ps h ];
}

module _ {A S : Type 0} {empty : S} {more : A → S → S} {put : A → Writer} {puts : S → Writer} {F : A → Type 0} {G : S → Type 0} (I : Items empty more put puts F G) {read : Reader A} (sound : Sound put F read) where
  pub items_sound : (k : ℕ) → Sound (λ s. puts s ∘ word ")") G (read_items empty more read k)
  unfolding read_items read_next
  items_sound zero = record { at = λ bs. nothing }
  items_sound (suc k) = one_of_meets (branch (returned λ rest. (sym (I.put_empty _), I.formed_empty)) (branch (seq sound λ a f. seq (items_sound k) λ s g. returned λ rest. (sym (I.put_more a s _), (I.formed_more a s).1 (f, g))) none))

  pub many_sound : Sound (λ s. puts s ∘ word ")") G (read_many empty more read)
  unfolding read_many
  many_sound = record { at = λ bs. (items_sound (length bs)).at bs }

  module _ (plain : (a : A) → Plain (put a)) where
    shrinks : (bs : List ℕ) → Gives (λ _ rest. length rest ≤ length bs) (read bs)
    shrinks bs = weaken (sound.at bs) (λ a rest q. rw q.0 (put_grows (plain a) rest))

    -- The others are read at fewer bytes.
    next_cong : (others also : Reader S) (bs : List ℕ) → ((rest : List ℕ) → length rest < length bs → others rest ≡ also rest) → read_next empty more read others bs ≡ read_next empty more read also bs
    unfolding read_next
    next_cong others also bs h =
        one_of_cong (Agree.branch (λ _ _. refl) (Agree.branch (λ mid e. after_cong (shrinks mid) (λ a rest l. rw (h rest (rw e (omega arith))))) Agree.none))

    -- Any bound that is at least the bytes left reads the same.
    pub items_fuel : (j k : ℕ) (bs : List ℕ) → length bs ≤ j → length bs ≤ k → read_items empty more read j bs ≡ read_items empty more read k bs
    unfolding read_items read_next one_of strip
    items_fuel zero zero bs g h = refl
    items_fuel zero (suc k) [] g h = refl
    items_fuel zero (suc k) (b ∷ bs) g h = absurd (omega arith)
    items_fuel (suc j) zero [] g h = refl
    items_fuel (suc j) zero (b ∷ bs) g h = absurd (omega arith)
    items_fuel (suc j) (suc k) bs g h = next_cong _ _ bs (λ rest l. items_fuel j k rest (omega arith) (omega arith))

    pub many_step : (bs : List ℕ) → read_many empty more read bs ≡ read_next empty more read (read_many empty more read) bs
    unfolding read_items read_many
    many_step bs =
        items_fuel (length bs) (suc (length bs)) bs (omega arith) (omega arith)
        ∙ next_cong _ _ bs (λ rest l. items_fuel (length bs) (length rest) rest (omega arith) (omega arith))

    pub many_complete : Complete put F read → Complete (λ s. puts s ∘ word ")") G (read_many empty more read)
    unfolding read_next one_of strip
    many_complete c =
        I.induct (λ s. G s → (rest : List ℕ) → read_many empty more read (puts s (word ")" rest)) ≡ got s rest)
        (λ g rest. rw (I.put_empty, many_step))
        (λ a s ih g rest. let (f, h) = (I.formed_more a s).0 g in rw (I.put_more, many_step, c a f _, ih h rest))
