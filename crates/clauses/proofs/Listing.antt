-- The entries of a list, and the parts of a molecule, one after another.
use Rattle.std.proofs.Common.{◌≡◌, ◌<◌, ◌≤◌, ℕ, suc, ◌+◌, ◌-◌, List, [], ◌∷◌, ◌++◌, length, map, take, set, Option, Some, None, Bor, refl, sym, ◌∙◌, append_assoc, append-nil, arith}
use Rattle.std.proofs.lemmas.List.{length-map, length-set, map-set, take_all, take_more_set, take-set, take-map}
use Rattle.std.specs.Option.{unwrap_or}
use Rattle.text.specs.Read.{bad, got, Reader}
use Rattle.text.specs.Answers.{passed}
use Rattle.clauses.specs.Entries.{after, next_entry, one_more, items, texts}
use Rattle.clauses.specs.Parts.{PartIn, next_part, shown, all_shown}
use Rattle.clauses.specs.declared.parts.Part.{Part}

-- The bytes after a word, or none.
pub after_word : (p : Option (Bor (List ℕ))) (d : Bor (List ℕ)) → d.now ≡ [] → (unwrap_or p d).now ≡ after (passed p)
unfolding after
after_word None d z = z
after_word (Some r) d z = refl

-- What is read from item n on: the one that stands next and those after it; none where none does.
module _ {A : Type 0} (read : Reader A) (most : ℕ) where
  next_item : (n : ℕ) (rest : List ℕ) {x : A} {rest' : List ℕ} → n < most → got x rest' ≡ read rest → items read (most - n) rest ≡ x ∷ items read (most - (n + 1)) rest'
  unfolding items one_more
  next_item n rest h e = let s : most - n ≡ suc (most - (n + 1)) = omega arith in rw (s, ← e)

  no_item : (n : ℕ) (rest : List ℕ) → n < most → bad ≡ read rest → items read (most - n) rest ≡ []
  unfolding items one_more
  no_item n rest h e = let s : most - n ≡ suc (most - (n + 1)) = omega arith in rw (s, ← e)

-- The first n items, as `see` shows them, and those that follow, with one more, and where all are there.
module _ {A B : Type 0} (see : B → A) (read : Reader A) (most : ℕ) (es : List B) (n : ℕ) where
  module _ (rest : List ℕ) (e : length es ≡ most) where
    seen_keep : length (map see es) ≡ most
    seen_keep = omega (arith, length-map es see)

    -- Where none stands next the first n are all.
    none_next : (x : B) → bad ≡ read rest → n < most → map see (take n (set es n x)) ≡ take n (map see es) ++ items read (most - n) rest
    none_next x b h = rw (take-set es n x, no_item read most n rest h b) (sym (take-map see n es) ∙ sym (append-nil (take n (map see es))))

    one_more_set : (x : B) → n < most → take (n + 1) (map see (set es n x)) ++ items read (most - (n + 1)) rest ≡ take n (map see es) ++ see x ∷ items read (most - (n + 1)) rest
    one_more_set x h =
        let m = take_more_set (map see es) n (see x) (omega (arith, seen_keep)) in
        rw (map-set see es n x, m) (append_assoc (take n (map see es)) (see x ∷ []) (items read (most - (n + 1)) rest))

    all_there : most ≤ n → take n (map see es) ++ items read (most - n) rest ≡ map see es
    unfolding items
    all_there h =
        let z : most - n ≡ 0 = omega arith in
        let a = take_all n (map see es) (omega (arith, seen_keep)) in
        rw (z, a) (append-nil (map see es))

pub set_keeps : {B : Type 0} (es : List B) (n : ℕ) (x : B) → length (set es n x) ≡ length es
set_keeps es n x = length-set es n x

-- Of the entries of a list.
abbrev bytes_of : Bor (List ℕ) → List ℕ
bytes_of e = e.now

pub next_read : (n : ℕ) (rest : List ℕ) {x rest' : List ℕ} → n < 32 → got x rest' ≡ next_entry rest → items next_entry (32 - n) rest ≡ x ∷ items next_entry (32 - (n + 1)) rest'
next_read n rest h e = next_item next_entry 32 n rest h e

pub first_read : (es : List (Bor (List ℕ))) (n : ℕ) (rest : List ℕ) → length es ≡ 32 → (x : Bor (List ℕ)) → bad ≡ next_entry rest → n < 32 → texts (take n (set es n x)) ≡ take n (texts es) ++ items next_entry (32 - n) rest
first_read es n rest e x b h = none_next bytes_of next_entry 32 es n rest e x b h

pub one_set : (es : List (Bor (List ℕ))) (n : ℕ) (rest : List ℕ) → length es ≡ 32 → (x : Bor (List ℕ)) → n < 32 → take (n + 1) (texts (set es n x)) ++ items next_entry (32 - (n + 1)) rest ≡ take n (texts es) ++ x.now ∷ items next_entry (32 - (n + 1)) rest
one_set es n rest e x h = one_more_set bytes_of next_entry 32 es n rest e x h

pub all_set : (es : List (Bor (List ℕ))) (n : ℕ) (rest : List ℕ) → length es ≡ 32 → 32 ≤ n → take n (texts es) ++ items next_entry (32 - n) rest ≡ texts es
all_set es n rest e h = all_there bytes_of next_entry 32 es n rest e h

pub ruleset listing = (after_word, next_read, set_keeps, first_read, one_set, all_set)

-- Of the parts of a molecule.
pub part_read : (n : ℕ) (rest : List ℕ) {x : PartIn} {rest' : List ℕ} → n < 16 → got x rest' ≡ next_part rest → items next_part (16 - n) rest ≡ x ∷ items next_part (16 - (n + 1)) rest'
part_read n rest h e = next_item next_part 16 n rest h e

pub first_parts : (es : List Part) (n : ℕ) (rest : List ℕ) → length es ≡ 16 → (x : Part) → bad ≡ next_part rest → n < 16 → all_shown (take n (set es n x)) ≡ take n (all_shown es) ++ items next_part (16 - n) rest
first_parts es n rest e x b h = none_next shown next_part 16 es n rest e x b h

pub part_set : (es : List Part) (n : ℕ) (rest : List ℕ) → length es ≡ 16 → (x : Part) → n < 16 → take (n + 1) (all_shown (set es n x)) ++ items next_part (16 - (n + 1)) rest ≡ take n (all_shown es) ++ shown x ∷ items next_part (16 - (n + 1)) rest
part_set es n rest e x h = one_more_set shown next_part 16 es n rest e x h

pub all_parts : (es : List Part) (n : ℕ) (rest : List ℕ) → length es ≡ 16 → 16 ≤ n → take n (all_shown es) ++ items next_part (16 - n) rest ≡ all_shown es
all_parts es n rest e h = all_there shown next_part 16 es n rest e h

pub ruleset parting = (after_word, part_read, set_keeps, first_parts, part_set, all_parts)

-- One part alone.
pub one_found : (es : List Part) (x : Part) → length es ≡ 16 → all_shown (take 1 (set es 0 x)) ≡ shown x ∷ []
one_found [] x e = absurd (omega arith)
one_found (y ∷ es) x e = refl
