-- A list of the line by the places of its entries, and by the entries: what fills a clause is the same.
use Prim.Native.Nat.{ℕ, zero, suc, ◌+◌, ◌-◌, ◌≤◌, ◌<◌}
use mathlib.Core.Bool.{cond, ◌&&◌, and-false}
use mathlib.Core.List.{List, [], ◌∷◌, ◌++◌}
use mathlib.Core.Logic.{◌⊎◌, inl, inr}
use mathlib.Core.Path.{◌≡◌, refl, sym, ap, ◌∙◌}
use native.Mathlib.Omega.{arith}
use borrow.Author.Tests.{ne_eqb, lt-ltb, le-ltb, le-leb, lt-leb}
use lib.Dec.{ltb, leb}
use lib.ListN.{length, take, drop, get_or, get_or-eq_default, replicate, length-drop}
use lib.Seq.{drop-drop}
use Rattle.std.proofs.Math.Path.{fun_ext}
use Rattle.std.specs.Prelude.{Option, Some, None}
use Rattle.logic.specs.Syntax.{Term, Terms}
use Rattle.logic.specs.Terms.{count, entry_or}
use Rattle.text.specs.Words.{bytes}
use Rattle.text.specs.Write.{word, put_term, put_terms, put_let}
use Rattle.text.specs.Read.{Parsed, bad, got, and_then, strip}
use Rattle.text.proofs.Places.{end_of, places, entry_of}
use Rattle.text.specs.Access.{skip_item, pass_item}
use Rattle.text.proofs.Nesting.{let_entry}
use Rattle.text.proofs.Gives.{Gives, nothing, gives, strip_gives}
use Rattle.text.proofs.Positions.{End, end_drop, end_trans, end_append, strip_tail, skip_tail, places_past}
use Rattle.clauses.specs.Entries.{after, itself, next_entry, one_more, items, entries}
use Rattle.clauses.proofs.Places.{strip_at, list_at}
use Rattle.filling.specs.Filled.{Filler, fill_item}
use Rattle.filling.specs.Items.{by_entries, listed, filled_in}
use Rattle.filling.proofs.Places.{plain, filled_by}
use Rattle.rules.specs.Judging.{given}
use Rattle.rules.proofs.StepPlaces.{filling_places}
use Rattle.rules.proofs.Landing.{Lands, lands, lost, land}

-- What fills a clause: nothing, or as many entries.
pub data Lists (line starts : List ℕ) : Option (List (List ℕ)) → Type 0 where
  unlisted : starts ≡ [] → Lists line starts None
  listing : {es : List (List ℕ)} → 0 < length starts → ((n : ℕ) → entry_of line starts n ≡ get_or es n []) → Lists line starts (Some es)

-- No entry stands between places past the end.
past_entry : (s : List ℕ) (m n : ℕ) → entry_of s (replicate m (length s + 1)) n ≡ []
unfolding entry_of
past_entry s m n = go (get_or (replicate m (length s + 1)) n 0) (get_or (replicate m (length s + 1)) (n + 1) 0) (or_past m (n + 1))
  where
    or_past : (m k : ℕ) → (get_or (replicate m (length s + 1)) k 0 ≡ 0) ⊎ (get_or (replicate m (length s + 1)) k 0 ≡ length s + 1)
    or_past zero k = inl refl
    or_past (suc m) zero = inr refl
    or_past (suc m) (suc k) = or_past m k

    go : (from to : ℕ) → (to ≡ 0) ⊎ (to ≡ length s + 1) → cond (ltb from to && leb to (length s)) (take (to - (from + 1)) (drop (from + 1) s)) [] ≡ []
    go from to (inl z) = rw (z, le-ltb from 0 (omega arith))
    go from to (inr z) = rw (z, lt-leb (length s + 1) (length s) (omega arith), and-false (ltb from (length s + 1)))

one_place : (s : List ℕ) (at n : ℕ) → entry_of s (at ∷ []) n ≡ []
unfolding entry_of
one_place s at n = let z : get_or (at ∷ []) (n + 1) 0 ≡ 0 = get_or-eq_default (at ∷ []) 0 {n = n + 1} (omega arith) in rw (z, le-ltb (get_or (at ∷ []) n 0) 0 (omega arith))

-- The next entry from a place: there is none, or it stands after a space, up to the next place.
pub data Next (s : List ℕ) (at : ℕ) : Parsed (Unit {0}) → Parsed (List ℕ) → Type 0 where
  no_next : Next s at bad bad
  a_next : {rest : List ℕ} → at + 1 ≤ length s - length rest → length rest ≤ length s → drop (length s - length rest) s ≡ rest →
      Next s at (got tt rest) (got (take (length s - length rest - (at + 1)) (drop (at + 1) s)) rest)

next_view : (s : List ℕ) (at : ℕ) → Next s at (pass_item (drop at s)) (next_entry (drop at s))
unfolding pass_item next_entry itself
next_view s at = go (strip_gives (32 ∷ []) (drop at s))
  where
    item : (mid : List ℕ) → drop at s ≡ 32 ∷ mid → {q : Parsed (Unit {0})} → Gives (λ _ rest. End mid rest) q → Next s at q (and_then q (λ _ rest. got (take (length mid - length rest) mid) rest))
    item mid e nothing = no_next
    item mid e (gives {rest} g) =
        let l : length s - at ≡ suc (length mid) = sym (length-drop at s) ∙ ap length e in
        let m : drop (at + 1) s ≡ mid = sym (drop-drop 1 at s) ∙ ap (drop 1) e in
        let k : length mid - length rest ≡ length s - length rest - (at + 1) = omega (arith, g.within) in
        let a : at + 1 ≤ length s - length rest = omega (arith, g.within) in
        let b : length rest ≤ length s = omega (arith, g.within) in
        rw (k, ← m) (a_next a b (end_drop s at rest (rw e (end_trans (end_append (32 ∷ []) mid) g))))

    go : {q : Parsed (Unit {0})} → Gives (λ _ rest. drop at s ≡ (32 ∷ []) ++ rest) q → Next s at (and_then q (λ _. skip_item)) (and_then q (λ _ bs. and_then (skip_item bs) (λ _ rest. got (take (length bs - length rest) bs) rest)))
    go nothing = no_next
    go (gives {rest = mid} e) = item mid e (skip_tail.tail mid)

first_entry : (s : List ℕ) (at to : ℕ) (more : List ℕ) → at + 1 ≤ to → to ≤ length s → entry_of s (at ∷ (to ∷ more)) 0 ≡ take (to - (at + 1)) (drop (at + 1) s)
unfolding entry_of
first_entry s at to more h k = rw (lt-ltb at to (omega arith), le-leb to (length s) k)

unended : (s : List ℕ) (at : ℕ) (more : List ℕ) → entry_of s (at ∷ ((length s + 1) ∷ more)) 0 ≡ []
unfolding entry_of
unended s at more = rw (lt-leb (length s + 1) (length s) (omega arith), and-false (ltb at (length s + 1)))

later_entry : (s : List ℕ) (at : ℕ) (more : List ℕ) (n : ℕ) → entry_of s (at ∷ more) (suc n) ≡ entry_of s more n
unfolding entry_of
later_entry s at more n = let e : suc n + 1 ≡ suc (n + 1) = omega arith in rw e

-- The entries from a place on.
entries_from : (s : List ℕ) (k at : ℕ) (n : ℕ) → entry_of s (places s (suc k) at) n ≡ get_or (items next_entry k (drop at s)) n []
unfolding places items end_of one_more
entries_from s zero at n = one_place s at n
entries_from s (suc k) at n = go (entries_from s k) (next_view s at)
  where
    stops : (n : ℕ) → entry_of s (at ∷ places s (suc k) (length s + 1)) n ≡ []
    stops zero = ap (λ ps. entry_of s (at ∷ ps) zero) (places_past s (suc k)) ∙ unended s at (replicate k (length s + 1))
    stops (suc n) = later_entry s at (places s (suc k) (length s + 1)) n ∙ (ap (λ ps. entry_of s ps n) (places_past s (suc k)) ∙ past_entry s (suc k) n)

    goes_on : ((at n : ℕ) → entry_of s (places s (suc k) at) n ≡ get_or (items next_entry k (drop at s)) n []) → {rest : List ℕ} → at + 1 ≤ length s - length rest → drop (length s - length rest) s ≡ rest → (n : ℕ) →
        entry_of s (at ∷ places s (suc k) (length s - length rest)) n ≡ get_or (take (length s - length rest - (at + 1)) (drop (at + 1) s) ∷ items next_entry k rest) n []
    goes_on more {rest} h d zero = first_entry s at (length s - length rest) _ h (omega arith)
    goes_on more {rest} h d (suc n) = later_entry s at (places s (suc k) (length s - length rest)) n ∙ (more (length s - length rest) n ∙ ap (λ bs. get_or (items next_entry k bs) n []) d)

    go : ((at n : ℕ) → entry_of s (places s (suc k) at) n ≡ get_or (items next_entry k (drop at s)) n []) → {q : Parsed (Unit {0})} {r : Parsed (List ℕ)} → Next s at q r →
        entry_of s (at ∷ places s (suc k) (end_of s q)) n ≡ get_or (one_more (items next_entry k) r) n []
    go more no_next = stops n
    go more (a_next h w d) = goes_on more h d n

-- The list that begins at a place.
list_same : (line : List ℕ) (at n : ℕ) → entry_of line (list_at line at) n ≡ get_or (entries (drop at line)) n []
unfolding list_at strip_at entries items next_entry strip one_more after
list_same line at n = go (land line at (strip_tail (bytes "(let")))
  where
    no_items : (k : ℕ) → items next_entry k [] ≡ []
    no_items zero = refl
    no_items (suc k) = refl

    go : {x : ℕ} {q : Parsed (Unit {0})} → Lands line x q → entry_of line (places line 33 x) n ≡ get_or (items next_entry 32 (after q)) n []
    go {x} (lands s) = entries_from line 32 x n ∙ ap (λ bs. get_or (items next_entry 32 bs) n []) s.bytes_there
    go {x} (lost e) =
        ap (λ y. entry_of line (places line 33 y) n) e
        ∙ (ap (λ ps. entry_of line ps n) (places_past line 33) ∙ (past_entry line 33 n ∙ sym (ap (λ es. get_or es n []) (no_items 32))))

-- What is found in a written list: entry v is term v.
pub written_entry : (ts : Terms) (rest : List ℕ) (v : ℕ) (d : Term) → v < count ts → v < 32 → get_or (entries (put_let ts rest)) v [] ≡ put_term (entry_or d ts v) []
unfolding list_at strip_at strip put_let
written_entry ts rest v d l h = go refl (land (put_let ts rest) 0 (strip_tail (bytes "(let")))
  where
    from : ℕ
    from = strip_at (put_let ts rest) (bytes "(let") 0

    go : {x : ℕ} → x ≡ from → Lands (put_let ts rest) x (got tt (put_terms ts (word ")" rest))) → get_or (entries (put_let ts rest)) v [] ≡ put_term (entry_or d ts v) []
    go {x} e (lands s) =
        sym (list_same (put_let ts rest) 0 v)
        ∙ (ap (λ (at : ℕ). entry_of (put_let ts rest) (places (put_let ts rest) 33 at) v) (sym e) ∙ let_entry (put_let ts rest) ts v x rest d l h s.within s.bytes_there)

pub lists_given : (line : List ℕ) (at width : ℕ) → Lists line (filling_places width (list_at line at)) (given width (entries (drop at line)))
unfolding filling_places given list_at places
lists_given line at zero = unlisted refl
lists_given line at (suc w) = rw (ne_eqb (suc w) 0 (omega arith)) (listing (some line at) (list_same line at))
  where
    some : (line : List ℕ) (at : ℕ) → 0 < length (list_at line at)
    some line at = omega arith

-- Both fill a clause alike.
pub filler_same : {line starts : List ℕ} {es : Option (List (List ℕ))} → Lists line starts es → plain line starts ≡ by_entries (listed es)
unfolding plain by_entries entry_of
filler_same {line} {starts} (unlisted e) = rw e (ap (λ (f : ℕ → List ℕ). filler f) (fun_ext (λ n. no_entry n)))
  where
    filler : (ℕ → List ℕ) → Filler
    filler f = record { entry = f; hole = 0; new = λ _. bad }

    no_entry : (n : ℕ) → entry_of line [] n ≡ get_or {A = List ℕ} [] n []
    no_entry n = refl
filler_same {line} {starts} (listing {es} h e) = ap (λ (f : ℕ → List ℕ). filler f) (fun_ext e)
  where
    filler : (ℕ → List ℕ) → Filler
    filler f = record { entry = f; hole = 0; new = λ _. bad }

pub filled_same : {line starts : List ℕ} {es : Option (List (List ℕ))} → Lists line starts es → (depth : ℕ) (bs : List ℕ) → filled_by line starts depth bs ≡ filled_in es depth bs
unfolding filled_by filled_in
filled_same (unlisted e) depth bs = rw e
filled_same {starts} (listing {es} h e) depth bs = rw (ne_eqb (length starts) 0 (omega arith)) (ap (λ f. fill_item f depth bs) (filler_same (listing h e)))
