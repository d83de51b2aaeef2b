-- What is expected in the claim, by places and by the bytes that are left of it, comes to the same.
use Prim.Native.Nat.{ℕ, zero, suc, ◌+◌, ◌-◌, ◌≤◌}
use mathlib.Core.Bool.{Bool, true, false, cond}
use mathlib.Core.List.{List, [], ◌∷◌}
use mathlib.Core.Path.{◌≡◌, refl, sym, ap, subst, ◌∙◌}
use native.Mathlib.Omega.{arith}
use borrow.Author.Tests.{ne_eqb, eq-eqb}
use lib.Dec.{eqb, eqb→eq}
use lib.ListN.{length, drop, length-drop, drop_of_length-le}
use Rattle.std.specs.Prelude.{Option, Some, None}
use Rattle.text.specs.Words.{bytes}
use Rattle.text.specs.Read.{Parsed, bad, got, Reader, and_then, ◌>>◌, strip, skip}
use Rattle.text.proofs.Places.{end_of}
use Rattle.text.specs.Access.{skip_item, pass_item}
use Rattle.text.proofs.Gives.{Gives, nothing, gives, given, bind, strip_gives}
use Rattle.text.proofs.Positions.{End, end_drop, end_append, Tail, strip_tail, skip_tail}
use Rattle.clauses.specs.Entries.{after, itself}
use Rattle.clauses.specs.Shapes.{literals}
use Rattle.clauses.proofs.Places.{strip_at, skip_at, literals_at}
use Rattle.clauses.proofs.Placing.{Stands}
use Rattle.filling.specs.Filled.{Filler, fill_item, matches, item_depth, hole_depth}
use Rattle.filling.specs.Items.{Item, by_entries, with_hole, listed, filled_in}
use Rattle.filling.proofs.Places.{plain, replacing, filled_by, Ends, ends_of}
use Rattle.filling.proofs.Claims.{filled_at, rewritten_at, linked_at, reflexive_at, equated_at, kept_at, once_at, others_from, others_at, claim_end}
use Rattle.filling.proofs.Walk.{fill_shrinks, shrinks_tail}
use Rattle.expected.specs.Claims.{nothing_after, claim_ends, in_claim, item_expected, item_claimed, linked, reflexive, equated, rewritten, kept, others_from as others-from, others}
use Rattle.rules.specs.Claim.{ends_after}
use Rattle.rules.proofs.Landing.{Lands, lands, lost, land, landed, assoc, skip_walk}
use Rattle.rules.proofs.ListsSame.{Lists, filler_same, filled_same}

-- An item at a place of p, with what fills its clause.
abbrev pub item : List ℕ → Option (List (List ℕ)) → Item
item bs es = record { bytes = bs; entries = es }

pub record Holds (p : List ℕ) (at : ℕ) (line starts bs : List ℕ) (es : Option (List (List ℕ))) : Type 0 where
  pub there : drop at p ≡ bs
  pub list : Lists line starts es

pub holds : {p line starts : List ℕ} {at : ℕ} {bs : List ℕ} {es : Option (List (List ℕ))} → Stands p at bs → Lists line starts es → Holds p at line starts bs es
holds s l = record { there = s.bytes_there; list = l }

-- A place that was reached in the claim: these bytes are left there; or none, and nothing is left at the place.
pub data Ahead (rest : List ℕ) (pos : ℕ) : Parsed (Unit {0}) → Type 0 where
  ahead : {left : List ℕ} → drop pos rest ≡ left → Ahead rest pos (got tt left)
  gone : length rest ≤ pos → Ahead rest pos bad

pub landed_ahead : {rest : List ℕ} {pos : ℕ} {q : Parsed (Unit {0})} → Lands rest pos q → Ahead rest pos q
landed_ahead (lands s) = ahead s.bytes_there
landed_ahead (lost e) = gone (omega arith)

-- What filled bytes leave of the text in which they stand is its end.
pub matches_tail : (f : Parsed (List ℕ)) (ts : List ℕ) → Gives (λ left _. End ts left) (matches f ts)
unfolding matches
matches_tail bad ts = nothing
matches_tail (got ws more) ts = bind (strip_gives ws ts) (λ _ left e. gives (rw e (end_append ws left)))

matches_tails : (f : Parsed (List ℕ)) (bs ts : List ℕ) → Gives (λ _ more. End bs more) f → Gives (λ left more. End ts left × End bs more) (matches f ts)
unfolding matches
matches_tails bad bs ts g = nothing
matches_tails (got ws more) bs ts g = bind (strip_gives ws ts) (λ _ left e. gives (rw e (end_append ws left), given g refl))

filled_tail : (es : Option (List (List ℕ))) (depth : ℕ) → Tail (filled_in es depth)
unfolding filled_in itself
filled_tail None depth = record { tail = λ bs. bind (skip_tail.tail bs) (λ _ rest e. gives e) }
filled_tail (Some es) depth = shrinks_tail (fill_shrinks (by_entries es) depth)

-- No bytes are no item.
filled_none : (es : Option (List (List ℕ))) (depth : ℕ) → filled_in es (suc depth) [] ≡ bad
unfolding filled_in itself fill_item by_entries skip_item strip
filled_none None depth = refl
filled_none (Some es) depth = refl

-- With one of a clause's items replaced.
hole_same : (p line starts q others : List ℕ) (hole from : ℕ) (t cs : List ℕ) {es fs : Option (List (List ℕ))} → drop hole p ≡ t → Lists line starts es → Holds q from line others cs fs →
    replacing line starts (length p - hole) q from others ≡ with_hole (listed es) (length t) (item cs fs)
unfolding replacing with_hole plain by_entries
hole_same p line starts q others hole from t cs {es} {fs} e l k =
    let n : length p - hole ≡ length t = sym (length-drop hole p) ∙ ap length e in
    ap (λ (f : Filler). made f.entry (length p - hole) (plain line others) (drop from q)) (filler_same l)
    ∙ (ap (λ (h : ℕ). made (by_entries (listed es)).entry h (plain line others) (drop from q)) n
    ∙ (ap (λ (g : Filler). made (by_entries (listed es)).entry (length t) g (drop from q)) (filler_same k.list)
    ∙ ap (made (by_entries (listed es)).entry (length t) (by_entries (listed fs))) k.there))
  where
    made : (ℕ → List ℕ) → ℕ → Filler → List ℕ → Filler
    made entry hole g new = record { entry = entry; hole = hole; new = λ depth. fill_item g depth new }

pass_lands : (p : List ℕ) (at : ℕ) {bs : List ℕ} → drop at p ≡ bs → Lands p (skip_at p (end_of p (skip " " (drop at p)))) (pass_item bs)
unfolding pass_item skip_at strip_at
pass_lands p at {bs} d = (skip_walk p).from (subst (λ (bs : List ℕ). Lands p (end_of p (skip " " (drop at p))) (skip " " bs)) d (land p at (strip_tail (bytes " "))))

gone_strip : (s : List ℕ) (b : ℕ) (w : List ℕ) (pos : ℕ) → length s ≤ pos → length s ≤ strip_at s (b ∷ w) pos
unfolding strip_at strip end_of
gone_strip s b w pos h = subst (λ (bs : List ℕ). length s ≤ end_of s (strip (b ∷ w) bs)) (sym (drop_of_length-le s h)) (omega arith)

-- What stands after a space, whether there is one or not.
space_landed : (s : List ℕ) (pos : ℕ) {left : List ℕ} → drop pos s ≡ left → drop (strip_at s (bytes " ") pos) s ≡ after (skip " " left)
unfolding strip_at
space_landed s pos d = subst (λ (bs : List ℕ). drop (end_of s (skip " " (drop pos s))) s ≡ after (skip " " bs)) d (landed (land s pos (strip_tail (bytes " "))))

module _ (rest : List ℕ) where
  -- A walk over the claim, and a reader of what is left of it.
  pub record Reads (walk : ℕ → ℕ) (read : Reader (Unit {0})) : Type 0 where
    pub from : {pos : ℕ} {q : Parsed (Unit {0})} → Ahead rest pos q → Ahead rest (walk pos) (and_then q (λ _. read))

  pub then_read : {v w : ℕ → ℕ} {f g : Reader (Unit {0})} → Reads v f → Reads w g → Reads (λ pos. w (v pos)) (f >> g)
  then_read {v} {w} {f} {g} a b = record { from = go }
    where
      go : {pos : ℕ} {q : Parsed (Unit {0})} → Ahead rest pos q → Ahead rest (w (v pos)) (and_then q (λ _. f >> g))
      go {pos} {q} l = subst (Ahead rest (w (v pos))) (assoc q (λ _. f) (λ _. g)) (b.from (a.from l))

  -- Nothing is expected.
  pub no_read : Reads (λ pos. pos) (λ left. got tt left)
  no_read = record { from = go }
    where
      go : {pos : ℕ} {q : Parsed (Unit {0})} → Ahead rest pos q → Ahead rest pos (and_then q (λ _ left. got tt left))
      go (ahead e) = ahead e
      go (gone h) = gone h

  pub strip_read : (b : ℕ) (w : List ℕ) → Reads (strip_at rest (b ∷ w)) (strip (b ∷ w))
  unfolding strip_at strip end_of
  strip_read b w = record { from = go }
    where
      go : {pos : ℕ} {q : Parsed (Unit {0})} → Ahead rest pos q → Ahead rest (end_of rest (strip (b ∷ w) (drop pos rest))) (and_then q (λ _. strip (b ∷ w)))
      go {pos} (ahead e) = subst (λ (bs : List ℕ). Ahead rest (end_of rest (strip (b ∷ w) (drop pos rest))) (strip (b ∷ w) bs)) e (landed_ahead (land rest pos (strip_tail (b ∷ w))))
      go {pos} (gone h) = gone (gone_strip rest b w pos h)

  -- What was filled is expected.
  module _ (p : List ℕ) where
    match_ahead : (f : Parsed (List ℕ)) (pos : ℕ) {left : List ℕ} → drop pos rest ≡ left → Ahead rest (ends_of p rest (matches f (drop pos rest))).pos (in_claim (matches f left))
    unfolding ends_of in_claim
    match_ahead f pos e = subst (λ (bs : List ℕ). Ahead rest (ends_of p rest (matches f (drop pos rest))).pos (in_claim (matches f bs))) e (go (matches_tail f (drop pos rest)))
      where
        go : {r : Parsed (List ℕ)} → Gives (λ left _. End (drop pos rest) left) r → Ahead rest (ends_of p rest r).pos (in_claim r)
        go nothing = gone (omega arith)
        go (gives {a = left} t) = ahead (end_drop rest pos left t)

    match_gone : (f : Parsed (List ℕ)) (pos : ℕ) → length rest ≤ pos → length rest ≤ (ends_of p rest (matches f (drop pos rest))).pos
    unfolding ends_of
    match_gone f pos h = go (matches_tail f (drop pos rest))
      where
        go : {r : Parsed (List ℕ)} → Gives (λ left _. End (drop pos rest) left) r → length rest ≤ (ends_of p rest r).pos
        go nothing = omega arith
        go (gives {a = left} t) = let n : length (drop pos rest) ≡ length rest - pos = length-drop pos rest in omega (arith, t.within)

    match_read : {f g : Parsed (List ℕ)} → f ≡ g → Reads (λ pos. (ends_of p rest (matches f (drop pos rest))).pos) (λ left. in_claim (matches g left))
    match_read {f} {g} e = subst (λ (x : Parsed (List ℕ)). Reads (λ pos. (ends_of p rest (matches f (drop pos rest))).pos) (λ left. in_claim (matches x left))) e (record { from = go })
      where
        go : {pos : ℕ} {q : Parsed (Unit {0})} → Ahead rest pos q → Ahead rest (ends_of p rest (matches f (drop pos rest))).pos (and_then q (λ _ left. in_claim (matches f left)))
        go {pos} (ahead e) = match_ahead f pos e
        go {pos} (gone h) = gone (match_gone f pos h)

    -- After a space.
    spaced_read : {f g : Parsed (List ℕ)} → f ≡ g →
        Reads (λ pos. (ends_of p rest (matches f (drop (strip_at rest (bytes " ") pos) rest))).pos) (λ left. in_claim (matches g (after (skip " " left))))
    unfolding strip_at
    spaced_read {f} {g} e =
        subst (λ (x : Parsed (List ℕ)). Reads (λ pos. (ends_of p rest (matches f (drop (strip_at rest (bytes " ") pos) rest))).pos) (λ left. in_claim (matches x (after (skip " " left))))) e (record { from = go })
      where
        go : {pos : ℕ} {q : Parsed (Unit {0})} → Ahead rest pos q →
            Ahead rest (ends_of p rest (matches f (drop (strip_at rest (bytes " ") pos) rest))).pos (and_then q (λ _ left. in_claim (matches f (after (skip " " left)))))
        go {pos} (ahead d) = match_ahead f _ (space_landed rest pos d)
        go {pos} (gone h) = gone (match_gone f _ (gone_strip rest 32 [] pos h))

  module _ (depth : ℕ) where
    pub item_read : {p line starts bs : List ℕ} {at : ℕ} {es : Option (List (List ℕ))} → Holds p at line starts bs es → Reads (filled_at depth p at line starts rest) (item_claimed (item_expected depth) (item bs es))
    unfolding filled_at item_claimed item_expected
    item_read {p} {line} {starts} {bs} {at} {es} h = match_read p (filled_same h.list (item_depth depth) (drop at p) ∙ ap (filled_in es (item_depth depth)) h.there)

    module _ {p line starts bs q others cs : List ℕ} {at from : ℕ} {es fs : Option (List (List ℕ))} where
      pub linked_read : (b : ℕ) (w : List ℕ) → Holds p at line starts bs es → Holds q from line others cs fs →
          Reads (linked_at depth (b ∷ w) p at line starts q from others rest) (linked depth (b ∷ w) (item bs es) (item cs fs))
      unfolding linked_at linked
      linked_read b w h k = then_read (strip_read b w) (then_read (item_read h) (then_read (strip_read 32 []) (then_read (item_read k) (strip_read 41 _))))

      pub equated_read : Holds p at line starts bs es → Holds q from line others cs fs →
          Reads (equated_at depth p at line starts q from others rest) (equated depth (item bs es) (item cs fs))
      unfolding equated_at equated
      equated_read h k = linked_read 32 _ h k

      pub rewritten_read : (hole : ℕ) {t : List ℕ} → Holds p at line starts bs es → drop hole p ≡ t → Holds q from line others cs fs →
          Reads (rewritten_at depth p at hole line starts q from others rest) (rewritten depth (item bs es) (length t) (item cs fs))
      unfolding rewritten_at rewritten
      rewritten_read hole {t} h e k =
          spaced_read p (ap (λ (f : Filler). fill_item f (hole_depth depth) (drop at p)) (hole_same p line starts q others hole from t cs e h.list k) ∙ ap (fill_item (with_hole (listed es) (length t) (item cs fs)) (hole_depth depth)) h.there)

    pub reflexive_read : {line starts : List ℕ} {es : Option (List (List ℕ))} → Lists line starts es → Reads (reflexive_at depth line starts rest) (reflexive depth es)
    unfolding reflexive_at reflexive
    reflexive_read l = linked_read 32 _ (record { there = refl; list = l }) (record { there = refl; list = l })

    -- The literals of a clause but one.
    module _ (p line starts : List ℕ) {es : Option (List (List ℕ))} (l : Lists line starts es) (dropped : ℕ) where
      once_gone : (b : Bool) (at pos : ℕ) → length rest ≤ pos → length rest ≤ (once_at depth p at b line starts rest pos).pos
      unfolding once_at kept_at
      once_gone true at pos h = h
      once_gone false at pos h = match_gone p _ _ (gone_strip rest 32 [] pos h)

      stays_gone : (k n at pos : ℕ) → length rest ≤ pos → length rest ≤ others_from depth p dropped line starts rest k n at pos
      unfolding others_from
      stays_gone zero n at pos h = h
      stays_gone (suc k) n at pos h = stays_gone k (n + 1) _ _ (once_gone (eqb n dropped) (strip_at p (bytes " ") at) pos h)

      -- Where no literal is left, none is kept.
      no_literal : (at pos : ℕ) → length p ≤ at → length rest ≤ (once_at depth p at false line starts rest pos).pos
      unfolding once_at kept_at matches ends_of
      no_literal at pos h =
          let none : filled_by line starts (item_depth depth) (drop at p) ≡ bad =
          filled_same l (item_depth depth) (drop at p) ∙ (ap (filled_in es (item_depth depth)) (drop_of_length-le p h) ∙ filled_none es _) in
          subst (λ (f : Parsed (List ℕ)). length rest ≤ (ends_of p rest (matches f (drop (strip_at rest (bytes " ") pos) rest))).pos) (sym none) nowhere
        where
          nowhere : length rest ≤ (ends_of p rest (matches bad (drop (strip_at rest (bytes " ") pos) rest))).pos
          nowhere = omega arith

      none_left : (k n at pos : ℕ) → eqb n dropped ≡ false → length p ≤ at → length rest ≤ others_from depth p dropped line starts rest (suc k) n at pos
      unfolding others_from
      none_left k n at pos e h =
          subst (λ (b : Bool). length rest ≤ (let ends = once_at depth p (strip_at p (bytes " ") at) b line starts rest pos in others_from depth p dropped line starts rest k (n + 1) ends.at ends.pos))
          (sym e) (stays_gone k (n + 1) _ _ (no_literal (strip_at p (bytes " ") at) pos (gone_strip p 32 [] at h)))

      -- The literals from one on, by what is left of the clause and of the claim.
      abbrev FromSame : ℕ → Type 0
      FromSame k = (n at pos : ℕ) (bs left : List ℕ) → drop at p ≡ bs → drop pos rest ≡ left →
          Ahead rest (others_from depth p dropped line starts rest k n at pos) (others-from depth dropped k n (item bs es) left)

      -- After one was compared.
      abbrev Compared : ℕ → ℕ → Ends → Parsed (List ℕ) → Type 0
      Compared k n ends r = Ahead rest (others_from depth p dropped line starts rest k (n + 1) ends.at ends.pos) (and_then r (λ left cs. others-from depth dropped k (n + 1) (item cs es) left))

      on_match : (k n at pos : ℕ) → FromSame k → {r : Parsed (List ℕ)} → Gives (λ left more. End (drop pos rest) left × End (drop at p) more) r → Compared k n (ends_of p rest r) r
      unfolding ends_of
      on_match k n at pos same nothing = gone (stays_gone k (n + 1) _ _ (omega arith))
      on_match k n at pos same (gives {a = left} {rest = more} e) = same (n + 1) _ _ more left (end_drop p at more e.1) (end_drop rest pos left e.0)

      on_claim : (k n at pos : ℕ) {cs left : List ℕ} → FromSame k → drop at p ≡ cs → drop pos rest ≡ left →
          Compared k n (ends_of p rest (matches (filled_by line starts (item_depth depth) (drop at p)) (drop pos rest))) (matches (filled_in es (item_depth depth) cs) left)
      on_claim k n at pos {cs} {left} same d e =
          let f : Parsed (List ℕ) = filled_in es (item_depth depth) (drop at p) in
          let m : Compared k n (ends_of p rest (matches f (drop pos rest))) (matches f (drop pos rest)) = on_match k n at pos same (matches_tails f (drop at p) (drop pos rest) ((filled_tail es (item_depth depth)).tail (drop at p))) in
          subst (λ (g : Parsed (List ℕ)). Compared k n (ends_of p rest (matches g (drop pos rest))) (matches (filled_in es (item_depth depth) cs) left)) (sym (filled_same l (item_depth depth) (drop at p)))
          (subst (λ (bs : List ℕ). Compared k n (ends_of p rest (matches f (drop pos rest))) (matches (filled_in es (item_depth depth) cs) bs)) e
          (subst (λ (bs : List ℕ). Compared k n (ends_of p rest (matches f (drop pos rest))) (matches (filled_in es (item_depth depth) bs) (drop pos rest))) d m))

      -- One that is kept, and one that is dropped.
      on_kept : (k n at pos : ℕ) {left : List ℕ} → FromSame k → drop pos rest ≡ left → {q : Parsed (Unit {0})} → Lands p at q →
          Compared k n (kept_at depth p at line starts rest pos) (and_then q (λ _ cs. matches (filled_in es (item_depth depth) cs) (after (skip " " left))))
      unfolding kept_at once_at strip_at
      on_kept k n at pos same e (lost z) = gone (stays_gone k (n + 1) _ _ (no_literal at pos (omega arith)))
      on_kept k n at pos same e (lands s) = on_claim k n at _ same s.bytes_there (space_landed rest pos e)

      on_dropped : (k n at pos : ℕ) {left : List ℕ} → eqb (n + 1) dropped ≡ false → FromSame (suc k) → drop pos rest ≡ left → {q : Parsed (Unit {0})} → Lands p at q →
          Ahead rest (others_from depth p dropped line starts rest (suc k) (n + 1) at pos) (and_then q (λ _ cs. others-from depth dropped (suc k) (n + 1) (item cs es) left))
      on_dropped k n at pos f same e (lost z) = gone (none_left k (n + 1) at pos f (omega arith))
      on_dropped k n at pos {left} f same e (lands {rest = cs} s) = same (n + 1) at pos cs left s.bytes_there e

      from_same : (k : ℕ) → FromSame k
      unfolding others_from others-from once_at kept item_expected strip_at skip_at pass_item
      from_same zero n at pos bs left d e = ahead e
      from_same (suc k) n at pos bs left d e = go (eqb n dropped) refl (from_same k)
        where
          kept_one : FromSame k → Compared k n (kept_at depth p (end_of p (skip " " (drop at p))) line starts rest pos) (kept depth (item bs es) left)
          kept_one same = on_kept k n _ pos same e (subst (λ (bs : List ℕ). Lands p (end_of p (skip " " (drop at p))) (skip " " bs)) d (land p at (strip_tail (bytes " "))))

          passed_one : (k : ℕ) → eqb n dropped ≡ true → FromSame k →
              Ahead rest (others_from depth p dropped line starts rest k (n + 1) (skip_at p (end_of p (skip " " (drop at p)))) pos)
              (cond (eqb k 0) (got tt left) (and_then (pass_item bs) (λ _ cs. others-from depth dropped k (n + 1) (item cs es) left)))
          passed_one zero f same = ahead e
          passed_one (suc k) f same =
              let g : eqb (n + 1) dropped ≡ false = ne_eqb (n + 1) dropped (λ h. omega (arith, eqb→eq n dropped (rw f tt))) in
              let z : eqb (suc k) 0 ≡ false = ne_eqb (suc k) 0 (omega arith) in
              rw z (on_dropped k n _ pos g same e (pass_lands p at d))

          go : (b : Bool) → eqb n dropped ≡ b → FromSame k →
              Ahead rest (let ends = once_at depth p (end_of p (skip " " (drop at p))) b line starts rest pos in others_from depth p dropped line starts rest k (n + 1) ends.at ends.pos)
              (cond b (cond (eqb k 0) (got tt left) (and_then (pass_item bs) (λ _ cs. others-from depth dropped k (n + 1) (item cs es) left)))
              (and_then (kept depth (item bs es) left) (λ left cs. others-from depth dropped k (n + 1) (item cs es) left)))
          go true f same = passed_one k f same
          go false f same = kept_one same

      pub others_read : (count : ℕ) → Reads (others_at depth p count dropped line starts rest) (others depth count dropped (item p es))
      unfolding others_at others strip_at after
      others_read count = record { from = go }
        where
          go : {pos : ℕ} {q : Parsed (Unit {0})} → Ahead rest pos q →
              Ahead rest (others_from depth p dropped line starts rest count 0 (literals_at p) pos) (and_then q (λ _. others-from depth dropped count 0 (item (after (literals p)) es)))
          go {pos} (ahead e) = from_same count 0 (literals_at p) pos _ _ (landed (land p 0 (strip_tail (bytes "(or")))) e
          go {pos} (gone h) = gone (stays_gone count 0 (literals_at p) pos h)

  -- The end of the claim.
  pub ends_same : {pos : ℕ} {q : Parsed (Unit {0})} → Ahead rest pos q → eqb (claim_end rest pos) (length rest) ≡ ends_after q
  unfolding claim_ends nothing_after strip_at end_of strip
  ends_same {pos} (ahead {left} e) = subst (λ (bs : List ℕ). eqb (end_of rest (skip "))" (drop pos rest))) (length rest) ≡ nothing_after (skip "))" bs)) e (go ((strip_tail (bytes "))")).tail (drop pos rest)))
    where
      here : (left : List ℕ) → length left ≤ length rest → eqb (length rest - length left) (length rest) ≡ nothing_after (got tt left)
      here [] h = eq-eqb (length rest - 0) (length rest) (omega arith)
      here (b ∷ left) h = ne_eqb (length rest - suc (length left)) (length rest) (omega arith)

      go : {q : Parsed (Unit {0})} → Gives (λ _ more. End (drop pos rest) more) q → eqb (end_of rest q) (length rest) ≡ nothing_after q
      go nothing = ne_eqb (length rest + 1) (length rest) (omega arith)
      go (gives {rest = left} t) = let n : length (drop pos rest) ≡ length rest - pos = length-drop pos rest in here left (omega (arith, t.within))
  ends_same {pos} (gone h) = subst (λ (bs : List ℕ). eqb (end_of rest (skip "))" bs)) (length rest) ≡ false) (sym (drop_of_length-le rest h)) (ne_eqb (length rest + 1) (length rest) (omega arith))
