-- The new literals of mer and pro (R25, R26): what is expected in the claim by places and by bytes comes to the same.
use Prim.Native.Nat.{ℕ, ◌-◌, ◌≤◌}
use mathlib.Core.Bool.{Bool, true, false, cond}
use mathlib.Core.List.{List, [], ◌∷◌}
use mathlib.Core.Path.{◌≡◌, refl, ap, subst}
use native.Mathlib.Omega.{arith}
use lib.ListN.{length, drop, length-drop}
use Rattle.std.proofs.Math.Path.{fun_ext}
use Rattle.std.specs.Prelude.{Option, Some, None}
use Rattle.logic.specs.declared.Arrow.{Arrow}
use Rattle.text.specs.Words.{bytes, arrow_word}
use Rattle.text.specs.Read.{Parsed, bad, got, Reader, and_then, ◌>>=◌, skip}
use Rattle.text.specs.Access.{stood}
use Rattle.text.proofs.Places.{end_of}
use Rattle.text.proofs.Gives.{Gives, nothing, gives, bind}
use Rattle.text.proofs.Positions.{End, end_trans, Tail, strip_tail, and_tail}
use Rattle.clauses.specs.Parts.{PartIn, object_of, parts, part_at}
use Rattle.filling.specs.Filled.{matches, item_depth}
use Rattle.filling.specs.Items.{Item, beside}
use Rattle.filling.proofs.Places.{filled_by}
use Rattle.expected.specs.Claims.{in_claim, item_expected, item_claimed, Expected, spaced, result_claimed, said_claimed, arrow_claimed, part_claimed, parts_claimed, object_claimed, merged, projected}
use Rattle.rules.proofs.RowPlaces.{bare_item}
use Rattle.rules.proofs.ClaimPlaces.{expected_at, merged_at, projected_at}
use Rattle.rules.proofs.Tails.{bind_tail, return_tail}
use Rattle.rules.proofs.Landing.{land}
use Rattle.rules.proofs.ListsSame.{Lists, filled_same}
use Rattle.rules.proofs.ClaimsSame.{item, Holds, matches_tail, Ahead, ahead, gone, landed_ahead, Reads}

-- What is left of the claim behind an item is its end.
abbrev Ending : Expected → Type 0
Ending claimed = (x : Item) (bs : List ℕ) → Gives (λ left _. End bs left) (claimed x bs)

-- Then so is what is left of it behind what is expected of items.
module _ (claimed : Expected) (t : Ending claimed) where
  item_tail : (x : Item) → Tail (item_claimed claimed x)
  unfolding item_claimed in_claim
  item_tail x = record { tail = λ bs. go (t x bs) }
    where
      go : {bs : List ℕ} {q : Parsed (List ℕ)} → Gives (λ left _. End bs left) q → Gives (λ _ left. End bs left) (in_claim q)
      go nothing = nothing
      go (gives e) = gives e

  spaced_tail : (x : Item) → Tail (spaced claimed x)
  unfolding spaced
  spaced_tail x = record { tail = λ bs. bind (t x bs) (λ left more e. bind ((strip_tail (bytes " ")).tail more) (λ _ _ _. bind ((strip_tail (bytes " ")).tail left) (λ _ _ f. gives (end_trans e f)))) }

  result_tail : (x : Item) → Tail (result_claimed claimed x)
  unfolding result_claimed
  result_tail x = go (stood (skip "none" x.bytes))
    where
      go : (b : Bool) → Tail (λ rest. cond b (skip "none") (item_claimed claimed x) rest)
      go true = strip_tail (bytes "none")
      go false = item_tail x

  said_tail : (x : Item) → Tail (said_claimed claimed x)
  unfolding said_claimed
  said_tail x = bind_tail (spaced_tail x) (λ y. bind_tail (spaced_tail y) (λ z. and_tail (result_tail z) (strip_tail (bytes ")"))))

  arrow_tail : (a : Arrow) → Tail (arrow_claimed a)
  unfolding arrow_claimed
  arrow_tail a = strip_tail (bytes (arrow_word a))

  part_tail : (x : Item) (p : PartIn) → Tail (part_claimed claimed x p)
  unfolding part_claimed
  part_tail x p = and_tail (strip_tail (bytes " (")) (and_tail (arrow_tail p.arrow) (and_tail (strip_tail (bytes " ")) (said_tail (beside x p.method))))

  parts_tail : (x : Item) (ps : List PartIn) → Tail (parts_claimed claimed x ps)
  unfolding parts_claimed
  parts_tail x [] = return_tail tt
  parts_tail x (p ∷ ps) = and_tail (part_tail x p) (parts_tail x ps)

  object_tail : (x : Item) (q : Parsed (Unit {0})) → Tail (object_claimed claimed x q)
  unfolding object_claimed
  object_tail x bad = record { tail = λ bs. nothing }
  object_tail x (got u bs) = item_tail (beside x bs)

  projected_tail : (x : Item) (p : PartIn) → Tail (projected claimed x p)
  unfolding projected
  projected_tail x p =
      and_tail (strip_tail (bytes " (+ ("))
      (and_tail (arrow_tail p.arrow)
      (and_tail (strip_tail (bytes " "))
      (and_tail (item_tail x) (and_tail (strip_tail (bytes " ")) (and_tail (said_tail (beside x p.method)) (strip_tail (bytes ")")))))))

merged_tail : (claimed other : Expected) → Ending claimed → Ending other → (x y : Item) → Tail (merged claimed other x y)
unfolding merged
merged_tail claimed other t u x y =
    and_tail (strip_tail (bytes " (+ (mol "))
    (and_tail (object_tail claimed t x (object_of x.bytes))
    (and_tail (parts_tail claimed t x (parts x.bytes)) (and_tail (parts_tail other u y (parts y.bytes)) (strip_tail (bytes "))")))))

expected_tail : (depth : ℕ) (line starts : List ℕ) → Ending (expected_at depth line starts)
expected_tail depth line starts x bs = matches_tail (filled_by line starts (item_depth depth) x.bytes) bs

-- Two ways to expect items, where what fills the items' clause need not be the same.
module _ (es es' : Option (List (List ℕ))) where
  pub record WaysAlike (claimed claimed' : Expected) : Type 0 where
    pub at : (bs : List ℕ) → claimed (item bs es) ≡ claimed' (item bs es')

  module _ {claimed claimed' : Expected} (h : WaysAlike claimed claimed') where
    -- What is expected behind an item and a space.
    spaced_alike : (f g : Item → Reader (Unit {0})) → ((bs : List ℕ) → f (item bs es) ≡ g (item bs es')) → (bs : List ℕ) →
        (spaced claimed (item bs es) >>= f) ≡ (spaced claimed' (item bs es') >>= g)
    unfolding spaced
    spaced_alike f g k bs = fun_ext (λ rest. rw (h.at bs) (go (claimed' (item bs es') rest)))
      where
        on : (cs : List ℕ) (r : Parsed (Unit {0})) → and_then (and_then r (λ _ left. got (item cs es) left)) f ≡ and_then (and_then r (λ _ left. got (item cs es') left)) g
        on cs bad = refl
        on cs (got u left) = ap (λ (read : Reader (Unit {0})). read left) (k cs)

        behind : (left : List ℕ) (n : Parsed (Unit {0})) →
            and_then (and_then n (λ _ cs. and_then (skip " " left) (λ _ left. got (item cs es) left))) f ≡
            and_then (and_then n (λ _ cs. and_then (skip " " left) (λ _ left. got (item cs es') left))) g
        behind left bad = refl
        behind left (got u cs) = on cs (skip " " left)

        go : (q : Parsed (List ℕ)) →
            and_then (and_then q (λ left more. and_then (skip " " more) (λ _ cs. and_then (skip " " left) (λ _ left. got (item cs es) left)))) f ≡
            and_then (and_then q (λ left more. and_then (skip " " more) (λ _ cs. and_then (skip " " left) (λ _ left. got (item cs es') left)))) g
        go bad = refl
        go (got left more) = behind left (skip " " more)

    item_alike : (bs : List ℕ) → item_claimed claimed (item bs es) ≡ item_claimed claimed' (item bs es')
    unfolding item_claimed
    item_alike bs = fun_ext (λ rest. rw (h.at bs) refl)

    result_alike : (bs : List ℕ) → result_claimed claimed (item bs es) ≡ result_claimed claimed' (item bs es')
    unfolding result_claimed
    result_alike bs = rw (item_alike bs)

    said_alike : (bs : List ℕ) → said_claimed claimed (item bs es) ≡ said_claimed claimed' (item bs es')
    unfolding said_claimed
    said_alike = spaced_alike _ _ (spaced_alike _ _ (λ bs. rw (result_alike bs)))

    part_alike : (p : PartIn) (bs : List ℕ) → part_claimed claimed (item bs es) p ≡ part_claimed claimed' (item bs es') p
    unfolding part_claimed
    part_alike p bs = rw (said_alike p.method)

    parts_alike : (ps : List PartIn) (bs : List ℕ) → parts_claimed claimed (item bs es) ps ≡ parts_claimed claimed' (item bs es') ps
    unfolding parts_claimed
    parts_alike [] bs = refl
    parts_alike (p ∷ ps) bs = rw (part_alike p bs, parts_alike ps bs)

    object_alike : (q : Parsed (Unit {0})) (bs : List ℕ) → object_claimed claimed (item bs es) q ≡ object_claimed claimed' (item bs es') q
    unfolding object_claimed
    object_alike bad bs = refl
    object_alike (got u cs) bs = item_alike cs

    projected_alike : (p : PartIn) (bs : List ℕ) → projected claimed (item bs es) p ≡ projected claimed' (item bs es') p
    unfolding projected
    projected_alike p bs = rw (item_alike bs, said_alike p.method)

merged_alike : {es es' fs fs' : Option (List (List ℕ))} {claimed claimed' other other' : Expected} → WaysAlike es es' claimed claimed' → WaysAlike fs fs' other other' → (bs cs : List ℕ) →
    merged claimed other (item bs es) (item cs fs) ≡ merged claimed' other' (item bs es') (item cs fs')
unfolding merged
merged_alike {es} {es'} {fs} {fs'} h k bs cs =
    rw (object_alike es es' h (object_of bs) bs, parts_alike es es' h (parts bs) bs, parts_alike fs fs' k (parts cs) cs)

-- Items of a clause that a list of the line fills.
ways : (depth : ℕ) {line starts : List ℕ} {es : Option (List (List ℕ))} → Lists line starts es → WaysAlike None es (expected_at depth line starts) (item_expected depth)
unfolding item_expected
ways depth l = record { at = λ bs. ap matches (filled_same l (item_depth depth) bs) }

module _ (rest : List ℕ) where
  read_tail : {read : Reader (Unit {0})} → Tail read → Reads rest (λ pos. end_of rest (read (drop pos rest))) read
  unfolding end_of
  read_tail {read} t = record { from = go }
    where
      past : {pos : ℕ} {q : Parsed (Unit {0})} → length rest ≤ pos → Gives (λ _ left. End (drop pos rest) left) q → length rest ≤ end_of rest q
      past h nothing = omega arith
      past {pos} h (gives {rest = left} e) = let n : length (drop pos rest) ≡ length rest - pos = length-drop pos rest in omega (arith, e.within)

      go : {pos : ℕ} {q : Parsed (Unit {0})} → Ahead rest pos q → Ahead rest (end_of rest (read (drop pos rest))) (and_then q (λ _. read))
      go {pos} (ahead e) = subst (λ (bs : List ℕ). Ahead rest (end_of rest (read (drop pos rest))) (read bs)) e (landed_ahead (land rest pos t))
      go {pos} (gone h) = gone (past h (t.tail (drop pos rest)))

  module _ (depth : ℕ) {p line starts bs : List ℕ} {at : ℕ} {es : Option (List (List ℕ))} (h : Holds p at line starts bs es) where
    pub merged_read : {q others cs : List ℕ} {from : ℕ} {fs : Option (List (List ℕ))} → Holds q from line others cs fs →
        Reads rest (merged_at depth line starts (drop at p) others (drop from q) rest) (merged (item_expected depth) (item_expected depth) (item bs es) (item cs fs))
    unfolding merged_at
    merged_read {others} {cs} k =
        rw (h.there, k.there, ← merged_alike (ways depth h.list) (ways depth k.list) bs cs)
        (read_tail (merged_tail _ _ (expected_tail depth line starts) (expected_tail depth line others) (bare_item bs) (bare_item cs)))

    pub projected_read : (k : ℕ) {x : PartIn} → part_at k bs ≡ Some x →
        Reads rest (projected_at depth line starts (drop at p) (part_at k (drop at p)) rest) (projected (item_expected depth) (item bs es) x)
    unfolding projected_at
    projected_read k {x} e =
        rw (h.there, e, ← projected_alike None es (ways depth h.list) x bs)
        (read_tail (projected_tail _ (expected_tail depth line starts) (bare_item bs) x))
