-- Whether an item of a clause, filled, stands in a text, step by step: with a hole or without.
use Prim.Native.Nat.{ℕ, ◌-◌, ◌≤◌}
use mathlib.Core.Path.{◌≡◌, refl, sym, ap, subst, ◌∙◌}
use mathlib.Core.Bool.{Bool, true, false, cond}
use mathlib.Core.List.{List, [], ◌∷◌}
use native.Mathlib.Decide.{ℕ_discrete}
use native.Mathlib.Omega.{arith}
use lib.Dec.{T, eqb}
use borrow.Author.Tests.{eq-eqb, eqb-true}
use lib.ListN.{length}
use Rattle.std.proofs.Common.{Option, Some, None}
use Rattle.std.specs.Option.{unwrap_or, is_none}
use Rattle.text.specs.Read.{Parsed, bad, got, and_then, strip}
use Rattle.text.specs.Access.{skip_item}
use Rattle.text.proofs.Gives.{nothing, given}
use Rattle.clauses.specs.Entries.{texts}
use Rattle.filling.specs.declared.compare.Filled.{Filled}
use Rattle.filling.specs.declared.compare.Filling.{Filling}
use Rattle.filling.specs.declared.compare.Replaced.{Replaced}
use Rattle.filling.specs.Filled.{Filler, indexed, prefixed, inside, instead, fill_item, matches, along}
use Rattle.filling.specs.Items.{by_entries, with_hole, replaced_by, filler_of, instead_of, listed, entries_of}
use Rattle.filling.proofs.Walk.{fill_zero, fill_empty, fill_hole, fill_variable, fill_bracket, fill_other, matches_front, never_front, matching, inside_along}
use Rattle.filling.proofs.Loops.{empty}

abbrev pub variable : List ℕ
variable = 40 ∷ 118 ∷ 32 ∷ []

pub too_deep : (f : Filler) (d : ℕ) (bs ts : List ℕ) → d ≡ 0 → bad ≡ matches (fill_item f d bs) ts
unfolding matches
too_deep f d bs ts z = rw (fill_zero f d bs z)

-- What takes an item's place.
some_none : {A : Type 0} {x : A} → None ≡ Some x → ⊥
some_none e = subst (λ o. T (is_none o)) e tt

none_instead : (es : List (List ℕ)) (r : Option Replaced) (n : ℕ) → None ≡ instead_of r n → n ≡ (replaced_by es r).hole → n ≡ 0
unfolding by_entries with_hole
none_instead es None n e h = h
none_instead es (Some r) n e h = absurd (some_none (rw (eq-eqb r.hole n (sym h)) at e))

abbrev Instead : List (List ℕ) → Option Replaced → ℕ → Filled → Type 0
Instead es r n new = (n ≡ (replaced_by es r).hole) × ((d : ℕ) → (replaced_by es r).new d ≡ fill_item (by_entries (listed (entries_of new.entries))) d new.item.now)

some_instead : (es : List (List ℕ)) (r : Option Replaced) (n : ℕ) {new : Filled} → Some new ≡ instead_of r n → Instead es r n new
unfolding with_hole
some_instead es None n e = absurd (some_none (sym e))
some_instead es (Some r) n {new} e = go (eqb r.hole n) refl e
  where
    go : (t : Bool) → eqb r.hole n ≡ t → Some new ≡ cond t (Some r.new) None → Instead es (Some r) n new
    go false q e = absurd (some_none (sym e))
    go true q e = let k : new ≡ r.new = ap (λ (o : Option Filled). unwrap_or o r.new) e in rw k (sym (eqb-true r.hole n q), λ d. refl)

by_entry : (es : List (List ℕ)) (r : Option Replaced) → (by_entries es).entry ≡ (replaced_by es r).entry
unfolding by_entries with_hole
by_entry es None = refl
by_entry es (Some r) = refl

-- The item in the hole: what takes its place is expected, and it is passed.
hole_none : (p : Parsed (List ℕ)) → ◌≡◌ {A = Parsed (List ℕ)} bad (and_then p (λ left _. bad))
hole_none bad = refl
hole_none (got left rest) = refl

hole_left : (p : Parsed (Unit {0})) (rest other : List ℕ) → and_then p (λ _ left. got left rest) ≡ and_then (and_then {B = List ℕ} p (λ _ left. got left other)) (λ left _. got left rest)
hole_left bad rest other = refl
hole_left (got u left) rest other = refl

hole_step : (p : Parsed (Unit {0})) (new : Parsed (List ℕ)) (ts : List ℕ) → matches (and_then p (λ _. instead new)) ts ≡ and_then (matches new ts) (λ left _. and_then p (λ _ rest. got left rest))
unfolding matches instead
hole_step bad new ts = hole_none (matches new ts)
hole_step (got u rest) bad ts = refl
hole_step (got u rest) (got ws other) ts = hole_left (strip ws ts) rest other

got_bad : {A : Type 0} {a : A} {rest : List ℕ} → got a rest ≡ bad → ⊥
got_bad e = given {Q = λ _ _. ⊥} nothing (sym e)

-- A word is not found where no byte is left.
word_none : (b : ℕ) (w bs : List ℕ) {cs : List ℕ} → length bs ≡ 0 → got tt cs ≡ strip (b ∷ w) bs → ⊥
unfolding strip
word_none b w [] z e = got_bad e
word_none b w (x ∷ bs) z e = absurd (omega arith)

-- The item at the front of bs, `d` brackets deep, where there are some left.
module _ (x : Filling) (bs ts : List ℕ) {d inner : ℕ} (deep : (1 ≤ d) × (inner ≡ d - 1)) where
  module _ {new : Filled} {es : List (List ℕ)} {f : Filler} (s : Some new ≡ instead_of x.replaced (length bs)) (l : es ≡ listed (entries_of new.entries)) (b : f ≡ by_entries es) where
    in_hole : matches (fill_item (filler_of x) d bs) ts ≡ and_then (matches (fill_item f inner new.item.now) ts) (λ left _. and_then (skip_item bs) (λ _ rest. got left rest))
    in_hole =
        let i = some_instead (texts x.entries.now) x.replaced (length bs) s in
        rw (b, l, fill_hole (filler_of x) d bs deep.0 i.0, ← deep.1, i.1 inner) (hole_step (skip_item bs) _ ts)

    pub new_missing : bad ≡ matches (fill_item f inner new.item.now) ts → bad ≡ matches (fill_item (filler_of x) d bs) ts
    new_missing e = sym (in_hole ∙ rw (← e))

    module _ {left other : List ℕ} (e : got left other ≡ matches (fill_item f inner new.item.now) ts) where
      pub hole_open : bad ≡ skip_item bs → bad ≡ matches (fill_item (filler_of x) d bs) ts
      hole_open k = sym (in_hole ∙ rw (← e, ← k))

      pub replaced : {rest : List ℕ} → got tt rest ≡ skip_item bs → got left rest ≡ matches (fill_item (filler_of x) d bs) ts
      replaced k = sym (in_hole ∙ rw (← e, ← k))

  module _ (n : None ≡ instead_of x.replaced (length bs)) where
    apart : length bs ≡ (filler_of x).hole → length bs ≡ 0
    apart = none_instead (texts x.entries.now) x.replaced (length bs) n

    somewhere : (b : ℕ) (w : List ℕ) {cs : List ℕ} → got tt cs ≡ strip (b ∷ w) bs → length bs ≡ (filler_of x).hole → ⊥
    somewhere b w e h = word_none b w bs (apart h) e

    pub is_variable : {cs : List ℕ} → got tt cs ≡ strip variable bs → matches (indexed (by_entries (texts x.entries.now)).entry cs) ts ≡ matches (fill_item (filler_of x) d bs) ts
    is_variable e = rw (by_entry (texts x.entries.now) x.replaced, fill_variable (filler_of x) bs (somewhere 40 (118 ∷ 32 ∷ []) e) d deep.0 (sym e))

    module _ (v : bad ≡ strip variable bs) where
      pub no_bracket : bad ≡ strip (40 ∷ []) bs → bad ≡ matches (fill_item (filler_of x) d bs) ts
      unfolding matches
      no_bracket e = go (ℕ_discrete (length bs) (filler_of x).hole)
        where
          go : Dec (length bs ≡ (filler_of x).hole) → bad ≡ matches (fill_item (filler_of x) d bs) ts
          go (yes h) = rw (empty bs (apart h), fill_empty (filler_of x) d)
          go (no h) = rw (fill_other (filler_of x) bs h d deep.0 (sym v) (sym e))

      module _ {cs : List ℕ} (e : got tt cs ≡ strip (40 ∷ []) bs) where
        bracket : fill_item (filler_of x) d bs ≡ prefixed (40 ∷ []) (inside (fill_item (filler_of x) inner) cs)
        bracket = rw deep.1 (fill_bracket (filler_of x) bs (somewhere 40 [] e) d deep.0 (sym v) (sym e))

        pub text_shut : bad ≡ strip (40 ∷ []) ts → bad ≡ matches (fill_item (filler_of x) d bs) ts
        text_shut g = sym (rw bracket (never_front (40 ∷ []) _ ts (sym g)))

        pub opens : {us : List ℕ} → got tt us ≡ strip (40 ∷ []) ts → along (matching (fill_item (filler_of x) inner)) (length cs) cs us ≡ matches (fill_item (filler_of x) d bs) ts
        unfolding inside
        opens {us} g = sym (rw bracket (matches_front (40 ∷ []) _ ts ∙ rw (← g) (inside_along (fill_item (filler_of x) inner) (length cs) cs us)))
