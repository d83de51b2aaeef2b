-- Agreement by places and by bytes comes to the same.
use Prim.Native.Nat.{ℕ, ◌+◌, ◌-◌}
use mathlib.Core.Bool.{Bool, false, ◌&&◌, and-false}
use mathlib.Core.List.{List}
use mathlib.Core.Path.{◌≡◌, refl, ap, subst, ◌∙◌}
use native.Mathlib.Omega.{arith}
use borrow.Author.Tests.{ne_eqb}
use lib.ListN.{length, take, drop}
use Rattle.std.specs.Prelude.{Option, None}
use Rattle.text.specs.Words.{bytes}
use Rattle.text.specs.Read.{Parsed, bad, got, strip}
use Rattle.text.proofs.Places.{end_of}
use Rattle.text.proofs.Positions.{strip_tail}
use Rattle.clauses.proofs.Places.{strip_at, result_at, within}
use Rattle.clauses.proofs.Placing.{Stands}
use Rattle.filling.specs.Filled.{Filler, same_item, matches, item_depth}
use Rattle.filling.specs.Items.{by_entries, filled_in}
use Rattle.filling.proofs.Places.{plain, ends_of}
use Rattle.filling.proofs.Agree.{stands_at, agree_at, parts_at, calls_at}
use Rattle.filling.proofs.Covers.{head_at, bare_at, covers_at}
use Rattle.agreement.specs.Agrees.{met, agrees_by, agrees, onward, further, has_none, bare_calls, parts_agree, calls_agree, is_bare, is_covered, parts_fit, is_fitting}
use Rattle.rules.proofs.Answered.{within_here, within_past}
use Rattle.rules.proofs.RowPlaces.{bare_item, by_places, fits_at}
use Rattle.rules.proofs.Landing.{Lands, lands, lost, land, within_lands, lost_walk, then_walk, strip_walk, next_landed, result_walk}
use Rattle.rules.proofs.ListsSame.{Lists, unlisted, listing, filler_same, filled_same}
use Rattle.rules.proofs.ClaimsSame.{item}
use Rattle.rules.proofs.FitsSame.{TestsAlike, fit_alike}

-- Whether two items met, by the places past them.
met_pos : (p q : List ℕ) (r : Parsed (List ℕ)) → within q (ends_of p q r).pos ≡ met r
unfolding ends_of met
met_pos p q bad = within_past q (length q + 1) refl
met_pos p q (got left rest) = within_here q (length q - length left) (omega arith)

met_at : (p q : List ℕ) (r : Parsed (List ℕ)) → within p (ends_of p q r).at ≡ met r
unfolding ends_of met
met_at p q bad = within_past p (length p + 1) refl
met_at p q (got left rest) = within_here p (length p - length rest) (omega arith)

and_later : (a b : Bool) {c d : Bool} → a ≡ b → c ≡ d → (a && c) ≡ (b && d)
and_later a b e f = rw (e, f)

module _ (depth : ℕ) (p line starts q others : List ℕ) {es fs : Option (List (List ℕ))} (l : Lists line starts es) (m : Lists line others fs) where
  stands_same : (p q : List ℕ) {line starts : List ℕ} {es : Option (List (List ℕ))} → Lists line starts es → (x y : ℕ) {bs cs : List ℕ} → drop x p ≡ bs → drop y q ≡ cs →
      stands_at depth p x line starts q y ≡ met (matches (filled_in es (item_depth depth) bs) cs)
  unfolding stands_at
  stands_same p q {line} {starts} {es} l x y {bs} {cs} s t =
      met_pos p q _
      ∙ (ap (λ f. met (matches f (drop y q))) (filled_same l (item_depth depth) (drop x p) ∙ ap (filled_in es (item_depth depth)) s)
      ∙ ap (λ ts. met (matches (filled_in es (item_depth depth) bs) ts)) t)

  -- At any places, whether anything stands there or not.
  agree_there : (x y : ℕ) {bs cs : List ℕ} → drop x p ≡ bs → drop y q ≡ cs → agree_at depth p x line starts q y others ≡ agrees depth (item bs es) (item cs fs)
  unfolding agree_at agrees_by
  agree_there x y {bs} {cs} s t = go l m
    where
      go : {es fs : Option (List (List ℕ))} → Lists line starts es → Lists line others fs → agree_at depth p x line starts q y others ≡ agrees_by depth es fs (item bs es) (item cs fs)
      go l (unlisted e) = rw e (stands_same p q l x y s t)
      go (unlisted d) (listing h e) = rw (ne_eqb (length others) 0 (omega arith), d) (stands_same q p (listing h e) y x t s)
      go (listing {es} k d) (listing {es = fs} h e) =
          rw (ne_eqb (length others) 0 (omega arith), ne_eqb (length starts) 0 (omega arith))
          (met_at p q _
          ∙ (ap (λ (f : Filler). met (same_item f (plain line others) (item_depth depth) (drop x p) (drop y q))) (filler_same (listing k d))
          ∙ (ap (λ (g : Filler). met (same_item (by_entries es) g (item_depth depth) (drop x p) (drop y q))) (filler_same (listing h e))
          ∙ (ap (λ ps. met (same_item (by_entries es) (by_entries fs) (item_depth depth) ps (drop y q))) s
          ∙ ap (λ qs. met (same_item (by_entries es) (by_entries fs) (item_depth depth) bs qs)) t))))

  pub agree_same : {x y : ℕ} {bs cs : List ℕ} → Stands p x bs → Stands q y cs → agree_at depth p x line starts q y others ≡ agrees depth (item bs es) (item cs fs)
  agree_same {x} {y} s t = agree_there x y s.bytes_there t.bytes_there

  parts_same : (x y : ℕ) {bs cs : List ℕ} → drop x p ≡ bs → drop y q ≡ cs → parts_at depth p x line starts q y others ≡ parts_agree depth (item bs es) (item cs fs)
  unfolding parts_at parts_agree onward
  parts_same x y s t = and_later _ _ (agree_there x y s t) (agree_there _ _ (next_landed p x s) (next_landed q y t))

  pub calls_same : {x y : ℕ} {bs cs : List ℕ} → Stands p x bs → Stands q y cs → calls_at depth p x line starts q y others ≡ calls_agree depth (item bs es) (item cs fs)
  unfolding calls_at calls_agree onward
  calls_same {x} {y} s t = and_later _ _ (agree_same s t) (parts_same _ _ (next_landed p x s.bytes_there) (next_landed q y t.bytes_there))

  -- The one has none: from the object on, where there is such.
  bare_from : {x y : ℕ} (bs cs : List ℕ) {a b : Parsed (Unit {0})} → Lands p x a → Lands q y b →
      (within p (strip_at p (bytes "none") (result_at p x)) && (within q y && calls_at depth p x line starts q y others)) ≡ further (bare_calls depth) (item bs es) (item cs fs) a b
  unfolding further has_none
  bare_from {x} {y} bs cs (lost e) h =
      let z : within p (strip_at p (bytes "none") (result_at p x)) ≡ false =
      within_past p (strip_at p (bytes "none") (result_at p x)) (lost_walk (then_walk p (result_walk p) (strip_walk p 110 _)) e) in
      rw z refl
  bare_from {x} {y} bs cs (lands s) (lost f) = rw (within_past q y f) (and-false (within p (strip_at p (bytes "none") (result_at p x))))
  bare_from {x} {y} bs cs (lands s) (lands t) = rw (within_here q y t.within) (and_later _ _ (within_lands p ((then_walk p (result_walk p) (strip_walk p 110 _)).from (lands s))) (calls_same s t))

  bare_same : {x y : ℕ} {bs cs : List ℕ} → Stands p x bs → Stands q y cs → bare_at depth p x line starts q y others ≡ is_bare depth (item bs es) (item cs fs)
  unfolding bare_at is_bare head_at strip_at
  bare_same {x} {y} {bs} {cs} s t =
      let head : List ℕ = take 4 (drop x p) in
      let a : Lands p (end_of p (strip head (drop x p))) (strip (take 4 bs) bs) =
      subst (λ (b : List ℕ). Lands p (end_of p (strip head (drop x p))) (strip (take 4 b) b)) s.bytes_there (land p x (strip_tail head)) in
      let b : Lands q (end_of q (strip head (drop y q))) (strip (take 4 bs) cs) =
      subst (λ (b : List ℕ). Lands q (end_of q (strip head (drop y q))) (strip (take 4 b) cs)) s.bytes_there
      (subst (λ (c : List ℕ). Lands q (end_of q (strip head (drop y q))) (strip head c)) t.bytes_there (land q y (strip_tail head))) in
      bare_from bs cs a b

  pub covers_same : {x y : ℕ} {bs cs : List ℕ} → Stands p x bs → Stands q y cs → covers_at depth p x line starts q y others ≡ is_covered depth (item bs es) (item cs fs)
  unfolding covers_at is_covered
  covers_same s t = rw (agree_same s t, bare_same s t)

-- Bytes stand where they begin.
begins : (bs : List ℕ) → Stands bs 0 bs
begins bs = record { within = omega arith; bytes_there = refl }

-- An atom fits into another.
module _ (depth : ℕ) (p line starts q others : List ℕ) {es fs : Option (List (List ℕ))} (l : Lists line starts es) (m : Lists line others fs) where
  tests_same : TestsAlike None None es fs (by_places depth line starts others) (agrees depth)
  tests_same = record { at = λ ps qs. agree_same depth ps line starts qs others l m (begins ps) (begins qs) }

  pub fits_same : {x y : ℕ} {bs cs : List ℕ} → Stands p x bs → Stands q y cs → fits_at depth p x line starts q y others ≡ is_fitting depth (item bs es) (item cs fs)
  unfolding fits_at is_fitting
  fits_same {bs} {cs} s t =
      let fit : parts_fit (by_places depth line starts others) (bare_item bs) (bare_item cs) ≡ parts_fit (agrees depth) (item bs es) (item cs fs) = (fit_alike None None es fs tests_same).at bs cs in
      rw (s.bytes_there, t.bytes_there, fit, covers_same depth p line starts q others l m s t)
