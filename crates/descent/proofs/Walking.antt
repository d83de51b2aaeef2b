-- The walk back gives the inputs from which a clause descends.
use Prim.Native.Nat.{ℕ, zero, suc, ◌+◌, ◌-◌, ◌≤◌, ◌<◌}
use mathlib.Core.Bool.{Bool, true, false, cond}
use mathlib.Core.List.{List, [], ◌∷◌}
use mathlib.Core.Logic.{◌⊎◌, inl, inr, ⊎_elim}
use mathlib.Core.Path.{◌≡◌, refl, sym, ap, subst, ◌∙◌}
use native.Mathlib.Omega.{arith}
use native.Mathlib.Decide.{ℕ_discrete, dec_lt}
use borrow.Author.Tests.{lt-ltb, ne_eqb}
use lib.Dec.{T, ltb}
use lib.ListN.{length, get_or, set, drop, replicate, length-set, length-replicate}
use lib.Seq.{get_or-set_same, get_or-set_other, set_out}
use Rattle.std.proofs.Common.{Option, Some, None}
use Rattle.logic.specs.Syntax.{Step}
use Rattle.logic.specs.Rules.{uses}
use Rattle.logic.specs.Descent.{Member, among, used_parents, numbers_below}
use Rattle.logic.specs.Reach.{ParentsFall, reached, rests_on}
use Rattle.logic.proofs.Descending.{member→among, among→member, member_left, member_right, member_either, reached_later, reached_parent, reached_cases, numbers_below_lem, below_numbers, numbers_rising, rising_same}
use Rattle.text.specs.Figures.{office}
use Rattle.descent.specs.declared.Held.{Held}
use Rattle.descent.specs.Walk.{parent_if, parents_by, parents_of, parents_held, marked, passed, walked, inputs_from, HeldFrom}
use Rattle.descent.proofs.Marks.{marked_length, none_marked}

-- What is marked once a parent is.
module _ (marks : List Bool) where
  marked_cases : (p : Option ℕ) (m : ℕ) → T (get_or (marked marks p) m false) → (p ≡ Some m) ⊎ T (get_or marks m false)
  unfolding marked
  marked_cases None m h = inr h
  marked_cases (Some p) m h = go (ℕ_discrete m p)
    where
      go : Dec (m ≡ p) → (Some p ≡ Some m) ⊎ T (get_or marks m false)
      go (yes q) = inl (ap Some (sym q))
      go (no n) = inr (rw (get_or-set_other marks p m true false n) at h)

  marked_here : (m : ℕ) → m < length marks → T (get_or (marked marks (Some m)) m false)
  unfolding marked
  marked_here m h = rw (get_or-set_same marks m true false h) tt

  marked_before : (p : Option ℕ) (m : ℕ) → T (get_or marks m false) → T (get_or (marked marks p) m false)
  unfolding marked
  marked_before None m h = h
  marked_before (Some p) m h = go (ℕ_discrete m p) (dec_lt p (length marks))
    where
      go : Dec (m ≡ p) → Dec (p < length marks) → T (get_or (set marks p true) m false)
      go (yes q) (yes l) = rw (q, get_or-set_same marks p true false l) tt
      go (no n) d = rw (get_or-set_other marks p m true false n) h
      go (yes q) (no l) = rw (set_out marks p true (omega arith)) h

-- A used parent's number is held as it is; of one that is not used, no number.
held_cases : (used : Bool) (p m : ℕ) → parent_if used p ≡ Some m → Member m (cond used (p ∷ []) [])
unfolding parent_if Member
held_cases false p m e = cc
held_cases true p m e = go (ltb p office.lines) e
  where
    go : (t : Bool) → cond t (Some p) None ≡ Some m → (m ≡ p) ⊎ ⊥
    go true e = inl cc
    go false e = cc

held_used : (used : Bool) (p m : ℕ) → Member m (cond used (p ∷ []) []) → m < office.lines → parent_if used p ≡ Some m
unfolding parent_if Member
held_used false p m w h = absurd w
held_used true p m (inl e) h = rw (lt-ltb p office.lines (omega arith), e)
held_used true p m (inr w) h = absurd w

-- The marks are the clauses below n that are reached by the steps from n on.
pub record Marks (n : ℕ) (later : List ℕ) (marks : List Bool) : Type 0 where
  pub long : length marks ≡ office.lines
  pub told : (m : ℕ) → T (get_or marks m false) → Member m later × (m < n)
  pub kept : (m : ℕ) → Member m later → m < n → T (get_or marks m false)

-- A step that is not reached, and one that is.
module _ {n : ℕ} (s : Step) (ss : List Step) (from : List ℕ) (room : n < office.lines) (falls : (p : ℕ) → Member p (used_parents s) → p < n) {marks : List Bool}
    (M : Marks (suc n) (reached (suc n) ss from) marks) where
  abbrev later : List ℕ
  later = reached (suc n) ss from

  abbrev cleared : List Bool
  cleared = set marks n false

  abbrev held_a : Option ℕ
  held_a = (parents_of s).a

  abbrev held_b : Option ℕ
  held_b = (parents_of s).b

  cleared_long : length cleared ≡ office.lines
  cleared_long = length-set marks n false ∙ M.long

  one_long : length (marked cleared held_a) ≡ office.lines
  one_long = marked_length cleared held_a ∙ cleared_long

  cleared_cases : (m : ℕ) → T (get_or cleared m false) → (m < n) × Member m later
  cleared_cases m h = go (ℕ_discrete m n)
    where
      go : Dec (m ≡ n) → (m < n) × Member m later
      go (yes e) = absurd (subst T (ap (λ x. get_or cleared x false) e ∙ get_or-set_same marks n false false (omega (arith, M.long))) h)
      go (no k) = let w = M.told m (subst T (get_or-set_other marks n m false false k) h) in (omega (arith, w.1), w.0)

  reached_told : Member n later → (m : ℕ) → T (get_or (marked (marked cleared held_a) held_b) m false) → Member m (reached n (s ∷ ss) from) × (m < n)
  unfolding parents_by used_parents
  reached_told here m h =
      ⊎_elim
      (λ w. parent (member_right m (cond (uses s.rule).a (s.a ∷ []) []) (cond (uses s.rule).b (s.b ∷ []) []) (held_cases (uses s.rule).b s.b m w)))
      (λ w. ⊎_elim
      (λ v. parent (member_left m (cond (uses s.rule).a (s.a ∷ []) []) (cond (uses s.rule).b (s.b ∷ []) []) (held_cases (uses s.rule).a s.a m v)))
      (λ v. let u = cleared_cases m v in (reached_later n s ss from m u.1, u.0))
      (marked_cases cleared held_a m w))
      (marked_cases (marked cleared held_a) held_b m h)
    where
      parent : Member m (used_parents s) → Member m (reached n (s ∷ ss) from) × (m < n)
      parent w = (reached_parent n s ss from m here w, falls m w)

  reached_kept : (m : ℕ) → Member m (reached n (s ∷ ss) from) → m < n → T (get_or (marked (marked cleared held_a) held_b) m false)
  unfolding parents_by used_parents
  reached_kept m h l =
      ⊎_elim
      (λ w. marked_before (marked cleared held_a) held_b m (marked_before cleared held_a m
      (subst T (sym (get_or-set_other marks n m false false (λ e. absurd (omega arith)))) (M.kept m w (omega arith)))))
      (λ w. ⊎_elim
      (λ v. marked_before (marked cleared held_a) held_b m (at_held cleared cleared_long held_a (held_used (uses s.rule).a s.a m v (omega arith))))
      (λ v. at_held (marked cleared held_a) one_long held_b (held_used (uses s.rule).b s.b m v (omega arith)))
      (member_either m (cond (uses s.rule).a (s.a ∷ []) []) (cond (uses s.rule).b (s.b ∷ []) []) w.1))
      (reached_cases n s ss from m h)
    where
      at_held : (xs : List Bool) → length xs ≡ office.lines → (p : Option ℕ) → p ≡ Some m → T (get_or (marked xs p) m false)
      at_held xs q p e = rw e (marked_here xs m (omega arith))

  pub marks_passed : Marks n (reached n (s ∷ ss) from) (passed marks n (parents_of s))
  unfolding passed
  marks_passed = go (get_or marks n false) refl
    where
      go : (t : Bool) → get_or marks n false ≡ t → Marks n (reached n (s ∷ ss) from) (cond t (marked (marked cleared held_a) held_b) marks)
      go true e = record { long = marked_length (marked cleared held_a) held_b ∙ one_long; told = reached_told (M.told n (rw e tt)).0; kept = reached_kept }
      go false e = record {
        long = M.long;
        told = λ m h. let w = M.told m h in (reached_later n s ss from m w.0, not_here m h w.1);
        kept = λ m h l. ⊎_elim (λ w. M.kept m w (omega arith)) (λ w. absurd (subst T e (M.kept n w.0 (omega arith)))) (reached_cases n s ss from m h);
      }
        where
          not_here : (m : ℕ) → T (get_or marks m false) → m < suc n → m < n
          not_here m h l = at (ℕ_discrete m n)
            where
              at : Dec (m ≡ n) → m < n
              at (yes q) = absurd (subst T (ap (λ x. get_or marks x false) q ∙ e) h)
              at (no k) = omega arith

-- Step k of the steps.
some_step : (k : ℕ) (ss : List Step) → k < length ss → (s : Step) × (drop k ss ≡ s ∷ drop (suc k) ss)
some_step k [] h = absurd (omega arith)
some_step zero (s ∷ ss) h = (s, refl)
some_step (suc k) (s ∷ ss) h = some_step k ss (omega arith)

held_at : (n : ℕ) (held : List Held) (ss : List Step) → HeldFrom n held ss → (k : ℕ) (s : Step) → drop k ss ≡ s ∷ drop (suc k) ss →
    parents_held held (n + k) ≡ parents_of s
unfolding HeldFrom
held_at n held [] w zero s e = absurd (omega (arith, ap length e))
held_at n held [] w (suc k) s e = absurd (omega (arith, ap length e))
held_at n held (t ∷ ss) w zero s e =
    let q : t ≡ s = cc in
    let z : n + 0 ≡ n = omega arith in
    rw z (w.0 ∙ ap parents_of q)
held_at n held (t ∷ ss) w (suc k) s e =
    let z : n + suc k ≡ suc n + k = omega arith in
    rw z (held_at (suc n) held ss w.1 k s e)

falls_at : (n : ℕ) (ss : List Step) → ParentsFall n ss → (k : ℕ) (s : Step) → drop k ss ≡ s ∷ drop (suc k) ss → (p : ℕ) → Member p (used_parents s) → p < n + k
unfolding ParentsFall
falls_at n [] w zero s e p m = absurd (omega (arith, ap length e))
falls_at n [] w (suc k) s e p m = absurd (omega (arith, ap length e))
falls_at n (t ∷ ss) w zero s e p m =
    let q : s ≡ t = cc in
    let h = w.0 p (subst (λ x. Member p (used_parents x)) q m) in
    omega (arith, h)
falls_at n (t ∷ ss) w (suc k) s e p m = let h = falls_at (suc n) ss w.1 k s e p m in omega (arith, h)

-- No step after a clause is reached from it.
reached_alone : (n : ℕ) (ss : List Step) (first : ℕ) → first < n → reached n ss (first ∷ []) ≡ first ∷ []
unfolding reached among
reached_alone n [] first h = refl
reached_alone n (s ∷ ss) first h = rw (reached_alone (suc n) ss first (omega arith), ne_eqb n first (λ e. absurd (omega arith)))

module _ (inputs : ℕ) (ss : List Step) (held : List Held) (H : HeldFrom inputs held ss) (falls : ParentsFall inputs ss) (room : inputs + length ss ≤ office.lines) where
  walk_marks : (from : List ℕ) (k : ℕ) (marks : List Bool) → k ≤ length ss → Marks (inputs + k) (reached (inputs + k) (drop k ss) from) marks →
      Marks inputs (reached inputs ss from) (walked held inputs k marks)
  unfolding walked
  walk_marks from zero marks h M = let z : inputs + 0 ≡ inputs = omega arith in rw z at M
  walk_marks from (suc k) marks h M =
      let (s, e) = some_step k ss (omega arith) in
      let z : inputs + suc k ≡ suc (inputs + k) = omega arith in
      let M' : Marks (suc (inputs + k)) (reached (suc (inputs + k)) (drop (suc k) ss) from) marks = rw z at M in
      let N = marks_passed s (drop (suc k) ss) from (omega arith) (falls_at inputs ss falls k s e) M' in
      walk_marks from k (passed marks (inputs + k) (parents_held held (inputs + k))) (omega arith) (rw (e, held_at inputs held ss H k s e) N)

  module _ (first : ℕ) (here : first < inputs + length ss) where
    none_long : length (replicate office.lines false) ≡ office.lines
    none_long = length-replicate office.lines false

    first_marks : (n : ℕ) → first < n → Marks n (first ∷ []) (marked (replicate office.lines false) (Some first))
    unfolding Member
    first_marks n h = record {
      long = marked_length (replicate office.lines false) (Some first) ∙ none_long;
      told = λ m t. ⊎_elim (λ w. let e : m ≡ first = cc in (inl e, omega (arith, e))) (λ w. absurd (subst T (none_marked office.lines m) w)) (marked_cases (replicate office.lines false) (Some first) m t);
      kept = λ m w l. ⊎_elim (λ e. rw e (marked_here (replicate office.lines false) first (omega arith))) (λ w. absurd w) w;
    }

    pub walk_marked : Marks inputs (reached inputs ss (first ∷ [])) (inputs_from held inputs first)
    unfolding inputs_from marked
    walk_marked =
        let k = suc first - inputs in
        walk_marks (first ∷ []) k (marked (replicate office.lines false) (Some first)) (omega arith)
        (rw (reached_alone (inputs + k) (drop k ss) first (omega arith)) (first_marks (inputs + k) (omega arith)))

    -- The numbers that are marked are those of the inputs from which the clause descends.
    pub walk_rests : numbers_below office.lines (λ n. get_or (inputs_from held inputs first) n false) ≡ rests_on inputs ss first
    unfolding rests_on
    walk_rests =
        let M = walk_marked in
        let t : ℕ → Bool = λ n. get_or (inputs_from held inputs first) n false in
        let u : ℕ → Bool = λ n. among n (reached inputs ss (first ∷ [])) in
        rising_same (numbers_below office.lines t) (numbers_below inputs u) (numbers_rising office.lines t) (numbers_rising inputs u) (λ n. (
          λ h. let w = M.told n (numbers_below_lem office.lines t n h).1 in below_numbers inputs u n w.1 (member→among n (reached inputs ss (first ∷ [])) w.0),
          λ h. let w = numbers_below_lem inputs u n h in below_numbers office.lines t n (omega (arith, w.0)) (M.kept n (among→member n (reached inputs ss (first ∷ [])) w.1) w.0),
        ))
