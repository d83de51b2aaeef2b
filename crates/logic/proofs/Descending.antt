-- Descent: what is reached is what a clause descends from, and it is closed under used parents.
use Prim.Native.Nat.{ℕ, zero, suc, ◌<◌, ◌+◌}
use mathlib.Core.Bool.{Bool, true, false, cond, ◌||◌}
use mathlib.Core.List.{List, [], ◌∷◌, ◌++◌}
use mathlib.Core.Logic.{◌⊎◌, inl, inr, ⊎_elim, ◌↔◌}
use mathlib.Core.Path.{◌≡◌, refl, sym, ap, subst, ◌∙◌}
use native.Mathlib.Omega.{arith}
use native.Mathlib.Decide.{ℕ_discrete}
use borrow.Author.Tests.{eq-eqb}
use lib.Dec.{T, eqb, eqb→eq}
use lib.ListN.{length, drop, length-append}
use Rattle.logic.specs.Syntax.{Clause, Step}
use Rattle.logic.specs.Rules.{uses}
use Rattle.logic.specs.Descent.{Member, among, used_parents, Descends, Rising, RestsOn, numbers_below}
use Rattle.logic.specs.Reach.{ParentsFall, reached, rests_on}
use Rattle.logic.proofs.Entailment.{AllGiven, ClosedUnderParents, parents}

-- One of a list.
pub member→among : (n : ℕ) (ns : List ℕ) → Member n ns → T (among n ns)
unfolding Member among
member→among n [] h = h
member→among n (m ∷ ns) (inl e) = rw (eq-eqb n m e) tt
member→among n (m ∷ ns) (inr h) = go (eqb n m) (member→among n ns h)
  where
    go : (b : Bool) → T (among n ns) → T (b || among n ns)
    go true t = tt
    go false t = t

pub among→member : (n : ℕ) (ns : List ℕ) → T (among n ns) → Member n ns
unfolding Member among
among→member n [] h = h
among→member n (m ∷ ns) h = go (eqb n m) refl (among→member n ns) h
  where
    go : (b : Bool) → eqb n m ≡ b → (T (among n ns) → Member n ns) → T (b || among n ns) → (n ≡ m) ⊎ Member n ns
    go true e more h = inl (eqb→eq n m (rw e tt))
    go false e more h = inr (more h)

pub member_left : (n : ℕ) (ns ms : List ℕ) → Member n ns → Member n (ns ++ ms)
unfolding Member
member_left n (m ∷ ns) ms (inl e) = inl e
member_left n (m ∷ ns) ms (inr h) = inr (member_left n ns ms h)
member_left n [] ms h = absurd h

pub member_right : (n : ℕ) (ns ms : List ℕ) → Member n ms → Member n (ns ++ ms)
unfolding Member
member_right n [] ms h = h
member_right n (m ∷ ns) ms h = inr (member_right n ns ms h)

pub member_either : (n : ℕ) (ns ms : List ℕ) → Member n (ns ++ ms) → Member n ns ⊎ Member n ms
unfolding Member
member_either n [] ms h = inr h
member_either n (m ∷ ns) ms (inl e) = inl (inl e)
member_either n (m ∷ ns) ms (inr h) = ⊎_elim (λ w. inl (inr w)) (λ w. inr w) (member_either n ns ms h)

-- Where a step's number is reached later, its used parents are reached; otherwise nothing more.
module _ (n : ℕ) (s : Step) (ss : List Step) (from : List ℕ) where
  abbrev later : List ℕ
  later = reached (suc n) ss from

  pub reached_later : (m : ℕ) → Member m later → Member m (reached n (s ∷ ss) from)
  unfolding reached
  reached_later m h = go (among n later)
    where
      go : (b : Bool) → Member m (cond b (used_parents s ++ later) later)
      go true = member_right m (used_parents s) later h
      go false = h

  pub reached_parent : (m : ℕ) → Member n later → Member m (used_parents s) → Member m (reached n (s ∷ ss) from)
  unfolding reached
  reached_parent m h w = go (among n later) (member→among n later h)
    where
      go : (b : Bool) → T b → Member m (cond b (used_parents s ++ later) later)
      go true t = member_left m (used_parents s) later w
      go false t = absurd t

  pub reached_cases : (m : ℕ) → Member m (reached n (s ∷ ss) from) → Member m later ⊎ (Member n later × Member m (used_parents s))
  unfolding reached
  reached_cases m h = go (among n later) refl h
    where
      go : (b : Bool) → among n later ≡ b → Member m (cond b (used_parents s ++ later) later) → Member m later ⊎ (Member n later × Member m (used_parents s))
      go true e h = ⊎_elim (λ w. inr (among→member n later (rw e tt), w)) (λ w. inl w) (member_either m (used_parents s) later h)
      go false e h = inl h

no_step : (k : ℕ) {s : Step} {after : List Step} → drop k [] ≡ s ∷ after → ⊥
no_step zero e = omega (arith, ap length e)
no_step (suc k) e = omega (arith, ap length e)

rest_steps : {s t : Step} {ss ts : List Step} → s ∷ ss ≡ t ∷ ts → ss ≡ ts
rest_steps e = cc

next_step : (k : ℕ) (ss : List Step) {s : Step} {after : List Step} → drop k ss ≡ s ∷ after → drop (suc k) ss ≡ after
next_step zero (s ∷ ss) e = rest_steps e
next_step zero [] e = absurd (no_step 0 e)
next_step (suc k) (s ∷ ss) e = next_step k ss e
next_step (suc k) [] e = absurd (no_step (suc k) e)

first_step : {s t : Step} {ss ts : List Step} → s ∷ ss ≡ t ∷ ts → s ≡ t
first_step e = cc

not_below : (n k : ℕ) → suc n + k < n → ⊥
not_below n k h = omega arith

-- What is reached is closed under used parents.
closed : (n : ℕ) (ss : List Step) (from : List ℕ) → ParentsFall n ss → (k : ℕ) {s : Step} {after : List Step} → drop k ss ≡ s ∷ after →
    (p : ℕ) → Member p (used_parents s) → Member (n + k) (reached n ss from) → Member p (reached n ss from)
unfolding ParentsFall
closed n [] from falls k e p w h = absurd (no_step k e)
closed n (t ∷ ss) from falls zero e p w h =
    let m : Member n (reached n (t ∷ ss) from) = subst (λ x. Member x (reached n (t ∷ ss) from)) (omega arith) h in
    let q : t ≡ _ = first_step e in
    reached_parent n t ss from p (⊎_elim (λ (v : Member n (reached (suc n) ss from)). v) (λ v. v.0) (reached_cases n t ss from n m)) (rw (← q) at w)
closed n (t ∷ ss) from falls (suc k) e p w h =
    let m : Member (suc n + k) (reached n (t ∷ ss) from) = subst (λ x. Member x (reached n (t ∷ ss) from)) (omega arith) h in
    reached_later n t ss from p (closed (suc n) ss from falls.1 k e p w
    (⊎_elim (λ v. v) (λ v. absurd (not_below n k (falls.0 (suc n + k) v.1))) (reached_cases n t ss from (suc n + k) m)))

module _ (inputs : ℕ) (ss : List Step) where
  -- One used parent further.
  pub descends_on : {m n : ℕ} (k : ℕ) {p : ℕ} {s : Step} {after : List Step} → Descends inputs ss m n → n ≡ inputs + k → drop k ss ≡ s ∷ after → Member p (used_parents s) →
      Descends inputs ss m p
  descends_on k (Descends.itself) e d w = rw e (Descends.through k d w Descends.itself)
  descends_on k (Descends.through j d' w' h) e d w = Descends.through j d' w' (descends_on k h e d w)

  -- What is reached from a clause: those that it descends from.
  reached_descends : (first k : ℕ) (ts : List Step) → drop k ss ≡ ts → (m : ℕ) → Member m (reached (inputs + k) ts (first ∷ [])) → Descends inputs ss first m
  unfolding reached Member
  reached_descends first k [] e m (inl q) = rw q Descends.itself
  reached_descends first k [] e m (inr q) = absurd q
  reached_descends first k (t ∷ ts) e m h =
      let onward : (x : ℕ) → Member x (reached (suc (inputs + k)) ts (first ∷ [])) → Descends inputs ss first x =
      λ x v. reached_descends first (suc k) ts (next_step k ss e) x (subst (λ y. Member x (reached y ts (first ∷ []))) (omega arith) v) in
      ⊎_elim (λ v. onward m v) (λ v. descends_on k (onward (inputs + k) v.0) refl e v.1) (reached_cases (inputs + k) t ts (first ∷ []) m h)

  descends_reached : (falls : ParentsFall inputs ss) (from : List ℕ) {m n : ℕ} → Descends inputs ss m n → Member m (reached inputs ss from) → Member n (reached inputs ss from)
  descends_reached falls from Descends.itself h = h
  descends_reached falls from (Descends.through k {p = p} d w r) h = descends_reached falls from r (closed inputs ss from falls k d p w h)

from_reached : (n : ℕ) (ss : List Step) (from : List ℕ) (m : ℕ) → Member m from → Member m (reached n ss from)
unfolding reached
from_reached n [] from m h = h
from_reached n (s ∷ ss) from m h = reached_later n s ss from m (from_reached (suc n) ss from m h)

-- What is reached from a clause is what it descends from.
pub reached_exactly : (inputs : ℕ) (ss : List Step) → ParentsFall inputs ss → (first m : ℕ) → T (among m (reached inputs ss (first ∷ []))) ↔ Descends inputs ss first m
unfolding Member
reached_exactly inputs ss falls first m = (
  λ h. reached_descends inputs ss first 0 ss refl m (subst (λ y. Member m (reached y ss (first ∷ []))) (omega arith) (among→member m (reached inputs ss (first ∷ [])) h)),
  λ h. member→among m (reached inputs ss (first ∷ [])) (descends_reached inputs ss falls (first ∷ []) h (from_reached inputs ss (first ∷ []) first (inl refl))),
)

-- Numbers below a bound that pass a test.
tested : (b : Bool) (n m : ℕ) → Member m (cond b (n ∷ []) []) → (m ≡ n) × T b
unfolding Member
tested true n m (inl e) = (e, tt)
tested true n m (inr h) = absurd h
tested false n m h = absurd h

tested_in : (b : Bool) (n : ℕ) → T b → Member n (cond b (n ∷ []) [])
unfolding Member
tested_in true n h = inl refl
tested_in false n h = absurd h

pub numbers_below_lem : (k : ℕ) (test : ℕ → Bool) (m : ℕ) → Member m (numbers_below k test) → (m < k) × T (test m)
unfolding numbers_below Member
numbers_below_lem zero test m h = absurd h
numbers_below_lem (suc k) test m h =
    ⊎_elim
    (λ v. let w = numbers_below_lem k test m v in (omega (arith, w.0), w.1))
    (λ v. let w = tested (test k) k m v in (omega (arith, w.0), rw w.0 w.1))
    (member_either m (numbers_below k test) (cond (test k) (k ∷ []) []) h)

pub below_numbers : (k : ℕ) (test : ℕ → Bool) (m : ℕ) → m < k → T (test m) → Member m (numbers_below k test)
unfolding numbers_below
below_numbers zero test m h t = absurd (omega arith)
below_numbers (suc k) test m h t = go (ℕ_discrete m k) (below_numbers k test m)
  where
    go : Dec (m ≡ k) → (m < k → T (test m) → Member m (numbers_below k test)) → Member m (numbers_below k test ++ cond (test k) (k ∷ []) [])
    go (yes e) before = rw e (member_right k (numbers_below k test) (cond (test k) (k ∷ []) []) (tested_in (test k) k (rw e at t)))
    go (no n) before = member_left m (numbers_below k test) (cond (test k) (k ∷ []) []) (before (omega arith) t)

rising_last : (ns ms : List ℕ) → Rising ns → Rising ms → ((n m : ℕ) → Member n ns → Member m ms → n < m) → Rising (ns ++ ms)
unfolding Rising Member
rising_last [] ms r q w = q
rising_last (n ∷ ns) ms r q w =
    (λ m h. ⊎_elim (λ v. r.0 m v) (λ v. w n m (inl refl) v) (member_either m ns ms h), rising_last ns ms r.1 q (λ x y h. w x y (inr h)))

one_rising : (b : Bool) (n : ℕ) → Rising (cond b (n ∷ []) [])
unfolding Rising Member
one_rising true n = (λ m h. absurd h, tt)
one_rising false n = tt

pub numbers_rising : (k : ℕ) (test : ℕ → Bool) → Rising (numbers_below k test)
unfolding numbers_below Rising
numbers_rising zero test = tt
numbers_rising (suc k) test =
    rising_last (numbers_below k test) (cond (test k) (k ∷ []) []) (numbers_rising k test) (one_rising (test k) k) (λ n m h v.
    let w = numbers_below_lem k test n h in let u = tested (test k) k m v in omega (arith, w.0, u.0))

apart : {n m : ℕ} → m < n → n < m → ⊥
apart h k = omega arith

same_below : {n m : ℕ} → n < m → m ≡ n → ⊥
same_below h e = omega arith

pub numbers_none : (k : ℕ) (test : ℕ → Bool) → ((n : ℕ) → test n ≡ false) → numbers_below k test ≡ []
unfolding numbers_below
numbers_none zero test h = refl
numbers_none (suc k) test h = rw (h k, numbers_none k test h)

-- Two rising lists of the same numbers are the same.
pub rising_same : (ns ms : List ℕ) → Rising ns → Rising ms → ((n : ℕ) → Member n ns ↔ Member n ms) → ns ≡ ms
unfolding Rising Member
rising_same [] [] r q w = refl
rising_same [] (m ∷ ms) r q w = absurd ((w m).1 (inl refl))
rising_same (n ∷ ns) [] r q w = absurd ((w n).0 (inl refl))
rising_same (n ∷ ns) (m ∷ ms) r q w =
    let e : n ≡ m = ⊎_elim (λ (v : n ≡ m). v) (λ v. ⊎_elim (λ (u : m ≡ n). sym u) (λ u. absurd (apart (q.0 n v) (r.0 m u))) ((w m).1 (inl refl))) ((w n).0 (inl refl)) in
    rw e (ap (λ x. m ∷ x) (rising_same ns ms r.1 q.1 (λ x. (
      λ h. ⊎_elim (λ (v : x ≡ m). absurd (same_below (r.0 x h) (v ∙ sym e))) (λ v. v) ((w x).0 (inr h)),
      λ h. ⊎_elim (λ (v : x ≡ n). absurd (same_below (q.0 x h) (v ∙ e))) (λ v. v) ((w x).1 (inr h)),
    ))))

-- The numbers that are given are those meant, and no others are.
pub rests_exactly : (inputs : ℕ) (ss : List Step) → ParentsFall inputs ss → (first : ℕ) (ns : List ℕ) → rests_on inputs ss first ≡ ns ↔ RestsOn inputs ss first ns
unfolding rests_on
rests_exactly inputs ss falls first ns = (
  λ e. subst (RestsOn inputs ss first) e given,
  λ r. rising_same _ ns given.rising r.rising (λ n. (
    λ h. (r.exactly n).1 ((given.exactly n).0 h),
    λ h. (given.exactly n).1 ((r.exactly n).0 h),
  )),
)
  where
    test : ℕ → Bool
    test n = among n (reached inputs ss (first ∷ []))

    given : RestsOn inputs ss first (rests_on inputs ss first)
    given = record {
      rising = numbers_rising inputs test;
      exactly = λ n. (
        λ h. let w = numbers_below_lem inputs test n h in (w.0, (reached_exactly inputs ss falls first n).0 w.1),
        λ h. below_numbers inputs test n h.0 ((reached_exactly inputs ss falls first n).1 h.1),
      );
    }

-- Steps that the rules give use parents before them.
pub given_falls : (table : List ℕ) (cs : List Clause) (ss : List Step) → AllGiven table cs ss → ParentsFall (length cs) ss
unfolding AllGiven ParentsFall used_parents
given_falls table cs [] w = tt
given_falls table cs (s ∷ ss) w =
    let b = parents cs s w.0 in (
      λ p h. ⊎_elim (λ v. let u = tested (uses s.rule).a s.a p v in rw u.0 (b.0 u.1)) (λ v. let u = tested (uses s.rule).b s.b p v in rw u.0 (b.1 u.1))
          (member_either p (cond (uses s.rule).a (s.a ∷ []) []) (cond (uses s.rule).b (s.b ∷ []) []) h),
      subst (λ n. ParentsFall n ss) (omega (arith, length-append cs (s.claim ∷ []))) (given_falls table (cs ++ (s.claim ∷ [])) ss w.3),
    )

-- The clauses that a clause descends from are closed under used parents.
pub descends_closed : (inputs : ℕ) (all : List Step) (first : ℕ) (cs : List Clause) (k : ℕ) (ss : List Step) → length cs ≡ inputs + k → drop k all ≡ ss →
    ClosedUnderParents (Descends inputs all first) cs ss
unfolding ClosedUnderParents used_parents
descends_closed inputs all first cs k [] n e = tt
descends_closed inputs all first cs k (s ∷ ss) n e = (
  λ h. (
    λ u. descends_on inputs all k h n e (member_left s.a _ (cond (uses s.rule).b (s.b ∷ []) []) (tested_in (uses s.rule).a s.a u)),
    λ u. descends_on inputs all k h n e (member_right s.b (cond (uses s.rule).a (s.a ∷ []) []) _ (tested_in (uses s.rule).b s.b u)),
  ),
  descends_closed inputs all first (cs ++ (s.claim ∷ [])) (suc k) ss (omega (arith, length-append cs (s.claim ∷ []))) (next_step k all e),
)
