-- Parts tried one after the other.
use Rattle.std.proofs.Common.{◌≡◌, ℕ, ◌+◌, ◌<◌, ◌≤◌, Bool, true, false, List, length, drop, slice_index_or, ◌∙◌}
use Rattle.std.proofs.lemmas.List.{at_drop_more, at_drop_all}
use Rattle.clauses.specs.Parts.{PartIn, shown, all_shown}
use Rattle.clauses.specs.declared.parts.Part.{Part}
use Rattle.agreement.specs.Agrees.{some_covers, each_covered}

-- Of the others from number n on, the next covers or it does not; behind the last none does.
module _ (covered : PartIn → Bool) (qs : List Part) (n : ℕ) where
  pub covers_here : (q : Part) → n < length qs → ((d : Part) → q ≡ slice_index_or qs n d) → covered (shown q) ≡ true → some_covers covered (all_shown (drop n qs)) ≡ true
  unfolding some_covers
  covers_here q h e c = at_drop_more (λ xs. some_covers covered (all_shown xs)) qs n q h ∙ rw (← e q, c)

  pub covers_later : (q : Part) → n < length qs → ((d : Part) → q ≡ slice_index_or qs n d) → covered (shown q) ≡ false → some_covers covered (all_shown (drop n qs)) ≡ some_covers covered (all_shown (drop (n + 1) qs))
  unfolding some_covers
  covers_later q h e c = at_drop_more (λ xs. some_covers covered (all_shown xs)) qs n q h ∙ rw (← e q, c)

  pub covers_never : length qs ≤ n → some_covers covered (all_shown (drop n qs)) ≡ false
  unfolding some_covers
  covers_never h = at_drop_all (λ xs. some_covers covered (all_shown xs)) qs n h

-- Of the parts from number i on: the next is covered, or it is not; behind the last all are.
module _ (covered : PartIn → PartIn → Bool) (ps : List Part) (i : ℕ) (qs : List PartIn) where
  pub covered_here : (d : Part) → i < length ps → some_covers (covered (shown (slice_index_or ps i d))) qs ≡ true →
      each_covered covered (all_shown (drop i ps)) qs ≡ each_covered covered (all_shown (drop (i + 1) ps)) qs
  unfolding each_covered
  covered_here d h c = at_drop_more (λ xs. each_covered covered (all_shown xs) qs) ps i d h ∙ rw c

  pub uncovered_here : (d : Part) → i < length ps → some_covers (covered (shown (slice_index_or ps i d))) qs ≡ false →
      each_covered covered (all_shown (drop i ps)) qs ≡ false
  unfolding each_covered
  uncovered_here d h c = at_drop_more (λ xs. each_covered covered (all_shown xs) qs) ps i d h ∙ rw c

  pub covered_all : length ps ≤ i → each_covered covered (all_shown (drop i ps)) qs ≡ true
  unfolding each_covered
  covered_all h = at_drop_all (λ xs. each_covered covered (all_shown xs) qs) ps i h
