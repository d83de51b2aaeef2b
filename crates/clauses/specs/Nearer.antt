-- Passing an item by steps of several bytes. Nothing here is to be believed: `skip` promises `skip_item`.
use Rattle.std.specs.Prelude.{ℕ, ◌+◌, ◌≤◌, ◌≡◌, List, length}
use Rattle.text.specs.Access.{closing}
use Rattle.clauses.specs.declared.access.Inside.{Inside}

-- From here on the item ends where it ended, and no more brackets are open than bytes were passed.
pub record Nearer (bs : List ℕ) (level : ℕ) (r : Inside) : Type 0 where
  pub shallow : r.level + length r.rest.now ≤ level + length bs
  pub further : length r.rest.now ≤ length bs
  pub same : closing level bs ≡ closing r.level r.rest.now
