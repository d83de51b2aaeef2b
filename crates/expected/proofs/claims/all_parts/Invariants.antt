use Rattle.std.proofs.Common.{◌≡◌, drop}
use Rattle.filling.specs.Items.{item_of}
use Rattle.clauses.specs.Parts.{all_shown}
use Rattle.expected.specs.Claims.{item_expected, parts_claimed}
use Rattle.expected.proofs.claims.all_parts.Given as goal

abbrev pub invariant-loop-shown : goal.invariant-loop-shown
invariant-loop-shown l =
    let expected = parts_claimed (item_expected l.depth) (item_of l.fn.of) in
    expected (all_shown (drop l.shown-index l.parts)) l.left ≡ expected (all_shown l.parts) l.rest
