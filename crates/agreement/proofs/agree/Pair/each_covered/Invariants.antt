use Rattle.std.proofs.Common.{◌≡◌, ◌-◌, ◌≤◌, true, length, drop}
use Rattle.filling.specs.Items.{item_of}
use Rattle.clauses.specs.Parts.{shown, all_shown}
use Rattle.agreement.specs.Agrees.{agrees, part_covered_by, part_covered, some_covers, each_covered}
use Rattle.agreement.proofs.agree.Pair.each_covered.Given as goal

abbrev pub invariant-loop-other : goal.invariant-loop-other
invariant-loop-other l =
    let test = part_covered_by l.whole (agrees l.self.depth) (item_of l.self.a) (item_of l.self.b) (shown l.part) in
    (l.covered ≡ true) × (l.n ≤ length l.others) × (some_covers test (all_shown (drop l.n l.others)) ≡ some_covers test (all_shown l.others))

abbrev pub decreases-loop-other : goal.decreases-loop-other
decreases-loop-other l = length l.others - l.n

abbrev pub invariant-parts : goal.invariant-parts
invariant-parts l =
    let test = part_covered (agrees l.self.depth) (item_of l.self.a) (item_of l.self.b) in
    (l.covered ≡ true) × (each_covered test (all_shown (drop l.part-index l.parts)) (all_shown l.others) ≡ each_covered test (all_shown l.parts) (all_shown l.others))
