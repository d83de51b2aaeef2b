use Rattle.std.proofs.Common.{◌≡◌, ◌∙◌, arith}
use lib.ListN.{length-replicate}
use Rattle.text.specs.Figures.{office}
use Rattle.descent.specs.declared.Held.{Held}
use Rattle.descent.specs.Walk.{nothing_held}
use Rattle.verdict.proofs.Running.{text_within}
use Rattle.verdict.proofs.TwoTexts.{Passes, came_first, came_end, came_as, next_refused, next_passes}
use Rattle.verdict.proofs.read_on.Goals as goal
use Rattle.verdict.proofs.read_on.Goals.{In-Ok, in-Symbol, in-Clause}
use Rattle.state.specs.ReadLine.{with_added}

-- The base is no longer than a text may be.
pub reach-whole-requires : goal.reach-whole-requires
reach-whole-requires c = let p = c.requires in omega (arith, (text_within _ _ p.0).0, p.1.bytes)

pub loop-at-init : goal.loop-at-init
loop-at-init c =
    let p = c.requires in
    came_first _ _ _ p.1 p.0 _ _ c.fresh-state.ensures.begins (length-replicate {A = Held} office.lines nothing_held)

-- A line that passes.
passes : (c : In-Ok) → let l = c.loop-at in Passes c.args.figures c.args.texts.base.now c.args.texts.job.now l.at l.lines l.state l.held c.in-Ok.line c.in-Ok.length
passes c =
    let p = c.requires in
    next_passes _ _ _ p.1 p.0 c.loop-at.invariant (omega (arith, c.reach-whole.ensures, c.loop-at-test.true)) c.in-Ok.ensures.first_failing c.in-Ok.ensures.value

pub overflow_add-at : goal.overflow_add-at
overflow_add-at c = let r = passes (goal.at.overflow_add-at c).In-Ok in omega (arith, r.short)

pub loop-at-smaller : goal.loop-at-smaller
loop-at-smaller c = let r = passes (goal.at.loop-at-smaller c).In-Ok in omega (arith, r.within, r.some)

pub hold-requires : goal.hold-requires
hold-requires c = (passes (goal.at.hold-requires c).In-Ok).room

-- The state that comes back is that with what the line adds.
pub loop-at-preserved : goal.loop-at-preserved
unfolding with_added
loop-at-preserved c =
    let r = passes (goal.at.loop-at-preserved c).In-Ok in
    let e = c.adds-added.ensures in
    let s : c.match-added.state ≡ with_added c.loop-at.state c.adds-added.result = elim c.match-added.branch [
      | in-Symbol w ↦ rw (w.in-Symbol.is) (w.state-is ∙ w.with_symbol-state.ensures)
      | in-Clause w ↦ rw (w.in-Clause.is) (w.state-is ∙ w.with_clause-state.ensures)
    ] in
    came_as (r.onward (rw e.value at e.adds)) (cc (s, e.value)) (cc (e.value, c.hold.ensures, c.parents.ensures.value))

pub returns-in-Err : goal.returns-in-Err
returns-in-Err c =
    let p = c.requires in
    let r = next_refused _ _ _ p.1 p.0 c.loop-at.invariant (omega (arith, c.reach-whole.ensures, c.loop-at-test.true)) c.in-Err.ensures.first_failing c.in-Err.ensures.value p.2 in
    record { answers = r.0; stops_at = r.1 }

-- All lines are read.
pub returns : goal.returns
returns c =
    let p = c.requires in
    let w = c.finish-answer.ensures in
    let r = came_end _ _ _ p.1 p.0 c.loop-at.invariant (omega (arith, c.reach-whole.ensures, c.loop-at-test.false)) _ w.value w.rests_after p.2 in
    record { answers = r.0; stops_at = r.1 }
