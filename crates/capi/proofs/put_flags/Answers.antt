use Rattle.std.proofs.Common.{refl, ◌≡◌, ◌∙◌, arith, length, append-nil}
use Rattle.std.proofs.lemmas.List.{drop_all}
use Rattle.meaning.specs.Means.{named}
use Rattle.capi.proofs.Flags.{no_flags, more_flags, mark_flag, all_flags}
use Rattle.capi.proofs.put_flags.Goals as goal

pub loop-n-init : goal.loop-n-init
loop-n-init c = no_flags (named c.args.marks.now) c.split_at_mut-told.result.0.now

pub loop-n-preserved : goal.loop-n-preserved
loop-n-preserved c =
    rw (c.loop-n.invariant, c.from.ensures ∙ mark_flag c.args.marks.now c.loop-n.n (omega arith)) (more_flags c.loop-n.n (named c.args.marks.now) c.split_at_mut-told.result.0.now (omega arith))

pub returns : goal.returns
returns c =
    let s = c.split_at_mut-told.ensures in
    let k : c.loop-n.n ≡ length c.split_at_mut-told.result.0.now = omega (arith, c.loop-n-test.false, c.loop-n.auto.n-end) in
    let told = rw (drop_all c.loop-n.n c.split_at_mut-told.result.0.now (omega (arith, k)), append-nil) at c.loop-n.invariant in
    rw told (all_flags c.args.marks.now c.fill.new.self c.loop-n.n (length c.args.out.now) (omega arith) (omega (arith, k, s.front_len, s.back_len, c.fill.ensures.len)) (λ h. omega (arith, h, k, s.front_len, s.back_len, c.min.ensures, c.fill.ensures.len)) (λ i d h. c.fill.ensures.clones i d (omega (arith, h, c.fill.ensures.len)) refl))
