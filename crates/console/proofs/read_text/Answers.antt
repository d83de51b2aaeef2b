use Rattle.std.proofs.Common.{ap, arith, append-nil, drop, length, length-append, length-drop, length-take, List, [], sym, take, ◌+◌, ◌-◌, ◌++◌, ◌≤◌, ◌∙◌, ◌≡◌, ℕ}
use Rattle.std.proofs.Math.ListN.{drop_of_length-le}
use Rattle.std.proofs.Math.Seq.{drop-append-add, drop-drop, take-append-add, take_all}
use Rattle.std.proofs.KnownBytes.{Consumes-trans}
use borrow.Rule.Slice.PartMut.{put_mid, post_of}
use Rattle.console.proofs.read_text.Goals as goal

-- What stands behind a place stands behind a later one.
further : (at n : ℕ) (xs ys : List ℕ) → drop at xs ≡ drop at ys → drop (at + n) xs ≡ drop (at + n) ys
further at n xs ys e = sym (drop-drop n at xs) ∙ ap (λ (l : List ℕ). drop n l) e ∙ drop-drop n at ys

-- A buffer whose bytes from a place on were lent, and are back as ys.
module _ (at n : ℕ) (xs ys : List ℕ) (h : at ≤ length xs) where
  front : length (take at xs) ≡ at
  front = omega (arith, length-take at xs)

  whole : put_mid at (length xs - at) xs ys ≡ take at xs ++ ys
  whole =
      let none : post_of at (length xs - at) xs ≡ [] = drop_of_length-le (drop at xs) (omega (arith, length-drop at xs)) in
      rw (none, append-nil ys)

  behind : drop (at + n) (put_mid at (length xs - at) xs ys) ≡ drop n ys
  behind = ap (drop (at + n)) whole ∙ rw front at (drop-append-add (take at xs) ys n)

  before : take (at + n) (put_mid at (length xs - at) xs ys) ≡ take at xs ++ take n ys
  before = ap (take (at + n)) whole ∙ rw front at (take-append-add (take at xs) ys n)

pub loop-at-preserved : goal.loop-at-preserved
loop-at-preserved g c =
    let h = c.loop-at.invariant in
    let r = c.in-Ok.ensures in
    let at = c.loop-at.at in
    let n = c.in-Ok.n in
    let text = c.loop-at.text in
    let out = c.read_some.new.out in
    let lent : take (length text - at) (drop at text) ≡ drop at text = take_all (length text - at) (drop at text) (omega (arith, length-drop at text)) in
    let same : length (put_mid at (length text - at) text out) ≡ length text =
    omega (arith, ap length (whole at n text out h.in_text), length-append (take at text) out, front at n text out h.in_text, c.read_some.auto.out, ap length lent, length-drop at text) in
    record {
      in_text = omega (arith, r.result_in_bounds, same, ap length lent, length-drop at text);
      same_length = same ∙ h.same_length;
      behind = behind at n text out h.in_text ∙ r.out_unchanged ∙ ap (drop n) lent ∙ drop-drop n at text ∙ further at n _ _ h.behind;
      bytes = rw (before at n text out h.in_text) (Consumes-trans _ _ _ _ _ h.bytes r.bytes);
    }
