-- What mer and pro expect in the claim (R25, R26) is the new literal, for written atoms.
use Prim.Native.Nat.{ℕ, ◌≤◌}
use Prim.Native.String.{String}
use mathlib.Core.Path.{◌≡◌, refl, sym, subst, ◌∙◌, ap}
use mathlib.Core.List.{List, [], ◌∷◌}
use native.Mathlib.Omega.{arith}
use lib.Dec.{T, leb→le}
use Rattle.logic.specs.declared.Arrow.{Arrow}
use Rattle.logic.specs.Syntax.{Term, var, app, Terms, Result, value, none, Part, part, Parts, only, also, arrows}
use Rattle.logic.specs.Terms.{result_terms, part_terms, parts_terms, terms_of}
use Rattle.logic.specs.Each.{term_width, terms_width}
use Rattle.logic.specs.Fill.{Substitution, fill, fills, fill_result, fill_part, fill_parts}
use Rattle.logic.specs.Rules.{join_parts, PartAt, plus}
use Rattle.text.specs.Words.{bytes, arrow_word}
use Rattle.text.specs.Write.{Writer, ◌∘◌, word, put_term, put_arguments, put_result, put_part, put_bracketed, put_parts, put_atom, put_literal, put_literals}
use Rattle.text.specs.Form.{formed_term, formed_terms, formed_result, formed_part, formed_parts, formed_atom}
use Rattle.text.specs.Figures.{few_parts}
use Rattle.text.specs.Read.{Parsed, bad, got, Reader, and_then, ◌>>=◌, ◌>>◌, return, strip, skip}
use Rattle.text.specs.Access.{stood}
use Rattle.text.proofs.Tests.{T_and}
use Rattle.text.proofs.Plain.{Plain, in_front, term_plain, arguments_plain}
use Rattle.text.proofs.Trees.{join_width}
use Rattle.clauses.specs.Parts.{PartIn, object_of, parts}
use Rattle.clauses.proofs.Molecules.{object_stands, from_object, Shows, ShowsAll, parts_shown}
use Rattle.filling.specs.Filled.{matches}
use Rattle.filling.specs.Items.{Item, beside}
use Rattle.filling.proofs.Walk.{strip_append}
use Rattle.expected.specs.Claims.{Expected, in_claim, item_claimed, spaced, result_claimed, said_claimed, arrow_claimed, part_claimed, parts_claimed, object_claimed, merged, projected}

-- What is expected of a term or of arguments of a clause that σ fills is their filled bytes, and the bytes after them are left of the clause.
pub record Reads (claimed : Expected) (x : Item) (σ : Substitution) (d w : ℕ) : Type 0 where
  pub term : (t : Term) (rest : List ℕ) → T (formed_term d t) → term_width t ≤ w → (bs : List ℕ) →
      claimed (beside x (put_term t rest)) bs ≡ matches (got (put_term (fill σ t) []) rest) bs
  pub arguments : (ts : Terms) (rest : List ℕ) → T (formed_terms d ts) → terms_width ts ≤ w → (bs : List ℕ) →
      claimed (beside x (put_arguments ts rest)) bs ≡ matches (got (put_arguments (fills σ ts) []) rest) bs

-- What is read is what is put, whatever is read behind it.
pub record Expects (put : Writer) (read : Reader (Unit {0})) : Type 0 where
  pub before : (rest bs : List ℕ) → and_then (read bs) (λ _. strip rest) ≡ strip (put rest) bs

pub alone : {put : Writer} {read : Reader (Unit {0})} → Expects put read → (bs : List ℕ) → read bs ≡ strip (put []) bs
unfolding strip
alone {read} e bs = go (read bs) ∙ e.before [] bs
  where
    go : (p : Parsed (Unit {0})) → p ≡ and_then p (λ _. strip [])
    go bad = refl
    go (got u rest) = refl

-- Its bytes, a word, nothing.
filled : {put : Writer} {read : Reader (Unit {0})} → Plain put → ((bs : List ℕ) → read bs ≡ strip (put []) bs) → Expects put read
filled {put} p e = record { before = λ rest bs. rw (e bs, in_front p rest) (sym (strip_append (put []) rest bs)) }

said : (w : String) → Expects (word w) (skip w)
said w = record { before = λ rest bs. sym (strip_append (bytes w) rest bs) }

nothing : Expects (word "") (return tt)
nothing = record { before = λ rest bs. refl }

-- One after the other.
infixr 60 ◌⨾◌
◌⨾◌ : {f g : Writer} {r q : Reader (Unit {0})} → Expects f r → Expects g q → Expects (f ∘ g) (r >> q)
◌⨾◌ {g} {r} {q} a b = record { before = λ rest bs. go rest (r bs) ∙ a.before (g rest) bs }
  where
    go : (rest : List ℕ) (p : Parsed (Unit {0})) → and_then (and_then p (λ _. q)) (λ _. strip rest) ≡ and_then p (λ _. strip (g rest))
    go rest bad = refl
    go rest (got u cs) = b.before rest cs

-- An item is expected as it is put.
item_reads : (claimed : Expected) (x : Item) {put : Writer} (more : List ℕ) → Plain put → ((bs : List ℕ) → claimed x bs ≡ matches (got (put []) more) bs) → Expects put (item_claimed claimed x)
unfolding item_claimed in_claim matches
item_reads claimed x {put} more p e = filled p (λ bs. ap in_claim (e bs) ∙ go (strip (put []) bs))
  where
    go : (q : Parsed (Unit {0})) → in_claim (and_then q (λ _ left. got left more)) ≡ q
    go bad = refl
    go (got u left) = refl

-- An item and a space, and what is read from the item after it on.
spaced_reads : (claimed : Expected) (x : Item) (f : Item → Reader (Unit {0})) {put more : Writer} {cs : List ℕ} →
    Plain put → ((bs : List ℕ) → claimed x bs ≡ matches (got (put []) (word " " cs)) bs) → Expects more (f (beside x cs)) → Expects (put ∘ word " " ∘ more) (spaced claimed x >>= f)
unfolding spaced matches strip
spaced_reads claimed x f {put} {cs} p e b =
    record { before = λ rest bs. rw (e bs) (ap (λ q. and_then q (λ _. strip rest)) (go (strip (put []) bs)) ∙ (filled p (λ bs. refl) ⨾ said " " ⨾ b).before rest bs) }
  where
    onward : (q : Parsed (Unit {0})) → and_then (and_then {B = Item} q (λ _ left. got (beside x cs) left)) f ≡ and_then q (λ _. f (beside x cs))
    onward bad = refl
    onward (got u left) = refl

    go : (q : Parsed (Unit {0})) →
        and_then (and_then {B = Item} (and_then q (λ _ left. got left (word " " cs))) (λ left more. and_then (skip " " more) (λ _ bs. and_then (skip " " left) (λ _ left. got (beside x bs) left)))) f ≡
        and_then q (λ _ rest. and_then (skip " " rest) (λ _. f (beside x cs)))
    go bad = refl
    go (got u left) = onward (skip " " left)

-- T15: no term begins as the word none.
not_none : (t : Term) (rest : List ℕ) → skip "none" (put_term t rest) ≡ bad
unfolding strip put_term
not_none (var n) rest = refl
not_none (app n ts) rest = refl

module _ {claimed : Expected} {x : Item} {σ : Substitution} {d w : ℕ} (r : Reads claimed x σ d w) where
  term_reads : (t : Term) (rest : List ℕ) → T (formed_term d t) → term_width t ≤ w → Expects (put_term (fill σ t)) (item_claimed claimed (beside x (put_term t rest)))
  term_reads t rest f h = item_reads claimed _ rest (term_plain (fill σ t)) (r.term t rest f h)

  result_reads : (a : Arrow) (v : Result) (rest : List ℕ) → T (formed_result d a v) → terms_width (result_terms v) ≤ w →
      Expects (put_result (fill_result σ v)) (result_claimed claimed (beside x (put_result v rest)))
  unfolding result_claimed formed_result result_terms terms_width put_result fill_result stood strip
  result_reads a (value t) rest f h = rw (not_none t rest) (term_reads t rest f (omega arith))
  result_reads a none rest f h = said "none"

  -- T13: a part from its method on.
  pub said_reads : (p : Part) (rest : List ℕ) → T (formed_part d p) → terms_width (part_terms p) ≤ w → Expects (put_part (fill_part σ p)) (said_claimed claimed (beside x (put_part p rest)))
  unfolding said_claimed formed_part part_terms terms_width put_part fill_part
  said_reads (part a m ts v) rest f h =
      let ((g, k), i) = simp T_and at f in
      let j = join_width ts (result_terms v) in
      spaced_reads claimed _ _ (term_plain (fill σ m)) (r.term m _ g (omega arith))
      (spaced_reads claimed _ _ (arguments_plain (fills σ ts)) (r.arguments ts _ k (omega arith)) (result_reads a v _ i (omega arith) ⨾ said ")"))

  -- T21: a part, the parts.
  pub part_reads : {y : PartIn} (p : Part) → Shows y p → T (formed_part d p) → terms_width (part_terms p) ≤ w → Expects (word " " ∘ put_bracketed (fill_part σ p)) (part_claimed claimed x y)
  unfolding part_claimed arrow_claimed put_bracketed fill_part
  part_reads (part a m ts v) s f h = rw (s.arrow, s.method) (said " (" ⨾ said (arrow_word a) ⨾ said " " ⨾ said_reads (part a m ts v) s.rest f h)

  pub parts_read : (ys : List PartIn) (ps : Parts) → ShowsAll ys ps → T (formed_parts d ps) → terms_width (parts_terms ps) ≤ w → Expects (put_parts (fill_parts σ ps)) (parts_claimed claimed x ys)
  unfolding parts_claimed ShowsAll formed_parts parts_terms put_parts fill_parts
  parts_read [] ps s f h = absurd s
  parts_read (y ∷ ys) (only p) s f h = rw s.1 (part_reads p s.0 f h ⨾ nothing)
  parts_read (y ∷ ys) (also p ps) s f h =
      let (g, k) = simp T_and at f in
      let j = join_width (part_terms p) (parts_terms ps) in
      part_reads p s.0 g (omega arith) ⨾ parts_read ys ps s.1 k (omega arith)

  object_reads : (o : Term) (ps : Parts) (rest : List ℕ) {bs : List ℕ} → bs ≡ put_atom (arrows o ps) rest → T (formed_term d o) → term_width o ≤ w → Expects (put_term (fill σ o)) (object_claimed claimed x (object_of bs))
  unfolding object_claimed from_object
  object_reads o (only p) rest e f h = rw (e, object_stands o (only p) rest) (term_reads o _ f h)
  object_reads o (also p ps) rest e f h = rw (e, object_stands o (also p ps) rest) (term_reads o _ f h)

  -- R26: "+ the arrow atom of P and that part".
  pub projected_reads : {y : PartIn} (o : Term) (rest : List ℕ) (q : Part) → x.bytes ≡ put_term o rest → T (formed_term d o) → term_width o ≤ w → Shows y q → T (formed_part d q) → terms_width (part_terms q) ≤ w → (bs : List ℕ) →
      projected claimed x y bs ≡ strip (put_literals (plus (arrows (fill σ o) (only (fill_part σ q))) ∷ []) []) bs
  unfolding projected arrow_claimed put_literals put_literal put_atom fill_part
  projected_reads o rest (part a m ts v) e f h s g k bs =
      let object : Expects (put_term (fill σ o)) (item_claimed claimed x) = subst (λ (b : List ℕ). Expects (put_term (fill σ o)) (item_claimed claimed (beside x b))) (sym e) (term_reads o rest f h) in
      rw (s.arrow, s.method) (alone (said " (+ (" ⨾ said (arrow_word a) ⨾ said " " ⨾ object ⨾ said " " ⨾ said_reads (part a m ts v) s.rest g k ⨾ said ")") bs)

-- R25: a joined list of parts is a molecule's.
put_joined : (ps qs : Parts) (rest : List ℕ) → put_parts (join_parts ps qs) rest ≡ put_parts ps (put_parts qs rest)
unfolding put_parts join_parts
put_joined (only p) qs rest = refl
put_joined (also p ps) qs rest = rw (put_joined ps qs rest)

put_molecule : (o : Term) (ps qs : Parts) (rest : List ℕ) → put_literals (plus (arrows o (join_parts ps qs)) ∷ []) rest ≡ (word " (+ (mol " ∘ put_term o ∘ put_parts ps ∘ put_parts qs ∘ word "))") rest
unfolding put_literals put_literal put_atom put_parts join_parts
put_molecule o (only p) qs rest = refl
put_molecule o (also p ps) qs rest = rw (put_joined ps qs (41 ∷ 41 ∷ rest))

parts_of_atom : (o : Term) (ps : Parts) (rest : List ℕ) {bs : List ℕ} → bs ≡ put_atom (arrows o ps) rest → T (few_parts (arrows o ps)) → ShowsAll (parts bs) ps
unfolding few_parts
parts_of_atom o ps rest e h = rw e (parts_shown o ps rest (omega (arith, leb→le)))

-- R25: "+ the molecule with object P, A's parts, then B's".
pub merged_reads : {claimed other : Expected} {x y : Item} {σ τ : Substitution} {d v w : ℕ} → Reads claimed x σ d v → Reads other y τ d w → (o o' : Term) (ps qs : Parts) (r s : List ℕ) →
    x.bytes ≡ put_atom (arrows o ps) r → y.bytes ≡ put_atom (arrows o' qs) s → T (formed_atom d (arrows o ps)) → T (formed_atom d (arrows o' qs)) →
    terms_width (terms_of (arrows o ps)) ≤ v → terms_width (terms_of (arrows o' qs)) ≤ w → T (few_parts (arrows o ps)) → T (few_parts (arrows o' qs)) → (bs : List ℕ) →
    merged claimed other x y bs ≡ strip (put_literals (plus (arrows (fill σ o) (join_parts (fill_parts σ ps) (fill_parts τ qs))) ∷ []) []) bs
unfolding merged formed_atom terms_of terms_width
merged_reads {σ} {τ} reads others o o' ps qs r s e e' f f' h h' n n' bs =
    let (g, k) = simp T_and at f in
    let (g', k') = simp T_and at f' in
    let object = object_reads reads o ps r e g (omega arith) in
    let first = parts_read reads _ ps (parts_of_atom o ps r e n) k (omega arith) in
    let second = parts_read others _ qs (parts_of_atom o' qs s e' n') k' (omega arith) in
    rw (put_molecule (fill σ o) (fill_parts σ ps) (fill_parts τ qs) []) (alone (said " (+ (mol " ⨾ object ⨾ first ⨾ second ⨾ said "))") bs)

-- A part at its place (R26) is formed and narrow where all parts are.
pub part_at_formed : (d : ℕ) {k : ℕ} {q : Part} {ps : Parts} → PartAt k q ps → T (formed_parts d ps) → T (formed_part d q)
unfolding formed_parts
part_at_formed d PartAt.alone f = f
part_at_formed d PartAt.here f = (simp T_and at f).0
part_at_formed d (PartAt.there p) f = part_at_formed d p (simp T_and at f).1

pub part_at_narrow : {k : ℕ} {q : Part} {ps : Parts} → PartAt k q ps → terms_width (part_terms q) ≤ terms_width (parts_terms ps)
unfolding parts_terms
part_at_narrow PartAt.alone = omega arith
part_at_narrow (PartAt.here {q} {ps}) = omega (arith, join_width (part_terms q) (parts_terms ps))
part_at_narrow (PartAt.there {p} {ps} at) = omega (arith, join_width (part_terms p) (parts_terms ps), part_at_narrow at)
