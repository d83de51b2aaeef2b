-- What a reader leaves is the end of what it reads: one reader after another, the head of an arrow atom, and its object.
use mathlib.Core.List.{List, ◌++◌}
use Rattle.std.specs.Prelude.{ℕ}
use Rattle.logic.specs.declared.Arrow.{Arrow}
use Rattle.text.specs.Words.{bytes, arrow_word}
use Rattle.text.specs.Read.{Parsed, Reader, ◌>>=◌, return, arrow_table, read_arrow}
use Rattle.text.proofs.Gives.{Meets, Gives, nothing, gives, bind, weaken, none, returned, branches, one_of_meets}
use Rattle.text.proofs.Positions.{End, Tail, end_refl, end_trans, end_append, strip_tail, and_tail}
use Rattle.clauses.specs.Shapes.{first_or}
use Rattle.clauses.specs.Parts.{arrow_head, molecule, arrow_object, object_of}

pub bind_tail : {A B : Type 0} {read : Reader A} {next : A → Reader B} → Tail read → ((a : A) → Tail (next a)) → Tail (read >>= next)
bind_tail t u = record { tail = λ bs. bind (t.tail bs) (λ a mid p. weaken ((u a).tail mid) (λ b rest q. end_trans p q)) }

pub return_tail : {A : Type 0} (a : A) → Tail (return a)
return_tail a = record { tail = λ bs. gives (end_refl bs) }

arrow_tail : Tail read_arrow
unfolding read_arrow
arrow_tail =
    let word_tail : (a : Arrow) → Meets (λ bs (b : Arrow) rest. End (bytes (arrow_word a) ++ bs) rest) (return a) =
    λ a. returned (end_append (bytes (arrow_word a))) in
    record { tail = (one_of_meets {R = λ bs (a : Arrow) rest. End bs rest} (branches arrow_word arrow_table word_tail none)).at }

head_tail : Tail arrow_head
unfolding arrow_head
head_tail = and_tail (strip_tail (bytes "(")) (bind_tail arrow_tail (λ a. and_tail (strip_tail (bytes " ")) (return_tail a)))

-- The one reader or else the other.
either_gives : {Q : Unit {0} → List ℕ → Type 0} {p q : Parsed (Unit {0})} → Gives Q p → Gives Q q → Gives Q (first_or p q)
unfolding first_or
either_gives nothing h = h
either_gives (gives e) h = gives e

pub object_tail : Tail object_of
unfolding object_of molecule arrow_object
object_tail =
    record { tail = λ bs. either_gives ((strip_tail (bytes "(mol ")).tail bs) ((and_tail head_tail (return_tail tt)).tail bs) }
