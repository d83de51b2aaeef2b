-- What a reader gives: the rules by which a property of its answers is proved, part by part, as the reader is written.
use Prim.Native.Nat.{ℕ}
use Prim.Native.String.{String}
use mathlib.Core.Path.{◌≡◌, refl, subst}
use mathlib.Core.List.{List, [], ◌∷◌, ◌++◌}
use lib.Dec.{eqb, eqb→eq}
use Rattle.text.specs.Words.{bytes}
use Rattle.text.specs.Write.{Writer, word}
use Rattle.text.specs.Read.{Parsed, bad, got, Reader, and_then, ◌>>=◌, ◌>>◌, return, strip, skip, Branch, ◌⇒◌, or_else, one_of, each}
use Rattle.text.proofs.Tests.{on_test}

-- If the answer is a value, then Q of it and the bytes after it.
pub data Gives {A : Type 0} (Q : A → List ℕ → Type 0) : Parsed A → Type 0 where
  nothing : Gives Q bad
  gives : {a : A} {rest : List ℕ} → Q a rest → Gives Q (got a rest)

given' : {A : Type 0} {Q : A → List ℕ → Type 0} {a : A} {rest : List ℕ} → Gives Q (got a rest) → Q a rest
given' (gives q) = q

pub given : {A : Type 0} {Q : A → List ℕ → Type 0} {p : Parsed A} {a : A} {rest : List ℕ} → Gives Q p → p ≡ got a rest → Q a rest
given {Q} g e = given' (subst (Gives Q) e g)

pub bind : {A B : Type 0} {Q : A → List ℕ → Type 0} {R : B → List ℕ → Type 0} {p : Parsed A} {f : A → Reader B} → Gives Q p → ((a : A) (rest : List ℕ) → Q a rest → Gives R (f a rest)) → Gives R (and_then p f)
bind nothing k = nothing
bind (gives {a} {rest} q) k = k a rest q

pub weaken : {A : Type 0} {Q R : A → List ℕ → Type 0} {p : Parsed A} → Gives Q p → ((a : A) (rest : List ℕ) → Q a rest → R a rest) → Gives R p
weaken nothing k = nothing
weaken (gives {a} {rest} q) k = gives (k a rest q)

pub strip_gives : (w bs : List ℕ) → Gives (λ _ rest. bs ≡ w ++ rest) (strip w bs)
unfolding strip
strip_gives [] bs = gives refl
strip_gives (x ∷ w) [] = nothing
strip_gives (x ∷ w) (b ∷ bs) = on_test (Gives _) (eqb x b) (λ t. weaken (strip_gives w bs) (λ _ rest e. rw (eqb→eq x b t, e))) (λ _. nothing)

-- So at all bytes: R of them, of the value and of the bytes after it.
pub record Meets {A : Type 0} (R : List ℕ → A → List ℕ → Type 0) (read : Reader A) : Type 0 where
  pub at : (bs : List ℕ) → Gives (R bs) (read bs)

-- Read then write: the reader gives only formed values, at the bytes that the writer puts for them.
abbrev pub Sound : {A : Type 0} → (A → Writer) → (A → Type 0) → Reader A → Type 0
Sound put formed read = Meets (λ bs a rest. (bs ≡ put a rest) × formed a) read

-- Write then read: the reader gives back each formed value, and the bytes after it.
abbrev pub Complete : {A : Type 0} → (A → Writer) → (A → Type 0) → Reader A → Type 0
Complete {A} put formed read = (a : A) → formed a → (rest : List ℕ) → read (put a rest) ≡ got a rest

-- What follows a value is judged at the bytes written for it.
pub seq : {A B : Type 0} {put : A → Writer} {formed : A → Type 0} {read : Reader A} {f : A → Reader B} {R : List ℕ → B → List ℕ → Type 0} → Sound put formed read → ((a : A) → formed a → Meets (λ bs. R (put a bs)) (f a)) → Meets R (read >>= f)
seq s k = record { at = λ bs. bind (s.at bs) (λ a rest q. rw q.0 ((k a q.1).at rest)) }

pub finally : {A : Type 0} {put : A → Writer} {formed : A → Type 0} {read : Reader A} {R : List ℕ → A → List ℕ → Type 0} → Sound put formed read → ((a : A) → formed a → (rest : List ℕ) → R (put a rest) a rest) → Meets R read
finally s k = record { at = λ bs. weaken (s.at bs) (λ a rest q. rw q.0 (k a q.1 rest)) }

pub skipped : {B : Type 0} {q : Reader B} {R : List ℕ → B → List ℕ → Type 0} (w : String) → Meets (λ bs. R (word w bs)) q → Meets R (skip w >> q)
skipped w k = record { at = λ bs. bind (strip_gives (bytes w) bs) (λ _ rest e. rw e (k.at rest)) }

pub returned : {A : Type 0} {R : List ℕ → A → List ℕ → Type 0} {a : A} → ((rest : List ℕ) → R rest a rest) → Meets R (return a)
returned h = record { at = λ bs. gives (h bs) }

-- Each branch is judged at its word.
pub data Branches {A : Type 0} (R : List ℕ → A → List ℕ → Type 0) : List (Branch A) → Type 0 where
  none : Branches R []
  branch : {w : String} {read : Reader A} {others : List (Branch A)} → Meets (λ bs. R (word w bs)) read → Branches R others → Branches R ((w ⇒ read) ∷ others)

pub branches : {A B : Type 0} {R : List ℕ → B → List ℕ → Type 0} {read : A → Reader B} {others : List (Branch B)} (w : A → String) (table : List A) → ((a : A) → Meets (λ bs. R (word (w a) bs)) (read a)) → Branches R others → Branches R (each w read table ++ others)
branches w [] k o = o
branches w (a ∷ table) k o = branch (k a) (branches w table k o)

pub one_of_meets : {A : Type 0} {R : List ℕ → A → List ℕ → Type 0} {table : List (Branch A)} → Branches R table → Meets R (one_of table)
unfolding one_of
one_of_meets none = record { at = λ bs. nothing }
one_of_meets {R} (branch {w} {read} {others} k o) = record { at = λ bs. go bs (strip_gives (bytes w) bs) ((one_of_meets o).at bs) }
  where
    go : (bs : List ℕ) {p : Parsed (Unit {0})} → Gives (λ _ rest. bs ≡ word w rest) p → Gives (R bs) (one_of others bs) → Gives (R bs) (or_else p read (one_of others) bs)
    go bs nothing q = q
    go bs (gives {rest} e) q = rw e (k.at rest)

-- Two tables with the same words agree at bytes if their branches agree after the word there.
pub data Agree {A : Type 0} (bs : List ℕ) : List (Branch A) → List (Branch A) → Type 0 where
  none : Agree bs [] []
  branch : {w : String} {r q : Reader A} {table also : List (Branch A)} → ((rest : List ℕ) → bs ≡ word w rest → r rest ≡ q rest) → Agree bs table also → Agree bs ((w ⇒ r) ∷ table) ((w ⇒ q) ∷ also)

pub one_of_cong : {A : Type 0} {bs : List ℕ} {table also : List (Branch A)} → Agree bs table also → one_of table bs ≡ one_of also bs
unfolding one_of
one_of_cong Agree.none = refl
one_of_cong {bs} (Agree.branch {w} {r} {q} {table} {also} h a) = go (strip_gives (bytes w) bs) (one_of_cong a)
  where
    go : {p : Parsed (Unit {0})} → Gives (λ _ rest. bs ≡ word w rest) p → one_of table bs ≡ one_of also bs → or_else p r (one_of table) bs ≡ or_else p q (one_of also) bs
    go nothing e = e
    go (gives {rest} e) _ = h rest e

pub after_cong : {A B : Type 0} {Q : A → List ℕ → Type 0} {p : Parsed A} {f g : A → Reader B} → Gives Q p → ((a : A) (rest : List ℕ) → Q a rest → f a rest ≡ g a rest) → and_then p f ≡ and_then p g
after_cong nothing h = refl
after_cong (gives {a} {rest} q) h = h a rest q
