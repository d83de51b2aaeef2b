-- Equal bytes are equal values: a formed value is determined by its bytes, also with other bytes after it.
use Prim.Native.Nat.{ℕ, max}
use mathlib.Core.Path.{◌≡◌, sym, ◌∙◌, ap}
use mathlib.Core.List.{List, []}
use native.Mathlib.Omega.{arith}
use lib.Dec.{T, le→leb}
use Rattle.logic.specs.Syntax.{Line}
use Rattle.text.specs.Write.{Writer, put_term, put_arguments, put_atom, put_clause, write_line}
use Rattle.text.specs.Form.{depth_of, depth_ofs, numbered, numbereds, formed_term, formed_terms, formed_atom, formed_clause, formed_line}
use Rattle.text.specs.Read.{got, Reader, read_term, read_arguments, read_atom, read_clause, read_form}
use Rattle.text.proofs.Tests.{T_and}
use Rattle.text.proofs.Gives.{Complete}
use Rattle.text.proofs.Complete.{term_complete, arguments_complete, atom_complete, clause_complete, form_complete}

abbrev pub Unique : {A : Type 0} → (A → Writer) → (A → Type 0) → Type 0
Unique {A} put formed = (a b : A) (r s : List ℕ) → formed a → formed b → put a r ≡ put b s → (a ≡ b) × (r ≡ s)

unique : {A : Type 0} {put : A → Writer} {formed : A → Type 0} (read : Reader A) → Complete put formed read → Unique put formed
unique read c a b r s f g e =
    let q : got a r ≡ got b s = sym (c a f r) ∙ ap read e ∙ c b g s in
    (cc, cc)

-- of any depth
pub term_unique : Unique put_term (λ t. T (numbered t))
unfolding formed_term
term_unique t u r s m n e =
    let d = max (depth_of t) (depth_of u) in
    unique (read_term d) (term_complete d) t u r s (simp T_and (omega (arith, le→leb), m)) (simp T_and (omega (arith, le→leb), n)) e

pub arguments_unique : Unique put_arguments (λ ts. T (numbereds ts))
unfolding formed_terms
arguments_unique ts us r s m n e =
    let d = max (depth_ofs ts) (depth_ofs us) in
    unique (read_arguments d) (arguments_complete d) ts us r s (simp T_and (omega (arith, le→leb), m)) (simp T_and (omega (arith, le→leb), n)) e

pub atom_unique : (d : ℕ) → Unique put_atom (λ a. T (formed_atom d a))
atom_unique d = unique (read_atom d) (atom_complete d)

pub clause_unique : (d : ℕ) → Unique put_clause (λ c. T (formed_clause d c))
clause_unique d = unique (read_clause d) (clause_complete d)

pub line_unique : (d : ℕ) (l k : Line) → T (formed_line d l) → T (formed_line d k) → write_line l ≡ write_line k → l ≡ k
unfolding write_line
line_unique d l k f g e = (unique (read_form d) (form_complete d) l k [] [] f g e).0
