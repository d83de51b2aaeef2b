-- The word of an atom decides what follows it.
use Rattle.std.proofs.Common.{◌≡◌, ℕ, List, [], ◌∷◌, ◌++◌, refl, sym, ◌∙◌}
use Prim.Native.String.{String}
use Rattle.logic.specs.declared.Link.{Link}
use Rattle.logic.specs.declared.Arrow.{Arrow}
use Rattle.text.specs.Words.{bytes, link_word, arrow_word}
use Rattle.text.specs.Read.{links, arrow_table, Parsed, bad, got, Reader, and_then, return, strip, skip, Branch, ◌⇒◌, or_else, one_of, each}
use Rattle.text.specs.Read.{read_link, read_object, read_molecule, read_method, read_kind}
use Rattle.text.proofs.Chain.{first_word, later_word}

-- The words of a table in front of other branches, and as the last ones.
abbrev pick : {A B : Type 0} → Parsed A → (A → Reader B) → Parsed B → Parsed B
pick bad r other = other
pick (got a rest) r other = r a rest

table_pick : {A B : Type 0} (w : A → String) (r : A → Reader B) (table : List A) (others : List (Branch B)) (bs : List ℕ)
    → one_of (each w r table ++ others) bs ≡ pick (one_of (each w return table) bs) r (one_of others bs)
unfolding one_of
table_pick w r [] others bs = refl
table_pick {A} {B} w r (x ∷ table) others bs = go (skip (w x) bs) (table_pick w r table others bs)
  where
    go : (p : Parsed (Unit {0})) → one_of (each w r table ++ others) bs ≡ pick (one_of (each w return table) bs) r (one_of others bs)
        → or_else p (r x) (one_of (each w r table ++ others)) bs
        ≡ pick (or_else p (return x) (one_of (each w return table)) bs) r (one_of others bs)
    go bad h = h
    go (got u rest) h = refl

table_last : {A B : Type 0} (w : A → String) (r : A → Reader B) (table : List A) (bs : List ℕ)
    → one_of (each w r table) bs ≡ and_then (one_of (each w return table) bs) r
unfolding one_of
table_last w r [] bs = refl
table_last {A} {B} w r (x ∷ table) bs = go (skip (w x) bs) (table_last w r table bs)
  where
    go : (p : Parsed (Unit {0})) → one_of (each w r table) bs ≡ and_then (one_of (each w return table) bs) r
        → or_else p (r x) (one_of (each w r table)) bs ≡ and_then (or_else p (return x) (one_of (each w return table)) bs) r
    go bad h = h
    go (got u rest) h = refl

module _ (d : ℕ) (s : List ℕ) where
  abbrev the_links : Parsed Link
  the_links = one_of (each link_word return links) s

  abbrev the_arrows : Parsed Arrow
  the_arrows = one_of (each arrow_word return arrow_table) s

  pub a_link : {l : Link} {rest : List ℕ} → got l rest ≡ the_links → read_kind d s ≡ read_link d l rest
  unfolding read_kind
  a_link e = table_pick link_word (read_link d) links _ s ∙ rw (← e)

  no_link : bad ≡ the_links
      → read_kind d s ≡ one_of (("obj" ⇒ read_object d) ∷ ("mol" ⇒ read_molecule d) ∷ each arrow_word (read_method d) arrow_table) s
  unfolding read_kind
  no_link e = table_pick link_word (read_link d) links _ s ∙ rw (← e)

  pub an_object : {rest : List ℕ} → bad ≡ the_links → got tt rest ≡ strip (bytes "obj") s → read_kind d s ≡ read_object d rest
  an_object e f = no_link e ∙ first_word "obj" _ _ s (sym f)

  module _ (e : bad ≡ the_links) (f : bad ≡ strip (bytes "obj") s) where
    no_object : read_kind d s ≡ one_of (("mol" ⇒ read_molecule d) ∷ each arrow_word (read_method d) arrow_table) s
    no_object = no_link e ∙ later_word "obj" _ _ s (sym f)

    pub a_molecule : {rest : List ℕ} → got tt rest ≡ strip (bytes "mol") s → read_kind d s ≡ read_molecule d rest
    a_molecule g = no_object ∙ first_word "mol" _ _ s (sym g)

    no_molecule : bad ≡ strip (bytes "mol") s → read_kind d s ≡ and_then the_arrows (read_method d)
    no_molecule g = no_object ∙ later_word "mol" _ _ s (sym g) ∙ table_last arrow_word (read_method d) arrow_table s

    pub an_arrow : {a : Arrow} {rest : List ℕ} → bad ≡ strip (bytes "mol") s → got a rest ≡ the_arrows → read_kind d s ≡ read_method d a rest
    an_arrow g h = no_molecule g ∙ rw (← h)

    pub no_kind : bad ≡ strip (bytes "mol") s → bad ≡ the_arrows → read_kind d s ≡ bad
    no_kind g h = no_molecule g ∙ rw (← h)
