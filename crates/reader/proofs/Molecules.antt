-- A molecule: its parts are read as one list, and two of them or more are asked for.
use Rattle.std.proofs.Common.{◌≡◌, ℕ, suc, leb, List, [], ◌∷◌, length, Bor, refl, sym, ◌∙◌, ap, ap₂, arith}
use borrow.Author.Tests.{le-leb}
use Rattle.std.specs.Bool.{then_some}
use Rattle.logic.specs.Syntax.{Term, Part, also, Atom, arrows}
use Rattle.text.specs.Figures.{count_parts}
use Rattle.text.specs.Words.{bytes}
use Rattle.text.specs.Read.{Parsed, bad, got, Reader, and_then, return, fail, strip, read_many, read_term, read_bracketed, parts_of}
use Rattle.text.specs.Read.{read_molecule}
use Rattle.text.specs.Answers.{parsed, mapped}
use Rattle.reader.specs.declared.measures.Bounds.{Bounds}
use Rattle.reader.specs.declared.measures.Measure.{Measure}
use Rattle.reader.specs.Summary.{of_term, of_part_list, of_parts, of_atom, molecule_bounds, joined, bounds, parts_measure}
use Rattle.reader.proofs.Listing.{after, after_after, measuring, space_next, no_space_next}
use Rattle.reader.proofs.Lists.{parts_step}
use Rattle.reader.proofs.Bounds.{bounds_lawful}

-- T21: two parts or more make a molecule; "With fewer than two parts it isn't a form."
abbrev molecule_of : Term → List Part → Reader Atom
molecule_of o [] = fail
molecule_of o (p ∷ []) = fail
molecule_of o (p ∷ q ∷ qs) = return (arrows o (also p (parts_of q qs)))

module _ (d : ℕ) where
  abbrev list : Reader (List Part)
  list = read_many [] ◌∷◌ (read_bracketed d)

  -- Where an empty list is refused, parts are read as one part and a list of others.
  one_first : {B : Type 0} (f : List Part → Reader B) → ((rest : List ℕ) → f [] rest ≡ bad) → (bs : List ℕ)
      → and_then (list bs) f
      ≡ and_then (strip (bytes " ") bs) (λ _ r. and_then (read_bracketed d r) (λ p r. and_then (list r) (λ ps. f (p ∷ ps))))
  one_first f none bs = go (strip (bytes " ") bs) refl
    where
      go : (p : Parsed (Unit {0})) → strip (bytes " ") bs ≡ p → and_then (list bs) f
          ≡ and_then p (λ _ r. and_then (read_bracketed d r) (λ p r. and_then (list r) (λ ps. f (p ∷ ps))))
      go bad e = rw (parts_step d bs, no_space_next [] ◌∷◌ (read_bracketed d) list bs e) (ended (strip (bytes ")") bs))
        where
          ended : (q : Parsed (Unit {0})) → and_then (and_then q (λ _. return [])) f ≡ bad
          ended bad = refl
          ended (got u rest) = none rest
      go (got u rest) e =
          rw (parts_step d bs, space_next [] ◌∷◌ (read_bracketed d) list bs e)
          (after_after (read_bracketed d rest) _ f ∙ after (read_bracketed d rest) (λ p r. after_after (list r) _ f))

  -- So twice: the parts of a molecule are read as one list.
  pub molecule_splits : (s : List ℕ) → read_molecule d s
      ≡ and_then (strip (bytes " ") s) (λ _ r. and_then (read_term d r) (λ o r. and_then (list r) (molecule_of o)))
  unfolding read_molecule
  molecule_splits s = sym
      (after (strip (bytes " ") s) (λ _ r. after (read_term d r) (λ o r. one_first (molecule_of o) (λ _. refl) r
      ∙ after (strip (bytes " ") r) (λ _ r. after (read_bracketed d r) (λ p r. one_first (λ ps. molecule_of o (p ∷ ps)) (λ _. refl) r)))))

module _ (table : List ℕ) where
  -- What is taken of a list of parts is what is taken of the parts of the molecule.
  of_listed : (p : Part) (ps : List Part) → of_part_list (bounds table) (p ∷ ps) ≡ of_parts (bounds table) (parts_of p ps)
  unfolding of_part_list of_parts parts_of
  of_listed p [] = bounds_lawful.right _
  of_listed p (q ∷ qs) = ap (joined _) (of_listed q qs)

  counted : (p : Part) (ps : List Part) → length (p ∷ ps) ≡ count_parts (parts_of p ps)
  unfolding count_parts parts_of
  counted p [] = refl
  counted p (q ∷ qs) = ap suc (counted q qs)

  -- What the reader makes of the object's bounds and of the list's measure, if there are two parts or more: it is what is taken of the
  -- molecule.
  abbrev made : Bounds → Measure → Bor (List ℕ) → Parsed Bounds
  made b m rest = parsed (then_some (leb 2 m.count) (joined (molecule_bounds m.count) (joined b m.bounds), rest))

  measured_molecule : (o : Term) (ps : List Part) (rest : Bor (List ℕ))
      → made (of_term (bounds table) o) (parts_measure table ps) rest ≡ mapped (of_atom (bounds table)) (molecule_of o ps rest.now)
  unfolding of_atom parts_of
  measured_molecule o [] rest = refl
  measured_molecule o (p ∷ []) rest = refl
  measured_molecule o (p ∷ q ∷ qs) rest =
      let all : ℕ → Bounds → Bounds = λ n b. joined (molecule_bounds n) (joined (of_term (bounds table) o) b) in
      rw (le-leb 2 (length (p ∷ q ∷ qs)) (omega arith))
      (ap (λ b. got b rest.now) (ap₂ all (counted p (q ∷ qs)) (of_listed p (q ∷ qs))))

  pub molecule_reads : (d : ℕ) (s : List ℕ) {t r : List ℕ} {b : Bounds} {m : Measure} (rest : Bor (List ℕ))
      → got tt t ≡ strip (bytes " ") s → got b r ≡ mapped (of_term (bounds table)) (read_term d t)
      → got m rest.now ≡ mapped (parts_measure table) (list d r)
      → made b m rest ≡ mapped (of_atom (bounds table)) (read_molecule d s)
  molecule_reads d s {t} {r} {b} {m} rest e f g =
      let (o, p, q) = measuring (of_term (bounds table)) (read_term d t) f in
      let (ps, u, v) = measuring (parts_measure table) (list d r) g in
      ap₂ (λ b m. made b m rest) q v ∙ read o ps p u
    where
      read : (o : Term) (ps : List Part) → read_term d t ≡ got o r → list d r ≡ got ps rest.now
          → made (of_term (bounds table) o) (parts_measure table ps) rest ≡ mapped (of_atom (bounds table)) (read_molecule d s)
      read o ps p u = rw (molecule_splits d s, ← e, p, u) (measured_molecule o ps rest)
