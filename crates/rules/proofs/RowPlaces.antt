-- The rule table by places, row by row: the literals at I and J begin at the places i of p and j of q. A place past the end says that
-- nothing stands there. `step_same` (StepSame) says that the code promises the same.
use Rattle.std.specs.Prelude.{ℕ, ◌+◌, Bool, true, false, cond, not, ◌&&◌, ◌||◌, List, eqb, length, drop, Option, Some, None, Ok, Err}
use Rattle.logic.specs.declared.Link.{Link}
use Rattle.logic.specs.declared.Link.TheVariants.{Eq, Mem, Sub}
use Rattle.logic.specs.declared.Rule.{Rule}
use Rattle.logic.specs.declared.Rule.TheVariants.{Refl, Res, Fac, Par, Acy, Tra, Inc, Inh, Inp, Out, Sca, Eli, Mer, Pro}
use Rattle.logic.specs.declared.Check.{Check}
use Rattle.logic.specs.StepChecks.{Checked}
use Rattle.clauses.proofs.Places.{next_at, positive_at, negative_at, link_at, denied_at, occurrence_at, signature_at, scalar_at, method_argument_at, value_at, within, same_sign_at, atom_at, same_arrow_at}
use Rattle.filling.proofs.Agree.{agree_at, calls_at}
use Rattle.filling.proofs.Covers.{covers_at}
use Rattle.filling.specs.Items.{Item}
use Rattle.text.specs.Words.{bytes}
use Rattle.text.specs.Access.{stood}
use Rattle.text.proofs.Places.{end_of}
use Rattle.clauses.specs.Parts.{PartIn, molecule, object_of, part_at}
use Rattle.clauses.proofs.Places.{strip_at}
use Rattle.agreement.specs.Agrees.{parts_fit}

-- What a rule asks of its literals.
pub data Kind : Type 0 where
  Reflexivity : Kind
  Resolution : Kind
  Factoring : Kind
  Rewriting : Kind
  Acyclicity : Kind
  Scalarity : Kind
  Elimination : Kind
  Merging : Kind
  Projection : Kind

-- The term that a rewriting rule replaces.
pub data Target : Type 0 where
  Nothing : Target
  Occurrence : Target
  Subclass : Target
  Member : Target
  Object : Target
  Argument : Target
  Result : Target

pub record Row : Type 0 where
  pub kind : Kind
  pub target : Target
  pub link : Link
  pub forward : Bool

-- Whether the shape is right; for two arrow atoms, whether the arrow is the same; the literal at I; two places in each clause.
pub record Found : Type 0 where
  pub kind : Kind
  pub shaped : Bool
  pub arrows : Bool
  pub literal : ℕ
  pub left : ℕ
  pub more : ℕ
  pub right : ℕ
  pub other : ℕ

abbrev row : Kind → Target → Link → Bool → Row
row kind target link forward = record { kind = kind; target = target; link = link; forward = forward }

-- R8 to R19: what a rule asks of its literals; of a rewriting rule the term of the literal at I that it replaces, the link at J, and
-- whether the link's first term agrees and its second takes the term's place, or the other way round.
abbrev pub row_of : Rule → Row
row_of Refl = row Reflexivity Nothing Sub true
row_of Res = row Resolution Nothing Sub true
row_of Fac = row Factoring Nothing Sub true
row_of Par = row Rewriting Occurrence Eq true
row_of Acy = row Acyclicity Nothing Sub true
row_of Tra = row Rewriting Subclass Sub true
row_of Inc = row Rewriting Member Sub true
row_of Inh = row Rewriting Object Sub false
row_of Inp = row Rewriting Argument Sub false
row_of Out = row Rewriting Result Sub true
row_of Sca = row Scalarity Nothing Sub true
row_of Eli = row Elimination Nothing Sub true
row_of Mer = row Merging Nothing Sub true
row_of Pro = row Projection Nothing Sub true

-- The term that a rewriting rule replaces. R11, R20: "term occurrence K", "counted from 0 in the literal at I as it is before filling".
-- R13, R14: the second term of + sub or + mem. R15 to R17: "+ st or mt with object P", "an argument K", "a term result R".
unfoldable pub target_place : Target → ℕ → List ℕ → ℕ → ℕ
target_place Nothing k p at = length p + 1
target_place Occurrence k p at = occurrence_at p at k
target_place Subclass k p at = next_at p (link_at p Sub at)
target_place Member k p at = next_at p (link_at p Mem at)
target_place Object k p at = signature_at p at
target_place Argument k p at = method_argument_at p (signature_at p at) k
target_place Result k p at = value_at p (signature_at p at)

abbrev pub target_at : List ℕ → Rule → ℕ → ℕ → ℕ
target_at p rule k at = target_place (row_of rule).target k p at

-- Whether the shape is right and the arrow the same, the literal at I, and two places in each clause.
abbrev found : Kind → Bool → Bool → ℕ → ℕ → ℕ → ℕ → ℕ → Found
found kind shaped arrows i left more right other =
    record { kind = kind; shaped = shaped; arrows = arrows; literal = i; left = left; more = more; right = right; other = other }

-- R8, refl: "no parent". No term has to agree.
abbrev pub nothing_found : Kind → ℕ → Found
nothing_found kind i = found kind true true i 0 0 0 0

-- R9, res, "- L, + L'": the two atoms.
unfoldable pub resolved : List ℕ → ℕ → List ℕ → ℕ → Found
resolved p i q j =
    let x = negative_at p i in
    let y = positive_at q j in
    found Resolution (within p x && within q y) true i x 0 y 0

-- R10, fac, "A only; I and J differ, both literals have the same sign": q is p.
unfoldable pub factored : List ℕ → ℕ → List ℕ → ℕ → Found
factored p i q j = found Factoring (not (eqb i j) && same_sign_at p i q j) true i (atom_at p i) 0 (atom_at q j) 0

-- R11, R13 to R17, par, tra, inc, inh, inp, out: the term, the side of the link that has to agree with it, and the other side.
unfoldable pub replaced : Row → ℕ → List ℕ → ℕ → List ℕ → ℕ → Found
replaced r k p i q j =
    let x = target_place r.target k p i in
    let y = link_at q r.link j in
    let z = next_at q y in
    found Rewriting (within p x && within q z) true i x 0 (cond r.forward y z) (cond r.forward z y)

-- R12, acy, "+ sub(P,Q), + sub(Q',P')": P and Q, P' and Q'.
unfoldable pub crossed : List ℕ → ℕ → List ℕ → ℕ → Found
crossed p i q j =
    let x = link_at p Sub i in
    let y = link_at q Sub j in
    found Acyclicity (within p (next_at p x) && within q (next_at q y)) true i x (next_at p x) (next_at q y) y

-- R18, sca, "+ sv or si with result R, + sv or si with result R'": the objects and the results, and whether the arrow is the same.
unfoldable pub called : List ℕ → ℕ → List ℕ → ℕ → Found
called p i q j =
    let x = scalar_at p i in
    let y = scalar_at q j in
    found Scalarity (within p (value_at p x) && within q (value_at q y)) (same_arrow_at p i q j) i x (value_at p x) y (value_at q y)

-- R19, eli: "A only; - obj(P) at I". No term has to agree.
abbrev pub denying : List ℕ → ℕ → Found
denying p i = found Elimination (within p (denied_at p i)) true i 0 0 0 0

-- R25, mer, "two + arrow atoms or molecules": the atoms and their objects.
unfoldable pub object_place : List ℕ → ℕ → ℕ
object_place p at = end_of p (object_of (drop at p))

unfoldable pub joined : List ℕ → ℕ → List ℕ → ℕ → Found
joined p i q j =
    let x = positive_at p i in
    let y = positive_at q j in
    found Merging (within p (object_place p x) && within q (object_place q y)) true i x (object_place p x) y (object_place q y)

-- R26, pro: "A only; + a molecule with object P and a part K, counted from 0": the object, and K.
unfoldable pub molecule_place : List ℕ → ℕ → ℕ
molecule_place p i = strip_at p (bytes "(mol ") (positive_at p i)

abbrev pub is_part : Option PartIn → Bool
is_part None = false
is_part (Some y) = true

unfoldable pub projected : ℕ → List ℕ → ℕ → Found
projected k p i = found Projection (is_part (part_at k (drop (molecule_place p i) p))) true i (molecule_place p i) k 0 0

-- The shape (V19): "a position, sign, kind of atom, result, K, or pair I, J".
unfoldable pub found_by : Kind → Row → ℕ → List ℕ → ℕ → List ℕ → ℕ → Found
found_by Reflexivity r k p i q j = nothing_found Reflexivity i
found_by Resolution r k p i q j = resolved p i q j
found_by Factoring r k p i q j = factored p i q j
found_by Rewriting r k p i q j = replaced r k p i q j
found_by Acyclicity r k p i q j = crossed p i q j
found_by Scalarity r k p i q j = called p i q j
found_by Elimination r k p i q j = denying p i
found_by Merging r k p i q j = joined p i q j
found_by Projection r k p i q j = projected k p i

abbrev pub found_at : Rule → ℕ → List ℕ → ℕ → List ℕ → ℕ → Found
found_at rule k p i q j = found_by (row_of rule).kind (row_of rule) k p i q j

-- An item, whatever fills its clause; agreement of items by their bytes.
abbrev pub bare_item : List ℕ → Item
bare_item bs = record { bytes = bs; entries = None }

abbrev pub by_places : ℕ → List ℕ → List ℕ → List ℕ → Item → Item → Bool
by_places depth line starts others x y = agree_at depth x.bytes 0 line starts y.bytes 0 others

-- R24: where one of the atoms at x and y is a molecule, by their parts; otherwise the second covers the first.
unfoldable pub fits_at : ℕ → List ℕ → ℕ → List ℕ → List ℕ → List ℕ → ℕ → List ℕ → Bool
fits_at depth p x line starts q y others =
    let fit = parts_fit (by_places depth line starts others) (bare_item (drop x p)) (bare_item (drop y q)) in
    cond (stood (molecule (drop x p)) || stood (molecule (drop y q))) fit (covers_at depth p x line starts q y others)

-- The "agreement, filled" (V20), of terms that nest at most so deep.
unfoldable pub agrees_by : ℕ → Kind → Found → List ℕ → List ℕ → List ℕ → List ℕ → List ℕ → Bool
agrees_by depth Reflexivity f p line starts q others = true
agrees_by depth Resolution f p line starts q others = fits_at depth p f.left line starts q f.right others
agrees_by depth Factoring f p line starts q others = fits_at depth p f.left line starts q f.right others
agrees_by depth Rewriting f p line starts q others = agree_at depth p f.left line starts q f.right others
agrees_by depth Acyclicity f p line starts q others =
    agree_at depth p f.left line starts q f.right others && agree_at depth p f.more line starts q f.other others
agrees_by depth Scalarity f p line starts q others = f.arrows && calls_at depth p f.left line starts q f.right others
agrees_by depth Elimination f p line starts q others = true
agrees_by depth Merging f p line starts q others = agree_at depth p f.more line starts q f.other others
agrees_by depth Projection f p line starts q others = true

-- V19, V20: what checks 9 and 10 say.
unfoldable pub answer : Bool → Bool → Checked
answer shaped agrees = cond shaped (cond agrees (Ok tt) (Err Check.Agreement)) (Err Check.Shape)

unfoldable pub row_at : ℕ → Rule → ℕ → List ℕ → ℕ → List ℕ → List ℕ → List ℕ → ℕ → List ℕ → Checked
row_at depth rule k p i line starts q j others =
    let f = found_at rule k p i q j in
    answer f.shaped (agrees_by depth f.kind f p line starts q others)
