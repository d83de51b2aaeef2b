-- A text whose inputs have a model is never refuted; a worked example of each answer.
use Prim.Native.Nat.{ℕ}
use mathlib.Core.List.{List, [], ◌∷◌}
use mathlib.Core.Bool.{true}
use mathlib.Core.Logic.{inl}
use mathlib.Core.Path.{◌≡◌, refl, sym, subst₂}
use lib.Dec.{T}
use Rattle.logic.specs.Syntax.{Term, Part, Parts, also, Atom, arrows, Clause}
use Rattle.logic.specs.Terms.{count, terms_of}
use Rattle.logic.specs.Each.{each_term, each_atom, declares, never, allowed, one_part, no_molecule, ground_term, ground_atom, atom_over}
use Rattle.logic.specs.Fill.{fill, fill_atom, fill_literal, fill_clause}
use Rattle.logic.specs.Structure.{Structure, TrueIn, SatisfiesLiteral, SomeLiteral, Satisfies, Grounds, Models, ModelsAll}
use Rattle.logic.proofs.Both.{left, both}
use Rattle.logic.proofs.Every.{everything}
use Rattle.text.specs.declared.Figures.{Figures}
use Rattle.text.specs.Figures.{office}
use Rattle.meaning.specs.declared.Verdict.TheVariants.{Refuted}
use Rattle.meaning.specs.Checks.{table_of, inputs_of}
use Rattle.meaning.specs.Answer.{verdict, rests}
use Rattle.meaning.proofs.Examples.{refuted_text, open_text, refused_text, modelled, bare_text}
use Rattle.meaning.proofs.Corners.{computed}
use Rattle.meaning.proofs.Guaranteed.{answer_exactly, whole_claim}

pub modelled_not_refuted : (F : Figures) (text : List ℕ) (H : Atom → Type 0) → Structure (table_of F text) H →
    ModelsAll (table_of F text) H (inputs_of F text) → (count first : ℕ) → verdict F text ≡ Refuted count first → ⊥
modelled_not_refuted F text H S m count first e = ((whole_claim F text (verdict F text) (rests F text) ((answer_exactly F text (verdict F text) (rests F text)).0 (refl, refl))).sound H).refuted count first e S m

-- refuted: no structure satisfies the inputs.
pub refuted_example : (H : Atom → Type 0) → Structure (table_of office refuted_text) H → ModelsAll (table_of office refuted_text) H (inputs_of office refuted_text) → ⊥
refuted_example H S m = modelled_not_refuted office refuted_text H S m 3 2 computed.refuted_text_lem

-- The same by a signature with none, which a structure passes to subclasses (H6).
pub bare_example : (H : Atom → Type 0) → Structure (table_of office bare_text) H → ModelsAll (table_of office bare_text) H (inputs_of office bare_text) → ⊥
bare_example H S m = modelled_not_refuted office bare_text H S m 6 5 computed.bare_text_lem

-- The set of all ground atoms satisfies the inputs of the open and of the refused text.
abbrev Ground : List ℕ → Atom → Type 0
Ground table x = T (ground_atom table x)

every_models : ModelsAll (0 ∷ []) (Ground (0 ∷ [])) modelled
unfolding ModelsAll Models Satisfies SomeLiteral SatisfiesLiteral TrueIn no_molecule fill_clause fill_literal fill_atom fill ground_atom atom_over allowed each_atom each_term terms_of Grounds ground_term count declares
every_models = (λ γ g n. n (inl (both (each_term never (declares (0 ∷ [])) (γ 0)) true (g 0) tt)), tt)

abbrev Modelled : List ℕ → List Clause → Type 0
Modelled table inputs = Structure table (Ground table) × ModelsAll table (Ground table) inputs

pub open_example : Modelled (table_of office open_text) (inputs_of office open_text)
open_example = subst₂ Modelled (sym computed.open_table) (sym computed.open_inputs) (everything (0 ∷ []), every_models)

pub refused_example : Modelled (table_of office refused_text) (inputs_of office refused_text)
refused_example = subst₂ Modelled (sym computed.refused_table) (sym computed.refused_inputs) (everything (0 ∷ []), every_models)

-- H11: "A set holds no molecule".
pub holds_no_molecule : (table : List ℕ) (H : Atom → Type 0) → Structure table H → (o : Term) (p : Part) (ps : Parts) → H (arrows o (also p ps)) → ⊥
unfolding ground_atom no_molecule one_part
holds_no_molecule table H S o p ps h = left (no_molecule (arrows o (also p ps))) (atom_over never (declares table) (arrows o (also p ps))) (S.ground h)
