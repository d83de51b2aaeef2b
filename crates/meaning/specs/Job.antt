-- A base and a job: which text is answered (V34, V35), and what the answer means (V36).
use Rattle.std.specs.Prelude.{ℕ, Bool, List, ◌++◌, T}
use Rattle.logic.specs.Syntax.{Atom}
use Rattle.text.specs.declared.Figures.{Figures}
use Rattle.meaning.specs.declared.Verdict.{Verdict}
use Rattle.meaning.specs.Checks.{Accepted}
use Rattle.meaning.specs.Means.{Means}
use Rattle.meaning.specs.Guarantee.{is_accepted, WrittenText, SoundFor}

-- V34, V35: what an answer to the two means.
pub record JobMeans (F : Figures) (base job : List ℕ) (v : Verdict) (ns : List ℕ) : Type 0 where
  -- V34: "The base is read alone first. If it is refused, the answer is its own refusal".
  pub alone : (Accepted F base → ⊥) → Means F base v ns
  -- V35: "Otherwise the answer is that of the base's bytes followed by the job's".
  pub joined : Accepted F base → Means F (base ++ job) v ns

-- V36: "V23, V24 and V32 hold of the two in a row, and V25 wherever the base alone is accepted", for every set of atoms
-- (`job_whole_claim`).
pub record JobWholeClaim (F : Figures) (base job : List ℕ) (v : Verdict) (ns : List ℕ) : Type 1 where
  pub sound : (H : Atom → Type 0) → SoundFor H F (base ++ job) v ns
  pub accepts : Accepted F base → WrittenText F (base ++ job) → T (is_accepted v)

-- V36: the claim on the call, for the sets that are given by a test (as `Guarantee`).
pub record JobGuarantee (F : Figures) (base job : List ℕ) (v : Verdict) (ns : List ℕ) : Type 0 where
  pub sound : (S : Atom → Bool) → SoundFor (λ x. T (S x)) F (base ++ job) v ns
  pub accepts : Accepted F base → WrittenText F (base ++ job) → T (is_accepted v)
