-- A base and a job: where the base is accepted its lines are ended, and reading the two in a row is reading the job on from where the base
-- ends. The answer to the two is the one that is meant, and has the whole claim.
use Prim.Native.Nat.{ℕ, suc, ◌+◌}
use mathlib.Core.Bool.{Bool, true, false, cond}
use mathlib.Core.List.{List, [], ◌∷◌, ◌++◌, map, map-append, append-nil}
use mathlib.Core.Logic.{◌↔◌}
use mathlib.Core.Path.{◌≡◌, refl, sym, ap, subst, ◌∙◌}
use native.Mathlib.Omega.{arith}
use lib.Dec.{T}
use lib.ListN.{length}
use Rattle.logic.specs.Syntax.{Atom}
use Rattle.text.specs.Form.{Reading, no_form}
use Rattle.text.specs.Read.{read_raw}
use Rattle.text.specs.Split.{Raw, ended, unended, split}
use Rattle.text.specs.declared.Figures.{Figures}
use Rattle.text.proofs.Lines.{AllEnded, split_append}
use Rattle.text.proofs.Tests.{holds}
use Rattle.state.specs.State.{State, fresh, after, state_after}
use Rattle.std.specs.Prelude.{Ok, Err}
use Rattle.logic.specs.declared.Check.{Check}
use Rattle.logic.specs.StepChecks.{Checked}
use Rattle.meaning.specs.declared.Verdict.{Verdict}
use Rattle.meaning.specs.declared.Verdict.TheVariants.{Refused}
use Rattle.meaning.specs.Checks.{readings, too_large, state_of, Accepted}
use Rattle.meaning.specs.Means.{Means}
use Rattle.meaning.specs.Answer.{failure, refused_or, read_on, verdict, rests_in, rests, jointly}
use Rattle.meaning.specs.Guarantee.{is_accepted, SoundFor}
use Rattle.meaning.specs.Job.{JobMeans, JobWholeClaim, JobGuarantee}
use Rattle.meaning.proofs.Guaranteed.{accepted_exactly, answer_exactly, whole_claim}

-- Readings in a row: where the first are accepted, the others are read on from the state after them.
module _ (st : State) (line : ℕ) (r : Reading) (rs : List Reading) (a : T (is_accepted (read_on st line (r ∷ rs)))) where
  passes_first : failure st r ≡ Ok tt
  unfolding is_accepted read_on refused_or
  passes_first = go (failure st r) a
    where
      go : (w : Checked) → T (is_accepted (refused_or w line (read_on (after st r) (suc line) rs))) → w ≡ Ok tt
      go (Ok u) h = refl
      go (Err c) h = absurd h

  goes_on_lem : (qs : List Reading) → read_on st line (r ∷ qs) ≡ read_on (after st r) (suc line) qs
  unfolding read_on refused_or
  goes_on_lem qs = rw passes_first refl

  accepted_on : T (is_accepted (read_on (after st r) (suc line) rs))
  accepted_on = subst (λ (v : Verdict). T (is_accepted v)) (goes_on_lem rs) a

all_ended : (F : Figures) (st : State) (line : ℕ) (raws : List Raw) → T (is_accepted (read_on st line (map (read_raw F.depth) raws))) → AllEnded raws
unfolding AllEnded read_raw failure
all_ended F st line [] a = tt
all_ended F st line (ended w ∷ raws) a = all_ended F (after st (read_raw F.depth (ended w))) (suc line) raws (accepted_on st line (read_raw F.depth (ended w)) (map (read_raw F.depth) raws) a)
all_ended F st line (unended w ∷ raws) a = let e = passes_first st line no_form (map (read_raw F.depth) raws) a in absurd (cc)

read_append : (st : State) (line : ℕ) (rs qs : List Reading) → T (is_accepted (read_on st line rs)) → read_on st line (rs ++ qs) ≡ read_on (state_after st rs) (line + length rs) qs
unfolding state_after
read_append st line [] qs a = let e : line + 0 ≡ line = omega arith in rw e
read_append st line (r ∷ rs) qs a =
    let e : line + suc (length rs) ≡ suc line + length rs = omega arith in
    rw e (goes_on_lem st line r rs a (rs ++ qs) ∙ read_append (after st r) (suc line) rs qs (accepted_on st line r rs a))

pub state_append : (st : State) (rs qs : List Reading) → state_after st (rs ++ qs) ≡ state_after (state_after st rs) qs
unfolding state_after
state_append st [] qs = refl
state_append st (r ∷ rs) qs = state_append (after st r) rs qs

pub read_verdict : (F : Figures) (text : List ℕ) → too_large F text ≡ false → read_on fresh 1 (readings F text) ≡ verdict F text
unfolding verdict
read_verdict F text e = rw e

module _ (F : Figures) (base : List ℕ) (small : too_large F base ≡ false) (a : T (is_accepted (verdict F base))) (job : List ℕ) where
  read_accepted : T (is_accepted (read_on fresh 1 (readings F base)))
  read_accepted = rw (read_verdict F base small) a

  pub lines_append : split (base ++ job) ≡ split base ++ split job
  unfolding readings
  lines_append = split_append base job (all_ended F fresh 1 (split base) read_accepted)

  readings_append : readings F (base ++ job) ≡ readings F base ++ readings F job
  unfolding readings
  readings_append = ap (map (read_raw F.depth)) lines_append ∙ map-append (read_raw F.depth) (split base) (split job)

  pub read_joined : read_on fresh 1 (readings F (base ++ job)) ≡ read_on (state_of F base) (1 + length (readings F base)) (readings F job)
  unfolding state_of
  read_joined = ap (read_on fresh 1) readings_append ∙ read_append fresh 1 (readings F base) (readings F job) read_accepted

-- The text that is answered.
module _ (F : Figures) (base job : List ℕ) where
  pub jointly_alone : is_accepted (verdict F base) ≡ false → jointly F base job ≡ base
  unfolding jointly
  jointly_alone e = rw e

  pub jointly_joined : is_accepted (verdict F base) ≡ true → jointly F base job ≡ base ++ job
  unfolding jointly
  jointly_joined e = rw e

pub jointly_nothing : (F : Figures) (base : List ℕ) → jointly F base [] ≡ base
unfolding jointly
jointly_nothing F base = go (is_accepted (verdict F base))
  where
    go : (b : Bool) → cond b (base ++ []) base ≡ base
    go true = append-nil base
    go false = refl

fails : (b : Bool) → (T b → ⊥) → b ≡ false
fails true h = absurd (h tt)
fails false h = refl

-- Of whole texts: each answer to the two is given exactly when it is the one that is meant.
module _ (F : Figures) (base job : List ℕ) where
  base_accepted : Accepted F base → is_accepted (verdict F base) ≡ true
  base_accepted a = holds (is_accepted (verdict F base)) ((accepted_exactly F base).1 a)

  base_refused : (Accepted F base → ⊥) → is_accepted (verdict F base) ≡ false
  base_refused n = fails (is_accepted (verdict F base)) (λ h. n ((accepted_exactly F base).0 h))

  given_of : (text : List ℕ) → jointly F base job ≡ text → (v : Verdict) (ns : List ℕ) →
      ((verdict F (jointly F base job) ≡ v) × (rests F (jointly F base job) ≡ ns)) ↔ Means F text v ns
  given_of text e v ns = rw e (answer_exactly F text v ns)

  pub job_exactly : (v : Verdict) (ns : List ℕ) → ((verdict F (jointly F base job) ≡ v) × (rests F (jointly F base job) ≡ ns)) ↔ JobMeans F base job v ns
  job_exactly v ns = (
    λ e. record {
      alone = λ n. (given_of base (jointly_alone F base job (base_refused n)) v ns).0 e;
      joined = λ a. (given_of (base ++ job) (jointly_joined F base job (base_accepted a)) v ns).0 e;
    },
    λ m. go m (is_accepted (verdict F base)) refl,
  )
    where
      go : JobMeans F base job v ns → (b : Bool) → is_accepted (verdict F base) ≡ b → (verdict F (jointly F base job) ≡ v) × (rests F (jointly F base job) ≡ ns)
      go m true e = (given_of (base ++ job) (jointly_joined F base job e) v ns).1 (m.joined ((accepted_exactly F base).0 (rw e tt)))
      go m false e = (given_of base (jointly_alone F base job e) v ns).1 (m.alone (λ a. absurd (subst T e ((accepted_exactly F base).1 a))))

  -- What is told by the answer to one text.
  pub joined_base : {v : Verdict} {ns : List ℕ} → T (is_accepted (verdict F base)) → verdict F (base ++ job) ≡ v → rests F (base ++ job) ≡ ns → JobMeans F base job v ns
  joined_base {v} {ns} a e f = let j = jointly_joined F base job (holds _ a) in (job_exactly v ns).0 (ap (verdict F) j ∙ e, ap (rests F) j ∙ f)

  -- A refusal claims nothing of any set of atoms.
  refusal_sound : (H : Atom → Type 0) (text : List ℕ) (v : Verdict) (ns : List ℕ) → (T (is_accepted v) → ⊥) → SoundFor H F text v ns
  unfolding is_accepted
  refusal_sound H text v ns n = record {
    refuted = λ count first e s m. n (rw e tt);
    entailed = λ h. absurd (n h);
    rests = λ count first e s m. n (rw e tt);
  }

  pub job_whole_claim : (v : Verdict) (ns : List ℕ) → JobMeans F base job v ns → JobWholeClaim F base job v ns
  job_whole_claim v ns m = go (is_accepted (verdict F base)) refl
    where
      go : (b : Bool) → is_accepted (verdict F base) ≡ b → JobWholeClaim F base job v ns
      go true e =
          let w = whole_claim F (base ++ job) v ns (m.joined ((accepted_exactly F base).0 (rw e tt))) in
          record { sound = w.sound; accepts = λ a. w.accepts }
      go false e =
          let n : Accepted F base → ⊥ = λ a. absurd (subst T e ((accepted_exactly F base).1 a)) in
          let q : verdict F base ≡ v = ((answer_exactly F base v ns).1 (m.alone n)).0 in
          record { sound = λ H. refusal_sound H (base ++ job) v ns (λ h. subst T (ap is_accepted (sym q) ∙ e) h); accepts = λ a. absurd (n a) }

  pub job_guaranteed : (v : Verdict) (ns : List ℕ) → JobMeans F base job v ns → JobGuarantee F base job v ns
  job_guaranteed v ns m = let w = job_whole_claim v ns m in record { sound = λ S. w.sound (λ x. T (S x)); accepts = w.accepts }

  -- What `check_job` promises, from its equations.
  pub job_answered : (v : Verdict) (ns : List ℕ) → v ≡ verdict F (jointly F base job) → ns ≡ rests F (jointly F base job) →
      (v ≡ verdict F (jointly F base job)) × ((ns ≡ rests F (jointly F base job)) × (JobMeans F base job v ns × (JobGuarantee F base job v ns × ((base ≡ base) × (job ≡ job)))))
  job_answered v ns e f = let m = (job_exactly v ns).0 (sym e, sym f) in (e, (f, (m, (job_guaranteed v ns m, (refl, refl)))))

pub refused_base : (F : Figures) (base : List ℕ) (c : Check) (l : ℕ) → verdict F base ≡ Refused c l → (job : List ℕ) → JobMeans F base job (Refused c l) []
unfolding is_accepted rests rests_in
refused_base F base c l e job =
    let j = jointly_alone F base job (ap is_accepted e) in
    (job_exactly F base job (Refused c l) []).0 (ap (verdict F) j ∙ e, rw (j, e))

pub nothing_more : (F : Figures) (text : List ℕ) {v : Verdict} {ns : List ℕ} → verdict F text ≡ v → rests F text ≡ ns → JobMeans F text [] v ns
nothing_more F text {v} {ns} e f = let j = jointly_nothing F text in (job_exactly F text [] v ns).0 (ap (verdict F) j ∙ e, ap (rests F) j ∙ f)
