-- The guarantee holds of every text and its answer, and accepted texts are exactly the written derivations within the limits.
use Prim.Native.Nat.{ℕ, ◌<◌}
use mathlib.Core.List.{List, [], ◌∷◌}
use mathlib.Core.Logic.{◌↔◌}
use mathlib.Core.Path.{◌≡◌, refl, sym, ap, subst, ◌∙◌}
use native.Mathlib.Omega.{arith}
use lib.Dec.{T}
use lib.ListN.{length}
use Rattle.logic.specs.Reach.{ParentsFall}
use Rattle.logic.specs.Descent.{RestsOn}
use Rattle.logic.specs.Structure.{ModelsAll}
use Rattle.logic.proofs.Descending.{given_falls, rests_exactly}
use Rattle.logic.proofs.Every.{everything}
use Rattle.text.specs.declared.Figures.{Figures}
use Rattle.meaning.specs.declared.Verdict.{Verdict}
use Rattle.meaning.specs.declared.Verdict.TheVariants.{Refuted, Open, Refused}
use Rattle.meaning.specs.Checks.{state_of, table_of, inputs_of, steps_of, clauses_of, Accepted}
use Rattle.meaning.specs.Answer.{verdict, rests_in, rests}
use Rattle.meaning.specs.Means.{FirstEmpty, MeansVerdict, Names, Means}
use Rattle.meaning.specs.Guarantee.{is_accepted, WrittenText, chosen, WholeClaim, Guarantee}
use Rattle.meaning.proofs.Meaning.{verdict_means, verdict_exactly, accepted_or_refused}
use Rattle.meaning.proofs.Entailed.{accepted_good, accepted_entails, refuted_none, rests_none}
use Rattle.meaning.proofs.Accepts.{written_accepted, accepted_written}

module _ (F : Figures) (text : List ℕ) where
  accepted_here : (v : Verdict) → MeansVerdict F text v → T (is_accepted v) → Accepted F text
  unfolding MeansVerdict is_accepted
  accepted_here (Refuted c f) m h = m.0
  accepted_here (Open c) m h = m.0
  accepted_here (Refused n l) m h = absurd h

  here_accepted : (v : Verdict) → MeansVerdict F text v → Accepted F text → T (is_accepted v)
  unfolding MeansVerdict is_accepted
  here_accepted (Refuted c f) m a = tt
  here_accepted (Open c) m a = tt
  here_accepted (Refused n l) m a = accepted_or_refused F text a m

  -- "A text is accepted exactly when none of the eleven checks fails".
  pub accepted_exactly : T (is_accepted (verdict F text)) ↔ Accepted F text
  accepted_exactly = (accepted_here (verdict F text) (verdict_means F text), here_accepted (verdict F text) (verdict_means F text))

  first_of : (count first : ℕ) → MeansVerdict F text (Refuted count first) → FirstEmpty first (clauses_of F text)
  unfolding MeansVerdict
  first_of count first m = m.2

  accepted_refuted : (count first : ℕ) → MeansVerdict F text (Refuted count first) → Accepted F text
  unfolding MeansVerdict
  accepted_refuted count first m = m.0

  -- The inputs that are named are those meant, and no others are.
  accepted_falls : Accepted F text → ParentsFall (length (inputs_of F text)) (steps_of F text)
  unfolding inputs_of steps_of
  accepted_falls a = let st = state_of F text in given_falls st.symbols st.inputs st.steps (accepted_good F text a).given

  pub names_exactly : (v : Verdict) → MeansVerdict F text v → (ns : List ℕ) → rests_in (state_of F text) v ≡ ns ↔ Names F text v ns
  unfolding rests_in Names inputs_of steps_of
  names_exactly (Refuted c f) m ns = rests_exactly (length (inputs_of F text)) (steps_of F text) (accepted_falls (accepted_refuted c f m)) f ns
  names_exactly (Open c) m ns = (λ e. sym e, λ e. sym e)
  names_exactly (Refused n l) m ns = (λ e. sym e, λ e. sym e)

  -- The answer is the one that is meant.
  pub answer_exactly : (v : Verdict) (ns : List ℕ) → ((verdict F text ≡ v) × (rests F text ≡ ns)) ↔ Means F text v ns
  unfolding Means rests
  answer_exactly v ns = (
    λ e. let m = (verdict_exactly F text v).0 e.0 in (m, (names_exactly v m ns).0 (ap (rests_in (state_of F text)) (sym e.0) ∙ e.1)),
    λ m. let e = (verdict_exactly F text v).1 m.0 in (e, ap (rests_in (state_of F text)) e ∙ (names_exactly v m.0 ns).1 m.1),
  )

  named_rests : (count first : ℕ) (ns : List ℕ) → Names F text (Refuted count first) ns → RestsOn (length (inputs_of F text)) (steps_of F text) first ns
  unfolding Names
  named_rests count first ns m = m

  -- The whole claim holds of every text and the answer that is meant.
  pub whole_claim : (v : Verdict) (ns : List ℕ) → Means F text v ns → WholeClaim F text v ns
  unfolding Means
  whole_claim v ns (m, names) = record {
    sound = λ H. record {
      refuted = λ count first e. let w = subst (MeansVerdict F text) e m in refuted_none F text first (accepted_refuted count first w) (first_of count first w) H;
      entailed = λ h. accepted_entails F text (accepted_here v m h) H;
      rests = λ count first e.
          let w = subst (MeansVerdict F text) e m in
          let r = named_rests count first ns (subst (λ u. Names F text u ns) e names) in
          rests_none F text first ns (accepted_refuted count first w) (first_of count first w) r H;
    };
    accepts = λ w. here_accepted v m (written_accepted F text w);
  }

  pub guaranteed : (v : Verdict) (ns : List ℕ) → Means F text v ns → Guarantee F text v ns
  guaranteed v ns m = let w = whole_claim v ns m in record { sound = λ S. w.sound (λ x. T (S x)); accepts = w.accepts }

  -- V31, V32: a refuted answer names an input. With none named there would be no H-structure at all, and there is one.
  pub refuted_names_input : (count first : ℕ) (ns : List ℕ) → Means F text (Refuted count first) ns → 0 < length ns
  unfolding chosen ModelsAll
  refuted_names_input count first [] m =
      absurd (((whole_claim (Refuted count first) [] m).sound _).rests count first refl (everything (table_of F text)) tt)
  refuted_names_input count first (n ∷ ns) m = omega arith

  -- What `check` promises, from its equations.
  pub answered : (v : Verdict) (ns : List ℕ) → v ≡ verdict F text → ns ≡ rests F text →
      (v ≡ verdict F text) × ((ns ≡ rests F text) × (Means F text v ns × (Guarantee F text v ns × (text ≡ text))))
  answered v ns e f = let m = (answer_exactly v ns).0 (sym e, sym f) in (e, (f, (m, (guaranteed v ns m, refl))))

  -- "Accepted" and "a written derivation within the limits" are the same.
  pub accepted_is_written : T (is_accepted (verdict F text)) ↔ WrittenText F text
  accepted_is_written = (λ h. accepted_written F text (accepted_exactly.0 h), λ w. accepted_exactly.1 (written_accepted F text w))
