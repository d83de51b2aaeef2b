-- The form's bounds, taken apart.
use Prim.Native.Nat.{ℕ, suc}
use mathlib.Core.Logic.{◌↔◌}
use native.Mathlib.Omega.{arith}
use lib.Dec.{T, leb→le, le→leb}
use Rattle.logic.specs.Syntax.{Term, var, app, Terms, cons}
use Rattle.text.specs.Form.{formed_number, depth_of, depth_ofs, numbered, numbereds, formed_term, formed_terms}
use Rattle.text.proofs.Tests.{T_and}

pub var_formed : (d n : ℕ) → T (formed_number n) ↔ T (formed_term (suc d) (var n))
unfolding formed_term depth_of numbered
var_formed d n = (λ f. simp T_and (omega (arith, le→leb), f), λ h. let (_, f) = simp T_and at h in f)

pub app_formed : (d n : ℕ) (ts : Terms) → T (formed_number n) × T (formed_terms d ts) ↔ T (formed_term (suc d) (app n ts))
unfolding formed_term formed_terms depth_of numbered
app_formed d n ts = (
  λ h. let (f, g) = simp T_and at h in simp T_and (omega (arith, leb→le, le→leb), (f, g.1)),
  λ h. let (m, g) = simp T_and at h in simp T_and (g.0, (omega (arith, leb→le, le→leb), g.1)),
)

pub terms_formed : (d : ℕ) (t : Term) (ts : Terms) → T (formed_terms d (cons t ts)) ↔ T (formed_term d t) × T (formed_terms d ts)
unfolding formed_terms formed_term numbereds depth_ofs
terms_formed d t ts = (
  λ h. let (m, p) = simp T_and at h in simp T_and ((omega (arith, leb→le, le→leb), p.0), (omega (arith, leb→le, le→leb), p.1)),
  λ h. let (x, y) = simp T_and at h in simp T_and (omega (arith, leb→le, le→leb), (x.1, y.1)),
)

pub no_depth : (t : Term) → T (formed_term 0 t) → ⊥
unfolding formed_term depth_of
no_depth (var n) f = f
no_depth (app n ts) f = let (m, _) = simp T_and at f in omega (arith, leb→le)
