-- TEXT-FORM, "Corners": C1 to C10 as texts with their answers, and C13.
use Rattle.std.specs.Prelude.{ℕ, ◌-◌, List, [], ◌∷◌, ◌++◌, length, take, drop}
use Prim.Native.String.{String}
use Rattle.logic.specs.declared.Check.{Check}
use Rattle.text.specs.Words.{bytes, line_end}
use Rattle.text.specs.Figures.{office}
use Rattle.meaning.specs.declared.Verdict.{Verdict}
use Rattle.meaning.specs.declared.Verdict.TheVariants.{Refuted, Open, Refused}
use Rattle.meaning.specs.Means.{Means}
use Rattle.meaning.specs.Job.{JobMeans}

-- T1: lines as a text, each ended by byte 10.
unfoldable pub text_of : List String → List ℕ
text_of [] = []
text_of (l ∷ ls) = bytes l ++ (line_end ∷ text_of ls)

-- The lines of C1 (V27), the last one given.
unfoldable pub chain : String → List String
chain last =
    "(sym 0)" ∷ "(sym 0)" ∷ "(sym 0)"
    ∷ "(in (or (+ (mem (f 0) (f 1)))))" ∷ "(in (or (+ (sub (f 1) (f 2)))))" ∷ "(in (or (- (mem (v 0) (f 2)))))"
    ∷ "(by inc 0 0 1 0 0 (let) (let) (or (+ (mem (f 0) (f 2)))))" ∷ last ∷ []

unfoldable pub first_corner : List String
first_corner = chain "(by res 2 0 3 0 0 (let (f 0)) (let) (or))"

-- A row of C1 to C10: the text, the verdict and the inputs that are named.
infix 10 ◌gives◌
abbrev pub ◌gives◌ : List String → Verdict × List ℕ → List String × (Verdict × List ℕ)
◌gives◌ lines answer = (lines, answer)

infix 11 ◌resting◌
abbrev pub ◌resting◌ : Verdict → List ℕ → Verdict × List ℕ
◌resting◌ v ns = (v, ns)

-- C1 to C10, in this order: C2 is C1 "with `(let (f 1))` in the last line", C3 "the empty text", C4 "C1's three sym lines".
unfoldable pub corners : List (List String × (Verdict × List ℕ))
corners =
    (first_corner gives Refuted 5 4 resting 0 ∷ 1 ∷ 2 ∷ [])
    ∷ (chain "(by res 2 0 3 0 0 (let (f 1)) (let) (or))" gives Refused Check.Agreement 8 resting [])
    ∷ ([] gives Refused Check.Constant 0 resting [])
    ∷ ("(sym 0)" ∷ "(sym 0)" ∷ "(sym 0)" ∷ [] gives Open 0 resting [])
    ∷ ("(sym 1)" ∷ "(in (or))" ∷ [] gives Refused Check.Constant 2 resting [])
    ∷ ("(sym 0)" ∷ "(in (or))" ∷ [] gives Refuted 1 0 resting 0 ∷ [])
    ∷ ("(sym 0)" ∷ "(in (or (+ (sv (f 0) (f 0) ((f 0)) (f 0)))))" ∷ "(in (or (+ (sv (f 0) (f 0) ((f 0) (f 0)) (f 0)))))"
    ∷ "(by sca 0 0 1 0 0 (let) (let) (or (+ (eq (f 0) (f 0)))))" ∷ [] gives Refused Check.Agreement 4 resting [])
    ∷ ("(sym 0)" ∷ "(in (or (+ (mv (f 0) (f 0) () (f 0)))))" ∷ "(in (or (- (mv (f 0) (f 0) () none))))"
    ∷ "(by res 1 0 0 0 0 (let) (let) (or))" ∷ [] gives Refuted 3 2 resting 0 ∷ 1 ∷ [])
    ∷ ("(sym 0)" ∷ "(in (or (- (mv (f 0) (f 0) () (f 0)))))" ∷ "(in (or (+ (mv (f 0) (f 0) () none))))"
    ∷ "(by res 0 0 1 0 0 (let) (let) (or))" ∷ [] gives Refused Check.Agreement 4 resting [])
    ∷ ("(sym 0)" ∷ "(sym 0)" ∷ "(in (or (+ (mem (v 0) (f 0)))))" ∷ "(in (or (- (mem (f 1) (v 0)))))"
    ∷ "(by res 1 0 0 0 0 (let (f 0)) (let (f 1)) (or))" ∷ [] gives Refuted 3 2 resting 0 ∷ 1 ∷ [])
    ∷ []

-- C1 to C10: each corner's answer is the one that its text is given (V1 to V3, V30).
unfoldable pub AllMeant : List (List String × (Verdict × List ℕ)) → Type 0
AllMeant [] = Unit
AllMeant ((lines, (v, ns)) ∷ cs) = Means office (text_of lines) v ns × AllMeant cs

-- C13: a base and a job.
pub record JobCorners : Type 0 where
  -- "an empty base gives refused 4 0, whatever the job is".
  pub empty : (job : List ℕ) → JobMeans office [] job (Refused Check.Constant 0) []
  -- "the three sym lines of C1 and then its other lines give C1's answer".
  pub cut : JobMeans office (text_of (take 3 first_corner)) (text_of (drop 3 first_corner)) (Refuted 5 4) (0 ∷ 1 ∷ 2 ∷ [])
  -- "and so does C1 with an empty job".
  pub whole : JobMeans office (text_of first_corner) [] (Refuted 5 4) (0 ∷ 1 ∷ 2 ∷ [])
  -- "C1 without its last line end gives refused 2 8, whatever the job is".
  pub unended : (job : List ℕ) → JobMeans office (take (length (text_of first_corner) - 1) (text_of first_corner)) job (Refused Check.Form 8) []
