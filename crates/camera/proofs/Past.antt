-- An angle has no tangent exactly if it is finite and its size is past arctan's limit. Assumes nothing.
use mathlib.Core.Path.{◌≡◌, refl, sym, ap, ◌∙◌}
use Rattle.std.specs.declared.option.Option.{Option}
use Rattle.std.specs.declared.option.Option.TheVariants.{Some, None}
use mathlib.Core.Logic.{◌↔◌}
use mathlib.Core.Bool.{Bool, true, false, not, ◌&&◌, false≢true}
use mathlib.Core.List.{[], ◌∷◌}
use native.Mathlib.Omega.{arith}
use lib.Dec.{T}
use lib.Ieee.{Float, nan, inf, fin}
use lib.Ieee.Scale.{finite}
use Rattle.exact.specs.F64.{magnitude}
use Rattle.exact.specs.Fraction.{exactly, ◌≺◌}
use Rattle.arctan.specs.Series as series
use Rattle.arctan.specs.Tangent.{tangent}
use Rattle.arctan.proofs.Laws.{tangent_nan, tangent_infinite, tangent_refused_past}
use Rattle.lens.specs.Fits.{Fit}
use Rattle.lens.specs.Rows.{◌when◌, first}
use Rattle.camera.specs.Rows.{steep}

-- finite, and past the limit in size
abbrev pub Past : Float → Type 0
Past theta = T (finite theta) × (series.limit ≺ exactly (magnitude theta))

steep_is : (slope : Option Float) → steep slope ≡ true → slope ≡ None
steep_is None e = refl
steep_is (Some t) e = absurd (false≢true e)

none : (theta : Float) → tangent theta ≡ Some nan → steep (tangent theta) ≡ true → ⊥
none theta e h = false≢true (sym (ap steep e) ∙ h)

pub steep_past : (theta : Float) → Fit theta → (steep (tangent theta) ≡ true) ↔ Past theta
unfolding magnitude exactly
steep_past nan f = (λ h. absurd (none nan tangent_nan h), λ p. absurd p.0)
steep_past (inf s) f = (λ h. absurd (none (inf s) (tangent_infinite s) h), λ p. absurd p.0)
steep_past (fin s m e) f = (
  λ h. (tt, (tangent_refused_past s m e f).0 (steep_is (tangent (fin s m e)) h)),
  λ p. ap steep ((tangent_refused_past s m e f).1 p.1),
)

-- ---- which row of undistort's gives 10, and which 16: b says 4, z says 5, s says 10, m says 16, n says 11

pub first_is_10 :
    (b z near s m n : Bool)
    → (first ((4 when b) ∷ (5 when z) ∷ (10 when not near && s) ∷ (16 when m) ∷ (11 when n) ∷ []) ≡ 10) ↔ ((b ≡ false) × (z ≡ false) × (near ≡ false) × (s ≡ true))
first_is_10 b z near s m n = (forth b z near s m n, λ h. rw (h.0, h.1, h.2, h.3) refl)
  where
    forth : (b z near s m n : Bool) → first ((4 when b) ∷ (5 when z) ∷ (10 when not near && s) ∷ (16 when m) ∷ (11 when n) ∷ []) ≡ 10 → (b ≡ false) × (z ≡ false) × (near ≡ false) × (s ≡ true)
    forth true z near s m n h = absurd (omega arith)
    forth false true near s m n h = absurd (omega arith)
    forth false false false true m n h = (refl, refl, refl, refl)
    forth false false false false true n h = absurd (omega arith)
    forth false false false false false true h = absurd (omega arith)
    forth false false false false false false h = absurd (omega arith)
    forth false false true s true n h = absurd (omega arith)
    forth false false true s false true h = absurd (omega arith)
    forth false false true s false false h = absurd (omega arith)

pub first_is_16 : (b z m n : Bool) → (first ((4 when b) ∷ (5 when z) ∷ (10 when false) ∷ (16 when m) ∷ (11 when n) ∷ []) ≡ 16) ↔ ((b ≡ false) × (z ≡ false) × (m ≡ true))
first_is_16 b z m n = (forth b z m n, λ h. rw (h.0, h.1, h.2) refl)
  where
    forth : (b z m n : Bool) → first ((4 when b) ∷ (5 when z) ∷ (10 when false) ∷ (16 when m) ∷ (11 when n) ∷ []) ≡ 16 → (b ≡ false) × (z ≡ false) × (m ≡ true)
    forth true z m n h = absurd (omega arith)
    forth false true m n h = absurd (omega arith)
    forth false false true n h = (refl, refl, refl)
    forth false false false true h = absurd (omega arith)
    forth false false false false h = absurd (omega arith)
