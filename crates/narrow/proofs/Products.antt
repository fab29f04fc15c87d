-- An f64 times a power of two, by any fraction of its size; and an f64 with a size is no NaN. Assumes nothing.
use mathlib.Core.Path.{◌≡◌, refl, ap, ◌∙◌}
use mathlib.Core.Bool.{Bool, true, false, not}
use Prim.Native.Nat.{ℕ, ◌*◌, ◌<◌}
use native.Mathlib.Nat.{mul-pos}
use native.Mathlib.Omega.{arith}
use lib.IntN.{ℤ}
use lib.Dec.{T}
use lib.Ieee.{Float, nan, inf, fin, binary64, up, down, unlike, round, mul, is_nan}
use lib.Ieee.Exact.{HasValue}
use lib.Ieee.Fits.{down_pos}
use lib.Ieee.Scale.{round_same}
use Rattle.exact.specs.F64.{◌⊗◌}

pub times : (x : Float) (s : Bool) (a c : ℕ) (e : ℤ) → 0 < c → HasValue x s a c → x ⊗ fin false 1 e ≡ round binary64 s (a * up e) (c * down e)
unfolding mul
times nan s a c e C v = absurd v
times (inf t) s a c e C v = absurd v
times (fin t m g) s a c e C v =
    ap (λ (u : Bool). round binary64 u (m * up g * (1 * up e)) (down g * down e)) (own_sign t ∙ v.0)
    ∙ round_same binary64 s (m * up g * (1 * up e)) (down g * down e) (a * up e) (c * down e) (mul-pos (down_pos g) (down_pos e)) (mul-pos C (down_pos e))
    (moved (m * up g) (down g) a c (up e) (down e) v.1)
  where
    own_sign : (t : Bool) → unlike t false ≡ t
    own_sign true = refl
    own_sign false = refl

    moved : (m d a c u w : ℕ) → m * c ≡ a * d → m * (1 * u) * (c * w) ≡ a * u * (d * w)
    moved m d a c u w h = omega (arith, ap (λ (z : ℕ). z * (u * w)) h)

pub not_nan : (x : Float) (s : Bool) (a c : ℕ) → HasValue x s a c → T (not (is_nan x))
unfolding is_nan
not_nan nan s a c h = absurd h
not_nan (inf t) s a c h = absurd h
not_nan (fin t m e) s a c h = tt
