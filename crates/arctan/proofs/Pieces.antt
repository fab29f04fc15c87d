-- The whole-number series and the f64 around it, held to the exact series: an angle worked out from z is near G of what z stands for (`angle_near`),
-- and so is the f64 made of it with a quarter or a half of pi (`alone`, `from_quarter`, `past_quarter`, `from_half`). Assumes nothing.
use Rattle.std.proofs.Common.{◌≡◌, ℕ, ◌+◌, ◌-◌, ◌*◌, ◌^◌, ◌≤◌, T, ap, le_trans, add-zero, mul_assoc, add-mul, zero-add, zero-mul, arith, lit≤, pow_pos}
use lib.Ieee.{Float, binary64, fits}
use lib.Ieee.Scale.{finite}
use Rattle.exact.specs.Fraction.{Fraction, Proper, Within, over, exactly, opposite, power, ◌≼◌, ◌≈◌, ◌⊞◌, ◌⊟◌, ◌⊠◌, ◌⧄◌}
use Rattle.exact.proofs.Fractions.{over_proper, ≼_trans, ⊞-proper, ≈→≼, ≈-sym, over-≼, over-⊞, within_wider, within_trans, within_same, within_to, within-⊞, within_opposite}
use Rattle.arctan.specs.Series.{G, P, sum, term}
use Rattle.arctan.specs.Arctangent.{Countable, counted, angle, back}
use Rattle.arctan.specs.Whole.{quarter, half}
use Rattle.arctan.proofs.Rise.{nested, G_proper}
use Rattle.arctan.proofs.Cases.{P_proper}
use Rattle.arctan.proofs.Rounds.{plain_finite}
use Rattle.arctan.proofs.Counts.{counted_near, back_near}
use Rattle.arctan.proofs.Reduced.{Piece, piece_counted}
use Rattle.arctan.proofs.Whole.{series_near, series_small}

-- a count of 2 ^ -60
abbrev pub u : ℕ → Fraction
u e = over e (2 ^ 60)

pub unit_proper : (e : ℕ) → Proper (u e)
unit_proper e = over_proper e (2 ^ 60) (pow_pos 60)

-- two distances in 2 ^ -60, added
pub both : {a b c : Fraction} (d e : ℕ) → Within (u d) a b → Within (u e) b c → Within (u (d + e)) a c
both d e v w = within_wider (⊞-proper (unit_proper d) (unit_proper e)) (≈→≼ (over-⊞ d e (2 ^ 60))) (within_trans v w)

pub countable : {z : Float} {a : Fraction} → Piece z a → Countable z
countable p = record { number = p.number; low = p.low; high = p.high }

half_high : {z : Float} {a : Fraction} → Piece z a → a ≼ over 1 2
half_high p = ≼_trans (over_proper 3 7 (lit≤ tt)) p.to ((over-≼ 3 7 1 2).1 (lit≤ tt))

pub angle_near : {z : Float} {a : Fraction} → T (fits binary64 z) → Piece z a → (angle z ≤ 2 ^ 59) × Within (u 1000) (u (angle z)) (G a)
angle_near {z} {a} f p =
    let C = counted_near z f p.number p.low p.high in (
      le_trans (series_small (counted z)) C.most,
      within_to (G_proper p.near.right) (≈-sym (nested a p.near.right)) (series_near (counted z) C.most p.from (half_high p) (piece_counted z f p)),
    )

-- ---- a quarter and a half of pi, cut
pub quarter_near : Within (u 1) (u quarter) P
unfolding P G sum term power over ◌⊞◌ ◌⊠◌ ◌⧄◌ opposite
quarter_near = record { left = unit_proper quarter; right = P_proper; not_above = record { holds = lit≤ tt }; not_below = record { holds = lit≤ tt } }

pub half_near : Within (u 1) (u half) (P ⊞ P)
unfolding P G sum term power over ◌⊞◌ ◌⊠◌ ◌⧄◌ opposite
half_near = record { left = unit_proper half; right = ⊞-proper P_proper P_proper; not_above = record { holds = lit≤ tt }; not_below = record { holds = lit≤ tt } }

-- ---- sums and differences of counts
sum_of : (a b : ℕ) → u (a + b) ≈ u a ⊞ u b
sum_of a b = ≈-sym (over-⊞ a b (2 ^ 60))

pub difference : (a b c : ℕ) → a ≤ b → over (b - a) c ≈ over b c ⊟ over a c
unfolding over ◌⊞◌ opposite
difference a b c h =
    let e : (b - a + a) * (c * c) ≡ (b - a) * (c * c) + a * (c * c) = add-mul (b - a) a (c * c) in
    let f : (b - a + a) * (c * c) ≡ b * (c * c) = ap (λ (z : ℕ). z * (c * c)) (back_again a b h) in
    let g : a * c * c ≡ a * (c * c) = mul_assoc a c c in
    let i : b * c * c ≡ b * (c * c) = mul_assoc b c c in
    record { holds = simp (zero-mul, zero-add, add-zero) (omega arith) }
  where
    back_again : (a b : ℕ) → a ≤ b → b - a + a ≡ b
    back_again a b h = omega arith

-- two sums, term by term
spread : {a b c d : Fraction} (m n : ℕ) → Within (u m) a b → Within (u n) c d → Within (u (m + n)) (a ⊞ c) (b ⊞ d)
spread m n v w = within_wider (⊞-proper (unit_proper m) (unit_proper n)) (≈→≼ (over-⊞ m n (2 ^ 60))) (within-⊞ v w)

-- ---- the f64 of a count near an angle
made : (n d : ℕ) (a : Fraction) → n ≤ 2 ^ 61 → Within (u d) (u n) a → T (finite (back n)) × Within (u (128 + d)) (exactly (back n)) a
made n d a h w = let b = back_near n h in (plain_finite (back n) b.plain, both 128 d b.near w)

-- ---- the four ways an angle is put together, from z that stands for a
module _ {z : Float} {a : Fraction} (f : T (fits binary64 z)) (p : Piece z a) where
  near_a : (angle z ≤ 2 ^ 59) × Within (u 1000) (u (angle z)) (G a)
  near_a = angle_near f p

  pub alone : T (finite (back (angle z))) × Within (u 1128) (exactly (back (angle z))) (G a)
  alone = made (angle z) 1000 (G a) (le_trans near_a.0 (lit≤ tt)) near_a.1

  pub from_quarter : T (finite (back (quarter - angle z))) × Within (u 1129) (exactly (back (quarter - angle z))) (P ⊟ G a)
  from_quarter =
      made (quarter - angle z) 1001 (P ⊟ G a) (omega arith)
      (within_same (unit_proper (quarter - angle z)) (difference (angle z) quarter (2 ^ 60) (le_trans near_a.0 (lit≤ tt))) (spread 1 1000 quarter_near (within_opposite near_a.1)))

  pub past_quarter : T (finite (back (quarter + angle z))) × Within (u 1129) (exactly (back (quarter + angle z))) (P ⊞ G a)
  past_quarter =
      made (quarter + angle z) 1001 (P ⊞ G a) (omega (arith, near_a.0))
      (within_same (unit_proper (quarter + angle z)) (sum_of quarter (angle z)) (spread 1 1000 quarter_near near_a.1))

  pub from_half : T (finite (back (half - angle z))) × Within (u 1129) (exactly (back (half - angle z))) (P ⊞ P ⊟ G a)
  from_half =
      made (half - angle z) 1001 (P ⊞ P ⊟ G a) (omega arith)
      (within_same (unit_proper (half - angle z)) (difference (angle z) half (2 ^ 60) (le_trans near_a.0 (lit≤ tt))) (spread 1 1000 half_near (within_opposite near_a.1)))
