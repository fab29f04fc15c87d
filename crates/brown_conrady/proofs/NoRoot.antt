-- Why `small` needs no root: for a sum of squares, which is never below zero, the root is at most EPS exactly where the sum is at most one f64. Assumes nothing.
use mathlib.Core.Path.{◌≡◌, refl, sym, ap, ◌∙◌, subst}
use mathlib.Core.Bool.{Bool, true, false, not, ◌&&◌, cond}
use Prim.Native.Nat.{ℕ, zero, suc, ◌+◌, ◌*◌, ◌^◌, ◌<◌}
use lib.Dec.{T, ltb, lit<, lit≤}
use lib.Ieee as ieee
use lib.Ieee.{Float, nan, inf, fin, binary64, up, down, odd, round, sum, add, mul, le, of_bits}
use lib.Ieee.Fits.{add-fits, round_is}
use lib.Ieee.Order.{drop, kept}
use lib.Ieee.Scale.{overflow}
use Rattle.exact.specs.F64.{f64, ◌⊕◌, ◌⊗◌}
use Rattle.root.specs.Limit.{units}
use Rattle.root.specs.Root.{root}
use Rattle.root.proofs.AtMost.{from_zero, from_above}
use Rattle.root.proofs.Laws.{root_at_most}
use Rattle.lens.specs.Constants.{eps}
use Rattle.lens.specs.Radius.{squared_radius}

-- ---- no minus sign: a NaN has none
abbrev plus : Float → Bool
plus nan = true
plus (inf s) = not s
plus (fin s m e) = not s

units_plus : (q k : ℕ) → T (plus (ieee.units binary64 false q k))
unfolding ieee.units odd
units_plus q k = go (ltb (q * 2 ^ k) (overflow binary64)) q
  where
    go : (b : Bool) (q : ℕ) → T (plus (cond b (odd 54 false q k 1074) (inf false)))
    go true zero = tt
    go true (suc q) = tt
    go false q = tt

round_plus : (a c : ℕ) → T (plus (round binary64 false a c))
round_plus a c = subst (λ (x : Float). T (plus x)) (sym (round_is binary64 false a c)) (units_plus (kept 53 (a * 2 ^ 1074) c) (drop 53 (a * 2 ^ 1074) c))

square_plus : (x : Float) → T (plus (x ⊗ x))
unfolding mul
square_plus nan = tt
square_plus (inf true) = tt
square_plus (inf false) = tt
square_plus (fin true m e) = round_plus (m * up e * (m * up e)) (down e * down e)
square_plus (fin false m e) = round_plus (m * up e * (m * up e)) (down e * down e)

sum_plus : (x y : Float) → T (plus x) → T (plus y) → T (plus (x ⊕ y))
unfolding add sum
sum_plus nan y p q = tt
sum_plus (inf true) y p q = absurd p
sum_plus (inf false) nan p q = tt
sum_plus (inf false) (inf true) p q = absurd q
sum_plus (inf false) (inf false) p q = tt
sum_plus (inf false) (fin t n d) p q = tt
sum_plus (fin true m e) y p q = absurd p
sum_plus (fin false m e) nan p q = tt
sum_plus (fin false m e) (inf t) p q = q
sum_plus (fin false m e) (fin true n d) p q = absurd q
sum_plus (fin false m e) (fin false n d) p q = round_plus (m * up e * down d + n * up d * down e) (down e * down d)

-- so to ask whether it is at least zero adds nothing
unasked : (x y : Float) → T (plus x) → (le (f64 0) x && le x y) ≡ le x y
unasked nan y p = unfold le of_bits in refl
unasked (inf true) y p = absurd p
unasked (inf false) y p = unfold le of_bits in refl
unasked (fin true m e) y p = absurd p
unasked (fin false zero e) y p = ap (λ (b : Bool). b && le (fin false zero e) y) (from_zero false e)
unasked (fin false (suc m) e) y p = ap (λ (b : Bool). b && le (fin false (suc m) e) y) (from_above m e)

-- ---- the patterns of EPS, and of the last f64 whose root is at most EPS: that nearest to 1e-12
abbrev pub eps_bits : ℕ
eps_bits = 0x3eb0_c6f7_a0b5_ed8d

abbrev pub last_bits : ℕ
last_bits = 0x3d71_9799_812d_ea11

-- where roots begin to round past EPS, doubled: EPS and its neighbour together, in units of 2 ^ -1074
abbrev middles : ℕ
middles = units eps_bits + units (suc eps_bits)

-- the last f64 is below the square of that, and its neighbour is past it: worked out
last_below : 4 * (units last_bits * 2 ^ 1074) < middles * middles
last_below = lit< tt

next_past : middles * middles < 4 * (units (suc last_bits) * 2 ^ 1074)
next_past = lit< tt

pub no_root : (x y : Float) → le (root (squared_radius x y)) eps ≡ le (squared_radius x y) (f64 last_bits)
no_root x y =
    root_at_most eps_bits last_bits (record { least = lit≤ tt; most = lit< tt }) (record { least = lit≤ tt; most = lit< tt }) last_below next_past (squared_radius x y) (add-fits binary64 (x ⊗ x) (y ⊗ y))
    ∙ unasked (squared_radius x y) (f64 last_bits) (sum_plus (x ⊗ x) (y ⊗ y) (square_plus x) (square_plus y))
