-- The tangent as the code works it out, so that its contract can name one answer. No other crate unfolds what stands
-- here: they know it by its laws (proofs/Laws.antt), above all that the series leads back from it. Definitions only.
use Rattle.std.specs.Prelude.{ℕ, zero, suc, ◌+◌, ◌-◌, ◌^◌, min, Bool, cond, ◌&&◌, T, pos, Float, Option, Some, None}
use Rattle.std.specs.Float.{nan, binary64}
use Rattle.std.specs.Float.Ieee.{neg, lt, le, of_int}
use Rattle.std.specs.Float.Ieee.Scale.{finite}
use Rattle.exact.specs.F64.{f64, magnitude, ◌⊕◌, ◌⊖◌, ◌⊗◌, ◌⊘◌}
use Rattle.exact.specs.Fraction.{over, whole, exactly, ◌≼◌}
use Rattle.arctan.specs.Series.{limit}
use Rattle.arctan.specs.Arctangent.{one, tiny, counted, arctangent}
use Rattle.arctan.specs.Whole.{product, series}

-- how far the arctangent of a guess may be off: 2 ^ -46
abbrev pub near : Float
near = f64 0x3d10_0000_0000_0000

-- t is a number that is not negative, and its arctangent lies between theta - 2 ^ -46 and theta + 2 ^ -46
unfoldable pub close : Float → Float → Bool
close t theta = finite t && le (f64 0) t && lt (theta ⊖ near) (arctangent t) && lt (arctangent t) (theta ⊕ near)

-- ---- the guess: the sine over the cosine, each by the first terms of its series. Nothing rests on it: it is tested.
unfoldable pub sine : Float → Float
sine theta =
    let y = theta ⊗ theta in
    let a = ((f64 0x3bd7_1b8e_f6dc_f572 ⊗ y ⊖ f64 0x3c62_f49b_4681_4157) ⊗ y ⊕ f64 0x3ce9_52c7_7030_ad4a) ⊗ y in
    let b = ((a ⊖ f64 0x3d6a_e7f3_e733_b81f) ⊗ y ⊕ f64 0x3de6_1246_13a8_6d09) ⊗ y ⊖ f64 0x3e5a_e645_67f5_44e4 in
    let c = ((b ⊗ y ⊕ f64 0x3ec7_1de3_a556_c734) ⊗ y ⊖ f64 0x3f2a_01a0_1a01_a01a) ⊗ y in
    (((c ⊕ f64 0x3f81_1111_1111_1111) ⊗ y ⊖ f64 0x3fc5_5555_5555_5555) ⊗ y ⊕ one) ⊗ theta

unfoldable pub cosine : Float → Float
cosine theta =
    let y = theta ⊗ theta in
    let a = ((f64 0x3c1e_542b_a402_0225 ⊖ f64 0x3b90_ce39_6db7_f853 ⊗ y) ⊗ y ⊖ f64 0x3ca6_8278_63b9_7d97) ⊗ y in
    let b = ((a ⊕ f64 0x3d2a_e7f3_e733_b81f) ⊗ y ⊖ f64 0x3da9_3974_a8c0_7c9d) ⊗ y ⊕ f64 0x3e21_eed8_eff8_d898 in
    let c = ((b ⊗ y ⊖ f64 0x3e92_7e4f_b778_9f5c) ⊗ y ⊕ f64 0x3efa_01a0_1a01_a01a) ⊗ y in
    (((c ⊖ f64 0x3f56_c16c_16c1_6c17) ⊗ y ⊕ f64 0x3fa5_5555_5555_5555) ⊗ y ⊖ f64 0x3fe0_0000_0000_0000) ⊗ y ⊕ one

-- ---- and if the guess fails: the angle is brought to one of at most 13/32, whose tangent w solves G(w) = n / 2 ^ 60.
-- Whole numbers of 2 ^ -60, as in specs/Whole.antt.

-- e times 1 + w^2, which is one over G's slope at w
unfoldable pub stretched : ℕ → ℕ → ℕ
stretched w e = e + product (product w w) e

-- Newton's step from a w below the solution, which it passes by 1300 units at most; from a w above there is none
unfoldable pub nearer : ℕ → ℕ → ℕ
nearer n w = w + stretched w (n - series w)

abbrev pub rounds : ℕ
rounds = 4

unfoldable pub refined : ℕ → ℕ → ℕ → ℕ
refined zero n w = w
refined (suc k) n w = refined k n (nearer n w)

-- the solution, of what lies up to top
unfoldable pub solution : ℕ → ℕ → ℕ
solution top n = min (refined rounds n n) top

-- 1
abbrev pub unity : ℕ
unity = 2 ^ 60

-- p / q, each rounded and their quotient
unfoldable pub ratio : ℕ → ℕ → Float
ratio p q = of_int binary64 (pos p) ⊘ of_int binary64 (pos q)

-- (1 - w) / (1 + w)
unfoldable pub leaving : ℕ → Float
leaving w = ratio (unity - w) (unity + w)

-- where A's own pieces meet: the angle of 2/5, and a quarter of pi; and half of pi. The nearest f64 of each
abbrev pub seam : Float
seam = f64 0x3fd8_5a37_6b67_7dc0

abbrev pub quarter_end : Float
quarter_end = f64 0x3fe9_21fb_5444_2d18

abbrev pub half_end : Float
half_end = f64 0x3ff9_21fb_5444_2d18

-- 2/5 and 3/7, cut
abbrev pub two_fifths_cut : ℕ
two_fifths_cut = 461168601842738790

abbrev pub three_sevenths_cut : ℕ
three_sevenths_cut = 494109216260077275

-- an angle from 0 to a quarter of pi
pub record Acute (x : Float) : Type 0 where
  pub number : T (finite x)
  pub low : whole 0 ≼ exactly x
  pub high : exactly x ≼ exactly quarter_end

-- its tangent: w, or that of what w's angle leaves of the quarter
unfoldable pub lower : Float → Float
lower x =
    cond (lt x seam) (ratio (solution two_fifths_cut (counted x)) unity)
    (leaving (solution three_sevenths_cut (counted (quarter_end ⊖ x))))

-- an angle from 2 ^ -20 to the limit
pub record Between (theta : Float) : Type 0 where
  pub number : T (finite theta)
  pub low : over 1 (2 ^ 20) ≼ exactly theta
  pub high : exactly theta ≼ limit

-- past a quarter of pi it is 1 over that of what is left of half of pi
unfoldable pub solved : Float → Float
solved theta = cond (le theta quarter_end) (lower theta) (one ⊘ lower (half_end ⊖ theta))

-- ---- the two together
unfoldable pub steep : Float → Float
steep theta = let t = sine theta ⊘ cosine theta in cond (close t theta) t (solved theta)

-- the limit as an f64: 99/64
abbrev pub limit_end : Float
limit_end = f64 0x3ff8_c000_0000_0000

-- a theta below 2 ^ -20 in size is its own tangent, as it is its own arctangent
unfoldable pub tangent : Float → Option Float
tangent theta =
    let size = magnitude theta in
    cond (lt size tiny) (Some theta)
    (cond (le size limit_end) (Some (cond (lt theta (f64 0)) (neg (steep size)) (steep size)))
    (cond (finite theta) None (Some nan)))
