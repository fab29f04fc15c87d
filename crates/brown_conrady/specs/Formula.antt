-- Brown-Conrady's formula as terms, by the names of `distortion` and `slopes_at` (BrownConrady): the pixel, its slopes
-- by the point as the Rust has them, and its derivative by the twelve parameters, for which the Rust has none and the
-- order of operations is ours. proofs/Laws.antt: read in f64 the terms are what those definitions say, and read exactly
-- the slopes are the formal derivatives of the pixel. Definitions only.
use Rattle.std.specs.Prelude.{List, [], ◌∷◌, map, ℕ, Float, get_or}
use Rattle.formula.specs.Term.{Term, variable, numeral, minus, ◌⊕◌, ◌⊗◌, ◌⊘◌, rounded}
use Rattle.lens.specs.Constants.{zeros}
use Rattle.lens.specs.Jacobian.{two_rows}
use Rattle.lens.specs.declared.Jacobian.{Jacobian}
use Rattle.lens.specs.declared.Point.{Point}
use Rattle.brown_conrady.specs.declared.BrownConradyParams.{BrownConradyParams}
use Rattle.brown_conrady.specs.declared.Parts.{Parts}

-- ---- the variables: the point, then the parameters in the order of the columns

abbrev pub x : Term
x = variable 0

abbrev pub y : Term
y = variable 1

abbrev pub fx : Term
fx = variable 2

abbrev pub fy : Term
fy = variable 3

abbrev pub cx : Term
cx = variable 4

abbrev pub cy : Term
cy = variable 5

abbrev pub k1 : Term
k1 = variable 6

abbrev pub k2 : Term
k2 = variable 7

abbrev pub p1 : Term
p1 = variable 8

abbrev pub p2 : Term
p2 = variable 9

abbrev pub k3 : Term
k3 = variable 10

abbrev pub k4 : Term
k4 = variable 11

abbrev pub k5 : Term
k5 = variable 12

abbrev pub k6 : Term
k6 = variable 13

-- x and y by their numbers, and the twelve
abbrev pub coordinates : List ℕ
coordinates = 0 ∷ 1 ∷ []

abbrev pub parameters : List ℕ
parameters = 2 ∷ 3 ∷ 4 ∷ 5 ∷ 6 ∷ 7 ∷ 8 ∷ 9 ∷ 10 ∷ 11 ∷ 12 ∷ 13 ∷ []

-- the f64s that they stand for
abbrev pub at : BrownConradyParams → Point → ℕ → Float
at params point n =
    get_or
    (point.0 ∷ point.1
    ∷ params.fx ∷ params.fy ∷ params.cx ∷ params.cy
    ∷ params.k1 ∷ params.k2 ∷ params.p1 ∷ params.p2 ∷ params.k3 ∷ params.k4 ∷ params.k5 ∷ params.k6 ∷ [])
    n zeros

-- ---- the pixel (u, v)

abbrev pub zero : Term
zero = numeral 0

abbrev pub one : Term
one = numeral 1

abbrev pub two : Term
two = numeral 2

abbrev pub three : Term
three = numeral 3

abbrev pub six : Term
six = numeral 6

abbrev pub r2 : Term
r2 = x ⊗ x ⊕ y ⊗ y

abbrev pub r4 : Term
r4 = r2 ⊗ r2

abbrev pub r6 : Term
r6 = r4 ⊗ r2

abbrev pub a1 : Term
a1 = two ⊗ x ⊗ y

abbrev pub a2 : Term
a2 = r2 ⊕ two ⊗ x ⊗ x

abbrev pub a3 : Term
a3 = r2 ⊕ two ⊗ y ⊗ y

abbrev pub cdist : Term
cdist = one ⊕ k1 ⊗ r2 ⊕ k2 ⊗ r4 ⊕ k3 ⊗ r6

-- the denominator: nothing else is divided by
abbrev pub cdist2 : Term
cdist2 = one ⊕ k4 ⊗ r2 ⊕ k5 ⊗ r4 ⊕ k6 ⊗ r6

abbrev pub icdist2 : Term
icdist2 = one ⊘ cdist2

abbrev pub xd0 : Term
xd0 = x ⊗ cdist ⊗ icdist2 ⊕ p1 ⊗ a1 ⊕ p2 ⊗ a2

abbrev pub yd0 : Term
yd0 = y ⊗ cdist ⊗ icdist2 ⊕ p1 ⊗ a3 ⊕ p2 ⊗ a1

abbrev pub u : Term
u = xd0 ⊗ fx ⊕ cx

abbrev pub v : Term
v = yd0 ⊗ fy ⊕ cy

-- ---- by the parameters. cdist and cdist2 have the k's in them, so those columns go by the chain rule: the slope by
-- cdist, times r2, r4 and r6 for k1, k2 and k3; that by cdist2, times the same for k4, k5 and k6

-- x / cdist2 in pixels, and y / cdist2
abbrev pub u_cdist : Term
u_cdist = x ⊗ (icdist2 ⊗ fx)

abbrev pub v_cdist : Term
v_cdist = y ⊗ (icdist2 ⊗ fy)

-- x cdist / cdist2², with a minus, in pixels: the quotient of xd0, once more over cdist2
abbrev pub u_cdist2 : Term
u_cdist2 = minus (x ⊗ cdist ⊗ icdist2 ⊗ (icdist2 ⊗ fx))

abbrev pub v_cdist2 : Term
v_cdist2 = minus (y ⊗ cdist ⊗ icdist2 ⊗ (icdist2 ⊗ fy))

abbrev pub u_params : List Term
u_params =
    xd0 ∷ zero ∷ one ∷ zero
    ∷ u_cdist ⊗ r2 ∷ u_cdist ⊗ r4 ∷ a1 ⊗ fx ∷ a2 ⊗ fx ∷ u_cdist ⊗ r6
    ∷ u_cdist2 ⊗ r2 ∷ u_cdist2 ⊗ r4 ∷ u_cdist2 ⊗ r6 ∷ []

abbrev pub v_params : List Term
v_params =
    zero ∷ yd0 ∷ zero ∷ one
    ∷ v_cdist ⊗ r2 ∷ v_cdist ⊗ r4 ∷ a3 ⊗ fy ∷ a1 ⊗ fy ∷ v_cdist ⊗ r6
    ∷ v_cdist2 ⊗ r2 ∷ v_cdist2 ⊗ r4 ∷ v_cdist2 ⊗ r6 ∷ []

-- With fx = fy = 1, the rest 0, and (1, 2): r2 = 5, a1 = 4, a2 = 7, a3 = 13, cdist = icdist2 = 1, and row 0 is
-- 1 0 1 0 5 25 4 7 125 -5 -25 -125
unfoldable pub dx_distort_params : BrownConradyParams → Point → Jacobian
dx_distort_params params point =
    two_rows (map (rounded (at params point)) u_params) (map (rounded (at params point)) v_params)

-- what the code of distort and of this derivative share
unfoldable pub parts_at : BrownConradyParams → Point → Parts
parts_at params point = record {
  r2 = rounded (at params point) r2;
  r4 = rounded (at params point) r4;
  r6 = rounded (at params point) r6;
  a1 = rounded (at params point) a1;
  a2 = rounded (at params point) a2;
  a3 = rounded (at params point) a3;
  cdist = rounded (at params point) cdist;
  icdist2 = rounded (at params point) icdist2;
}

-- ---- by the point, as `slopes_at` has it

abbrev pub c5 : Term
c5 = r2 ⊗ k4 ⊕ r4 ⊗ k5 ⊕ r6 ⊗ k6 ⊕ one

abbrev pub c6 : Term
c6 = c5 ⊗ c5

abbrev pub c7 : Term
c7 = one ⊘ c6

abbrev pub c10 : Term
c10 = two ⊗ r2

abbrev pub c11 : Term
c11 = three ⊗ r4

abbrev pub c17 : Term
c17 = r2 ⊗ k1 ⊕ r4 ⊗ k2 ⊕ r6 ⊗ k3 ⊕ one

abbrev pub c15 : Term
c15 = two ⊗ (c10 ⊗ k5 ⊕ c11 ⊗ k6 ⊕ k4) ⊗ c17

abbrev pub c16 : Term
c16 = two ⊗ c10 ⊗ k2 ⊕ two ⊗ c11 ⊗ k3 ⊕ two ⊗ k1

abbrev pub c19 : Term
c19 = x ⊗ y

abbrev pub c20 : Term
c20 = minus c15 ⊗ c19 ⊕ c16 ⊗ c19 ⊗ c5

abbrev pub c0 : Term
c0 = x ⊗ x

abbrev pub c1 : Term
c1 = y ⊗ y

abbrev pub c8 : Term
c8 = x ⊗ p2

abbrev pub c9 : Term
c9 = two ⊗ p1

abbrev pub c18 : Term
c18 = y ⊗ p2

abbrev pub ux : Term
ux = minus c0 ⊗ c15 ⊕ c5 ⊗ (c0 ⊗ c16 ⊕ c17) ⊕ c6 ⊗ (y ⊗ c9 ⊕ six ⊗ c8)

abbrev pub uy : Term
uy = c20 ⊕ c6 ⊗ (x ⊗ c9 ⊕ two ⊗ c18)

abbrev pub vx : Term
vx = c20 ⊕ c6 ⊗ (two ⊗ x ⊗ p1 ⊕ two ⊗ c18)

abbrev pub vy : Term
vy = minus c1 ⊗ c15 ⊕ c5 ⊗ (c1 ⊗ c16 ⊕ c17) ⊕ c6 ⊗ (six ⊗ y ⊗ p1 ⊕ two ⊗ c8)

-- the rows of dx_distort_x
abbrev pub u_point : List Term
u_point = c7 ⊗ fx ⊗ ux ∷ c7 ⊗ fx ⊗ uy ∷ []

abbrev pub v_point : List Term
v_point = c7 ⊗ fy ⊗ vx ∷ c7 ⊗ fy ⊗ vy ∷ []

-- the matrix that a Newton step solves with, by rows: the slopes of xd0, and those of yd0
abbrev pub xd0_x : Term
xd0_x = c7 ⊗ ux

abbrev pub xd0_y : Term
xd0_y = c7 ⊗ uy

abbrev pub yd0_x : Term
yd0_x = c7 ⊗ vx

abbrev pub yd0_y : Term
yd0_y = c7 ⊗ vy

abbrev pub xd0_point : List Term
xd0_point = xd0_x ∷ xd0_y ∷ []

abbrev pub yd0_point : List Term
yd0_point = yd0_x ∷ yd0_y ∷ []
