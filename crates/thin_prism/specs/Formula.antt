-- bc12's formula as terms, by the names of bc's (brown_conrady, specs/Formula), with the prism added last: the pixel,
-- its slopes by the point, and its derivative by the sixteen parameters. proofs/Laws.antt: read in f64 the terms are
-- what ThinPrism says, and read exactly the slopes are the formal derivatives of the pixel. Definitions only.
use Rattle.std.specs.Prelude.{List, [], ◌∷◌, ◌++◌, ℕ, Float, get_or, drop}
use Rattle.formula.specs.Term.{Term, variable, ◌⊕◌, ◌⊗◌}
use Rattle.lens.specs.Constants.{zeros}
use Rattle.lens.specs.declared.Point.{Point}
use Rattle.brown_conrady.specs.Formula as bc
use Rattle.brown_conrady.specs.Formula.{x, y, fx, fy, cx, cy, zero, one, two, r2, r4, c7, ux, uy, vx, vy}
use Rattle.thin_prism.specs.declared.ThinPrismParams.{ThinPrismParams}

-- ---- the variables: bc's, then the prism's

abbrev pub s1 : Term
s1 = variable 14

abbrev pub s2 : Term
s2 = variable 15

abbrev pub s3 : Term
s3 = variable 16

abbrev pub s4 : Term
s4 = variable 17

abbrev pub parameters : List ℕ
parameters = bc.parameters ++ (14 ∷ 15 ∷ 16 ∷ 17 ∷ [])

-- the f64s that they stand for
abbrev pub at : ThinPrismParams → Point → ℕ → Float
at params point n =
    get_or
    (point.0 ∷ point.1
    ∷ params.bc.fx ∷ params.bc.fy ∷ params.bc.cx ∷ params.bc.cy
    ∷ params.bc.k1 ∷ params.bc.k2 ∷ params.bc.p1 ∷ params.bc.p2 ∷ params.bc.k3
    ∷ params.bc.k4 ∷ params.bc.k5 ∷ params.bc.k6
    ∷ params.s1 ∷ params.s2 ∷ params.s3 ∷ params.s4 ∷ [])
    n zeros

-- ---- the pixel (u, v)

abbrev pub xd : Term
xd = bc.xd0 ⊕ s1 ⊗ r2 ⊕ s2 ⊗ r4

abbrev pub yd : Term
yd = bc.yd0 ⊕ s3 ⊗ r2 ⊕ s4 ⊗ r4

abbrev pub u : Term
u = xd ⊗ fx ⊕ cx

abbrev pub v : Term
v = yd ⊗ fy ⊕ cy

-- ---- by the parameters: from k1 to k6 bc's columns, then the prism's

abbrev pub u_params : List Term
u_params = xd ∷ zero ∷ one ∷ zero ∷ drop 4 bc.u_params ++ (r2 ⊗ fx ∷ r4 ⊗ fx ∷ zero ∷ zero ∷ [])

abbrev pub v_params : List Term
v_params = zero ∷ yd ∷ zero ∷ one ∷ drop 4 bc.v_params ++ (zero ∷ zero ∷ r2 ⊗ fy ∷ r4 ⊗ fy ∷ [])

-- ---- by the point

-- twice the slope of s1 r² + s2 r⁴ by r², and of s3 r² + s4 r⁴
abbrev pub prism_u : Term
prism_u = two ⊗ (s1 ⊕ two ⊗ s2 ⊗ r2)

abbrev pub prism_v : Term
prism_v = two ⊗ (s3 ⊕ two ⊗ s4 ⊗ r2)

-- the rows of dx_distort_x
abbrev pub u_point : List Term
u_point = (c7 ⊗ fx ⊗ ux ⊕ prism_u ⊗ x ⊗ fx) ∷ (c7 ⊗ fx ⊗ uy ⊕ prism_u ⊗ y ⊗ fx) ∷ []

abbrev pub v_point : List Term
v_point = (c7 ⊗ fy ⊗ vx ⊕ prism_v ⊗ x ⊗ fy) ∷ (c7 ⊗ fy ⊗ vy ⊕ prism_v ⊗ y ⊗ fy) ∷ []

-- the matrix that a Newton step solves with, by rows: the slopes of xd, and those of yd
abbrev pub xd_x : Term
xd_x = bc.xd0_x ⊕ prism_u ⊗ x

abbrev pub xd_y : Term
xd_y = bc.xd0_y ⊕ prism_u ⊗ y

abbrev pub yd_x : Term
yd_x = bc.yd0_x ⊕ prism_v ⊗ x

abbrev pub yd_y : Term
yd_y = bc.yd0_y ⊕ prism_v ⊗ y

abbrev pub xd_point : List Term
xd_point = xd_x ∷ xd_y ∷ []

abbrev pub yd_point : List Term
yd_point = yd_x ∷ yd_y ∷ []
