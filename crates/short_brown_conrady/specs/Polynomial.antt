-- Brown-Conrady's formula without its quotient, by the names and of the parts of brown_conrady's terms: what those come
-- to where k4, k5 and k6 are zeros, as cdist2 and c5 are 1 then and c15 is 0. Definitions only.
use Rattle.std.specs.Prelude.{List, [], ◌∷◌}
use Rattle.formula.specs.Term.{Term, ◌⊕◌, ◌⊗◌}
use Rattle.brown_conrady.specs.Formula.{x, y, fx, fy, cx, cy, p1, p2, two, six, a1, a2, a3, cdist, c0, c1, c8, c9, c16, c17, c18, c19}

-- where the lens sends a point, and its pixel
abbrev pub xd0 : Term
xd0 = x ⊗ cdist ⊕ p1 ⊗ a1 ⊕ p2 ⊗ a2

abbrev pub yd0 : Term
yd0 = y ⊗ cdist ⊕ p1 ⊗ a3 ⊕ p2 ⊗ a1

abbrev pub u : Term
u = xd0 ⊗ fx ⊕ cx

abbrev pub v : Term
v = yd0 ⊗ fy ⊕ cy

-- the slopes of xd0 and yd0
abbrev pub c20 : Term
c20 = c16 ⊗ c19

abbrev pub ux : Term
ux = c0 ⊗ c16 ⊕ c17 ⊕ (y ⊗ c9 ⊕ six ⊗ c8)

abbrev pub uy : Term
uy = c20 ⊕ (x ⊗ c9 ⊕ two ⊗ c18)

abbrev pub vx : Term
vx = c20 ⊕ (two ⊗ x ⊗ p1 ⊕ two ⊗ c18)

abbrev pub vy : Term
vy = c1 ⊗ c16 ⊕ c17 ⊕ (six ⊗ y ⊗ p1 ⊕ two ⊗ c8)

-- the rows of dx_distort_x
abbrev pub u_point : List Term
u_point = fx ⊗ ux ∷ fx ⊗ uy ∷ []

abbrev pub v_point : List Term
v_point = fy ⊗ vx ∷ fy ⊗ vy ∷ []
