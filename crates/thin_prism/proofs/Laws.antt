-- What a caller may rely on, of the definitions of specs/ and of the contracts of src/. Assumes nothing.
use mathlib.Core.Path.{◌≡◌, refl, sym, ◌∙◌}
use mathlib.Core.List.{[], ◌∷◌, map}
use Prim.Native.Nat.{ℕ, ◌≤◌}
use lib.Dec.{T}
use lib.Ieee.{Float, add, sub, mul, div, neg, le, of_bits, of_int}
use lib.Ieee.Scale.{finite}
use Rattle.exact.specs.F64.{minus}
use Rattle.exact.specs.Determined.{Determined}
use Rattle.exact.specs.Fraction.{Fraction, ◌≈◌, whole}
use Rattle.formula.specs.Term.{rounded, exact, denominators, Numbers, Alike, derivative, gradient}
use Rattle.root.specs.Root.{root}
use Rattle.lens.specs.Alike.{AlikePixels, AlikeJacobians, AlikeSettled}
use Rattle.lens.specs.ByHand.{xy, uv}
use Rattle.lens.specs.Constants.{int}
use Rattle.lens.specs.Jacobian.{two_rows}
use Rattle.lens.specs.Passes.{passes}
use Rattle.lens.specs.Undistorted.{direct}
use Rattle.lens.specs.declared.Pixel.{Pixel}
use Rattle.lens.specs.declared.Point.{Point}
use Rattle.affine.specs.Affine as affine
use Rattle.brown_conrady.specs.BrownConrady as bc
use Rattle.brown_conrady.specs.BrownConrady.{affine_params, shared_at, slopes_at, solve, pass_by}
use Rattle.brown_conrady.specs.Formula.{coordinates, cdist2}
use Rattle.brown_conrady.proofs.Laws.{derived}
use Rattle.brown_conrady.proofs.Steps.{most_updates}
use Rattle.thin_prism.specs.Formula as formula
use Rattle.thin_prism.specs.Formula.{at, parameters}
use Rattle.thin_prism.specs.ThinPrism.{NoPrism, distortion, distort, prism_slopes_at, dx_distort_x}
use Rattle.thin_prism.specs.ThinPrism.{dx_distort_params, f_xy, step_from, undistort}
use Rattle.thin_prism.specs.declared.ThinPrismParams.{ThinPrismParams}
use Rattle.thin_prism.proofs.Zero.{distort_zero, undistort_zero, dx_distort_x_zero}
use Rattle.thin_prism.proofs.distort.Reads as distort-contract
use Rattle.thin_prism.proofs.undistort.Reads as undistort-contract
use Rattle.thin_prism.proofs.dx_distort_x.Reads as dx-distort-x-contract
use Rattle.thin_prism.proofs.dx_distort_params.Reads as dx-distort-params-contract

-- Any two answers to one call that the contract of an operation permits are equal, for each of the four.
pub determined :
    Determined distort-contract.Post × Determined undistort-contract.Post
    × Determined dx-distort-x-contract.Post × Determined dx-distort-params-contract.Post
determined = (
  λ κ a s s' r r' p q. p ∙ sym q,
  λ κ a s s' r r' p q. p ∙ sym q,
  λ κ a s s' r r' p q. p ∙ sym q,
  λ κ a s s' r r' p q. p ∙ sym q,
)

-- ---- without a prism

-- With s1 to s4 at zero, of either sign, the sign of a zero aside: every point has bc's pixel, also where that isn't
-- finite; every pixel whose point bc finds, its first coordinate a number, has bc's point, updates and flag; and where
-- fx and fy are numbers every point has bc's derivative.
pub prism_zero :
    (params : ThinPrismParams) → NoPrism params
    → ((point : Point) → AlikePixels (bc.distort params.bc point) (distort params point))
    × ((pixel : Pixel) → T (finite (bc.undistort params.bc pixel).point.0)
    → AlikeSettled (bc.undistort params.bc pixel) (undistort params pixel))
    × ((point : Point) → T (finite params.bc.fx) → T (finite params.bc.fy)
    → AlikeJacobians (bc.dx_distort_x params.bc point) (dx_distort_x params point))
prism_zero params zs = (distort_zero params zs, undistort_zero params zs, dx_distort_x_zero params zs)

-- ---- one formula (specs/Formula). Read in f64, its terms are what the code is proved to be

module _ (params : ThinPrismParams) (point : Point) where
  -- The pixel is the reading of the terms u and v.
  pub distort_rounded : distort params point
      ≡ record { 0 = rounded (at params point) formula.u; 1 = rounded (at params point) formula.v }
  unfolding distortion bc.distortion rounded of_int of_bits
  distort_rounded = refl

  -- The derivative by the point is that of the rows u-point and v-point.
  pub dx_distort_x_rounded : dx_distort_x params point
      ≡ two_rows (map (rounded (at params point)) formula.u_point) (map (rounded (at params point)) formula.v_point)
  unfolding prism_slopes_at slopes_at shared_at rounded of_int of_bits
  dx_distort_x_rounded = refl

  -- A Newton step solves for what the lens misses by, with the matrix whose rows are xd-point and yd-point.
  pub step_rounded :
      (distorted : Point) →
      step_from params distorted point
      ≡ solve
      (rounded (at params point) formula.xd_x) (rounded (at params point) formula.xd_y)
      (rounded (at params point) formula.yd_x) (rounded (at params point) formula.yd_y)
      (f_xy params distorted point)
  unfolding step_from prism_slopes_at slopes_at shared_at rounded of_int of_bits
  step_rounded distorted = refl

-- ---- read exactly, its slopes are derivatives, whatever numbers the point and the sixteen parameters are. Its numerals are bc's, which are
-- f64s (`numerals_kept` there)

-- The pixel divides by cdist2, and by nothing else: the prism adds no denominator.
pub one_denominator : (denominators formula.u ≡ cdist2 ∷ []) × (denominators formula.v ≡ cdist2 ∷ [])
unfolding denominators
one_denominator = (refl, refl)

module _ {ρ : ℕ → Fraction} (numbers : Numbers ρ) (defined : ¬ (exact ρ cdist2 ≈ whole 0)) where
  -- Wherever cdist2 isn't zero, each entry of dx_distort_params is the formal derivative of its row's coordinate of the
  -- pixel by its column's parameter: all sixteen columns of both rows,
  pub params_derived : Alike ρ (gradient parameters formula.u) formula.u_params
      × Alike ρ (gradient parameters formula.v) formula.v_params
  unfolding gradient derivative
  params_derived = (
    derived numbers defined parameters formula.u formula.u_params tt,
    derived numbers defined parameters formula.v formula.v_params tt,
  )

  -- and so is each of dx_distort_x by x or y,
  pub point_derived : Alike ρ (gradient coordinates formula.u) formula.u_point
      × Alike ρ (gradient coordinates formula.v) formula.v_point
  unfolding gradient derivative
  point_derived = (
    derived numbers defined coordinates formula.u formula.u_point tt,
    derived numbers defined coordinates formula.v formula.v_point tt,
  )

  -- and each of the matrix of a Newton step, of the distorted point by x or y.
  pub step_derived : Alike ρ (gradient coordinates formula.xd) formula.xd_point
      × Alike ρ (gradient coordinates formula.yd) formula.yd_point
  unfolding gradient derivative
  step_derived = (
    derived numbers defined coordinates formula.xd formula.xd_point tt,
    derived numbers defined coordinates formula.yd formula.yd_point tt,
  )

-- ---- how many updates

-- Every undistort takes at most 50 updates.
pub updates_limit : (params : ThinPrismParams) (pixel : Pixel) → (undistort params pixel).updates ≤ 50
updates_limit params pixel =
    let distorted = (affine.undistort (affine_params params.bc) pixel).point in
    most_updates (step_from params distorted) distorted

-- ---- numbers to check by hand

-- the camera 1 1 0 0 with no coefficient but the prism's
abbrev prism : Float → Float → Float → Float → ThinPrismParams
prism s1 s2 s3 s4 = record {
  bc = bc.camera (int 1) (int 1) (int 0) (int 0) (int 0) (int 0) (int 0) (int 0) (int 0) (int 0) (int 0) (int 0);
  s1 = s1;
  s2 = s2;
  s3 = s3;
  s4 = s4;
}

-- With s1 = 1, s2 = 2, s3 = 3 and s4 = 4 the camera 1 1 0 0 sends (1, 1), where r2 = 2 and r4 = 4, to (1 + 2 + 8, 1 + 6
-- + 16); its derivative there has 1 + 2 (1 + 8) = 19 and 18 above 2 (3 + 16) = 38 and 39. With a prism of zeros it
-- sends the pixel (3, 4) back to (3, 4), with 0 updates and the flag yes. The derivative by the parameters at (1, 2)
-- has r2 = 5 and r4 = 25 in the prism's columns, and bc's before them.
pub by_hand :
    (distort (prism (int 1) (int 2) (int 3) (int 4)) (xy (int 1) (int 1)) ≡ uv (int 11) (int 23))
    × (dx_distort_x (prism (int 1) (int 2) (int 3) (int 4)) (xy (int 1) (int 1))
    ≡ two_rows (int 19 ∷ int 18 ∷ []) (int 38 ∷ int 39 ∷ []))
    × (undistort (prism (int 0) (int 0) (int 0) (int 0)) (uv (int 3) (int 4)) ≡ direct (xy (int 3) (int 4)))
    × (dx_distort_params (prism (int 0) (int 0) (int 0) (int 0)) (xy (int 1) (int 2))
    ≡ two_rows
    (int 1 ∷ int 0 ∷ int 1 ∷ int 0 ∷ int 5 ∷ int 25 ∷ int 4 ∷ int 7 ∷ int 125 ∷ minus (int 5) ∷ minus (int 25) ∷
    minus (int 125)
    ∷ int 5 ∷ int 25 ∷ int 0 ∷ int 0 ∷ [])
    (int 0 ∷ int 2 ∷ int 0 ∷ int 1 ∷ int 10 ∷ int 50 ∷ int 13 ∷ int 4 ∷ int 250 ∷ minus (int 10) ∷ minus (int 50) ∷
    minus (int 250)
    ∷ int 0 ∷ int 0 ∷ int 5 ∷ int 25 ∷ []))
unfolding passes pass_by step_from prism_slopes_at slopes_at shared_at distortion bc.distortion dx_distort_params
    rounded root le add sub mul div neg of_bits of_int
by_hand = (refl, refl, refl, refl)
