-- What a caller may rely on, of the definitions of specs/ and of the contracts of src/. Assumes nothing.
use mathlib.Core.Path.{◌≡◌, refl, sym, ◌∙◌}
use mathlib.Core.List.{List, [], ◌∷◌, map}
use Prim.Native.Nat.{ℕ, ◌≤◌}
use lib.Dec.{T}
use lib.IntN.{pos}
use lib.Ieee.{binary64, add, sub, mul, div, neg, le, of_bits, of_int}
use Rattle.exact.specs.F64.{f64, minus}
use Rattle.exact.specs.Determined.{Determined}
use Rattle.exact.specs.Fraction.{Fraction, ◌≈◌, over, whole, exactly}
use Rattle.formula.specs.Term.{Term, rounded, exact, denominators, Numbers, Alike, derivative, gradient}
use Rattle.formula.proofs.Solver.{tests, rows}
use Rattle.root.specs.Root.{root}
use Rattle.lens.specs.ByHand.{xy, uv}
use Rattle.lens.specs.Constants.{int}
use Rattle.lens.specs.Jacobian.{two_rows}
use Rattle.lens.specs.Passes.{passes}
use Rattle.lens.specs.Radius.{squared_radius}
use Rattle.lens.specs.Undistorted.{direct}
use Rattle.lens.specs.declared.Pixel.{Pixel}
use Rattle.lens.specs.declared.Point.{Point}
use Rattle.affine.specs.Affine as affine
use Rattle.brown_conrady.specs.AsWritten.{dx_distort_x_as_written}
use Rattle.brown_conrady.specs.BrownConrady.{camera, affine_params, distortion, distort, shared_at, slopes_at}
use Rattle.brown_conrady.specs.BrownConrady.{dx_distort_x, f_xy, solve, small, step_from, pass_by, undistort}
use Rattle.brown_conrady.specs.Formula as formula
use Rattle.brown_conrady.specs.Formula.{at, coordinates, parameters, cdist2, dx_distort_params}
use Rattle.brown_conrady.specs.declared.BrownConradyParams.{BrownConradyParams}
use Rattle.brown_conrady.specs.declared.Offset.{Offset}
use Rattle.brown_conrady.proofs.NoRoot.{no_root}
use Rattle.brown_conrady.proofs.SecondCopy.{same_copy}
use Rattle.brown_conrady.proofs.Steps.{most_updates}
use Rattle.brown_conrady.proofs.affine_params.Reads as affine-params-contract
use Rattle.brown_conrady.proofs.parts_at.Reads as parts-at-contract
use Rattle.brown_conrady.proofs.distortion.Reads as distortion-contract
use Rattle.brown_conrady.proofs.slopes_at.Reads as slopes-at-contract
use Rattle.brown_conrady.proofs.small.Reads as small-contract
use Rattle.brown_conrady.proofs.past.Reads as past-contract
use Rattle.brown_conrady.proofs.solve.Reads as solve-contract
use Rattle.brown_conrady.proofs.distort.Reads as distort-contract
use Rattle.brown_conrady.proofs.undistort.Reads as undistort-contract
use Rattle.brown_conrady.proofs.dx_distort_x.Reads as dx-distort-x-contract
use Rattle.brown_conrady.proofs.dx_distort_params.Reads as dx-distort-params-contract

-- Any two answers to one call that the contract of an operation permits are equal, for each of the four,
pub determined :
    Determined distort-contract.Post × Determined undistort-contract.Post
    × Determined dx-distort-x-contract.Post × Determined dx-distort-params-contract.Post
determined =
    (λ κ a s s' r r' p q. p ∙ sym q, λ κ a s s' r r' p q. p ∙ sym q, λ κ a s s' r r' p q. p ∙ sym q, λ κ a s s' r r' p q. p ∙ sym q)

-- and for each of the parts that bc12 and the short engine share.
pub parts_determined :
    Determined affine-params-contract.Post × Determined parts-at-contract.Post × Determined distortion-contract.Post
    × Determined slopes-at-contract.Post × Determined small-contract.Post × Determined past-contract.Post
    × Determined solve-contract.Post
parts_determined = (
  λ κ a s s' r r' p q. p ∙ sym q,
  λ κ a s s' r r' p q. p ∙ sym q,
  λ κ a s s' r r' p q. p ∙ sym q,
  λ κ a s s' r r' p q. p ∙ sym q,
  λ κ a s s' r r' p q. p ∙ sym q,
  λ κ a s s' r r' p q. p ∙ sym q,
  λ κ a s s' r r' p q. p ∙ sym q,
)

-- A norm is at most EPS exactly where its square, as rounded before the root is taken, is at most the f64 nearest to
-- 1e-12. So the code takes no root.
pub small_squared :
    (offset : Offset) → small offset ≡ le (squared_radius offset.0 offset.1) (f64 0x3d71_9799_812d_ea11)
small_squared offset = no_root offset.0 offset.1

-- The Rust has the slopes twice, for Newton and in dx_distort_x. Its dx_distort_x, as its text has it, gives the bits
-- that ours gives from
-- Newton's copy: for every camera and point, NaN and infinities among the numbers.
pub second_copy :
    (params : BrownConradyParams) (point : Point) → dx_distort_x_as_written params point ≡ dx_distort_x params point
second_copy = same_copy

-- ---- one formula (specs/Formula). Read in f64, its terms are what the code is proved to be

module _ (params : BrownConradyParams) (point : Point) where
  -- The pixel is the reading of the terms u and v.
  pub distort_rounded :
      distort params point ≡ record { 0 = rounded (at params point) formula.u; 1 = rounded (at params point) formula.v }
  unfolding distortion rounded of_int of_bits
  distort_rounded = refl

  -- The derivative by the point is that of the rows u-point and v-point.
  pub dx_distort_x_rounded :
      dx_distort_x params point
      ≡ two_rows (map (rounded (at params point)) formula.u_point) (map (rounded (at params point)) formula.v_point)
  unfolding slopes_at shared_at rounded of_int of_bits
  dx_distort_x_rounded = refl

  -- A Newton step solves for what the lens misses by, with the matrix whose rows are xd0-point and yd0-point.
  pub step_rounded :
      (distorted : Point) →
      step_from params distorted point
      ≡ solve
      (rounded (at params point) formula.xd0_x) (rounded (at params point) formula.xd0_y)
      (rounded (at params point) formula.yd0_x) (rounded (at params point) formula.yd0_y)
      (f_xy params distorted point)
  unfolding step_from slopes_at shared_at rounded of_int of_bits
  step_rounded distorted = refl

abbrev Kept : ℕ → Type 0
Kept n = exactly (of_int binary64 (pos n)) ≈ whole n

-- The numerals of the terms are f64s: none is rounded.
pub numerals_kept : Kept 0 × Kept 1 × Kept 2 × Kept 3 × Kept 6
unfolding exactly of_int over
numerals_kept =
    (record { holds = refl }, record { holds = refl }, record { holds = refl }, record { holds = refl }, record { holds = refl })

-- ---- read exactly, its slopes are derivatives, whatever numbers the point and the twelve parameters are

-- The pixel divides by cdist2, and by nothing else.
pub one_denominator : (denominators formula.u ≡ cdist2 ∷ []) × (denominators formula.v ≡ cdist2 ∷ [])
unfolding denominators
one_denominator = (refl, refl)

module _ {ρ : ℕ → Fraction} (numbers : Numbers ρ) (defined : ¬ (exact ρ cdist2 ≈ whole 0)) where
  -- a gradient is a list of terms if the solver finds each alike
  pub derived :
      (vs : List ℕ) (a : Term) (s : List Term) → T (tests cdist2 (gradient vs a) s) → Alike ρ (gradient vs a) s
  derived vs a s = rows numbers cdist2 tt defined (gradient vs a) s

  -- Wherever cdist2 isn't zero, each entry of dx_distort_params is the formal derivative of its row's coordinate of
  -- the pixel by its column's parameter: all twelve columns of both rows,
  pub params_derived :
      Alike ρ (gradient parameters formula.u) formula.u_params
      × Alike ρ (gradient parameters formula.v) formula.v_params
  unfolding gradient derivative
  params_derived = (derived parameters formula.u formula.u_params tt, derived parameters formula.v formula.v_params tt)

  -- and so is each of dx_distort_x by x or y,
  pub point_derived :
      Alike ρ (gradient coordinates formula.u) formula.u_point
      × Alike ρ (gradient coordinates formula.v) formula.v_point
  unfolding gradient derivative
  point_derived = (derived coordinates formula.u formula.u_point tt, derived coordinates formula.v formula.v_point tt)

  -- and each of the matrix of a Newton step, of the distorted point by x or y.
  pub step_derived :
      Alike ρ (gradient coordinates formula.xd0) formula.xd0_point
      × Alike ρ (gradient coordinates formula.yd0) formula.yd0_point
  unfolding gradient derivative
  step_derived =
      (derived coordinates formula.xd0 formula.xd0_point tt, derived coordinates formula.yd0 formula.yd0_point tt)

-- ---- how many updates

-- Every undistort takes at most 50 updates.
pub updates_limit : (params : BrownConradyParams) (pixel : Pixel) → (undistort params pixel).updates ≤ 50
updates_limit params pixel =
    let distorted = (affine.undistort (affine_params params) pixel).point in
    most_updates (step_from params distorted) distorted

-- The numbers to check by hand. The camera 1 1 0 0 sends (1, 1) to (3, 5) with p1 = 1 and the rest 0, and to (5, 3)
-- with p2 = 1 instead. With all
-- coefficients 0 it sends the pixel (3, 4) back to (3, 4), with 0 updates and the flag yes; and its derivative by the
-- parameters at (1, 2) has r2 = 5, a1 = 4, a2 = 7, a3 = 13.
pub by_hand :
    (distort (camera (int 1) (int 1) (int 0) (int 0) (int 0) (int 0) (int 1) (int 0) (int 0) (int 0) (int 0) (int 0)) (xy (int 1) (int 1))
    ≡ uv (int 3) (int 5))
    × (distort (camera (int 1) (int 1) (int 0) (int 0) (int 0) (int 0) (int 0) (int 1) (int 0) (int 0) (int 0) (int 0)) (xy (int 1) (int 1))
    ≡ uv (int 5) (int 3))
    × (undistort (camera (int 1) (int 1) (int 0) (int 0) (int 0) (int 0) (int 0) (int 0) (int 0) (int 0) (int 0) (int 0)) (uv (int 3) (int 4))
    ≡ direct (xy (int 3) (int 4)))
    × (dx_distort_params (camera (int 1) (int 1) (int 0) (int 0) (int 0) (int 0) (int 0) (int 0) (int 0) (int 0) (int 0) (int 0)) (xy (int 1) (int 2))
    ≡ two_rows
    (int 1 ∷ int 0 ∷ int 1 ∷ int 0 ∷ int 5 ∷ int 25 ∷ int 4 ∷ int 7 ∷ int 125 ∷ minus (int 5) ∷ minus (int 25) ∷ minus (int 125) ∷ [])
    (int 0 ∷ int 2 ∷ int 0 ∷ int 1 ∷ int 10 ∷ int 50 ∷ int 13 ∷ int 4 ∷ int 250 ∷ minus (int 10) ∷ minus (int 50) ∷ minus (int 250) ∷ []))
unfolding passes pass_by step_from slopes_at shared_at distortion dx_distort_params rounded root le add sub mul div neg of_bits of_int
by_hand = (refl, refl, refl, refl)
