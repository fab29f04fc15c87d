-- What a caller may rely on, of the definitions of specs/ and of the contracts of src/. Assumes nothing.
use mathlib.Core.Path.{◌≡◌, refl, sym, ◌∙◌}
use mathlib.Core.Bool.{true}
use lib.Ieee.{add, sub, mul, div, neg, of_int}
use Rattle.exact.specs.F64.{minus}
use Rattle.exact.specs.Determined.{Determined}
use Rattle.lens.specs.ByHand.{halves, quarters, xy, uv}
use Rattle.lens.specs.Constants.{int}
use Rattle.lens.specs.Undistorted.{direct}
use Rattle.lens.specs.declared.Pixel.{Pixel}
use Rattle.affine.specs.Affine.{camera, distort, undistort}
use Rattle.affine.specs.declared.AffineParams.{AffineParams}
use Rattle.affine.proofs.distort.Reads as distort-contract
use Rattle.affine.proofs.undistort.Reads as undistort-contract
use Rattle.affine.proofs.dx_distort_x.Reads as dx-distort-x-contract
use Rattle.affine.proofs.dx_distort_params.Reads as dx-distort-params-contract

-- Any two answers to one call that the contract of an operation permits are equal, for each of the four.
pub determined :
    Determined distort-contract.Post × Determined undistort-contract.Post
    × Determined dx-distort-x-contract.Post × Determined dx-distort-params-contract.Post
determined = (λ κ a s s' r r' p q. p ∙ sym q, λ κ a s s' r r' p q. p ∙ sym q, λ κ a s s' r r' p q. p ∙ sym q, λ κ a s s' r r' p q. p ∙ sym q)

-- Every undistort takes 0 updates and settles.
pub settled : (params : AffineParams) (pixel : Pixel) → ((undistort params pixel).updates ≡ 0) × ((undistort params pixel).flag ≡ true)
settled params pixel = (refl, refl)

-- The number to check by hand: the camera 600 600 1 0.5 sends (0.5, -0.25) to (301, -149.5), and back with 0 updates and the flag yes.
pub by_hand :
    (distort (camera (int 600) (int 600) (int 1) (halves 1)) (xy (halves 1) (minus (quarters 1))) ≡ uv (int 301) (minus (halves 299)))
    × (undistort (camera (int 600) (int 600) (int 1) (halves 1)) (uv (int 301) (minus (halves 299))) ≡ direct (xy (halves 1) (minus (quarters 1))))
unfolding add sub mul div neg of_int
by_hand = (refl, refl)
