-- Laws: the numbers to check by hand. A camera answers them as its model does: camera and place are taken, and the
-- answer is finite. Assumes nothing.
use mathlib.Core.Path.{◌≡◌, refl, ap, ◌∙◌}
use Rattle.std.specs.declared.result.Result.TheVariants.{Ok, Err}
use Rattle.std.specs.declared.option.Option.{Option}
use Rattle.std.specs.declared.option.Option.TheVariants.{Some}
use mathlib.Core.Bool.{true}
use mathlib.Core.List.{List, [], ◌∷◌}
use Prim.Native.Nat.{ℕ}
use lib.Ieee.{Float, div, neg, of_bits, of_int}
use Rattle.exact.specs.F64.{minus, is_zero}
use Rattle.root.specs.Root.{root}
use Rattle.root.proofs.Laws as root_laws
use Rattle.arctan.specs.Arctangent.{arctangent}
use Rattle.arctan.specs.Tangent.{tangent}
use Rattle.lens.specs.ByHand.{halves, quarters, xy, uv}
use Rattle.lens.specs.Constants.{int}
use Rattle.lens.specs.Distorted.{finite_pixel}
use Rattle.lens.specs.Finite.{all_finite}
use Rattle.lens.specs.Jacobian.{two_rows}
use Rattle.lens.specs.Judgement.{decided, accepted}
use Rattle.lens.specs.Undistorted.{direct}
use Rattle.lens.specs.declared.Jacobian.{Jacobian}
use Rattle.lens.specs.Judgement.{Judgement}
use Rattle.lens.specs.declared.Pixel.{Pixel}
use Rattle.lens.specs.declared.Point.{Point}
use Rattle.lens.specs.declared.Refusal.TheVariants.{RayNotForward}
use Rattle.lens.specs.Undistorted.{Undistorted}
use Rattle.affine.specs.Affine as affine
use Rattle.affine.proofs.Laws as affine-laws
use Rattle.enhanced_unified.specs.EnhancedUnified as eucm
use Rattle.enhanced_unified.proofs.Laws as eucm-laws
use Rattle.kannala_brandt.specs.KannalaBrandt as kb
use Rattle.kannala_brandt.proofs.Laws as kb-laws
use Rattle.brown_conrady.specs.BrownConrady as bc
use Rattle.brown_conrady.proofs.Laws as bc-laws
use Rattle.thin_prism.proofs.Laws as bc12-laws
use Rattle.camera.specs.Camera.{Differentiated}
use Rattle.camera.specs.Camera.{judged, pixel_of, distort, point_of, finite_point, undistort}
use Rattle.camera.specs.Camera.{finite_jacobian, slopes, dx_distort_x, parameter_slopes, dx_distort_params}
use Rattle.camera.specs.declared.Camera.{Camera}
use Rattle.camera.specs.declared.Camera.TheVariants.{Affine, EnhancedUnified, KannalaBrandt, BrownConrady}
use Rattle.camera.specs.declared.Camera.TheVariants.{ThinPrism}

sends :
    (camera : Camera) (point : Point) (pixel : Pixel) → judged camera point.0 point.1 ≡ accepted → pixel_of camera point ≡ pixel → finite_pixel pixel ≡ Ok pixel
    → distort camera point ≡ Ok pixel
sends camera point pixel j e f =
    ap (λ (v : Judgement). decided v Err (finite_pixel (pixel_of camera point))) j ∙ ap finite_pixel e ∙ f

finds :
    (camera : Camera) (pixel : Pixel) (u w : Undistorted) → judged camera pixel.0 pixel.1 ≡ accepted → point_of camera pixel ≡ u → finite_point u ≡ w
    → undistort camera pixel ≡ w
finds camera pixel u w j e f =
    ap (λ (v : Judgement). decided v Err (finite_point (point_of camera pixel))) j ∙ ap finite_point e ∙ f

-- of the slopes, by the point or by the parameters
derives :
    (camera : Camera) (point : Point) (slopes j : Jacobian) (d : Differentiated) → judged camera point.0 point.1 ≡ accepted → slopes ≡ j → finite_jacobian j ≡ d
    → decided (judged camera point.0 point.1) Err (finite_jacobian slopes) ≡ d
derives camera point slopes j d t e f =
    ap (λ (v : Judgement). decided v Err (finite_jacobian slopes)) t ∙ ap finite_jacobian e ∙ f

-- an undistort with no update
abbrev pub at_once : Point → Undistorted
at_once point = Ok (direct point)

-- a point and its pixel, both ways
abbrev Both : Camera → Point → Pixel → Type 0
Both camera point pixel = (distort camera point ≡ Ok pixel) × (undistort camera pixel ≡ at_once point)

abbrev affine_camera : Camera
affine_camera = Affine (affine.camera (int 600) (int 600) (int 1) (halves 1))

pub affines : Both affine_camera (xy (halves 1) (minus (quarters 1))) (uv (int 301) (minus (halves 299)))
unfolding judged all_finite is_zero div neg of_int
affines = (
  sends affine_camera (xy (halves 1) (minus (quarters 1))) _ refl (affine-laws.by_hand).0 refl,
  finds affine_camera (uv (int 301) (minus (halves 299))) _ _ refl (ap Ok (affine-laws.by_hand).1) refl,
)

abbrev eucm_camera : Camera
eucm_camera = EnhancedUnified (eucm.camera (int 1) (int 1) (int 0) (int 0) (halves 1) (int 1))

pub eucms :
    Both eucm_camera (xy (int 2) (int 2)) (uv (int 1) (int 1))
    × (undistort eucm_camera (uv (int 2) (int 0)) ≡ Err RayNotForward)
    × (undistort eucm_camera (uv (int 2) (int 2)) ≡ Err RayNotForward)
unfolding judged all_finite is_zero div of_int
eucms = (
  (
    sends eucm_camera (xy (int 2) (int 2)) _ refl (eucm-laws.by_hand).0 refl,
    finds eucm_camera (uv (int 1) (int 1)) _ _ refl (eucm-laws.by_hand).1 refl,
  ),
  finds eucm_camera (uv (int 2) (int 0)) _ _ refl (eucm-laws.by_hand).2 refl,
  finds eucm_camera (uv (int 2) (int 2)) _ _ refl (eucm-laws.by_hand).3 refl,
)

abbrev kb_camera : Camera
kb_camera = KannalaBrandt (kb.camera (int 1000) (int 1000) (int 320) (int 280) (int 0) (int 0) (int 0) (int 0))

pub kbs : Both kb_camera (xy (int 0) (int 0)) (uv (int 320) (int 280))
unfolding judged all_finite is_zero of_int
kbs = (
  sends kb_camera (xy (int 0) (int 0)) _ refl (kb-laws.by_hand arctangent tangent).0 refl,
  finds kb_camera (uv (int 320) (int 280)) _ _ refl (kb-laws.by_hand arctangent tangent).1 refl,
)

-- a derivative that is answered, by its rows
abbrev pub answer : List Float → List Float → Differentiated
answer top bottom = Ok (two_rows top bottom)

abbrev bc_camera : ℕ → ℕ → Camera
bc_camera p1 p2 =
    BrownConrady
    (bc.camera (int 1) (int 1) (int 0) (int 0) (int 0) (int 0) (int p1) (int p2) (int 0) (int 0) (int 0) (int 0))

pub bcs :
    (distort (bc_camera 1 0) (xy (int 1) (int 1)) ≡ Ok (uv (int 3) (int 5)))
    × (distort (bc_camera 0 1) (xy (int 1) (int 1)) ≡ Ok (uv (int 5) (int 3)))
    × (undistort (bc_camera 0 0) (uv (int 3) (int 4)) ≡ at_once (xy (int 3) (int 4)))
    × (dx_distort_params (bc_camera 0 0) (xy (int 1) (int 2)) ≡ answer
    (int 1 ∷ int 0 ∷ int 1 ∷ int 0 ∷ int 5 ∷ int 25 ∷ int 4 ∷ int 7 ∷ int 125 ∷ minus (int 5) ∷ minus (int 25) ∷ minus (int 125) ∷ [])
    (int 0 ∷ int 2 ∷ int 0 ∷ int 1 ∷ int 10 ∷ int 50 ∷ int 13 ∷ int 4 ∷ int 250 ∷ minus (int 10) ∷ minus (int 50) ∷ minus (int 250) ∷ []))
unfolding judged all_finite is_zero neg of_bits of_int
bcs = (
  sends (bc_camera 1 0) (xy (int 1) (int 1)) _ refl (bc-laws.by_hand).0 refl,
  sends (bc_camera 0 1) (xy (int 1) (int 1)) _ refl (bc-laws.by_hand).1 refl,
  finds (bc_camera 0 0) (uv (int 3) (int 4)) _ _ refl (ap Ok (bc-laws.by_hand).2) refl,
  derives (bc_camera 0 0) (xy (int 1) (int 2)) (parameter_slopes (bc_camera 0 0) (xy (int 1) (int 2))) _ _ refl
      (bc-laws.by_hand).3 refl,
)

-- bc12 1 1 0 0 with no coefficient but s1 to s4
abbrev pub prism : ℕ → ℕ → ℕ → ℕ → Camera
prism s1 s2 s3 s4 = ThinPrism record {
  bc = bc.camera (int 1) (int 1) (int 0) (int 0) (int 0) (int 0) (int 0) (int 0) (int 0) (int 0) (int 0) (int 0);
  s1 = int s1;
  s2 = int s2;
  s3 = int s3;
  s4 = int s4;
}

pub bc12s :
    (distort (prism 1 2 3 4) (xy (int 1) (int 1)) ≡ Ok (uv (int 11) (int 23)))
    × (dx_distort_x (prism 1 2 3 4) (xy (int 1) (int 1)) ≡ answer (int 19 ∷ int 18 ∷ []) (int 38 ∷ int 39 ∷ []))
    × (undistort (prism 0 0 0 0) (uv (int 3) (int 4)) ≡ at_once (xy (int 3) (int 4)))
    × (dx_distort_params (prism 0 0 0 0) (xy (int 1) (int 2)) ≡ answer
    (int 1 ∷ int 0 ∷ int 1 ∷ int 0 ∷ int 5 ∷ int 25 ∷ int 4 ∷ int 7 ∷ int 125 ∷ minus (int 5) ∷ minus (int 25) ∷ minus (int 125) ∷ int 5 ∷ int 25 ∷ int 0 ∷ int 0 ∷ [])
    (int 0 ∷ int 2 ∷ int 0 ∷ int 1 ∷ int 10 ∷ int 50 ∷ int 13 ∷ int 4 ∷ int 250 ∷ minus (int 10) ∷ minus (int 50) ∷ minus (int 250) ∷ int 0 ∷ int 0 ∷ int 5 ∷ int 25 ∷ []))
unfolding judged all_finite is_zero neg of_bits of_int
bc12s = (
  sends (prism 1 2 3 4) (xy (int 1) (int 1)) _ refl (bc12-laws.by_hand).0 refl,
  derives (prism 1 2 3 4) (xy (int 1) (int 1)) (slopes (prism 1 2 3 4) (xy (int 1) (int 1))) _ _ refl
      (bc12-laws.by_hand).1 refl,
  finds (prism 0 0 0 0) (uv (int 3) (int 4)) _ _ refl (ap Ok (bc12-laws.by_hand).2) refl,
  derives (prism 0 0 0 0) (xy (int 1) (int 2)) (parameter_slopes (prism 0 0 0 0) (xy (int 1) (int 2))) _ _ refl
      (bc12-laws.by_hand).3 refl,
)

-- ---- all of them

-- The rules' numbers to check by hand that are to be proved (docs/RULES.md, 17), as they stand there: 600 is `int
-- 600`, -149.5 `minus (halves 299)`, and a
-- camera's numbers come in its model's order. An answer `at_once` has 0 updates and the flag yes. Off the axis kb's
-- hold for any arctangent, or tangent,
-- that has the value said; the other lines are of the camera itself.
pub by_hand :
    (distort (Affine (affine.camera (int 600) (int 600) (int 1) (halves 1))) (xy (halves 1) (minus (quarters 1))) ≡ Ok (uv (int 301) (minus (halves 299))))
    × (undistort (Affine (affine.camera (int 600) (int 600) (int 1) (halves 1))) (uv (int 301) (minus (halves 299)))
    ≡ at_once (xy (halves 1) (minus (quarters 1))))
    × (distort (EnhancedUnified (eucm.camera (int 1) (int 1) (int 0) (int 0) (halves 1) (int 1))) (xy (int 2) (int 2)) ≡ Ok (uv (int 1) (int 1)))
    × (undistort (EnhancedUnified (eucm.camera (int 1) (int 1) (int 0) (int 0) (halves 1) (int 1))) (uv (int 1) (int 1)) ≡ at_once (xy (int 2) (int 2)))
    × (undistort (EnhancedUnified (eucm.camera (int 1) (int 1) (int 0) (int 0) (halves 1) (int 1))) (uv (int 2) (int 0)) ≡ Err RayNotForward)
    × (undistort (EnhancedUnified (eucm.camera (int 1) (int 1) (int 0) (int 0) (halves 1) (int 1))) (uv (int 2) (int 2)) ≡ Err RayNotForward)
    × (distort (KannalaBrandt (kb.camera (int 1000) (int 1000) (int 320) (int 280) (int 0) (int 0) (int 0) (int 0))) (xy (int 0) (int 0))
    ≡ Ok (uv (int 320) (int 280)))
    × (undistort (KannalaBrandt (kb.camera (int 1000) (int 1000) (int 320) (int 280) (int 0) (int 0) (int 0) (int 0))) (uv (int 320) (int 280))
    ≡ at_once (xy (int 0) (int 0)))
    × ((f : Float → Float) → f (int 5) ≡ int 1
    → kb.distort f (kb.camera (int 10) (int 10) (int 1) (int 2) (halves 3) (int 0) (int 0) (int 0)) (xy (int 3) (int 4)) ≡ uv (int 16) (int 22))
    × ((g : Float → Option Float) → g (halves 1) ≡ Some (quarters 3)
    → kb.undistort g (kb.camera (int 4) (int 4) (int 1) (int 2) (minus (int 2)) (int 0) (int 0) (int 0)) (uv (int 2) (int 2))
    ≡ Ok record { point = xy (quarters 3) (int 0); updates = 1; flag = true })
    × (distort (BrownConrady (bc.camera (int 1) (int 1) (int 0) (int 0) (int 0) (int 0) (int 1) (int 0) (int 0) (int 0) (int 0) (int 0))) (xy (int 1) (int 1))
    ≡ Ok (uv (int 3) (int 5)))
    × (distort (BrownConrady (bc.camera (int 1) (int 1) (int 0) (int 0) (int 0) (int 0) (int 0) (int 1) (int 0) (int 0) (int 0) (int 0))) (xy (int 1) (int 1))
    ≡ Ok (uv (int 5) (int 3)))
    × (undistort (BrownConrady (bc.camera (int 1) (int 1) (int 0) (int 0) (int 0) (int 0) (int 0) (int 0) (int 0) (int 0) (int 0) (int 0))) (uv (int 3) (int 4))
    ≡ at_once (xy (int 3) (int 4)))
    × (dx_distort_params (BrownConrady (bc.camera (int 1) (int 1) (int 0) (int 0) (int 0) (int 0) (int 0) (int 0) (int 0) (int 0) (int 0) (int 0))) (xy (int 1) (int 2))
    ≡ answer
    (int 1 ∷ int 0 ∷ int 1 ∷ int 0 ∷ int 5 ∷ int 25 ∷ int 4 ∷ int 7 ∷ int 125 ∷ minus (int 5) ∷ minus (int 25) ∷ minus (int 125) ∷ [])
    (int 0 ∷ int 2 ∷ int 0 ∷ int 1 ∷ int 10 ∷ int 50 ∷ int 13 ∷ int 4 ∷ int 250 ∷ minus (int 10) ∷ minus (int 50) ∷ minus (int 250) ∷ []))
    × (distort (prism 1 2 3 4) (xy (int 1) (int 1)) ≡ Ok (uv (int 11) (int 23)))
    × (dx_distort_x (prism 1 2 3 4) (xy (int 1) (int 1)) ≡ answer (int 19 ∷ int 18 ∷ []) (int 38 ∷ int 39 ∷ []))
    × (undistort (prism 0 0 0 0) (uv (int 3) (int 4)) ≡ at_once (xy (int 3) (int 4)))
    × (dx_distort_params (prism 0 0 0 0) (xy (int 1) (int 2))
    ≡ answer
    (int 1 ∷ int 0 ∷ int 1 ∷ int 0 ∷ int 5 ∷ int 25 ∷ int 4 ∷ int 7 ∷ int 125 ∷ minus (int 5) ∷ minus (int 25) ∷ minus (int 125) ∷ int 5 ∷ int 25 ∷ int 0 ∷ int 0 ∷ [])
    (int 0 ∷ int 2 ∷ int 0 ∷ int 1 ∷ int 10 ∷ int 50 ∷ int 13 ∷ int 4 ∷ int 250 ∷ minus (int 10) ∷ minus (int 50) ∷ minus (int 250) ∷ int 0 ∷ int 0 ∷ int 5 ∷ int 25 ∷ []))
    × (root (quarters 9) ≡ halves 3)
unfolding div of_bits of_int
by_hand = (
  affines.0,
  affines.1,
  eucms.0.0,
  eucms.0.1,
  eucms.1,
  eucms.2,
  kbs.0,
  kbs.1,
  kb-laws.by_hand_bent,
  kb-laws.by_hand_unbent,
  bcs.0,
  bcs.1,
  bcs.2,
  bcs.3,
  bc12s.0,
  bc12s.1,
  bc12s.2,
  bc12s.3,
  root_laws.by_hand,
)
