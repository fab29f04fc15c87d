-- What a caller may rely on, of the definitions of specs/ and of the contracts of src/. Assumes nothing.
use mathlib.Core.Path.{◌≡◌, refl, sym, ap, ◌∙◌, subst}
use Rattle.std.specs.declared.result.Result.TheVariants.{Ok, Err}
use mathlib.Core.Logic.{◌↔◌}
use mathlib.Core.Bool.{Bool, true, false, cond}
use Prim.Native.Nat.{ℕ, ◌*◌, ◌^◌}
use native.Mathlib.Nat.{mul-pos}
use native.Mathlib.Omega.{arith}
use lib.Dec.{lit≤}
use lib.Pow.{pow_pos}
use lib.IntN.{pos}
use lib.Ieee.{Float, nan, binary64, unlike, lt, le, add, sub, mul, div, of_bits, of_int, is_nan}
use lib.Ieee.Fits.{of_int-fits}
use Rattle.exact.specs.F64.{◌⊕◌, ◌⊖◌, ◌⊗◌, ◌⊘◌}
use Rattle.exact.specs.Determined.{Determined}
use Rattle.root.specs.Root.{root}
use Rattle.root.proofs.Laws.{root_exact}
use Rattle.lens.specs.ByHand.{halves, xy, uv}
use Rattle.lens.specs.Constants.{zeros, ones, int}
use Rattle.lens.specs.Radius.{squared_radius}
use Rattle.lens.specs.Undistorted.{direct, told}
use Rattle.lens.specs.declared.Pixel.{Pixel}
use Rattle.lens.specs.declared.Point.{Point}
use Rattle.lens.specs.declared.Refusal.{Refusal}
use Rattle.lens.specs.declared.Refusal.TheVariants.{RayNotForward}
use Rattle.lens.specs.declared.Settled.{Settled}
use Rattle.lens.specs.Undistorted.{Undistorted}
use Rattle.enhanced_unified.specs.EnhancedUnified.{camera, norm_of, distort, mx_of, my_of, ray_z, not_forward, undistort, undistort_before}
use Rattle.enhanced_unified.specs.declared.EnhancedUnifiedParams.{EnhancedUnifiedParams}
use Rattle.enhanced_unified.proofs.Sides.{Lies, above_lies, lies_above, below_lies, lies_below, not_above, quotient_lies, product_lies, over_nan, turned_twice, forward}
use Rattle.enhanced_unified.proofs.distort.Reads as distort-contract
use Rattle.enhanced_unified.proofs.undistort.Reads as undistort-contract
use Rattle.enhanced_unified.proofs.dx_distort_x.Reads as dx-distort-x-contract
use Rattle.enhanced_unified.proofs.dx_distort_params.Reads as dx-distort-params-contract

-- Any two answers to one call that the contract of an operation permits are equal, for each of the four.
pub determined :
    Determined distort-contract.Post × Determined undistort-contract.Post
    × Determined dx-distort-x-contract.Post × Determined dx-distort-params-contract.Post
determined = (
  λ κ a s s' r r' p q. p ∙ sym q,
  λ κ a s s' r r' p q. p ∙ sym q,
  λ κ a s s' r r' p q. p ∙ sym q,
  λ κ a s s' r r' p q. p ∙ sym q,
)

-- ---- what undistort refuses, and what it answers

-- a is above 0 only where b is, and below 0 only where b is: unless a is a zero or NaN, it has the sign of b
abbrev pub Sided : Float → Float → Type 0
Sided a b = (lt zeros a ≡ true → lt zeros b ≡ true) × (lt a zeros ≡ true → lt b zeros ≡ true)

-- a point's coordinates have the signs of the pixel's offsets over the focal lengths; times the focal lengths, of the offsets themselves
abbrev pub SameSide : EnhancedUnifiedParams → Pixel → Point → Type 0
SameSide params pixel point =
    Sided point.0 (mx_of params pixel) × Sided point.1 (my_of params pixel)
    × Sided (point.0 ⊗ params.fx) (pixel.0 ⊖ params.cx) × Sided (point.1 ⊗ params.fy) (pixel.1 ⊖ params.cy)

sided : (a b : Float) → ((t : Bool) → Lies t a → Lies t b) → Sided a b
sided a b f = (λ h. lies_above b (f false (above_lies a h)), λ h. lies_below b (f true (below_lies a h)))

-- m is an offset over f, and the point's coordinate m over k
offset_lies : (m f k : Float) (t : Bool) → le k zeros ≡ false → Lies t (m ⊘ f ⊘ k ⊗ f) → Lies t m
offset_lies m f k t g h =
    let p = product_lies (m ⊘ f ⊘ k) f t h in
    let u = p.0 in
    subst (λ (v : Bool). Lies v m) (turned_twice t u) (quotient_lies m f (unlike t u) u p.1.0 (forward (m ⊘ f) k (unlike t u) g p.1.1))

module _ (params : EnhancedUnifiedParams) (pixel : Pixel) where
  -- undistort by the test of its z
  said : Bool → Undistorted
  said b = cond b (Err RayNotForward) (Ok (undistort_before params pixel))

  z : Float
  z = ray_z params pixel

  -- It is refused, always with 16, exactly if the z of the pixel's ray is a number and not above 0: a zero of either sign, or below.
  pub mirrored_exactly :
      (r : Refusal)
      → (undistort params pixel ≡ Err r)
      ↔ ((r ≡ RayNotForward) × (is_nan (ray_z params pixel) ≡ false) × (lt zeros (ray_z params pixel) ≡ false))
  unfolding said z
  mirrored_exactly r = (forth (not_forward z) refl, λ h. ap said ((not_above z).1 (h.1, h.2)) ∙ ap Err (sym h.0))
    where
      forth : (b : Bool) → not_forward z ≡ b → said b ≡ Err r → (r ≡ RayNotForward) × (is_nan z ≡ false) × (lt zeros z ≡ false)
      forth true e h = (cc, ((not_above z).0 e).0, ((not_above z).0 e).1)
      forth false e h = let n : ◌≡◌ {A = ℕ} 0 1 = cc in absurd (omega arith)

  -- Wherever 16 isn't given, the answer is that of undistort before request P6, which is the Rust's.
  pub elsewhere_as_before : ((told (undistort params pixel)).number ≡ 16 → ⊥) → undistort params pixel ≡ Ok (undistort_before params pixel)
  unfolding said z
  elsewhere_as_before = go (not_forward z)
    where
      go : (b : Bool) → ((told (said b)).number ≡ 16 → ⊥) → said b ≡ Ok (undistort_before params pixel)
      go true n = absurd (n refl)
      go false n = refl

  -- So with a NaN for z: a point of two NaNs, which the camera refuses with 11.
  pub nan_not_refused : ray_z params pixel ≡ nan → undistort params pixel ≡ Ok (direct (xy nan nan))
  unfolding le
  nan_not_refused e = go (ray_z params pixel) e
    where
      go :
          (k : Float) → k ≡ nan
          → cond (not_forward k) (Err RayNotForward) (Ok (direct (xy (mx_of params pixel ⊘ k) (my_of params pixel ⊘ k)))) ≡ Ok (direct (xy nan nan))
      go k e = rw (e, over_nan (mx_of params pixel), over_nan (my_of params pixel)) refl

  answered : (s : Settled) → undistort params pixel ≡ Ok s → (not_forward (ray_z params pixel) ≡ false) × (undistort_before params pixel ≡ s)
  unfolding said z
  answered s = go (not_forward z) refl
    where
      go : (b : Bool) → not_forward z ≡ b → said b ≡ Ok s → (not_forward z ≡ false) × (undistort_before params pixel ≡ s)
      go true e h = let n : ◌≡◌ {A = ℕ} 0 1 = cc in absurd (omega arith)
      go false e h = (e, cc)

  -- Every answer takes 0 updates and settles.
  pub settled : (s : Settled) → undistort params pixel ≡ Ok s → (s.updates ≡ 0) × (s.flag ≡ true)
  settled s h = let e = (answered s h).1 in (sym (ap (λ (t : Settled). t.updates) e), sym (ap (λ (t : Settled). t.flag) e))

  -- An answered point lies on the pixel's side of the centre, zeros aside.
  pub same_side : (s : Settled) → undistort params pixel ≡ Ok s → SameSide params pixel s.point
  same_side s h =
      let k = ray_z params pixel in
      let a = answered s h in
      let mx = mx_of params pixel in
      let my = my_of params pixel in
      subst (λ (t : Settled). SameSide params pixel t.point) a.1 (
        sided (mx ⊘ k) mx (λ t. forward mx k t a.0),
        sided (my ⊘ k) my (λ t. forward my k t a.0),
        sided (mx ⊘ k ⊗ params.fx) (pixel.0 ⊖ params.cx) (λ t. offset_lies (pixel.0 ⊖ params.cx) params.fx k t a.0),
        sided (my ⊘ k ⊗ params.fy) (pixel.1 ⊖ params.cy) (λ t. offset_lies (pixel.1 ⊖ params.cy) params.fy k t a.0),
      )

-- ---- the numbers to check by hand

abbrev eye : EnhancedUnifiedParams
eye = camera (int 1) (int 1) (int 0) (int 0) (halves 1) (int 1)

-- the two roots that they take
root_of_one : root (int 1) ≡ int 1
root_of_one =
    root_exact (int 1) (int 1) (2 ^ 1074) (of_int-fits binary64 (pos 1)) (of_int-fits binary64 (pos 1)) (pow_pos 1074)
    (unfold of_int in (refl, refl)) (unfold of_int in (refl, refl))

root_of_nine : root (int 9) ≡ int 3
root_of_nine =
    root_exact (int 9) (int 3) (3 * 2 ^ 1074) (of_int-fits binary64 (pos 9)) (of_int-fits binary64 (pos 3)) (mul-pos {m = 3} (lit≤ tt) (pow_pos 1074))
    (unfold of_int in (refl, refl)) (unfold of_int in (refl, refl))

-- what distort and undistort take the root of, and what is left of them once it is known
abbrev distorted : Point → Float → Pixel
distorted point rho = uv (eye.fx ⊗ (point.0 ⊘ norm_of eye.alpha rho) ⊕ eye.cx) (eye.fy ⊗ (point.1 ⊘ norm_of eye.alpha rho) ⊕ eye.cy)

abbrev r2 : Pixel → Float
r2 pixel = squared_radius ((pixel.0 ⊖ eye.cx) ⊘ eye.fx) ((pixel.1 ⊖ eye.cy) ⊘ eye.fy)

abbrev under : Pixel → Float
under pixel = ones ⊖ (eye.alpha ⊖ (ones ⊖ eye.alpha)) ⊗ eye.beta ⊗ r2 pixel

abbrev undistorted : Pixel → Float → Undistorted
undistorted pixel s =
    let k = (ones ⊖ eye.alpha ⊗ eye.alpha ⊗ eye.beta ⊗ r2 pixel) ⊘ (eye.alpha ⊗ s ⊕ (ones ⊖ eye.alpha)) in
    cond (not_forward k) (Err RayNotForward) (Ok (direct (xy (mx_of eye pixel ⊘ k) (my_of eye pixel ⊘ k))))

forth : (eye.beta ⊗ squared_radius (int 2) (int 2) ⊕ ones ≡ int 9) × (distorted (xy (int 2) (int 2)) (int 3) ≡ uv (int 1) (int 1))
unfolding add sub mul div of_bits of_int
forth = (refl, refl)

back : (under (uv (int 1) (int 1)) ≡ int 1) × (undistorted (uv (int 1) (int 1)) (int 1) ≡ Ok (direct (xy (int 2) (int 2))))
unfolding le add sub mul div of_bits of_int
back = (refl, refl)

sideways : (under (uv (int 2) (int 0)) ≡ int 1) × (undistorted (uv (int 2) (int 0)) (int 1) ≡ Err RayNotForward)
unfolding le add sub mul div of_bits of_int
sideways = (refl, refl)

backwards : (under (uv (int 2) (int 2)) ≡ int 1) × (undistorted (uv (int 2) (int 2)) (int 1) ≡ Err RayNotForward)
unfolding le add sub mul div of_bits of_int
backwards = (refl, refl)

-- The camera 1 1 0 0 0.5 1 sends (2, 2) to (1, 1), and back with 0 updates and the flag yes. The ray of (2, 0) has z 0 and that of (2, 2) has z -1: both are
-- refused with 16.
pub by_hand :
    (distort (camera (int 1) (int 1) (int 0) (int 0) (halves 1) (int 1)) (xy (int 2) (int 2)) ≡ uv (int 1) (int 1))
    × (undistort (camera (int 1) (int 1) (int 0) (int 0) (halves 1) (int 1)) (uv (int 1) (int 1)) ≡ Ok (direct (xy (int 2) (int 2))))
    × (undistort (camera (int 1) (int 1) (int 0) (int 0) (halves 1) (int 1)) (uv (int 2) (int 0)) ≡ Err RayNotForward)
    × (undistort (camera (int 1) (int 1) (int 0) (int 0) (halves 1) (int 1)) (uv (int 2) (int 2)) ≡ Err RayNotForward)
by_hand = (
  ap (distorted (xy (int 2) (int 2))) (ap root forth.0 ∙ root_of_nine) ∙ forth.1,
  ap (undistorted (uv (int 1) (int 1))) (ap root back.0 ∙ root_of_one) ∙ back.1,
  ap (undistorted (uv (int 2) (int 0))) (ap root sideways.0 ∙ root_of_one) ∙ sideways.1,
  ap (undistorted (uv (int 2) (int 2))) (ap root backwards.0 ∙ root_of_one) ∙ backwards.1,
)
