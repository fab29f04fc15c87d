-- What a caller may rely on, of the definitions of specs/ and of the contracts of src/. Assumes nothing.
use mathlib.Core.Path.{◌≡◌, refl, sym, ap, ◌∙◌}
use Rattle.std.specs.declared.result.Result.TheVariants.{Ok, Err}
use Rattle.std.specs.declared.option.Option.{Option}
use Rattle.std.specs.declared.option.Option.TheVariants.{Some, None}
use mathlib.Core.Logic.{◌↔◌, ◌⊎◌, inl, inr}
use mathlib.Core.Bool.{Bool, true, false, cond, true≢false, ◌&&◌}
use Prim.Native.Nat.{ℕ, ◌≤◌}
use native.Mathlib.Omega.{arith}
use lib.Dec.{lit≤}
use lib.Ieee.{Float, lt, le, add, sub, mul, div, of_bits, of_int}
use Rattle.exact.specs.Determined.{Determined}
use Rattle.exact.specs.F64.{minus}
use Rattle.root.specs.Root.{root}
use Rattle.lens.specs.ByHand.{halves, quarters, xy, uv}
use Rattle.lens.specs.Constants.{zeros, eps, int}
use Rattle.lens.specs.Radius.{squared_radius}
use Rattle.lens.specs.Undistorted.{direct, told}
use Rattle.lens.specs.declared.Pixel.{Pixel}
use Rattle.lens.specs.declared.Point.{Point}
use Rattle.lens.specs.declared.Refusal.{Refusal}
use Rattle.lens.specs.declared.Settled.{Settled}
use Rattle.lens.specs.declared.Refusal.TheVariants.{AngleTooLarge}
use Rattle.lens.specs.Undistorted.{Undistorted}
use Rattle.lens.proofs.Passes.{passes_most}
use Rattle.kannala_brandt.specs.AsWritten.{dx_distort_x_as_written, dx_distort_params_as_written}
use Rattle.kannala_brandt.specs.KannalaBrandt.{camera, distort, dx_distort_x, dx_distort_params, limit, pass, start, ended, newton, flag, flag_before, outward, outward_by, un_of, vn_of, rth2, undistort, undistort_before}
use Rattle.kannala_brandt.specs.declared.KannalaBrandtParams.{KannalaBrandtParams}
use Rattle.kannala_brandt.specs.declared.Reached.{Reached}
use Rattle.kannala_brandt.proofs.Bent.{bent_distorted, bent_undistorted}
use Rattle.kannala_brandt.proofs.Updates.{updates, one_update}
use Rattle.kannala_brandt.proofs.Written.{x_written, params_written}
use Rattle.kannala_brandt.proofs.distort.Reads as distort-contract
use Rattle.kannala_brandt.proofs.undistort.Reads as undistort-contract
use Rattle.kannala_brandt.proofs.dx_distort_x.Reads as dx-distort-x-contract
use Rattle.kannala_brandt.proofs.dx_distort_params.Reads as dx-distort-params-contract

-- Any two answers to one call that the contract of an operation permits are equal, for each of the four.
pub determined :
    Determined distort-contract.Post × Determined undistort-contract.Post
    × Determined dx-distort-x-contract.Post × Determined dx-distort-params-contract.Post
determined = (
  λ κ a s s' r r' p q. p ∙ sym q,
  λ κ a s s' r r' p q. p ∙ sym q,
  λ κ a s s' r r' p q. p ∙ sym q,
  λ κ a s s' r r' p q. p ∙ sym q,
)

-- ---- whatever stands for arctangent and tangent

both_true : (a b : Bool) → (a && b) ≡ true → (a ≡ true) × (b ≡ true)
both_true true b h = (refl, h)
both_true false b h = absurd (true≢false (sym h))

module _ (params : KannalaBrandtParams) where
  -- Two arctangents that agree on a point's radius give it the same pixel and the same derivatives: once the arctangent's result is given, kb's answers are.
  pub given_arctangent :
      (point : Point) (f g : Float → Float) → f (root (squared_radius point.0 point.1)) ≡ g (root (squared_radius point.0 point.1))
      → (distort f params point ≡ distort g params point)
      × (dx_distort_x f params point ≡ dx_distort_x g params point)
      × (dx_distort_params f params point ≡ dx_distort_params g params point)
  given_arctangent point f g e = (rw e refl, rw e refl, rw e refl)

  -- Both derivatives as the Rust's text has them, with its factors of 1, its c8 * c6 and its size of the squared radius, give the bits that ours give:
  -- for every point, NaN and infinities among the numbers, whatever stands for the arctangent.
  pub as_written :
      (point : Point) (f : Float → Float)
      → (dx_distort_x_as_written f params point ≡ dx_distort_x f params point)
      × (dx_distort_params_as_written f params point ≡ dx_distort_params f params point)
  as_written point f = (x_written f params point, params_written f params point)

  module _ (pixel : Pixel) where
    -- where Newton ends
    abbrev end : Reached
    end = newton params (root (rth2 params pixel))

    -- Two tangents that agree on the angle where Newton ends give the pixel the same answer.
    pub given_tangent : (f g : Float → Option Float) → f end.th ≡ g end.th → undistort f params pixel ≡ undistort g params pixel
    given_tangent f g e = rw e refl

    -- Near the axis the answer is (un, vn), with 0 updates and the flag yes.
    pub near_axis :
        (f : Float → Option Float) → le (rth2 params pixel) eps ≡ true → undistort f params pixel ≡ Ok (direct (xy (un_of params pixel) (vn_of params pixel)))
    near_axis f h = rw h refl

    -- Elsewhere it is refused, always with 10, exactly if the angle where Newton ends has no tangent.
    pub refused_exactly :
        (f : Float → Option Float) (r : Refusal)
        → (undistort f params pixel ≡ Err r) ↔ ((r ≡ AngleTooLarge) × (le (rth2 params pixel) eps ≡ false) × (f end.th ≡ None))
    refused_exactly f r = (forth (le (rth2 params pixel) eps) refl (f end.th) refl, λ h. rw (h.0, h.1, h.2) refl)
      where
        forth :
            (b : Bool) → le (rth2 params pixel) eps ≡ b → (s : Option Float) → f end.th ≡ s
            → undistort f params pixel ≡ Err r → (r ≡ AngleTooLarge) × (le (rth2 params pixel) eps ≡ false) × (f end.th ≡ None)
        forth true near s e h = let z : ◌≡◌ {A = ℕ} 0 1 = cc (near_axis f near) in absurd (omega arith)
        forth false far (Some t) e h = let k = rw (far, e) at h in let z : ◌≡◌ {A = ℕ} 0 1 = cc in absurd (omega arith)
        forth false far None e h = let k = rw (far, e) at h in (cc, far, e)

    -- The flag of an answered pixel says yes exactly where the answer is the direct one, or where Newton's last step passed its test and the angle it
    -- ended at is above 0.
    pub flag_exactly :
        (f : Float → Option Float) (s : Settled) → undistort f params pixel ≡ Ok s
        → (s.flag ≡ true) ↔ ((le (rth2 params pixel) eps ≡ true) ⊎ ((end.ended ≡ true) × (lt zeros end.th ≡ true)))
    flag_exactly f s h = go (le (rth2 params pixel) eps) refl (f end.th) refl
      where
        same : (told (undistort f params pixel)).settled.flag ≡ s.flag
        same = ap (λ (u : Undistorted). (told u).settled.flag) h

        Exactly : Type 0
        Exactly = (s.flag ≡ true) ↔ ((le (rth2 params pixel) eps ≡ true) ⊎ ((end.ended ≡ true) × (lt zeros end.th ≡ true)))

        go : (b : Bool) → le (rth2 params pixel) eps ≡ b → (t : Option Float) → f end.th ≡ t → Exactly
        go true near t e = (λ y. inl near, λ y. sym (rw near at same))
        go false far None e = let k = rw (far, e) at h in let z : ◌≡◌ {A = ℕ} 0 1 = cc in absurd (omega arith)
        go false far (Some t) e =
            let k : flag end ≡ s.flag = rw (far, e) at same in (
              λ y. inr (both_true end.ended (lt zeros end.th) (k ∙ y)),
              λ y. elim y [ inl near ↦ absurd (true≢false (sym near ∙ far)) | inr p ↦ sym k ∙ rw (p.0, p.1) refl ],
            )

    -- Request P2 changed the flag and nothing else: refusals, points and updates are those of the rule before it, and where the flag says yes it did so before.
    pub flag_only :
        (f : Float → Option Float)
        → ((told (undistort f params pixel)).number ≡ (told (undistort_before f params pixel)).number)
        × ((told (undistort f params pixel)).settled.point ≡ (told (undistort_before f params pixel)).settled.point)
        × ((told (undistort f params pixel)).settled.updates ≡ (told (undistort_before f params pixel)).settled.updates)
        × ((told (undistort f params pixel)).settled.flag ≡ true → (told (undistort_before f params pixel)).settled.flag ≡ true)
    flag_only f = go (le (rth2 params pixel) eps) (f end.th)
      where
        said : (Reached → Bool) → Bool → Option Float → Undistorted
        said settles b t =
            cond b (Ok (direct (xy (un_of params pixel) (vn_of params pixel))))
            (outward_by settles t end (root (rth2 params pixel)) (un_of params pixel) (vn_of params pixel))

        go :
            (b : Bool) (t : Option Float)
            → ((told (said flag b t)).number ≡ (told (said flag_before b t)).number)
            × ((told (said flag b t)).settled.point ≡ (told (said flag_before b t)).settled.point)
            × ((told (said flag b t)).settled.updates ≡ (told (said flag_before b t)).settled.updates)
            × ((told (said flag b t)).settled.flag ≡ true → (told (said flag_before b t)).settled.flag ≡ true)
        go true t = (refl, refl, refl, λ y. y)
        go false None = (refl, refl, refl, λ y. y)
        go false (Some t) = (refl, refl, refl, λ y. (both_true end.ended (lt zeros end.th) y).0)

    -- No undistort makes more than 20 updates.
    pub updates_limit : (f : Float → Option Float) → (told (undistort f params pixel)).settled.updates ≤ 20
    unfolding newton
    updates_limit f = go (le (rth2 params pixel) eps) (f end.th)
      where
        most : end.updates ≤ 20
        most =
            let rth = root (rth2 params pixel) in
            passes_most (pass params rth) ended updates (λ (at : Reached). omega (arith, one_update params rth at)) limit (start rth)

        near : Undistorted
        near = Ok (direct (xy (un_of params pixel) (vn_of params pixel)))

        far : Option Float → Undistorted
        far s = outward s end (root (rth2 params pixel)) (un_of params pixel) (vn_of params pixel)

        go : (b : Bool) (s : Option Float) → (told (cond b near (far s))).settled.updates ≤ 20
        go true s = lit≤ tt
        go false (Some t) = most
        go false None = lit≤ tt

-- ---- the numbers to check by hand: whatever stands for arctangent and tangent

-- The camera 1000 1000 320 280 with no distortion sends (0, 0) to (320, 280), and back with 0 updates and the flag yes.
pub by_hand :
    (f : Float → Float) (g : Float → Option Float)
    → (distort f (camera (int 1000) (int 1000) (int 320) (int 280) (int 0) (int 0) (int 0) (int 0)) (xy (int 0) (int 0)) ≡ uv (int 320) (int 280))
    × (undistort g (camera (int 1000) (int 1000) (int 320) (int 280) (int 0) (int 0) (int 0) (int 0)) (uv (int 320) (int 280))
    ≡ Ok (direct (xy (int 0) (int 0))))
unfolding add sub mul div le of_bits of_int
by_hand f g = (refl, refl)

-- Off the axis the camera 10 10 1 2 with k0 = 1.5 sends (3, 4), whose radius is 5, to (16, 22), if the arctangent of 5 is 1: the angle is bent to
-- 1 + 1.5 and the scale 2.5 · (1/5) = 1/2.
pub by_hand_bent :
    (f : Float → Float) → f (int 5) ≡ int 1
    → distort f (camera (int 10) (int 10) (int 1) (int 2) (halves 3) (int 0) (int 0) (int 0)) (xy (int 3) (int 4)) ≡ uv (int 16) (int 22)
by_hand_bent f h = bent_distorted f h

-- The camera 4 4 1 2 with k0 = -2 sends the pixel (2, 2), whose radius is 1/4, to (3/4, 0), with 1 update and the flag yes, if the tangent of 1/2 is 3/4:
-- Newton begins at 1/2, the root of 1/4, which is bent to 1/2 · (1 - 2/4) = 1/4, and its step is 0.
pub by_hand_unbent :
    (g : Float → Option Float) → g (halves 1) ≡ Some (quarters 3)
    → undistort g (camera (int 4) (int 4) (int 1) (int 2) (minus (int 2)) (int 0) (int 0) (int 0)) (uv (int 2) (int 2))
    ≡ Ok record { point = xy (quarters 3) (int 0); updates = 1; flag = true }
by_hand_unbent g h = bent_undistorted g h
