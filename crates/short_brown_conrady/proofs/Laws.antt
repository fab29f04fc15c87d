-- What a caller may rely on, of the definitions of specs/ and of the contracts of src/:
-- for a camera whose k4, k5 and k6 are zeros of either sign the short functions stand for
-- brown_conrady's, at every point and pixel. Assumes nothing.
use mathlib.Core.Path.{◌≡◌, refl, sym, ap, ◌∙◌, subst}
use mathlib.Core.Logic.{◌⊎◌}
use mathlib.Core.Bool.{Bool, true, false, cond, ◌&&◌}
use mathlib.Core.List.{List, [], ◌∷◌}
use Prim.Native.Nat.{◌≤◌}
use lib.Dec.{T}
use lib.ListN.{replicate}
use lib.Ieee.{Float, of_bits, of_int}
use lib.Ieee.Scale.{finite}
use Rattle.exact.specs.Alike.{◌≐◌, same, AllAlike}
use Rattle.exact.specs.Determined.{Determined}
use Rattle.exact.specs.F64.{f64, is_zero, ◌⊕◌, ◌⊗◌}
use Rattle.exact.proofs.Alike.{≐-refl, ≐-finite, ◌⟨⊗⟩◌, all_alike}
use Rattle.exact.proofs.Operations.{sum_finite, product_finite}
use Rattle.lens.specs.Constants.{zeros, int}
use Rattle.lens.specs.Finite.{all_finite}
use Rattle.lens.specs.Fits.{Fit}
use Rattle.lens.specs.Jacobian.{two_rows}
use Rattle.lens.specs.declared.Pixel.{Pixel}
use Rattle.lens.specs.declared.Point.{Point}
use Rattle.affine.specs.Affine as affine
use Rattle.brown_conrady.specs.BrownConrady as full
use Rattle.brown_conrady.specs.declared.BrownConradyParams.{BrownConradyParams}
use Rattle.brown_conrady.specs.declared.Offset.{Offset}
use Rattle.lens.specs.Alike.{AlikeJacobians, AlikeSettled}
use Rattle.short_brown_conrady.specs.Path.{distort_numbers, dx_distort_x_numbers, undistort_numbers}
use Rattle.short_brown_conrady.specs.ShortBrownConrady.{no_quotient, distortion, distort, slopes_at, dx_distort_x}
use Rattle.short_brown_conrady.specs.ShortBrownConrady.{f_xy, newton, distorted_of, undistort}
use Rattle.short_brown_conrady.specs.declared.Tracked.{Tracked}
use Rattle.short_brown_conrady.proofs.Fits.{most_updates}
use Rattle.short_brown_conrady.proofs.Full.{zeros_of, powers, distortion_same, slopes_alike, one_by}
use Rattle.short_brown_conrady.proofs.Full.{newton_ended}
use Rattle.short_brown_conrady.proofs.Path.{entries, distort_either, dx_distort_x_either, undistort_either}
use Rattle.short_brown_conrady.proofs.no_quotient.Reads as no-quotient-contract
use Rattle.short_brown_conrady.proofs.distort.Reads as distort-contract
use Rattle.short_brown_conrady.proofs.undistort.Reads as undistort-contract
use Rattle.short_brown_conrady.proofs.dx_distort_x.Reads as dx-distort-x-contract

-- Any two answers to one call that the contract of a function permits are equal, for each of the four.
pub determined : Determined no-quotient-contract.Post × Determined distort-contract.Post
    × Determined undistort-contract.Post × Determined dx-distort-x-contract.Post
determined = (
  λ κ a s s' r r' p q. p ∙ sym q,
  λ κ a s s' r r' p q. p ∙ sym q,
  λ κ a s s' r r' p q. p ∙ sym q,
  λ κ a s s' r r' p q. p ∙ sym q,
)

-- ---- a number that isn't finite, wherever it turns up on the short path, sends the point to the full engine; there
-- is no bound beside that

-- All numbers of a distort are finite, or the answer is the full engine's.
pub distort_finite_or_full : (params : BrownConradyParams) (point : Point)
    → T (all_finite (distort_numbers params point)) ⊎ (distort params point ≡ full.distort params point)
distort_finite_or_full = distort_either

-- So with the derivative,
pub dx_distort_x_finite_or_full : (params : BrownConradyParams) (point : Point)
    → T (all_finite (dx_distort_x_numbers params point)) ⊎ (dx_distort_x params point ≡ full.dx_distort_x params point)
dx_distort_x_finite_or_full = dx_distort_x_either

-- and with all passes of an undistort.
pub undistort_finite_or_full : (params : BrownConradyParams) (pixel : Pixel)
    → T (all_finite (undistort_numbers params pixel)) ⊎ (undistort params pixel ≡ full.undistort params pixel)
undistort_finite_or_full = undistort_either

finite_alike : (xs ys : List Float) → AllAlike xs ys → all_finite xs ≡ all_finite ys
unfolding all_finite
finite_alike [] [] h = refl
finite_alike [] (y ∷ ys) h = absurd h
finite_alike (x ∷ xs) [] h = absurd h
finite_alike (x ∷ xs) (y ∷ ys) h = ap (λ (b : Bool). b && all_finite xs) (≐-finite h.0)
    ∙ ap (λ (b : Bool). finite y && b) (finite_alike xs ys h.1)

module _ (params : BrownConradyParams) (z : no_quotient params ≡ true) where
  -- ---- the short engine is the full one

  -- Distort gives the full one's pixel, bit by bit.
  pub distort_short_is_full : (point : Point) → distort params point ≡ full.distort params point
  distort_short_is_full point = go (finite (short.0 ⊕ short.1)) refl
    where
      short : Pixel
      short = affine.distort (full.affine_params params) (distortion params point)

      go : (b : Bool) → finite (short.0 ⊕ short.1) ≡ b → cond b short (full.distort params point)
          ≡ full.distort params point
      go false e = refl
      go true e =
          let u = (sum_finite _ _ (subst T (sym e) tt)).0 in
          let x = (product_finite _ _ (sum_finite _ _ u).0).0 in
          ap (affine.distort (full.affine_params params))
          (distortion_same params (zeros_of params z) point (powers params point x))

  -- Undistort gives the full one's point, the sign of a zero aside, with its updates and its flag.
  pub undistort_short_is_full : (pixel : Pixel) → AlikeSettled (undistort params pixel) (full.undistort params pixel)
  undistort_short_is_full pixel = go (finite (f.0 ⊕ f.1 ⊕ last.last)) refl
    where
      distorted : Point
      distorted = distorted_of params pixel

      last : Tracked
      last = newton params distorted

      f : Offset
      f = f_xy params distorted last.search.xy

      go :
          (b : Bool) → finite (f.0 ⊕ f.1 ⊕ last.last) ≡ b
          → AlikeSettled (cond b (record {
            point = last.search.xy;
            updates = last.search.updates;
            flag =
                full.small f;
          }) (full.undistort params pixel)) (full.undistort params pixel)
      go false e = record { point = record { x = ≐-refl; y = ≐-refl }; updates = refl; flag = refl }
      go true e =
          let tested = sum_finite _ _ (subst T (sym e) tt) in
          let n = newton_ended params (zeros_of params z) distorted (sum_finite _ _ tested.0).0 tested.1 in
          record { point = n.ends.xy; updates = n.ends.updates; flag = n.flag }

  -- Dx_distort_x gives the full one's numbers, the sign of a zero aside. That fx and fy are f64s is so of every
  -- camera's.
  pub dx_distort_x_short_is_full : Fit params.fx → Fit params.fy → (point : Point)
      → AlikeJacobians (dx_distort_x params point) (full.dx_distort_x params point)
  dx_distort_x_short_is_full fx fy point = go (finite (ux ⊕ uy ⊕ vx ⊕ vy)) refl
    where
      ux : Float
      ux = params.fx ⊗ (slopes_at params point).ux

      uy : Float
      uy = params.fx ⊗ (slopes_at params point).uy

      vx : Float
      vx = params.fy ⊗ (slopes_at params point).vx

      vy : Float
      vy = params.fy ⊗ (slopes_at params point).vy

      go :
          (b : Bool) → finite (ux ⊕ uy ⊕ vx ⊕ vy) ≡ b
          → AlikeJacobians (cond b (two_rows (ux ∷ uy ∷ []) (vx ∷ vy ∷ [])) (full.dx_distort_x params point))
          (full.dx_distort_x params point)
      go false e = record { entries = all_alike (full.dx_distort_x params point).entries; columns = refl }
      go true e =
          let h = entries params point (subst T (sym e) tt) in
          let s = slopes_alike params (zeros_of params z) point point (record { x = ≐-refl; y = ≐-refl })
          (product_finite _ _ h.ux).1 (product_finite _ _ h.uy).1 (product_finite _ _ h.vy).1 in
          let c18 : params.fx ≐ (full.slopes_at params point).c7 ⊗ params.fx = same (sym (one_by _ _ s.c7 fx)) in
          let c22 : params.fy ≐ (full.slopes_at params point).c7 ⊗ params.fy = same (sym (one_by _ _ s.c7 fy)) in
          record {
            entries = (
              c18 ⟨⊗⟩ s.ux,
              (
                c18 ⟨⊗⟩ s.uy,
                (c22 ⟨⊗⟩ s.vx, (c22 ⟨⊗⟩ s.vy, all_alike (replicate 28 zeros))),
              ),
            );
            columns = refl;
          }

  -- ---- so refusals are as they were

  -- The point that undistort gives is finite exactly where the full one's is.
  pub undistort_refused_alike :
      (pixel : Pixel) →
      (finite (undistort params pixel).point.0 && finite (undistort params pixel).point.1)
      ≡ (finite (full.undistort params pixel).point.0 && finite (full.undistort params pixel).point.1)
  undistort_refused_alike pixel =
      let h = (undistort_short_is_full pixel).point in
      ap (λ (b : Bool). b && finite (undistort params pixel).point.1) (≐-finite h.x)
      ∙ ap (λ (b : Bool). finite (full.undistort params pixel).point.0 && b) (≐-finite h.y)

  -- The numbers of dx_distort_x are finite exactly where the full one's are.
  pub dx_distort_x_refused_alike :
      Fit params.fx → Fit params.fy → (point : Point)
      → all_finite (dx_distort_x params point).entries ≡ all_finite (full.dx_distort_x params point).entries
  dx_distort_x_refused_alike fx fy point = finite_alike _ _ (dx_distort_x_short_is_full fx fy point).entries

-- Undistort takes at most 50 updates, as the full one does, whatever the camera is.
pub undistort_updates_limit : (params : BrownConradyParams) (pixel : Pixel) → (undistort params pixel).updates ≤ 50
undistort_updates_limit = most_updates

-- ---- by hand

abbrev with_k4 : Float → BrownConradyParams
with_k4 k4 = full.camera (int 1) (int 1) (int 0) (int 0) (int 0) (int 0) (int 0) (int 0) (int 0) k4 (int 0) (int 0)

-- A k4 of +0 or -0 is a zero, and one of 1e-300 is none.
pub zeros_by_hand : (no_quotient (with_k4 (f64 0)) ≡ true)
    × (no_quotient (with_k4 (f64 0x8000_0000_0000_0000)) ≡ true)
    × (no_quotient (with_k4 (f64 0x01a5_6e1f_c2f8_f359)) ≡ false)
unfolding is_zero of_bits of_int
zeros_by_hand = (refl, refl, refl)
