-- A prism of zeros adds zeros where r⁴ is finite, and elsewhere bc's numbers are NaN, to which nothing can be added: so bc12 gives what bc gives, but for the signs of zeros. Assumes nothing.
use mathlib.Core.Path.{◌≡◌, refl, sym, ◌∙◌}
use mathlib.Core.Bool.{Bool, true, false, false≢true}
use lib.Dec.{T}
use lib.Ieee.{Float, nan, binary64, of_int}
use lib.Ieee.Fits.{add-fits, mul-fits}
use lib.Ieee.Scale.{finite}
use lib.ListN.{replicate}
use Rattle.exact.specs.Alike.{◌≐◌, same}
use Rattle.exact.specs.F64.{◌⊕◌, ◌⊗◌, is_zero}
use Rattle.exact.proofs.Alike.{its, ≐-sym, ≐-trans, all_alike, plus_zero, ◌⟨⊕⟩◌, ◌⟨⊖⟩◌, ◌⟨⊗⟩◌}
use Rattle.exact.proofs.Operations.{sum_finite, product_finite}
use Rattle.exact.proofs.Zeros.{zero_plus_zero, zero_times, times_zero}
use Rattle.lens.specs.Alike.{AlikePoints, AlikePixels, AlikeJacobians, AlikeSettled}
use Rattle.lens.specs.Constants.{zeros, int}
use Rattle.lens.specs.Fits.{Fit}
use Rattle.lens.specs.Radius.{squared_radius}
use Rattle.lens.specs.declared.Pixel.{Pixel}
use Rattle.lens.specs.declared.Point.{Point}
use Rattle.affine.specs.Affine as affine
use Rattle.brown_conrady.specs.BrownConrady as bc
use Rattle.brown_conrady.specs.BrownConrady.{affine_params, slopes_at}
use Rattle.brown_conrady.specs.declared.Slopes.{Slopes}
use Rattle.brown_conrady.proofs.Alike.{AlikeOffsets, distortion_kept, slopes_kept, solve_kept, small_kept, newton_alike}
use Rattle.brown_conrady.proofs.Wild.{Lost, nan_plus, distortion_nan, slopes_lost, gone_wild, scaled_nan}
use Rattle.thin_prism.specs.ThinPrism.{NoPrism, distortion, distort, prism_slopes_at, dx_distort_x, f_xy, step_from, undistort}
use Rattle.thin_prism.specs.declared.PrismSlopes.{PrismSlopes}
use Rattle.thin_prism.specs.declared.ThinPrismParams.{ThinPrismParams}

-- ---- nothing added

two_zeros : (d y z : Float) → Fit d → is_zero y ≡ true → is_zero z ≡ true → d ⊕ y ⊕ z ≐ d
two_zeros d y z f p q = ≐-trans (plus_zero (d ⊕ y) z (add-fits binary64 d y) q) (plus_zero d y f p)

nan_same : {x y : Float} → x ≡ nan → y ≡ nan → x ≐ y
nan_same p q = same (p ∙ sym q)

decided : (b : Bool) → (b ≡ true → T b) × (b ≡ false → ¬ T b)
decided true = (λ (e : true ≡ true). tt, λ e t. absurd (false≢true (sym e)))
decided false = (λ (e : false ≡ true). absurd (false≢true e), λ e t. t)

abbrev r⁴ : Point → Float
r⁴ point = squared_radius point.0 point.1 ⊗ squared_radius point.0 point.1

-- r⁴ is finite, or not
by_r⁴ : {A : Type 0} (point : Point) → (T (finite (r⁴ point)) → A) → (¬ T (finite (r⁴ point)) → A) → A
by_r⁴ {A} point held lost = go (finite (r⁴ point)) refl
  where
    go : (b : Bool) → finite (r⁴ point) ≡ b → A
    go true e = held ((decided (finite (r⁴ point))).0 e)
    go false e = lost ((decided (finite (r⁴ point))).1 e)

two_finite : T (finite (int 2))
unfolding of_int
two_finite = tt

-- the prism's slopes are zeros
pub record FlatSlopes (t : PrismSlopes) : Type 0 where
  pub ux : is_zero t.ux ≡ true
  pub uy : is_zero t.uy ≡ true
  pub vx : is_zero t.vx ≡ true
  pub vy : is_zero t.vy ≡ true

module _ (params : ThinPrismParams) (zs : NoPrism params) (point : Point) where
  abbrev r² : Float
  r² = squared_radius point.0 point.1

  -- ---- the distorted point

  pub distortion_zero : AlikePoints (bc.distortion params.bc point) (distortion params point)
  distortion_zero = by_r⁴ point finite_one wild_one
    where
      finite_one : T (finite (r⁴ point)) → AlikePoints (bc.distortion params.bc point) (distortion params point)
      finite_one t =
          let r = (product_finite r² r² t).0 in
          unfold distortion bc.distortion in
          record {
            x = ≐-sym (two_zeros _ _ _ (add-fits binary64 _ _) (zero_times params.s1 r² zs.s1 r) (zero_times params.s2 (r⁴ point) zs.s2 t));
            y = ≐-sym (two_zeros _ _ _ (add-fits binary64 _ _) (zero_times params.s3 r² zs.s3 r) (zero_times params.s4 (r⁴ point) zs.s4 t));
          }

      wild_one : ¬ T (finite (r⁴ point)) → AlikePoints (bc.distortion params.bc point) (distortion params point)
      wild_one w =
          let n = distortion_nan params.bc point w in
          unfold distortion in
          record { x = nan_same n.0 (nan_plus _ (nan_plus _ n.0)); y = nan_same n.1 (nan_plus _ (nan_plus _ n.1)) }

  -- ---- the slopes

  flat : T (finite (r⁴ point)) → FlatSlopes (prism_slopes_at params point)
  unfolding prism_slopes_at
  flat t =
      let r = (product_finite r² r² t).0 in
      let squares = sum_finite (point.0 ⊗ point.0) (point.1 ⊗ point.1) r in
      let x = (product_finite point.0 point.0 squares.0).0 in
      let y = (product_finite point.1 point.1 squares.1).0 in
      let u = times_zero (int 2) _ two_finite (zero_plus_zero params.s1 _ zs.s1 (zero_times (int 2 ⊗ params.s2) r² (times_zero (int 2) params.s2 two_finite zs.s2) r)) in
      let v = times_zero (int 2) _ two_finite (zero_plus_zero params.s3 _ zs.s3 (zero_times (int 2 ⊗ params.s4) r² (times_zero (int 2) params.s4 two_finite zs.s4) r)) in
      record {
        ux = zero_times _ point.0 u x;
        uy = zero_times _ point.1 u y;
        vx = zero_times _ point.0 v x;
        vy = zero_times _ point.1 v y;
      }

  module _ (P : Slopes → PrismSlopes → Type 0) (zero : (s : Slopes) (t : PrismSlopes) → FlatSlopes t → P s t) (lost : (s : Slopes) (t : PrismSlopes) → Lost s → P s t) where
    -- what holds with the prism's slopes at zero, and where bc's are lost
    slopes_either : P (slopes_at params.bc point) (prism_slopes_at params point)
    slopes_either = by_r⁴ point (λ t. zero _ _ (flat t)) (λ w. lost _ _ (slopes_lost params.bc point w))

-- the matrix of a Newton step, with the prism's slopes and without them
pub record SameMatrix (s : Slopes) (t : PrismSlopes) : Type 0 where
  pub ux : s.c7 ⊗ s.ux ≐ s.c7 ⊗ s.ux ⊕ t.ux
  pub uy : s.c7 ⊗ s.uy ≐ s.c7 ⊗ s.uy ⊕ t.uy
  pub vx : s.c7 ⊗ s.vx ≐ s.c7 ⊗ s.vx ⊕ t.vx
  pub vy : s.c7 ⊗ s.vy ≐ s.c7 ⊗ s.vy ⊕ t.vy

zero_added : (c x z : Float) → is_zero z ≡ true → c ⊗ x ≐ c ⊗ x ⊕ z
zero_added c x z p = ≐-sym (plus_zero (c ⊗ x) z (mul-fits binary64 c x) p)

matrix_flat : (s : Slopes) (t : PrismSlopes) → FlatSlopes t → SameMatrix s t
matrix_flat s t z = record {
  ux = zero_added s.c7 s.ux t.ux z.ux;
  uy = zero_added s.c7 s.uy t.uy z.uy;
  vx = zero_added s.c7 s.vx t.vx z.vx;
  vy = zero_added s.c7 s.vy t.vy z.vy;
}

nan_added : {x : Float} (y : Float) → x ≡ nan → x ≐ x ⊕ y
nan_added y n = same (n ∙ sym (nan_plus y n))

matrix_lost : (s : Slopes) (t : PrismSlopes) → Lost s → SameMatrix s t
matrix_lost s t l = record {
  ux = nan_added t.ux (gone_wild s.c7 s.ux l.c7 l.ux);
  uy = nan_added t.uy (gone_wild s.c7 s.uy l.c7 l.uy);
  vx = nan_added t.vx (gone_wild s.c7 s.vx l.c7 l.vx);
  vy = nan_added t.vy (gone_wild s.c7 s.vy l.c7 l.vy);
}

-- the derivative by the point, of a camera with fx and fy
module _ (fx fy : Float) (FX : T (finite fx)) (FY : T (finite fy)) where
  pub record SameRows (s : Slopes) (t : PrismSlopes) : Type 0 where
    pub ux : s.c7 ⊗ fx ⊗ s.ux ≐ s.c7 ⊗ fx ⊗ s.ux ⊕ t.ux ⊗ fx
    pub uy : s.c7 ⊗ fx ⊗ s.uy ≐ s.c7 ⊗ fx ⊗ s.uy ⊕ t.uy ⊗ fx
    pub vx : s.c7 ⊗ fy ⊗ s.vx ≐ s.c7 ⊗ fy ⊗ s.vx ⊕ t.vx ⊗ fy
    pub vy : s.c7 ⊗ fy ⊗ s.vy ≐ s.c7 ⊗ fy ⊗ s.vy ⊕ t.vy ⊗ fy

  rows_flat : (s : Slopes) (t : PrismSlopes) → FlatSlopes t → SameRows s t
  rows_flat s t z = record {
    ux = zero_added (s.c7 ⊗ fx) s.ux _ (zero_times t.ux fx z.ux FX);
    uy = zero_added (s.c7 ⊗ fx) s.uy _ (zero_times t.uy fx z.uy FX);
    vx = zero_added (s.c7 ⊗ fy) s.vx _ (zero_times t.vx fy z.vx FY);
    vy = zero_added (s.c7 ⊗ fy) s.vy _ (zero_times t.vy fy z.vy FY);
  }

  rows_lost : (s : Slopes) (t : PrismSlopes) → Lost s → SameRows s t
  rows_lost s t l = record {
    ux = nan_added (t.ux ⊗ fx) (scaled_nan s.c7 fx s.ux l.c7 l.ux);
    uy = nan_added (t.uy ⊗ fx) (scaled_nan s.c7 fx s.uy l.c7 l.uy);
    vx = nan_added (t.vx ⊗ fy) (scaled_nan s.c7 fy s.vx l.c7 l.vx);
    vy = nan_added (t.vy ⊗ fy) (scaled_nan s.c7 fy s.vy l.c7 l.vy);
  }

-- ---- the operations

module _ (params : ThinPrismParams) (zs : NoPrism params) where
  pub distort_zero : (point : Point) → AlikePixels (bc.distort params.bc point) (distort params point)
  distort_zero point =
      let d = distortion_zero params zs point in
      record { u = d.x ⟨⊗⟩ its params.bc.fx ⟨⊕⟩ its params.bc.cx; v = d.y ⟨⊗⟩ its params.bc.fy ⟨⊕⟩ its params.bc.cy }

  pub dx_distort_x_zero : (point : Point) → T (finite params.bc.fx) → T (finite params.bc.fy) → AlikeJacobians (bc.dx_distort_x params.bc point) (dx_distort_x params point)
  dx_distort_x_zero point FX FY =
      let fx = params.bc.fx in
      let fy = params.bc.fy in
      let rows = slopes_either params zs point (SameRows fx fy FX FY) (rows_flat fx fy FX FY) (rows_lost fx fy FX FY) in
      record { entries = (rows.ux, (rows.uy, (rows.vx, (rows.vy, all_alike (replicate 28 zeros))))); columns = refl }

  -- at points that are alike
  module _ (distorted p q : Point) (h : AlikePoints p q) where
    f_xy_zero : AlikeOffsets (bc.f_xy params.bc distorted p) (f_xy params distorted q)
    f_xy_zero =
        let k = distortion_kept params.bc h in
        let d = distortion_zero params zs q in
        record { x = ≐-trans k.x d.x ⟨⊖⟩ its distorted.0; y = ≐-trans k.y d.y ⟨⊖⟩ its distorted.1 }

    step_zero : T (finite (bc.step_from params.bc distorted p).0) → AlikeOffsets (bc.step_from params.bc distorted p) (step_from params distorted q)
    unfolding bc.step_from step_from
    step_zero t =
        let k = slopes_kept params.bc h in
        let m = slopes_either params zs q SameMatrix matrix_flat matrix_lost in
        solve_kept (≐-trans (k.c7 ⟨⊗⟩ k.ux) m.ux) (≐-trans (k.c7 ⟨⊗⟩ k.uy) m.uy) (≐-trans (k.c7 ⟨⊗⟩ k.vx) m.vx) (≐-trans (k.c7 ⟨⊗⟩ k.vy) m.vy) f_xy_zero t

  pub undistort_zero : (pixel : Pixel) → T (finite (bc.undistort params.bc pixel).point.0) → AlikeSettled (bc.undistort params.bc pixel) (undistort params pixel)
  undistort_zero pixel t =
      let distorted = (affine.undistort (affine_params params.bc) pixel).point in
      let at = newton_alike (bc.step_from params.bc distorted) (step_from params distorted) (step_zero distorted) distorted t in
      record { point = at.xy; updates = at.updates; flag = small_kept (f_xy_zero distorted _ _ at.xy) }
