-- What the tests see: where they pass, every number of the short path is finite. So one that isn't, wherever it turns up, sends the point to the full engine. Assumes nothing.
use mathlib.Core.Path.{◌≡◌, refl, sym, ap, ◌∙◌, subst}
use mathlib.Core.Logic.{◌⊎◌, inl, inr}
use mathlib.Core.Bool.{Bool, true, false, cond, true≢false}
use mathlib.Core.List.{List, [], ◌∷◌, ◌++◌}
use Prim.Native.Nat.{ℕ, zero, suc}
use lib.Dec.{T}
use lib.Ieee.{Float, nan, inf, fin, div, le, add, mul, of_bits, of_int, is_nan}
use lib.Ieee.Fits.{and_i}
use lib.Ieee.Scale.{finite}
use Rattle.exact.specs.Alike.{both_zero}
use Rattle.exact.specs.F64.{f64, ◌⊕◌, ◌⊖◌, ◌⊗◌, ◌⊘◌, is_zero}
use Rattle.exact.proofs.Operations.{sum_finite, neg_finite, minus_finite, difference_finite, product_finite, quotient_finite}
use Rattle.exact.proofs.Zeros.{zero_plus_zero, zero_times, times_zero}
use Rattle.formula.specs.Term.{rounded, denominators}
use Rattle.lens.specs.Constants.{ones}
use Rattle.lens.specs.Finite.{all_finite}
use Rattle.lens.specs.Jacobian.{two_rows}
use Rattle.lens.specs.Passes.{passes}
use Rattle.lens.specs.declared.Pixel.{Pixel}
use Rattle.lens.specs.declared.Point.{Point}
use Rattle.affine.specs.Affine as affine
use Rattle.brown_conrady.specs.BrownConrady as full
use Rattle.brown_conrady.specs.Formula.{at}
use Rattle.brown_conrady.specs.declared.BrownConradyParams.{BrownConradyParams}
use Rattle.brown_conrady.specs.declared.Offset.{Offset}
use Rattle.brown_conrady.specs.declared.Search.{Search}
use Rattle.brown_conrady.proofs.Alike.{Both, both_apart, small_kept, small_finite, came_from}
use Rattle.brown_conrady.proofs.NoRoot.{last_bits, no_root}
use Rattle.brown_conrady.proofs.Steps.{from_next}
use Rattle.short_brown_conrady.specs.Path.{all_numbers, distort_numbers, dx_distort_x_numbers, step_at, by_x, by_y, step_numbers, search_numbers, undistort_numbers}
use Rattle.short_brown_conrady.specs.Polynomial.{xd0, yd0, u, v, ux, uy, vx, vy, u_point, v_point}
use Rattle.short_brown_conrady.specs.ShortBrownConrady.{distortion, distort, slopes_at, dx_distort_x, f_xy, step_from, by_step, pass, start, ended, newton, distorted_of, undistort}
use Rattle.short_brown_conrady.specs.declared.Tracked.{Tracked}
use Rattle.short_brown_conrady.proofs.Full.{Powers, powers, Reached, norm_at, nan_stays, is_pass, behind}
use Rattle.short_brown_conrady.proofs.Terms.{joined, all_throughout}

-- ---- a step that is finite and not small: its determinant is finite too, since an infinite one would have made the step a zero

inverse_zero : (d : Float) → finite d ≡ false → T (finite (ones ⊘ d)) → is_zero (ones ⊘ d) ≡ true
unfolding div is_zero of_bits
inverse_zero nan e t = absurd t
inverse_zero (inf s) e t = refl
inverse_zero (fin s m k) e t = absurd (true≢false e)

zeros_small : (by : Offset) → is_zero by.0 ≡ true → is_zero by.1 ≡ true → full.small by ≡ true
zeros_small by p q = small_kept {f = by} {g = record { 0 = f64 0; 1 = f64 0 }} (record { x = both_zero p at_zero; y = both_zero q at_zero }) ∙ no_root (f64 0) (f64 0) ∙ at_zeros
  where
    at_zero : is_zero (f64 0) ≡ true
    at_zero = unfold is_zero of_bits in refl

    at_zeros : le (f64 0 ⊗ f64 0 ⊕ f64 0 ⊗ f64 0) (f64 last_bits) ≡ true
    at_zeros = unfold le add mul of_bits in refl

module _ (params : BrownConradyParams) (distorted xy : Point) (s : T (finite (step_from params distorted xy).by.0)) (t : T (finite (step_from params distorted xy).by.1)) where
  -- all but the determinant
  record Parts : Type 0 where
    f0 : T (finite (f_xy params distorted xy).0)
    f1 : T (finite (f_xy params distorted xy).1)
    ux : T (finite (slopes_at params xy).ux)
    uy : T (finite (slopes_at params xy).uy)
    vx : T (finite (slopes_at params xy).vx)
    vy : T (finite (slopes_at params xy).vy)
    z : T (finite (ones ⊘ (step_from params distorted xy).det))

  parts : Parts
  unfolding step_from
  parts =
      let x = sum_finite _ _ s in
      let y = sum_finite _ _ t in
      let vyf = product_finite _ _ x.0 in
      let vy = product_finite _ _ vyf.0 in
      let uyf = product_finite _ _ x.1 in
      let uy = product_finite _ _ uyf.0 in
      let vx = product_finite _ _ (product_finite _ _ y.0).0 in
      let ux = product_finite _ _ (product_finite _ _ y.1).0 in
      record { f0 = vyf.1; f1 = uyf.1; ux = ux.0; uy = minus_finite _ uy.0; vx = minus_finite _ vx.0; vy = vy.0; z = vy.1 }

  stands : is_zero (ones ⊘ (step_from params distorted xy).det) ≡ true → full.small (step_from params distorted xy).by ≡ true
  unfolding step_from
  stands h =
      zeros_small _
      (zero_plus_zero _ _ (zero_times _ _ (times_zero _ _ parts.vy h) parts.f0) (zero_times _ _ (times_zero _ _ (neg_finite _ parts.uy) h) parts.f1))
      (zero_plus_zero _ _ (zero_times _ _ (times_zero _ _ (neg_finite _ parts.vx) h) parts.f0) (zero_times _ _ (times_zero _ _ parts.ux h) parts.f1))

  det_finite : full.small (step_from params distorted xy).by ≡ false → T (finite (step_from params distorted xy).det)
  det_finite h = go (finite (step_from params distorted xy).det) refl
    where
      go : (b : Bool) → finite (step_from params distorted xy).det ≡ b → T b
      go true e = tt
      go false e = true≢false (sym (stands (inverse_zero _ e parts.z)) ∙ h)

  -- the polynomials, and the step
  sent : T (all_finite (all_numbers (at params xy) (xd0 ∷ yd0 ∷ ux ∷ uy ∷ vx ∷ vy ∷ [])))
  unfolding distortion slopes_at denominators all_finite
  sent =
      let x = (difference_finite (distortion params xy).0 distorted.0 parts.f0).0 in
      let y = (difference_finite (distortion params xy).1 distorted.1 parts.f1).0 in
      all_throughout (at params xy) (xd0 ∷ yd0 ∷ ux ∷ uy ∷ vx ∷ vy ∷ [])
      (tt, x, (tt, y, (tt, parts.ux, (tt, parts.uy, (tt, parts.vx, (tt, parts.vy, tt))))))

  -- by-x and by-y divide twice by the determinant
  stepped : T (finite (step_from params distorted xy).det) → T (all_finite (all_numbers (step_at params distorted xy) (by_x ∷ by_y ∷ [])))
  unfolding step_from step_at rounded denominators all_finite of_bits of_int
  stepped d =
      let det = finite (step_from params distorted xy).det in
      let twice = and_i det _ d (and_i det _ d tt) in
      all_throughout (step_at params distorted xy) (by_x ∷ by_y ∷ []) (twice, s, (twice, t, tt))

  pub step_finite : T (finite (step_from params distorted xy).det) → T (all_finite (step_numbers params distorted xy))
  step_finite d = joined (all_numbers (at params xy) (xd0 ∷ yd0 ∷ ux ∷ uy ∷ vx ∷ vy ∷ [])) (all_numbers (step_at params distorted xy) (by_x ∷ by_y ∷ [])) sent (stepped d)

-- ---- all passes

module _ (params : BrownConradyParams) (distorted : Point) where
  abbrev next : Tracked → Tracked
  next at = pass params distorted at

  abbrev is_small : Tracked → Bool
  is_small at = full.small (by_step params distorted at.search.xy)

  ends_so : (at : Tracked) → is_nan (norm_at params distorted at) ≡ false → is_small at ≡ true → ended (next at) ≡ true
  unfolding pass full.pass_by
  ends_so at n e = rw (n, e) refl

  -- the step and its determinant, of a pass that ends the search and of one that doesn't
  abbrev Sound : Tracked → Type 0
  Sound at = Both (by_step params distorted at.search.xy).0 (by_step params distorted at.search.xy).1 × T (finite (step_from params distorted at.search.xy).det)

  at_end : (at : Tracked) → T (finite (next at).last) → Sound at
  unfolding pass
  at_end at t =
      let two = sum_finite _ _ t in
      let squares = sum_finite _ _ two.1 in
      (((product_finite _ _ squares.0).0, (product_finite _ _ squares.1).0), two.0)

  on_way : (at : Tracked) → ended (next at) ≡ false → Reached (next at) → Sound at
  on_way at e r = go (is_nan (norm_at params distorted at)) refl
    where
      large : (b : Bool) → is_small at ≡ b → is_nan (norm_at params distorted at) ≡ false → is_small at ≡ false
      large true h n = absurd (true≢false (sym (ends_so at n h) ∙ e))
      large false h n = h

      go : (b : Bool) → is_nan (norm_at params distorted at) ≡ b → Sound at
      go true n = absurd (true≢false (sym (ap full.ended (nan_stays params distorted at n)) ∙ e))
      go false n =
          let s = (came_from Both both_apart small_finite (by_step params distorted) at.search (subst (λ (s : Search). Both s.xy.0 s.xy.1) (is_pass params distorted at n) r)).1 in
          (s, det_finite params distorted at.search.xy s.0 s.1 (large (is_small at) refl n))

  pub search_finite : (n : ℕ) (at : Tracked) → Reached (passes next ended n at) → T (finite (passes next ended n at).last) → T (all_finite (search_numbers params distorted n at))
  unfolding passes search_numbers
  search_finite zero at r d = unfold all_finite in tt
  search_finite (suc n) at r d =
      let s = sound (ended (next at)) refl r d in
      joined (step_numbers params distorted at.search.xy) (cond (ended (next at)) [] (search_numbers params distorted n (next at)))
      (step_finite params distorted at.search.xy s.0.0 s.0.1 s.1) (rest (ended (next at)) (search_finite n (next at)) r d)
    where
      sound : (b : Bool) → ended (next at) ≡ b → Reached (cond b (next at) (passes next ended n (next at))) → T (finite (cond b (next at) (passes next ended n (next at))).last) → Sound at
      sound true e r d = at_end at d
      sound false e r d = on_way at e (from_next next ended Reached (behind params distorted) n at false r)

      rest :
          (b : Bool) → (Reached (passes next ended n (next at)) → T (finite (passes next ended n (next at)).last) → T (all_finite (search_numbers params distorted n (next at))))
          → Reached (cond b (next at) (passes next ended n (next at))) → T (finite (cond b (next at) (passes next ended n (next at))).last) → T (all_finite (cond b [] (search_numbers params distorted n (next at))))
      rest true k r d = unfold all_finite in tt
      rest false k r d = k r d

-- ---- each operation: its numbers are finite, or the answer is the full engine's

none : T (all_finite [])
unfolding all_finite
none = tt

more : (x : Float) (xs : List Float) → T (finite x) → T (all_finite xs) → T (all_finite (x ∷ xs))
unfolding all_finite
more x xs p q = and_i (finite x) (all_finite xs) p q

either : {A P : Type 0} (b : Bool) (x y : A) → (T b → P) → P ⊎ (cond b x y ≡ y)
either true x y k = inl (k tt)
either false x y k = inr refl

module _ (params : BrownConradyParams) where
  sent_finite : (point : Point) → T (finite (rounded (at params point) u)) → T (finite (rounded (at params point) v)) → T (all_finite (distort_numbers params point))
  unfolding denominators all_finite
  sent_finite point p q = all_throughout (at params point) (u ∷ v ∷ []) (tt, p, (tt, q, tt))

  pub distort_either : (point : Point) → T (all_finite (distort_numbers params point)) ⊎ (distort params point ≡ full.distort params point)
  unfolding distortion rounded
  distort_either point =
      let pixel = affine.distort (full.affine_params params) (distortion params point) in
      either (finite (pixel.0 ⊕ pixel.1)) pixel (full.distort params point) λ t.
      let both = sum_finite pixel.0 pixel.1 t in
      sent_finite point both.0 both.1

  -- the four numbers of the derivative
  pub record Entries (point : Point) : Type 0 where
    pub ux : T (finite (params.fx ⊗ (slopes_at params point).ux))
    pub uy : T (finite (params.fx ⊗ (slopes_at params point).uy))
    pub vx : T (finite (params.fy ⊗ (slopes_at params point).vx))
    pub vy : T (finite (params.fy ⊗ (slopes_at params point).vy))

  pub entries : (point : Point) → let s = slopes_at params point in T (finite (params.fx ⊗ s.ux ⊕ params.fx ⊗ s.uy ⊕ params.fy ⊗ s.vx ⊕ params.fy ⊗ s.vy)) → Entries point
  entries point t =
      let three = sum_finite _ _ t in
      let two = sum_finite _ _ three.0 in
      let one = sum_finite _ _ two.0 in
      record { ux = one.0; uy = one.1; vx = two.1; vy = three.1 }

  entries_finite : (point : Point) → Entries point → T (all_finite (dx_distort_x_numbers params point))
  unfolding slopes_at rounded denominators all_finite
  entries_finite point e = all_throughout (at params point) (u_point ++ v_point) (tt, e.ux, (tt, e.uy, (tt, e.vx, (tt, e.vy, tt))))

  pub dx_distort_x_either : (point : Point) → T (all_finite (dx_distort_x_numbers params point)) ⊎ (dx_distort_x params point ≡ full.dx_distort_x params point)
  dx_distort_x_either point =
      let s = slopes_at params point in
      let ux = params.fx ⊗ s.ux in
      let uy = params.fx ⊗ s.uy in
      let vx = params.fy ⊗ s.vx in
      let vy = params.fy ⊗ s.vy in
      either (finite (ux ⊕ uy ⊕ vx ⊕ vy)) (two_rows (ux ∷ uy ∷ []) (vx ∷ vy ∷ [])) (full.dx_distort_x params point) λ t.
      entries_finite point (entries point t)

  -- where the search ends
  ended_at : (xy : Point) → T (finite (distortion params xy).0) → T (finite (distortion params xy).1) → T (all_finite (all_numbers (at params xy) (xd0 ∷ yd0 ∷ [])))
  unfolding distortion denominators all_finite
  ended_at xy x y = all_throughout (at params xy) (xd0 ∷ yd0 ∷ []) (tt, x, (tt, y, tt))

  -- where it starts, and what the lens misses by where it ends
  around :
      (pixel : Pixel) (f : Offset) → let d = distorted_of params pixel in T (finite d.0) → T (finite d.1) → T (finite f.0) → T (finite f.1)
      → T (all_finite ((pixel.0 ⊖ params.cx) ∷ (pixel.1 ⊖ params.cy) ∷ d.0 ∷ d.1 ∷ f.0 ∷ f.1 ∷ []))
  around pixel f d0 d1 x y = more _ _ (quotient_finite _ _ d0).0 (more _ _ (quotient_finite _ _ d1).0 (more _ _ d0 (more _ _ d1 (more _ _ x (more _ _ y none)))))

  pub undistort_either : (pixel : Pixel) → T (all_finite (undistort_numbers params pixel)) ⊎ (undistort params pixel ≡ full.undistort params pixel)
  undistort_either pixel = either (finite (f.0 ⊕ f.1 ⊕ last.last)) _ (full.undistort params pixel) λ t. go (sum_finite _ _ t)
    where
      distorted : Point
      distorted = distorted_of params pixel

      last : Tracked
      last = newton params distorted

      f : Offset
      f = f_xy params distorted last.search.xy

      reached : Powers last.search.xy → Reached last
      reached w = let q = sum_finite _ _ w.r2 in ((product_finite _ _ q.0).0, (product_finite _ _ q.1).0)

      go : T (finite (f.0 ⊕ f.1)) × T (finite last.last) → T (all_finite (undistort_numbers params pixel))
      go both =
          let fs = sum_finite f.0 f.1 both.0 in
          let x = (difference_finite _ _ fs.0).0 in
          joined _ _ (around pixel f (difference_finite _ _ fs.0).1 (difference_finite _ _ fs.1).1 fs.0 fs.1)
          (joined (search_numbers params distorted full.limit (start distorted)) (all_numbers (at params last.search.xy) (xd0 ∷ yd0 ∷ []))
          (search_finite params distorted full.limit (start distorted) (reached (powers params last.search.xy x)) both.1)
          (ended_at last.search.xy x (difference_finite _ _ fs.1).0))
