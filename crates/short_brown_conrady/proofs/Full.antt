-- Where k4, k5 and k6 are zeros and the short numbers are finite, the full ones are alike: what only the full engine works out are zeros, ones and copies. So the two searches go the same way. Assumes nothing.
use mathlib.Core.Path.{◌≡◌, refl, sym, ap, ◌∙◌, subst}
use mathlib.Core.Bool.{Bool, true, false, cond, ◌&&◌, true≢false, false≢true}
use Prim.Native.Nat.{ℕ, zero, suc}
use lib.Dec.{T}
use lib.Ieee.{Float, nan, inf, fin, binary64, div, of_bits, of_int, fits, is_nan}
use lib.Ieee.Fits.{add-fits, mul-fits}
use lib.Ieee.Scale.{finite}
use Rattle.exact.specs.Alike.{◌≐◌, same}
use Rattle.exact.specs.F64.{◌⊕◌, ◌⊗◌, ◌⊘◌, is_zero}
use Rattle.exact.proofs.Alike.{≐-refl, its, ≐-sym, ≐-trans, ≐-other, finite_too, ◌⟨⊕⟩◌, ◌⟨⊖⟩◌, zero_plus, plus_zero}
use Rattle.exact.proofs.Operations.{sum_finite, neg_finite, minus_finite, difference_finite, product_finite}
use Rattle.exact.proofs.Swaps.{product_swapped, one_times}
use Rattle.exact.proofs.Zeros.{zero_plus_zero, zero_minus, zero_times, times_zero}
use Rattle.formula.specs.Term.{rounded, denominators}
use Rattle.lens.specs.Constants.{ones, int}
use Rattle.lens.specs.Fits.{Fit}
use Rattle.lens.specs.Passes.{passes}
use Rattle.lens.specs.Radius.{squared_radius}
use Rattle.lens.specs.declared.Point.{Point}
use Rattle.brown_conrady.specs.BrownConrady as full
use Rattle.brown_conrady.specs.Formula.{at}
use Rattle.brown_conrady.specs.declared.BrownConradyParams.{BrownConradyParams}
use Rattle.brown_conrady.specs.declared.Search.{Search}
use Rattle.brown_conrady.proofs.Alike.{AlikeOffsets, AlikeSearches, Both, both_apart, solve_kept, small_kept, small_finite, came_from, newton_both}
use Rattle.lens.specs.Alike.{AlikePoints}
use Rattle.short_brown_conrady.specs.Polynomial as short
use Rattle.short_brown_conrady.specs.ShortBrownConrady.{no_quotient, distortion, slopes_at, f_xy, step_from, by_step, squared_norm, pass, start, ended, newton}
use Rattle.short_brown_conrady.specs.declared.Tracked.{Tracked}
use Rattle.short_brown_conrady.proofs.Terms.{kept}

-- ---- the three zeros

pub record Zeros (params : BrownConradyParams) : Type 0 where
  pub k4 : is_zero params.k4 ≡ true
  pub k5 : is_zero params.k5 ≡ true
  pub k6 : is_zero params.k6 ≡ true

pub zeros_of : (params : BrownConradyParams) → no_quotient params ≡ true → Zeros params
zeros_of params h = go (is_zero params.k4) (is_zero params.k5) (is_zero params.k6) refl refl refl h
  where
    go : (a b c : Bool) → is_zero params.k4 ≡ a → is_zero params.k5 ≡ b → is_zero params.k6 ≡ c → (a && b && c) ≡ true → Zeros params
    go true true true p q r h = record { k4 = p; k5 = q; k6 = r }
    go true true false p q r h = absurd (false≢true h)
    go true false c p q r h = absurd (false≢true h)
    go false b c p q r h = absurd (false≢true h)

-- ---- a zero more and a factor of one, where they stand in the full definitions

one_fits : Fit ones
unfolding fits of_bits
one_fits = tt

one_no_zero : is_zero ones ≡ false
unfolding is_zero of_bits
one_no_zero = refl

one_more : (z : Float) → is_zero z ≡ true → ones ⊕ z ≡ ones
one_more z p = ≐-other one_no_zero (plus_zero ones z one_fits p)

more_one : (z : Float) → is_zero z ≡ true → z ⊕ ones ≡ ones
more_one z p = ≐-other one_no_zero (zero_plus z ones p one_fits)

pub one_by : (i u : Float) → i ≡ ones → Fit u → i ⊗ u ≡ u
one_by i u p f = ap (λ (x : Float). x ⊗ u) p ∙ one_times u f

by_one : (u i : Float) → Fit u → i ≡ ones → u ⊗ i ≡ u
by_one u i f p = product_swapped u i ∙ one_by i u p f

one_over : (i : Float) → i ≡ ones → ones ⊘ i ≡ ones
one_over i p = ap (λ (x : Float). ones ⊘ x) p ∙ unfold div of_bits in refl

-- the denominator's two forms: 1 + k4 a + k5 b + k6 c, and with the 1 last
module _ (k l m a b c : Float) (k4 : is_zero k ≡ true) (k5 : is_zero l ≡ true) (k6 : is_zero m ≡ true) (A : T (finite a)) (B : T (finite b)) (C : T (finite c)) where
  divisor_one : ones ⊕ k ⊗ a ⊕ l ⊗ b ⊕ m ⊗ c ≡ ones
  divisor_one =
      ap (λ (x : Float). x ⊕ l ⊗ b ⊕ m ⊗ c) (one_more (k ⊗ a) (zero_times k a k4 A))
      ∙ ap (λ (x : Float). x ⊕ m ⊗ c) (one_more (l ⊗ b) (zero_times l b k5 B))
      ∙ one_more (m ⊗ c) (zero_times m c k6 C)

  last_one : a ⊗ k ⊕ b ⊗ l ⊕ c ⊗ m ⊕ ones ≡ ones
  last_one =
      more_one (a ⊗ k ⊕ b ⊗ l ⊕ c ⊗ m)
      (zero_plus_zero (a ⊗ k ⊕ b ⊗ l) (c ⊗ m) (zero_plus_zero (a ⊗ k) (b ⊗ l) (times_zero a k A k4) (times_zero b l B k5)) (times_zero c m C k6))

-- ---- points that are alike: the short polynomials are

at_alike : (params : BrownConradyParams) (p q : Point) → AlikePoints p q → (n : ℕ) → at params p n ≐ at params q n
at_alike params p q h zero = h.x
at_alike params p q h (suc zero) = h.y
at_alike params p q h (suc (suc n)) = ≐-refl

distortion_kept : (params : BrownConradyParams) (p q : Point) → AlikePoints p q → AlikePoints (distortion params p) (distortion params q)
unfolding distortion denominators
distortion_kept params p q h = record { x = kept _ _ (at_alike params p q h) short.xd0 tt; y = kept _ _ (at_alike params p q h) short.yd0 tt }

-- ---- distortion

-- the powers of the squared radius are finite where the first number is
pub record Powers (p : Point) : Type 0 where
  pub r2 : T (finite (squared_radius p.0 p.1))
  pub r4 : T (finite (squared_radius p.0 p.1 ⊗ squared_radius p.0 p.1))
  pub r6 : T (finite (squared_radius p.0 p.1 ⊗ squared_radius p.0 p.1 ⊗ squared_radius p.0 p.1))

pub powers : (params : BrownConradyParams) (p : Point) → T (finite (distortion params p).0) → Powers p
unfolding distortion rounded
powers params p t =
    let cdist = (product_finite _ _ (sum_finite _ _ (sum_finite _ _ t).0).0).1 in
    let r6 = (product_finite _ _ (sum_finite _ _ cdist).1).1 in
    let r4 = product_finite _ _ r6 in
    record { r2 = r4.1; r4 = r4.0; r6 = r6 }

scaled_same : (x c i a b : Float) → i ≡ ones → x ⊗ c ⊕ a ⊕ b ≡ x ⊗ c ⊗ i ⊕ a ⊕ b
scaled_same x c i a b p = ap (λ (v : Float). v ⊕ a ⊕ b) (sym (by_one (x ⊗ c) i (mul-fits binary64 x c) p))

both_same : {x x' y y' : Float} → x ≡ x' → y ≡ y' → ◌≡◌ {A = Point} (record { 0 = x; 1 = y }) (record { 0 = x'; 1 = y' })
both_same p q = rw (p, q) refl

-- at one point the two are one, bit by bit: a factor of one changes nothing
pub distortion_same : (params : BrownConradyParams) → Zeros params → (p : Point) → Powers p → distortion params p ≡ full.distortion params p
unfolding distortion full.distortion rounded of_bits of_int
distortion_same params zs p w =
    let i = one_over _ (divisor_one params.k4 params.k5 params.k6 _ _ _ zs.k4 zs.k5 zs.k6 w.r2 w.r4 w.r6) in
    both_same (scaled_same _ _ _ _ _ i) (scaled_same _ _ _ _ _ i)

distortion_alike : (params : BrownConradyParams) → Zeros params → (p q : Point) → AlikePoints p q → T (finite (distortion params p).0) → AlikePoints (distortion params p) (full.distortion params q)
distortion_alike params zs p q h t =
    let k = distortion_kept params p q h in
    subst (AlikePoints (distortion params p)) (distortion_same params zs q (powers params q (finite_too k.x t))) k

-- ---- the slopes

-- on the diagonal the full ones have a zero more and two factors of one
diagonal : (a b n c15 c5 c6 : Float) → is_zero (n ⊗ c15) ≡ true → c5 ≡ ones → c6 ≡ ones → Fit a → Fit b → a ⊕ b ≐ n ⊗ c15 ⊕ c5 ⊗ a ⊕ c6 ⊗ b
diagonal a b n c15 c5 c6 z p q f g =
    ≐-trans (same (sym (one_by c5 a p f))) (≐-sym (zero_plus (n ⊗ c15) (c5 ⊗ a) z (mul-fits binary64 c5 a)))
    ⟨⊕⟩ same (sym (one_by c6 b q g))

-- and off it a zero more and one of those factors
crossed : (n c16 c19 c5 : Float) → is_zero (n ⊗ c19) ≡ true → c5 ≡ ones → c16 ⊗ c19 ≐ n ⊗ c19 ⊕ c16 ⊗ c19 ⊗ c5
crossed n c16 c19 c5 z p =
    ≐-trans (same (sym (by_one (c16 ⊗ c19) c5 (mul-fits binary64 c16 c19) p))) (≐-sym (zero_plus (n ⊗ c19) (c16 ⊗ c19 ⊗ c5) z (mul-fits binary64 (c16 ⊗ c19) c5)))

two_finite : T (finite (int 2))
unfolding of_int
two_finite = tt

pub record AlikeSlopes (params : BrownConradyParams) (p q : Point) : Type 0 where
  pub c7 : (full.slopes_at params q).c7 ≡ ones
  pub ux : (slopes_at params p).ux ≐ (full.slopes_at params q).ux
  pub uy : (slopes_at params p).uy ≐ (full.slopes_at params q).uy
  pub vx : (slopes_at params p).vx ≐ (full.slopes_at params q).vx
  pub vy : (slopes_at params p).vy ≐ (full.slopes_at params q).vy
  pub ux_fits : Fit (full.slopes_at params q).ux
  pub uy_fits : Fit (full.slopes_at params q).uy
  pub vx_fits : Fit (full.slopes_at params q).vx
  pub vy_fits : Fit (full.slopes_at params q).vy

slopes_same :
    (params : BrownConradyParams) → Zeros params → (p : Point)
    → T (finite (slopes_at params p).ux) → T (finite (slopes_at params p).uy) → T (finite (slopes_at params p).vy) → AlikeSlopes params p p
unfolding slopes_at full.slopes_at full.shared_at rounded of_bits of_int
slopes_same params zs p s t u =
    -- what is finite
    let first = sum_finite _ _ (sum_finite _ _ s).0 in
    let f0 = product_finite _ _ first.0 in
    let f16 = sum_finite _ _ (sum_finite _ _ f0.1).0 in
    let f10 = (product_finite _ _ (product_finite _ _ f16.0).0).1 in
    let f11 = (product_finite _ _ (product_finite _ _ f16.1).0).1 in
    let f2 = (product_finite _ _ f10).1 in
    let f3 = (product_finite _ _ f11).1 in
    let f4 = (product_finite _ _ (sum_finite _ _ (sum_finite _ _ first.1).0).1).0 in
    let f19 = (product_finite _ _ (sum_finite _ _ t).0).1 in
    let f1 = (product_finite _ _ (sum_finite _ _ (sum_finite _ _ u).0).0).0 in
    -- what only the full ones have
    let c5 = last_one params.k4 params.k5 params.k6 _ _ _ zs.k4 zs.k5 zs.k6 f2 f3 f4 in
    let c6 = one_by _ _ c5 (add-fits binary64 _ _) ∙ c5 in
    let c15 =
    zero_times _ _ (times_zero (int 2) _ two_finite (zero_plus_zero _ _ (zero_plus_zero _ _ (times_zero _ _ f10 zs.k5) (times_zero _ _ f11 zs.k6)) zs.k4)) first.1 in
    let across = crossed _ _ _ _ (zero_times _ _ (zero_minus _ c15) f19) c5 in
    record {
      c7 = one_over _ c6;
      ux = diagonal _ _ _ _ _ _ (times_zero _ _ (neg_finite _ f0.0) c15) c5 c6 (add-fits binary64 _ _) (add-fits binary64 _ _);
      uy = across ⟨⊕⟩ same (sym (one_by _ _ c6 (add-fits binary64 _ _)));
      vx = across ⟨⊕⟩ same (sym (one_by _ _ c6 (add-fits binary64 _ _)));
      vy = diagonal _ _ _ _ _ _ (times_zero _ _ (neg_finite _ f1) c15) c5 c6 (add-fits binary64 _ _) (add-fits binary64 _ _);
      ux_fits = add-fits binary64 _ _;
      uy_fits = add-fits binary64 _ _;
      vx_fits = add-fits binary64 _ _;
      vy_fits = add-fits binary64 _ _;
    }

pub slopes_alike :
    (params : BrownConradyParams) → Zeros params → (p q : Point) → AlikePoints p q
    → T (finite (slopes_at params p).ux) → T (finite (slopes_at params p).uy) → T (finite (slopes_at params p).vy) → AlikeSlopes params p q
slopes_alike params zs p q h s t u =
    let ux : (slopes_at params p).ux ≐ (slopes_at params q).ux = unfold slopes_at denominators in kept _ _ (at_alike params p q h) short.ux tt in
    let uy : (slopes_at params p).uy ≐ (slopes_at params q).uy = unfold slopes_at denominators in kept _ _ (at_alike params p q h) short.uy tt in
    let vx : (slopes_at params p).vx ≐ (slopes_at params q).vx = unfold slopes_at denominators in kept _ _ (at_alike params p q h) short.vx tt in
    let vy : (slopes_at params p).vy ≐ (slopes_at params q).vy = unfold slopes_at denominators in kept _ _ (at_alike params p q h) short.vy tt in
    let there = slopes_same params zs q (finite_too ux s) (finite_too uy t) (finite_too vy u) in
    record {
      c7 = there.c7;
      ux = ≐-trans ux there.ux;
      uy = ≐-trans uy there.uy;
      vx = ≐-trans vx there.vx;
      vy = ≐-trans vy there.vy;
      ux_fits = there.ux_fits;
      uy_fits = there.uy_fits;
      vx_fits = there.vx_fits;
      vy_fits = there.vy_fits;
    }

-- ---- a step

step_alike :
    (params : BrownConradyParams) → Zeros params → (distorted p q : Point) → AlikePoints p q
    → Both (by_step params distorted p).0 (by_step params distorted p).1 → AlikeOffsets (by_step params distorted p) (full.step_from params distorted q)
unfolding step_from full.step_from
step_alike params zs distorted p q h both =
    let ahead = sum_finite _ _ both.0 in
    let fx = product_finite _ _ ahead.0 in
    let vy = product_finite _ _ fx.0 in
    let uy = product_finite _ _ (product_finite _ _ ahead.1).0 in
    let ux = product_finite _ _ (product_finite _ _ (sum_finite _ _ both.1).1).0 in
    let sent = distortion_alike params zs p q h (difference_finite _ _ fx.1).0 in
    let slopes = slopes_alike params zs p q h ux.0 (minus_finite _ uy.0) vy.0 in
    let a = ≐-trans slopes.ux (same (sym (one_by _ _ slopes.c7 slopes.ux_fits))) in
    let b = ≐-trans slopes.uy (same (sym (one_by _ _ slopes.c7 slopes.uy_fits))) in
    let c = ≐-trans slopes.vx (same (sym (one_by _ _ slopes.c7 slopes.vx_fits))) in
    let d = ≐-trans slopes.vy (same (sym (one_by _ _ slopes.c7 slopes.vy_fits))) in
    solve_kept a b c d (record { x = sent.x ⟨⊖⟩ its distorted.0; y = sent.y ⟨⊖⟩ its distorted.1 }) both.0

-- ---- the search

abbrev pub Reached : Tracked → Type 0
Reached at = Both at.search.xy.0 at.search.xy.1

no_nan : (x : Float) → T (finite x) → is_nan x ≡ false
unfolding is_nan
no_nan nan t = absurd t
no_nan (inf s) t = refl
no_nan (fin s m e) t = refl

module _ (params : BrownConradyParams) (distorted : Point) where
  abbrev pub norm_at : Tracked → Float
  norm_at at = squared_norm (by_step params distorted at.search.xy)

  abbrev by_full : Search → Search
  by_full = full.pass_by (by_step params distorted)

  -- a pass by a NaN ends the search where it is, and any other is brown_conrady's, by these steps
  pub nan_stays : (at : Tracked) → is_nan (norm_at at) ≡ true → (pass params distorted at).search ≡ record { xy = at.search.xy; updates = at.search.updates; ended = true }
  unfolding pass
  nan_stays at e = rw e refl

  pub is_pass : (at : Tracked) → is_nan (norm_at at) ≡ false → (pass params distorted at).search ≡ full.pass_by (by_step params distorted) at.search
  unfolding pass
  is_pass at e = rw e refl

  -- what a pass reaches is finite only where it set out from what is
  pub behind : (at : Tracked) → Reached (pass params distorted at) → Reached at
  behind at h = go (is_nan (norm_at at)) refl
    where
      go : (b : Bool) → is_nan (norm_at at) ≡ b → Reached at
      go true e = subst (λ (s : Search). Both s.xy.0 s.xy.1) (nan_stays at e) h
      go false e = (came_from Both both_apart small_finite (by_step params distorted) at.search (subst (λ (s : Search). Both s.xy.0 s.xy.1) (is_pass at e) h)).0

  numbered : (at : Tracked) → T (finite (pass params distorted at).last) → is_nan (norm_at at) ≡ false
  unfolding pass
  numbered at t = no_nan (norm_at at) (sum_finite _ _ t).1

  -- where its last number is finite, the search is brown_conrady's: no step was a NaN
  pub search_is :
      (n : ℕ) (at : Tracked) → T (finite (passes (pass params distorted) ended n at).last)
      → (passes (pass params distorted) ended n at).search ≡ passes (full.pass_by (by_step params distorted)) full.ended n at.search
  unfolding passes
  search_is zero from t = refl
  search_is (suc n) from t = go (is_nan (norm_at from)) refl (search_is n (pass params distorted from))
    where
      next : Tracked
      next = pass params distorted from

      rest : Tracked
      rest = passes (pass params distorted) ended n next

      here : (b : Bool) → b ≡ true → T (finite (cond b next rest).last) → T (finite next.last)
      here true e t = t
      here false e t = absurd (false≢true e)

      further :
          (b c : Bool) → b ≡ c → {u v : Search} → next.search ≡ u → (T (finite rest.last) → rest.search ≡ v)
          → T (finite (cond b next rest).last) → (cond b next rest).search ≡ cond c u v
      further true true e p q t = p
      further true false e p q t = absurd (true≢false e)
      further false true e p q t = absurd (false≢true e)
      further false false e p q t = q t

      go :
          (b : Bool) → is_nan (norm_at from) ≡ b → (T (finite rest.last) → rest.search ≡ passes by_full full.ended n next.search)
          → (cond (ended next) next rest).search ≡ cond (full.ended (by_full from.search)) (by_full from.search) (passes by_full full.ended n (by_full from.search))
      go true e k = absurd (true≢false (sym e ∙ numbered from (here (ended next) (ap full.ended (nan_stays from e)) t)))
      go false e k =
          let p = is_pass from e in
          further (ended next) (full.ended (by_full from.search)) (ap full.ended p) p (λ t. k t ∙ ap (passes by_full full.ended n) p) t

-- where what Newton leaves is finite, and its last number, so is the point where it ended
pub record Ended (params : BrownConradyParams) (distorted : Point) : Type 0 where
  pub reached : Reached (newton params distorted)
  pub ends : AlikeSearches (newton params distorted).search (full.newton params distorted)
  pub flag : full.small (f_xy params distorted (newton params distorted).search.xy) ≡ full.flag params distorted (full.newton params distorted).xy

pub newton_ended :
    (params : BrownConradyParams) → Zeros params → (distorted : Point) → T (finite (f_xy params distorted (newton params distorted).search.xy).0) → T (finite (newton params distorted).last)
    → Ended params distorted
newton_ended params zs distorted t l =
    let p = (newton params distorted).search.xy in
    let sent = (difference_finite _ _ t).0 in
    let both = sum_finite _ _ (powers params p sent).r2 in
    let r : Reached (newton params distorted) = ((product_finite _ _ both.0).0, (product_finite _ _ both.1).0) in
    let is = search_is params distorted full.limit (start distorted) l in
    let s =
    subst (λ (s : Search). AlikeSearches s (full.newton params distorted)) (sym is)
    (newton_both (by_step params distorted) (full.step_from params distorted) (step_alike params zs distorted) distorted (subst (λ (s : Search). Both s.xy.0 s.xy.1) is r)) in
    let to = distortion_alike params zs p (full.newton params distorted).xy s.xy sent in
    record { reached = r; ends = s; flag = small_kept (record { x = to.x ⟨⊖⟩ its distorted.0; y = to.y ⟨⊖⟩ its distorted.1 }) }
