-- What is given, tested at once, and a pixel that is worked out before: the parts of `judged` and of `distort`. Assumes nothing.
use mathlib.Core.Path.{◌≡◌, refl, sym, ap, ◌∙◌, subst}
use Rattle.std.specs.declared.result.Result.TheVariants.{Ok, Err}
use mathlib.Core.Bool.{Bool, true, false, cond, ◌&&◌}
use mathlib.Core.List.{List, [], ◌∷◌, ◌++◌}
use lib.Dec.{T}
use lib.Ieee.{Float, eq, of_bits}
use lib.Ieee.Bits.{is_true}
use lib.Ieee.Fits.{and_l, and_r}
use lib.Ieee.Scale.{finite}
use Rattle.exact.specs.F64.{f64, ◌⊕◌, ◌⊗◌, mark}
use Rattle.exact.proofs.Marks.{mark_itself}
use Rattle.exact.proofs.Operations.{sum_finite, product_finite}
use Rattle.lens.specs.Distorted.{finite_pixel}
use Rattle.lens.specs.Finite.{all_finite}
use Rattle.lens.specs.Judgement.{decided, accepted}
use Rattle.lens.specs.Distorted.{Distorted}
use Rattle.lens.specs.declared.Pixel.{Pixel}
use Rattle.lens.specs.declared.Point.{Point}
use Rattle.lens.specs.declared.Refusal.TheVariants.{NotFinite, ZeroFocalLength}
use Rattle.affine.specs.Affine as affine
use Rattle.affine.specs.declared.AffineParams.{AffineParams}
use Rattle.camera.specs.Camera.{parameters, zero_focal, judged, pixel_of, distort}
use Rattle.camera.specs.declared.Camera.{Camera}
use Rattle.camera.specs.declared.Camera.TheVariants.{Affine}
use Rattle.camera.proofs.Known.{all_finite_append}

-- two numbers behind a list
pub behind : (l : List Float) (x y : Float) → all_finite (l ++ (x ∷ y ∷ [])) ≡ (all_finite l && (finite x && finite y))
unfolding all_finite
behind l x y = all_finite_append l (x ∷ y ∷ []) ∙ ap (λ (b : Bool). all_finite l && (finite x && b)) (and_true (finite y))
  where
    and_true : (b : Bool) → (b && true) ≡ b
    and_true true = refl
    and_true false = refl

-- zeros are finite
pub zeros_given : (b : Bool) → (b && (finite (f64 0) && finite (f64 0))) ≡ b
unfolding of_bits
zeros_given true = refl
zeros_given false = refl

-- ---- judged

module _ (camera : Camera) (x y : Float) where
  -- what the test of a mark says
  pub says : {s : Float} {b : Bool} → s ≡ mark (all_finite (parameters camera) && (finite x && finite y)) → eq s s ≡ b → (all_finite (parameters camera) && (finite x && finite y)) ≡ b
  says e t = sym (ap (λ (d : Float). eq d d) e ∙ mark_itself (all_finite (parameters camera) && (finite x && finite y))) ∙ t

  pub judged_zero : (all_finite (parameters camera) && (finite x && finite y)) ≡ true → zero_focal camera ≡ true → judged camera x y ≡ Err ZeroFocalLength
  unfolding judged
  judged_zero g z = rw (g, z) refl

  pub judged_taken : (all_finite (parameters camera) && (finite x && finite y)) ≡ true → zero_focal camera ≡ false → judged camera x y ≡ accepted
  unfolding judged
  judged_taken g z = rw (g, z) refl

  pub judged_refused : (all_finite (parameters camera) && (finite x && finite y)) ≡ false → judged camera x y ≡ Err NotFinite
  unfolding judged
  judged_refused g = rw g refl

-- ---- distort

abbrev by_tests : Bool → Bool → Pixel → Distorted
by_tests g z pixel = cond g (cond z (Err ZeroFocalLength) (finite_pixel pixel)) (Err NotFinite)

-- a model's pixel, told by the tests
module _ (camera : Camera) (point : Point) where
  tests : (g z : Bool) → by_tests g z (pixel_of camera point) ≡ decided (cond g (cond z (Err ZeroFocalLength) accepted) (Err NotFinite)) Err (finite_pixel (pixel_of camera point))
  tests true true = refl
  tests true false = refl
  tests false z = refl

  pub told_by_tests :
      {s : Float} {z : Bool} {pixel : Pixel} {t : Distorted} → s ≡ mark (all_finite (parameters camera) && (finite point.0 && finite point.1))
      → z ≡ zero_focal camera → pixel ≡ pixel_of camera point → t ≡ by_tests (eq s s) z pixel → t ≡ distort camera point
  unfolding judged
  told_by_tests {s} {z} {pixel} e k f h =
      let g = all_finite (parameters camera) && (finite point.0 && finite point.1) in
      h
      ∙ ap (λ (b : Bool). by_tests (eq s s) b pixel) k
      ∙ ap (λ (b : Bool). by_tests b (zero_focal camera) pixel) (ap (λ (d : Float). eq d d) e ∙ mark_itself g)
      ∙ ap (by_tests g (zero_focal camera)) f
      ∙ tests g (zero_focal camera)

-- a finite pixel of affine says that all that is given is finite
module _ (p : AffineParams) (point : Point) where
  u : Float
  u = point.0 ⊗ p.fx ⊕ p.cx

  v : Float
  v = point.1 ⊗ p.fy ⊕ p.cy

  parts : (x f c : Float) → T (finite (x ⊗ f ⊕ c)) → (finite x ≡ true) × ((finite f ≡ true) × (finite c ≡ true))
  parts x f c t =
      let both = sum_finite (x ⊗ f) c t in
      let sides = product_finite x f both.0 in
      (is_true (finite x) sides.0, (is_true (finite f) sides.1, is_true (finite c) both.1))

  pub given_finite : {pixel : Pixel} {b : Bool} → pixel ≡ affine.distort p point → b ≡ (finite pixel.0 && finite pixel.1) → b ≡ true → (all_finite (parameters (Affine p)) && (finite point.0 && finite point.1)) ≡ true
  unfolding all_finite u v
  given_finite e f t =
      let both : T (finite u && finite v) = subst T (sym (sym (f ∙ ap (λ (q : Pixel). finite q.0 && finite q.1) e) ∙ t)) tt in
      let across = parts point.0 p.fx p.cx (and_l (finite u) (finite v) both) in
      let down = parts point.1 p.fy p.cy (and_r (finite u) (finite v) both) in
      rw (across.1.0, down.1.0, across.1.1, down.1.1, across.0, down.0) refl

pub found_told : {pixel : Pixel} {b : Bool} → b ≡ (finite pixel.0 && finite pixel.1) → b ≡ true → Ok pixel ≡ finite_pixel pixel
found_told {pixel} e t = rw (sym e ∙ t) refl
